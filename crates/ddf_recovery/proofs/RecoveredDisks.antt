-- The disks of a group once it was recovered.
use Rattle.std.proofs.Common.{◌≡◌, ◌≢◌, ℕ, ◌<◌, Bool, true, false, eqb, List, [], length, map, filter, fold, Option, Some, refl, sym, ap, ◌∙◌, if◌then◌else◌}
use Rattle.std.specs.Prelude.{filter_map, slice_get}
use Rattle.std.specs.List.{AllByRecursion, list_any}
use Rattle.std.specs.Option.{option_and_then}
use Rattle.ddf_lemmas.proofs.Lists.{all_from, filter_all, filter_pass, filtered_passes, in_map, mapped_at}
use Rattle.ddf_config.specs.declared.seat.Seat.{Seat}
use Rattle.ddf_config.specs.Configuration.{Configuration}
use Rattle.ddf_copy.specs.declared.newest_copy.Newest.{Newest}
use Rattle.ddf_copy.specs.declared.newest_copy.Newest.TheVariants.{Level}
use Rattle.ddf_copy.specs.declared.which.Which.{Which}
use Rattle.ddf_copy.specs.declared.which.Which.TheVariants.{Secondary}
use Rattle.ddf_copy.specs.Shows.{last_of}
use Rattle.ddf_view.specs.Shows.{shows}
use Rattle.ddf_view.specs.View.{view_of}
use Rattle.ddf_rewrite.proofs.Lists.{all_at, all_mapped, some_same}
use Rattle.ddf_update.specs.declared.prepared.Mode.{Mode}
use Rattle.ddf_update.specs.declared.prepared.Mode.TheVariants.{Change}
use Rattle.ddf_seats.specs.declared.seated.Seated.{Seated}
use Rattle.ddf_assembly.specs.Assembled.{IsAsGroup, IsAssembledGroup}
use Rattle.ddf_seats.specs.Group.{GroupValue}
use Rattle.ddf_seats.specs.Seated.{with_level, seated, seated_at, seated_by, seats_in, levelled}
use Rattle.ddf_seats.specs.Leading.{lags, leading}
use Rattle.ddf_recovery.specs.Recovery.{mended, mended_or_kept, mending_step}
use Rattle.ddf_steps.specs.Trying.{DoShow}
use Rattle.ddf_seats.specs.Changing.{SlotsRise}
use Rattle.ddf_steps.proofs.CommittedLevels.{level_else, level_here}
use Rattle.ddf_seats.proofs.CommittedSeats.{seated_is}
use Rattle.ddf_recovery.proofs.WhenFull.{mended_seat, seats_same}

-- A disk's slot has its copy in both places, level, and this shows the configuration.
abbrev pub IsLevelAt : List (Option Newest) → Configuration → Seated → Type 0
IsLevelAt newest config disk = (slice_get newest disk.seat.slot ≡ Some (Some (Level disk.copy))) × (shows config (view_of disk.copy) ≡ true)

-- a seat with this copy, behind an update
abbrev with_last : Seated → Which → Mode → Seated
with_last disk last mode = record disk { last = last; mode = mode }

-- ---- seats that lagged

module _ (timestamp : ℕ) (group : GroupValue) (is : IsAssembledGroup group) (rise : SlotsRise (seats_in (mending_step timestamp group).disks))
    (below : (k : ℕ) (disk : Seated) → slice_get (mending_step timestamp group).disks k ≡ Some disk → disk.seat.slot < length group.newest)
    (show : DoShow group.config (mending_step timestamp group).disks) where
  abbrev made : List Seated
  made = (mending_step timestamp group).disks

  abbrev newest : List (Option Newest)
  newest = fold with_level group.newest made

  abbrev write : Seated → Seated
  write = mended (leading group) group.config timestamp

  -- The disk of a seat that lags is one of those that are written.
  written_at : (k : ℕ) (disk : Seated) → slice_get (seated group) k ≡ Some disk → lags group disk ≡ true → (j : ℕ) × (slice_get made j ≡ Some (write disk))
  written_at k disk at lagging =
      let kept = filtered_passes (lags group) (seated group) k disk at lagging in
      (kept.0, mapped_at write (filter (lags group) (seated group)) kept.0 disk kept.1)

  -- That of any other isn't.
  not_written : (disk : Seated) → lags group disk ≡ false → (j : ℕ) (other : Seated) → slice_get made j ≡ Some other → disk.seat.slot ≢ other.seat.slot
  not_written disk kept j other at = λ (same : disk.seat.slot ≡ other.seat.slot).
      let found = in_map write (filter (lags group) (seated group)) j other at in
      let lagging = all_at (λ (one : Seated). lags group one ≡ true) (filter (lags group) (seated group)) j found.0 (filter_pass (lags group) (seated group)) found.1 in
      let slot : found.0.seat.slot ≡ disk.seat.slot = ap (λ (one : Seated). one.seat.slot) found.2 ∙ sym same in
      let no : true ≡ false = sym lagging ∙ ap (λ (n : ℕ). list_any (λ one. eqb one n) group.lagging) slot ∙ kept in
      cc

  level_written : (k : ℕ) (disk : Seated) → slice_get (seated group) k ≡ Some disk → lags group disk ≡ true → slice_get newest disk.seat.slot ≡ Some (Some (Level (write disk).copy))
  level_written k disk at lagging =
      let there = written_at k disk at lagging in
      level_here group.newest made rise there.0 (write disk) there.1 (below there.0 (write disk) there.1)

  level_kept : (k : ℕ) (disk : Seated) → slice_get (seated group) k ≡ Some disk → lags group disk ≡ false → slice_get newest disk.seat.slot ≡ Some (Some (Level disk.copy))
  level_kept k disk at kept =
      let own = all_at (λ (one : Seated). lags group one ≡ false → IsAsGroup group one) (seated group) k disk is.unless_lags at kept in
      level_else group.newest made disk.seat.slot (not_written disk kept) ∙ own.is_newest

  -- What stays is as an update leaves it.
  last_kept : (k : ℕ) (disk : Seated) → slice_get (seated group) k ≡ Some disk → lags group disk ≡ false → disk.last ≡ Secondary
  last_kept k disk at kept =
      let alike = all_at (λ (one : Seated). lags group one ≡ false → IsAsGroup group one) (seated group) k disk is.unless_lags at kept in
      let own = seated_is group k disk at in
      let found : Some own.found ≡ Some (Level disk.copy) = some_same own.is_found alike.is_newest in
      let same : own.found ≡ Level disk.copy = cc in
      own.has_last ∙ ap last_of same

  seat_again : (k : ℕ) (disk : Seated) → slice_get (seated group) k ≡ Some disk → seated_at newest disk.seat ≡ Some (mended_or_kept timestamp group disk)
  seat_again k disk at = by (lags group disk) refl
    where
      by : (b : Bool) → lags group disk ≡ b → seated_at newest disk.seat ≡ Some (if b then levelled (write disk) else disk)
      by true e = ap (λ (found : Option (Option Newest)). option_and_then (λ one. option_and_then (seated_by disk.seat) one) found) (level_written k disk at e)
      by false e =
          ap (λ (found : Option (Option Newest)). option_and_then (λ one. option_and_then (seated_by disk.seat) one) found) (level_kept k disk at e)
          ∙ ap (λ (last : Which). Some (with_last disk last Change)) (sym (last_kept k disk at e))
          ∙ ap (λ (mode : Mode). Some (with_last disk disk.last mode)) (sym (seated_is group k disk at).has_mode)

  -- the group then
  abbrev pub mended_group : GroupValue
  mended_group = record { config = group.config; seats = group.seats; absent = []; lagging = []; newest = newest }

  -- Its disks are those that were written, and the others as they were.
  pub mended_seated : seated mended_group ≡ map (mended_or_kept timestamp group) (seated group)
  unfolding seated
  mended_seated =
      ap (λ (seats : List Seat). filter_map (seated_at newest) seats) (sym is.are_seated)
      ∙ filter_all (seated_at newest) (λ (disk : Seated). disk.seat) (mended_or_kept timestamp group) (seated group) seat_again

  -- Their seats are the same.
  pub mended_seats : seats_in (map (mended_or_kept timestamp group) (seated group)) ≡ group.seats
  mended_seats = seats_same (mended_or_kept timestamp group) (mended_seat timestamp group) (seated group) ∙ is.are_seated

  -- Each is level, and shows the configuration.
  pub mended_level : AllByRecursion (IsLevelAt newest group.config) (map (mended_or_kept timestamp group) (seated group))
  mended_level =
      all_mapped (IsLevelAt newest group.config) (mended_or_kept timestamp group) (seated group)
      (all_from (λ (disk : Seated). IsLevelAt newest group.config (mended_or_kept timestamp group disk)) (seated group) each)
    where
      each : (k : ℕ) (disk : Seated) → slice_get (seated group) k ≡ Some disk → IsLevelAt newest group.config (mended_or_kept timestamp group disk)
      each k disk at = by (lags group disk) refl
        where
          by : (b : Bool) → lags group disk ≡ b → IsLevelAt newest group.config (if b then levelled (write disk) else disk)
          by true e =
              let there = written_at k disk at e in
              (level_written k disk at e, all_at (λ (one : Seated). shows group.config (view_of one.copy) ≡ true) made there.0 (write disk) show there.1)
          by false e =
              let own = all_at (λ (one : Seated). lags group one ≡ false → IsAsGroup group one) (seated group) k disk is.unless_lags at e in
              (level_kept k disk at e, own.is_shown)
