-- The floors of seats lie before all records of their disks, and stay there while steps of their group are written.
use Rattle.std.proofs.Common.{◌≡◌, ◌⊎◌, ℕ, zero, suc, ◌==◌, Bool, true, false, List, [], ◌∷◌, map, min, Option, Some, None, Result, Ok, Err, if◌then◌else◌, inl, inr, refl, sym, ap, subst, ◌∙◌, arith}
use Rattle.std.proofs.lemmas.Bool.{eqb-true}
use Rattle.std.proofs.lemmas.Option.{slice_get_within}
use Rattle.std.specs.Prelude.{filter, filter_map, find, option_map, slice_get, unwrap_or}
use Rattle.std.specs.List.{cons_option}
use Rattle.ddf_lemmas.proofs.Lists.{all_from, filter_get, found_place, in_map}
use Rattle.ddf_lemmas.proofs.Tests.{min_least}
use Rattle.ddf_bay.specs.State.{BayState, size_of}
use Rattle.ddf_header.specs.declared.geometry.Geometry.{Geometry}
use Rattle.ddf_copy.specs.declared.copy.DiskCopy.{DiskCopy}
use Rattle.ddf_copy.specs.declared.newest_copy.Newest.{Newest}
use Rattle.ddf_copy.specs.declared.newest_copy.Newest.TheVariants.{Level}
use Rattle.ddf_copy.specs.declared.which.Which.TheVariants.{Primary, Secondary}
use Rattle.ddf_copy.specs.Copies.{standing_copy}
use Rattle.ddf_copy.specs.Headers.{IsUnder, written_as}
use Rattle.ddf_copy.proofs.Stands.{place_within}
use Rattle.ddf_config.specs.declared.seat.Seat.{Seat}
use Rattle.ddf_config.specs.Configuration.{Configuration}
use Rattle.ddf_plan.specs.declared.change.Change.{Change}
use Rattle.ddf_view.specs.Shows.{shows}
use Rattle.ddf_view.specs.View.{view_of}
use Rattle.ddf_group.specs.declared.answer.Assembled.{Assembled}
use Rattle.ddf_group.specs.declared.answer.Assembly.{Assembly}
use Rattle.ddf_group.specs.Assembled.{assembled}
use Rattle.ddf_group.specs.Shown.{shown_of}
use Rattle.ddf_rewrite.specs.Before.{Before}
use Rattle.ddf_rewrite.specs.Copies.{changed_copy, recovered_copy}
use Rattle.ddf_rewrite.proofs.Lists.{all_at, all_mapped, some_same}
use Rattle.ddf_history.specs.Groups.{groups}
use Rattle.ddf_history.specs.Issued.{Past}
use Rattle.ddf_seats.specs.declared.seated.Seated.{Seated}
use Rattle.ddf_recovery.specs.Committed.{IsReadyFor, WasReadied, group_next, group_recovered}
use Rattle.ddf_steps.specs.Committed.{IsRewritten}
use Rattle.ddf_seats.specs.Group.{GroupValue, copy_at, floor_of, seat_at, seat_of, seats_of}
use Rattle.ddf_assembly.specs.Group.{group_as, group_of, group_or_fault}
use Rattle.ddf_steps.specs.Ready.{ReadyStep}
use Rattle.ddf_recovery.specs.Ready.{ReadyValue}
use Rattle.ddf_recovery.specs.Recovery.{config_lost, disks_recovered, lost_step, mended, mended_copy, mended_or_kept}
use Rattle.ddf_seats.specs.Leading.{lags, leading, some}
use Rattle.ddf_seats.specs.Seated.{seated, levelled}
use Rattle.ddf_assembly.specs.Settled.{IsLevelIn}
use Rattle.ddf_steps.specs.Steps.{disks_after, rewritten, stays_in}
use Rattle.ddf_seats.specs.Changing.{SlotsRise}
use Rattle.ddf_recovery.proofs.CommittedAfter.{after_is}
use Rattle.ddf_seats.proofs.CommittedSeats.{seated_is}
use Rattle.ddf_recovery.proofs.RecoveredGroup.{is_recovered}
use Rattle.ddf_history_steps.specs.AtEnd.{IsAtEnd}
use Rattle.ddf_history_steps.specs.BlockFloors.{AreFloored, HasFloor, HaveFloors, IsFloored, floor_in}
use Rattle.ddf_history_steps.proofs.Told.{made_of}

-- ---- lists and numbers

-- What a map that leaves some out gives comes from one that it is given.
cons_at : {X Y : Type 0} (f : X → Option Y) (x : X) (found : Option Y) → f x ≡ found → (others : List Y) (k : ℕ) (y : Y) → slice_get (cons_option found others) k ≡ Some y
    → ((j : ℕ) → slice_get others j ≡ Some y → (z : X) × (f z ≡ Some y)) → (z : X) × (f z ≡ Some y)
cons_at f x None is others k y at rest = rest k at
cons_at f x (Some one) is others zero y at rest = (x, is ∙ at)
cons_at f x (Some one) is others (suc k) y at rest = rest k at

filtered_from : {X Y : Type 0} (f : X → Option Y) (xs : List X) (k : ℕ) (y : Y) → slice_get (filter_map f xs) k ≡ Some y → (x : X) × (f x ≡ Some y)
filtered_from f [] k y at = absurd cc
filtered_from f (x ∷ xs) k y at = cons_at f x (f x) refl (filter_map f xs) k y at (λ j. filtered_from f xs j y)

-- ---- the group as it was found

-- A disk of a group that was found has the floor of its copy: its seat was made by that.
module _ (newest : List (Option Newest)) where
  seat_made : (slots : List ℕ) (place : ℕ) (seat : Seat) → slice_get (seats_of newest slots) place ≡ Some seat → (slot : ℕ) × (seat_at newest slot ≡ Some seat)
  seat_made slots place seat at =
      let from = filtered_from (seat_at newest) slots place seat at in
      (from.0, from.1)

  -- the copy of a seat's slot made it
  by_copy : (slot : ℕ) (seat : Seat) (copy : Option DiskCopy) → copy_at newest slot ≡ copy → option_map (seat_of slot) copy ≡ Some seat
      → (one : DiskCopy) × (copy_at newest slot ≡ Some one) × (seat_of slot one ≡ seat)
  by_copy slot seat None at is = absurd cc
  by_copy slot seat (Some one) at is = let same : seat_of slot one ≡ seat = cc in (one, at, same)

  copy_stands : (slot : ℕ) (found : Newest) (copy : DiskCopy) → slice_get newest slot ≡ Some (Some found) → standing_copy found ≡ Some copy → copy_at newest slot ≡ Some copy
  copy_stands slot found copy at stands = rw at stands

found_floored : (found : GroupValue) (slots : List ℕ) → found.seats ≡ seats_of found.newest slots → AreFloored (seated found)
found_floored found slots are = all_from IsFloored (seated found) (λ k disk at.
    let is = seated_is found k disk at in
    let made = seat_made found.newest slots is.place disk.seat (sym (ap (λ (seats : List Seat). slice_get seats is.place) are) ∙ is.is_seat) in
    let by = by_copy found.newest made.0 disk.seat (copy_at found.newest made.0) refl made.1 in
    let slot : made.0 ≡ disk.seat.slot = ap (λ (seat : Seat). seat.slot) by.2 in
    let own : by.0 ≡ disk.copy = some_same (sym (ap (copy_at found.newest) slot) ∙ by.1) (copy_stands found.newest disk.seat.slot is.found disk.copy is.is_found is.stands) in
    ap (λ (seat : Seat). seat.floor) (sym by.2) ∙ ap floor_of own)

pub group_floored : (newest : List (Option Newest)) (named : Option (List ℕ)) (found : GroupValue) → group_of newest named ≡ Ok found → AreFloored (seated found)
unfolding group_of
group_floored newest named found is = by (assembled (map shown_of newest) named) is
  where
    by : (answer : Result Assembled Assembly) → group_or_fault newest answer ≡ Ok found → AreFloored (seated found)
    by (Ok one) made =
        let same = made_of newest one found made in
        subst (λ (group : GroupValue). AreFloored (seated group)) same (found_floored (group_as newest one) one.seats refl)
    by (Err fault) made = absurd cc

-- ---- the recovered group

pub mended_floor : (leaders : Before) (config : Configuration) (timestamp : ℕ) (copy : DiskCopy) → floor_of (written_as (mended_copy leaders config timestamp copy) Primary) ≡ floor_of copy
unfolding recovered_copy
mended_floor leaders config timestamp copy = by (shows config (view_of copy))
  where
    by : (shown : Bool) → floor_of (written_as (if shown then copy else recovered_copy copy leaders config timestamp) Primary) ≡ floor_of copy
    by true = refl
    by false = refl

pub changed_floor : (leaders : Before) (config : Configuration) (timestamp : ℕ) (copy : DiskCopy) → floor_of (written_as (changed_copy copy leaders config timestamp) Primary) ≡ floor_of copy
unfolding changed_copy
changed_floor leaders config timestamp copy = refl

mends : (timestamp : ℕ) (group : GroupValue) (disk : Seated) → IsFloored disk → IsFloored (mended_or_kept timestamp group disk)
mends timestamp group disk is = by (lags group disk)
  where
    by : (lagging : Bool) → IsFloored (if lagging then levelled (mended (leading group) group.config timestamp disk) else disk)
    by true = is ∙ sym (mended_floor (leading group) group.config timestamp disk.copy)
    by false = is

-- Disks that a change writes have the floors that they had.
changes : (timestamp : ℕ) (leaders : Before) (config : Configuration) (disks : List Seated) → AreFloored disks → AreFloored (disks_after timestamp leaders config disks)
unfolding disks_after
changes timestamp leaders config disks are =
    all_mapped IsFloored (rewritten leaders config timestamp) (filter (stays_in config) disks)
    (all_from (λ (disk : Seated). IsFloored (rewritten leaders config timestamp disk)) (filter (stays_in config) disks) (λ k disk at.
    let from = filter_get (stays_in config) disks k disk at in
    all_at IsFloored disks from.0 disk are from.1 ∙ sym (changed_floor leaders config timestamp disk.copy)))

recovered_disks : (timestamp : ℕ) (group : GroupValue) → AreFloored (seated group) → AreFloored (disks_recovered timestamp group)
unfolding disks_recovered
recovered_disks timestamp group are = by (some group.absent)
  where
    by : (absent : Bool) → AreFloored (if absent then map levelled (lost_step timestamp group).disks else map (mended_or_kept timestamp group) (seated group))
    by true = all_mapped IsFloored levelled (lost_step timestamp group).disks (changes timestamp (leading group) (config_lost group) (seated group) are)
    by false =
        all_mapped IsFloored (mended_or_kept timestamp group) (seated group)
        (all_from (λ (disk : Seated). IsFloored (mended_or_kept timestamp group disk)) (seated group) (λ k disk at. mends timestamp group disk (all_at IsFloored (seated group) k disk are at)))

pub recovered_floored : (found : GroupValue) (asked : List Change) (timestamp : ℕ) (ready : ReadyValue) → WasReadied found asked timestamp ready → AreFloored (seated found)
    → AreFloored (seated (group_recovered found ready.recovery))
recovered_floored found asked timestamp ready was are =
    subst AreFloored (sym (is_recovered found asked timestamp ready was).disks_are) (recovered_disks timestamp found are)

-- ---- a group behind a step

rewritten_floored : (disks : List Seated) (config : Configuration) (disk : Seated) → IsRewritten disks config disk → AreFloored disks → IsFloored disk
rewritten_floored disks config disk is are =
    let before = all_at IsFloored disks is.place is.before are is.is_there in
    let geometry = ap (λ (one : Geometry). one.workspace_lba) is.has_places.same_sections in
    ap (λ (seat : Seat). seat.floor) is.same_seat ∙ before
    ∙ sym (ap (λ (lba : ℕ). min lba (min disk.copy.header.primary_lba disk.copy.header.secondary_lba)) geometry
    ∙ ap (λ (lba : ℕ). min is.before.copy.header.geometry.workspace_lba (min lba disk.copy.header.secondary_lba)) is.has_places.same_primary
    ∙ ap (λ (lba : ℕ). min is.before.copy.header.geometry.workspace_lba (min is.before.copy.header.primary_lba lba)) is.has_places.same_secondary)

next_by : (found : GroupValue) (recovery : Option ReadyStep) (steps : List ReadyStep) → IsReadyFor found (record { recovery = recovery; steps = steps }) → AreFloored (seated found)
    → AreFloored (seated (group_next found (record { recovery = recovery; steps = steps })))
next_by found recovery [] is are = are
next_by found recovery (one ∷ others) is are =
    let rise = subst SlotsRise (sym is.is_settled.are_seated) is.is_settled.slots_rise in
    subst AreFloored (sym (after_is found one rise is.follows.0 is.rewrites.0))
    (all_mapped IsFloored levelled one.step.disks
    (all_from IsFloored one.step.disks (λ k disk at.
    rewritten_floored (seated found) one.step.config disk (all_at (IsRewritten (seated found) one.step.config) one.step.disks k disk is.rewrites.0 at) are)))

pub next_floored : (found : GroupValue) (ready : ReadyValue) → IsReadyFor found ready → AreFloored (seated found) → AreFloored (seated (group_next found ready))
next_floored found ready is are = next_by found ready.recovery ready.steps is are

-- ---- the floors of a group on disks

module _ (group : List ℕ) {D : Type 0} (past : Past (groups group)) (disks : BayState D) (found : GroupValue) (end : IsAtEnd group past disks found) (are : AreFloored (seated found)) where
  at_place : (place : ℕ) (seat : Seat) → slice_get found.seats place ≡ Some seat → HasFloor disks seat.slot seat.floor
  at_place place seat at =
      let own = in_map (λ (disk : Seated). disk.seat) (seated found) place seat (ap (λ (seats : List Seat). slice_get seats place) end.is_settled.are_seated ∙ at) in
      let disk = own.0 in
      let level = all_at (IsLevelIn found) (seated found) place disk end.is_settled.are_level own.1 in
      let held = end.holds.are_held disk.seat.slot (Level disk.copy) level.is_newest in
      let under : IsUnder (size_of disks disk.seat.slot) held.anchor disk.copy = end.holds.are_under disk.seat.slot (Level disk.copy) level.is_newest held.anchor held.is_anchored in
      let floor = all_at IsFloored (seated found) place disk are own.1 in
      let first = under.in_place Primary in
      let second = under.in_place Secondary in
      let within = place_within (size_of disks disk.seat.slot) held.anchor disk.copy Primary under in
      let settled = end.holds.are_settled place seat (slice_get_within found.seats place seat at) at in
      let copy = disk.copy in
      let least = min_least copy.header.geometry.workspace_lba copy.header.primary_lba copy.header.secondary_lba in
      subst (λ (one : Seat). HasFloor disks one.slot one.floor) own.2 (record {
        anchor = held.anchor;
        is_anchored = held.is_anchored;
        primary = omega (arith, floor, first, least.0);
        secondary = omega (arith, floor, second, least.1);
        within = omega (arith, floor, first, least.0, within);
        is_settled = rw own.2 settled;
      })

  pub seats_have_floors : HaveFloors disks (floor_in found.seats)
  seats_have_floors slot = by (find (λ (seat : Seat). seat.slot == slot) found.seats) refl
    where
      by : (seat : Option Seat) → find (λ (seat : Seat). seat.slot == slot) found.seats ≡ seat
          → (unwrap_or (option_map (λ (seat : Seat). seat.floor) seat) 0 ≡ 0) ⊎ HasFloor disks slot (unwrap_or (option_map (λ (seat : Seat). seat.floor) seat) 0)
      by None is = inl refl
      by (Some seat) is =
          let place = found_place (λ (seat : Seat). seat.slot == slot) found.seats seat is in
          inr (subst (λ (s : ℕ). HasFloor disks s seat.floor) (eqb-true seat.slot slot place.2) (at_place place.0 seat place.1))
