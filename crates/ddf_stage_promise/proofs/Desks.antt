-- The desks of seats, and what stands open on them.
use Rattle.std.proofs.Common.{◌≡◌, ◌∙◌, ◌⊎◌, inl, inr, ℕ, zero, suc, ◌+◌, ◌<◌, Bool, true, false, not, List, [], ◌∷◌, Option, Some, None, refl, sym, ap, subst, arith, slice_get, ◌&&◌}
use Rattle.std.specs.Prelude.{option_map}
use Rattle.std.specs.List.{range_with_len}
use Rattle.ddf_lemmas.proofs.Lists.{get_filter_map, slice_get-range}
use Rattle.ddf_lemmas.proofs.Options.{some_is}
use Rattle.ddf_bay.specs.Sectors.{Image}
use Rattle.ddf_config.specs.declared.seat.Seat.{Seat}
use Rattle.ddf_config.specs.Configuration.{Configuration}
use Rattle.ddf_cells.proofs.Lists.{in_range}
use Rattle.ddf_history.specs.Groups.{Disk, groups, has_current}
use Rattle.ddf_history.specs.Issued.{Past}
use Rattle.ddf_data_history.specs.Promised.{is_seat, seat_if}
use Rattle.ddf_stage.specs.declared.desk.Desk.{Desk}
use Rattle.ddf_stage.specs.declared.desk.Staged.{Staged}
use Rattle.ddf_stage.specs.Laid.{first_open, on_desk}
use Rattle.ddf_array.proofs.Consistent.{in_filter}
use Rattle.ddf_stage_promise.specs.Footing.{Footing, desk_at, desk_on}
use Rattle.ddf_stage_promise.specs.Staged.{desks_on, losing, seats_on}

-- ---- what stands open

module _ (arrays : List (List ℕ)) (image : Image) where
  -- where none stands open there is no first
  pub all_none : (desks : List Desk) → ((k : ℕ) (desk : Desk) → slice_get desks k ≡ Some desk → on_desk arrays image desk ≡ None) → first_open arrays image desks ≡ None
  all_none [] none = refl
  all_none (desk ∷ desks) none =
      ap (λ (o : Option Staged). elim o [ None ↦ first_open arrays image desks | Some staged ↦ Some staged ]) (none 0 desk refl) ∙ all_none desks (λ k other at. none (suc k) other at)

  some_by : (desks : List Desk) (o : Option Staged) → ((staged : Staged) × (first_open arrays image desks ≡ Some staged)) ⊎ ((staged : Staged) × (o ≡ Some staged))
      → (staged : Staged) × (◌≡◌ {A = Option Staged} (elim o [ None ↦ first_open arrays image desks | Some staged ↦ Some staged ]) (Some staged))
  some_by desks None (inl later) = later
  some_by desks None (inr here) = absurd (cc)
  some_by desks (Some staged) either = (staged, refl)

  -- where one does there is
  pub some_first : (desks : List Desk) (k : ℕ) (desk : Desk) (staged : Staged) → slice_get desks k ≡ Some desk → on_desk arrays image desk ≡ Some staged → (first : Staged) × (first_open arrays image desks ≡ Some first)
  some_first [] k desk staged at opens = absurd (cc)
  some_first (first ∷ desks) zero desk staged at opens =
      let same : first ≡ desk = some_is at in some_by desks (on_desk arrays image first) (inr (staged, ap (on_desk arrays image) same ∙ opens))
  some_first (first ∷ desks) (suc k) desk staged at opens = some_by desks (on_desk arrays image first) (inl (some_first desks k desk staged at opens))

-- ---- the desks of seats

seat_by : (b : Bool) (floor : ℕ → ℕ) (disk : Disk) (slot : ℕ) (seat : Seat) → seat_if b floor disk slot ≡ Some seat → (b ≡ true) × (seat.slot ≡ slot)
seat_by true floor disk slot seat e = let same : record { reference = disk.reference; slot = slot; floor = floor slot; bad = 0 } ≡ seat = some_is e in (refl, ap (λ (s : Seat). s.slot) (sym same))
seat_by false floor disk slot seat e = absurd (cc)

module _ (group : List ℕ) (footing : Footing) where
  pub record IsDeskOf (past : Past (groups group)) (config : Configuration) (desk : Desk) : Type 0 where
    pub is_its : is_seat group past config desk.slot ≡ true
    pub below : desk.slot < past.slots
    pub is_gate : footing.gate desk.slot ≡ Some desk.lba

  desk_by : (past : Past (groups group)) (config : Configuration) (desk : Desk) (slot : ℕ) → is_seat group past config slot ≡ true → slot < past.slots → (o : Option ℕ) → footing.gate slot ≡ o → option_map (desk_at slot) o ≡ Some desk
      → IsDeskOf past config desk
  desk_by past config desk slot seat below None is e = absurd (cc)
  desk_by past config desk slot seat below (Some lba) is e =
      let same : desk_at slot lba ≡ desk = some_is e in subst (IsDeskOf past config) same (record { is_its = seat; below = below; is_gate = is })

  pub desk_of : (past : Past (groups group)) (config : Configuration) (k : ℕ) (desk : Desk) → slice_get (desks_on group footing past config) k ≡ Some desk → IsDeskOf past config desk
  desk_of past config k desk at =
      let from = in_filter (λ (seat : Seat). desk_on footing.gate seat.slot) (seats_on group footing past config) k desk at in
      let slot = in_filter (λ slot. seat_if (is_seat group past config slot) footing.floor (past.disk slot) slot) (range_with_len 0 past.slots) from.at from.item from.is_at in
      let seat = seat_by (is_seat group past config slot.item) footing.floor (past.disk slot.item) slot.item from.item slot.gives in
      let range = in_range 0 past.slots slot.at slot.item slot.is_at in
      desk_by past config desk slot.item seat.0 (omega (arith, range.1)) (footing.gate slot.item) refl (ap (desk_on footing.gate) (sym seat.1) ∙ from.gives)

  pub to_desk : (past : Past (groups group)) (config : Configuration) (slot lba : ℕ) → is_seat group past config slot ≡ true → slot < past.slots → footing.gate slot ≡ Some lba
      → (k : ℕ) × (slice_get (desks_on group footing past config) k ≡ Some (desk_at slot lba))
  to_desk past config slot lba is below gate =
      let seat : Seat = record { reference = (past.disk slot).reference; slot = slot; floor = footing.floor slot; bad = 0 } in
      let same : 0 + slot ≡ slot = omega arith in
      let there = get_filter_map (λ slot. seat_if (is_seat group past config slot) footing.floor (past.disk slot) slot) (range_with_len 0 past.slots) slot slot seat
      (slice_get-range 0 past.slots slot below ∙ ap Some same) (ap (λ (b : Bool). seat_if b footing.floor (past.disk slot) slot) is) in
      get_filter_map (λ (seat : Seat). desk_on footing.gate seat.slot) (seats_on group footing past config) there.0 seat (desk_at slot lba) there.1 (ap (option_map (desk_at slot)) gate)

  -- no two are on one slot
  pub same_desk : (one other : Desk) → footing.gate one.slot ≡ Some one.lba → footing.gate other.slot ≡ Some other.lba → one.slot ≡ other.slot → one ≡ other
  same_desk one other a b same =
      let lba : one.lba ≡ other.lba = some_is (sym a ∙ ap footing.gate same ∙ b) in
      ap (λ (n : ℕ). desk_at n one.lba) same ∙ ap (desk_at other.slot) lba

  -- ---- fewer slots

  not_more : (a b c : Bool) → (a ≡ true → b ≡ true) → (not b && c) ≡ true → (not a && c) ≡ true
  not_more true true c more e = absurd (cc)
  not_more true false c more e = absurd (let both : false ≡ true = more refl in cc)
  not_more false true c more e = absurd (cc)
  not_more false false c more e = e

  pub seat_before : (past : Past (groups group)) (config : Configuration) (lost : ℕ → Bool) → ((slot : ℕ) → past.lost slot ≡ true → lost slot ≡ true) → (slot : ℕ)
      → is_seat group (losing group footing past lost) config slot ≡ true → is_seat group past config slot ≡ true
  seat_before past config lost stay slot is = not_more (past.lost slot) (lost slot) (has_current config (past.disk slot)) (stay slot) is

  pub desk_before : (past : Past (groups group)) (config : Configuration) (lost : ℕ → Bool) → ((slot : ℕ) → past.lost slot ≡ true → lost slot ≡ true) → (k : ℕ) (desk : Desk)
      → slice_get (desks_on group footing (losing group footing past lost) config) k ≡ Some desk → (j : ℕ) × (slice_get (desks_on group footing past config) j ≡ Some desk)
  desk_before past config lost stay k desk at =
      let of = desk_of (losing group footing past lost) config k desk at in
      to_desk past config desk.slot desk.lba (seat_before past config lost stay desk.slot of.is_its) of.below of.is_gate
