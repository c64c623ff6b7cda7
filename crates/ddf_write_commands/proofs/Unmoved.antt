-- Disks that hold a group hold it still where blocks were written below the floors of its seats.
use Rattle.std.proofs.Common.{◌≡◌, ◌⊎◌, ℕ, ◌<◌, ◌≤◌, ◌==◌, List, Option, Some, None, Ok, refl, inl, inr, sym, ap, subst, ◌∙◌, arith}
use Rattle.std.proofs.Math.Path.{fun_ext}
use Rattle.std.proofs.lemmas.Bool.{eqb-true}
use Rattle.std.proofs.lemmas.Option.{slice_get_within}
use Rattle.std.specs.Prelude.{find, option_map, slice_get, slice_index, unwrap_or}
use Rattle.ddf_lemmas.proofs.Lists.{found_place, in_map}
use Rattle.ddf_lemmas.proofs.Options.{ok_is}
use Rattle.ddf_lemmas.proofs.Tests.{min_least}
use Rattle.ddf_header.specs.declared.reading.Header.{Header}
use Rattle.ddf_bay.specs.State.{BayState, size_of}
use Rattle.ddf_copy.specs.declared.newest_copy.Newest.{Newest}
use Rattle.ddf_copy.specs.declared.newest_copy.Newest.TheVariants.{Level}
use Rattle.ddf_copy.specs.declared.which.Which.TheVariants.{Primary, Secondary}
use Rattle.ddf_copy.specs.Anchor.{anchor_at}
use Rattle.ddf_copy.specs.Copies.{newest_of}
use Rattle.ddf_copy.specs.Headers.{IsUnder}
use Rattle.ddf_copy.proofs.Stands.{place_within}
use Rattle.ddf_config.specs.declared.seat.Seat.{Seat}
use Rattle.ddf_rewrite.proofs.Lists.{all_at}
use Rattle.ddf_seats.specs.declared.seated.Seated.{Seated}
use Rattle.ddf_recovery.specs.Committed.{HoldsGroup}
use Rattle.ddf_seats.specs.Group.{GroupValue}
use Rattle.ddf_assembly.specs.Held.{IsHeldOn, StandsUnder}
use Rattle.ddf_seats.specs.Seated.{seated}
use Rattle.ddf_assembly.specs.Settled.{IsLevelIn, IsSettledGroup}
use Rattle.ddf_history_steps.specs.BlockFloors.{AreFloored, HasFloor, HaveFloors, IsFloored, StaySettled, floor_in}
use Rattle.ddf_history_steps.proofs.Above.{AreSameFrom, anchor_same, newest_of_same}

-- ---- the floors of a group on disks

module _ {D : Type 0} (disks : BayState D) (found : GroupValue) (settled : IsSettledGroup found) (holds : HoldsGroup disks found) (are : AreFloored (seated found)) where
  at_place : (place : ℕ) (seat : Seat) → slice_get found.seats place ≡ Some seat → HasFloor disks seat.slot seat.floor
  at_place place seat at =
      let own = in_map (λ (disk : Seated). disk.seat) (seated found) place seat (ap (λ (seats : List Seat). slice_get seats place) settled.are_seated ∙ at) in
      let disk = own.0 in
      let level = all_at (IsLevelIn found) (seated found) place disk settled.are_level own.1 in
      let held = holds.are_held disk.seat.slot (Level disk.copy) level.is_newest in
      let under : IsUnder (size_of disks disk.seat.slot) held.anchor disk.copy = holds.are_under disk.seat.slot (Level disk.copy) level.is_newest held.anchor held.is_anchored in
      let floor = all_at IsFloored (seated found) place disk are own.1 in
      let first = under.in_place Primary in
      let second = under.in_place Secondary in
      let within = place_within (size_of disks disk.seat.slot) held.anchor disk.copy Primary under in
      let sure = holds.are_settled place seat (slice_get_within found.seats place seat at) at in
      let copy = disk.copy in
      let least = min_least copy.header.geometry.workspace_lba copy.header.primary_lba copy.header.secondary_lba in
      subst (λ (one : Seat). HasFloor disks one.slot one.floor) own.2 (record {
        anchor = held.anchor;
        is_anchored = held.is_anchored;
        primary = omega (arith, floor, first, least.0);
        secondary = omega (arith, floor, second, least.1);
        within = omega (arith, floor, first, least.0, within);
        is_settled = rw own.2 sure;
      })

  pub have_floors : HaveFloors disks (floor_in found.seats)
  have_floors slot = by (find (λ (seat : Seat). seat.slot == slot) found.seats) refl
    where
      by : (seat : Option Seat) → find (λ (seat : Seat). seat.slot == slot) found.seats ≡ seat
          → (unwrap_or (option_map (λ (seat : Seat). seat.floor) seat) 0 ≡ 0) ⊎ HasFloor disks slot (unwrap_or (option_map (λ (seat : Seat). seat.floor) seat) 0)
      by None is = inl refl
      by (Some seat) is =
          let place = found_place (λ (seat : Seat). seat.slot == slot) found.seats seat is in
          inr (subst (λ (s : ℕ). HasFloor disks s seat.floor) (eqb-true seat.slot slot place.2) (at_place place.0 seat place.1))

-- ---- blocks below them

module _ {D : Type 0} (old new : BayState D) (floor : ℕ → ℕ) (floors : HaveFloors old floor) (same_sizes : new.sizes ≡ old.sizes)
    (held : (s l : ℕ) → (new.held s l ≡ old.held s l) ⊎ (l < floor s)) where
  -- A slot without a floor holds what it held,
  none_written : (slot : ℕ) → floor slot ≡ 0 → new.held slot ≡ old.held slot
  none_written slot none = fun_ext (λ l. elim (held slot l) [
    | inl same ↦ same
    | inr under ↦ absurd (omega (arith, none, under))
  ])

  -- and one with a floor does so from there on.
  same_from : (slot : ℕ) → AreSameFrom (floor slot) (old.held slot) (new.held slot)
  same_from slot l past = elim (held slot l) [
    | inl same ↦ sym same
    | inr under ↦ absurd (omega (arith, past, under))
  ]

  size_same : (slot : ℕ) → size_of new slot ≡ size_of old slot
  size_same slot = ap (λ (sizes : List ℕ). slice_index sizes slot) same_sizes

  anchor_still : (slot : ℕ) → anchor_at (size_of old slot) (old.held slot) ≡ anchor_at (size_of old slot) (new.held slot)
  anchor_still slot = elim (floors slot) [
    | inl none ↦ ap (anchor_at (size_of old slot)) (sym (none_written slot none))
    | inr has ↦ anchor_same (floor slot) (old.held slot) (new.held slot) (same_from slot) (size_of old slot) has.within
  ]

  newest_still : (slot : ℕ) (anchor : Header) → anchor_at (size_of old slot) (old.held slot) ≡ Ok anchor
      → newest_of (size_of old slot) (old.held slot) anchor ≡ newest_of (size_of old slot) (new.held slot) anchor
  newest_still slot anchor is = elim (floors slot) [
    | inl none ↦ ap (λ (sector : ℕ → List ℕ). newest_of (size_of old slot) sector anchor) (sym (none_written slot none))
    | inr has ↦
        let own : has.anchor ≡ anchor = ok_is (sym has.is_anchored ∙ is) in
        newest_of_same (floor slot) (old.held slot) (new.held slot) (same_from slot) (size_of old slot) anchor
        (subst (λ (one : Header). floor slot ≤ one.primary_lba) own has.primary) (subst (λ (one : Header). floor slot ≤ one.secondary_lba) own has.secondary)
  ]

  held_still : (slot : ℕ) (newest : Newest) → IsHeldOn old slot newest → IsHeldOn new slot newest
  held_still slot newest is = record {
    anchor = is.anchor;
    is_anchored = rw (size_same slot) (sym (anchor_still slot) ∙ is.is_anchored);
    is_newest = rw (size_same slot) (sym (newest_still slot is.anchor is.is_anchored) ∙ is.is_newest);
  }

  under_still : (slot : ℕ) (newest : Newest) → StandsUnder old slot newest → StandsUnder new slot newest
  under_still slot newest is anchor at =
      let there : anchor_at (size_of old slot) (new.held slot) ≡ Ok anchor = rw (size_same slot) at at in
      rw (size_same slot) (is anchor (anchor_still slot ∙ there))

  -- So they hold the group.
  pub holds_still : (found : GroupValue) → HoldsGroup old found → StaySettled old new → HoldsGroup new found
  holds_still found holds stay = record {
    are_held = λ slot newest at. held_still slot newest (holds.are_held slot newest at);
    are_under = λ slot newest at. under_still slot newest (holds.are_under slot newest at);
    are_settled = λ place seat below at. stay seat.slot (holds.are_settled place seat below at);
  }
