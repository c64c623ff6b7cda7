-- Sectors below the floors of seats tell nothing of a group.
use Rattle.std.proofs.Common.{◌≡◌, ℕ, zero, suc, ◌<◌, eqb, cond, Bool, true, false, List, [], ◌∷◌, Option, Some, None, Result, Ok, Err, refl, ap, sym, ◌∙◌, subst, inl, inr, arith, if◌then◌else◌}
use Rattle.std.proofs.lemmas.Bool.{eq-eqb, eqb-true}
use Rattle.std.proofs.Math.Path.{fun_ext}
use Rattle.std.specs.Prelude.{find, option_map, slice_get, slice_index, unwrap_or}
use Rattle.std.specs.List.{AllByRecursion}
use Rattle.ddf_lemmas.proofs.Lists.{all_from, found_place}
use Rattle.ddf_bay.specs.Sectors.{Image}
use Rattle.ddf_header.specs.declared.reading.Header.{Header}
use Rattle.ddf_copy.specs.declared.fault.AnchorFault.{AnchorFault}
use Rattle.ddf_copy.specs.declared.newest_copy.Newest.{Newest}
use Rattle.ddf_copy.specs.declared.which.Which.TheVariants.{Primary, Secondary}
use Rattle.ddf_copy.specs.Anchor.{anchor_at}
use Rattle.ddf_copy.specs.Copies.{newest_at, newest_under}
use Rattle.ddf_config.specs.declared.seat.Seat.{Seat}
use Rattle.ddf_rewrite.proofs.Lists.{all_at}
use Rattle.ddf_seats.specs.Group.{GroupValue}
use Rattle.ddf_seats.specs.Changing.{SlotsRise}
use Rattle.ddf_history_steps.specs.Floors.{HasFloor}
use Rattle.ddf_history_steps.specs.BlockFloors.{floor_in}
use Rattle.ddf_history_steps.proofs.Above.{AreSameFrom, anchor_same, floor_same, newest_at_same}
use Rattle.ddf_uncut_group.specs.Blocks.{LeavesRecords}
use Rattle.ddf_uncut_group.specs.Settled.{AreSettledAs, newest_held}

-- ---- a disk

-- A disk that holds the same from its floor on has the same newest copy.
newest_same : (size : ℕ) (one other : ℕ → List ℕ) (floor : ℕ) → HasFloor size one floor → AreSameFrom floor one other → newest_at size one ≡ newest_at size other
newest_same size one other floor has same = by (anchor_at size one) refl
  where
    by : (found : Result Header AnchorFault) → anchor_at size one ≡ found → newest_at size one ≡ newest_at size other
    by (Ok anchor) is = newest_at_same floor one other same size anchor has.within is (has.below anchor is Primary) (has.below anchor is Secondary)
    by (Err fault) is =
        ap (newest_under size one) is
        ∙ sym (ap (newest_under size other) (sym (anchor_same floor one other same size has.within) ∙ is))

-- ---- seats

abbrev on_slot : ℕ → Seat → Bool
on_slot slot seat = eqb seat.slot slot

-- The floor of a seat's slot is the seat's.
pub floor_found : (seats : List Seat) → SlotsRise seats → (place : ℕ) (seat : Seat) → slice_get seats place ≡ Some seat → floor_in seats seat.slot ≡ seat.floor
floor_found [] rise place seat at = absurd cc
floor_found (first ∷ others) rise zero seat at =
    let same : first ≡ seat = cc in
    subst (λ (one : Seat). floor_in (first ∷ others) one.slot ≡ one.floor) same
    (ap (λ (b : Bool). unwrap_or (option_map (λ (one : Seat). one.floor) (cond b (Some first) (find (on_slot first.slot) others))) 0) (eq-eqb first.slot first.slot refl))
floor_found (first ∷ others) rise (suc place) seat at = by (eqb first.slot seat.slot) refl (floor_found others rise.1 place seat at)
  where
    by : (b : Bool) → eqb first.slot seat.slot ≡ b → floor_in others seat.slot ≡ seat.floor
        → unwrap_or (option_map (λ (one : Seat). one.floor) (cond b (Some first) (find (on_slot seat.slot) others))) 0 ≡ seat.floor
    by true e rest = let less = all_at (λ (other : Seat). first.slot < other.slot) others place seat rise.0 at in absurd (omega (arith, less, eqb-true first.slot seat.slot e))
    by false e rest = rest

module _ (sizes : List ℕ) (old new : Image) (seats : List Seat) (rise : SlotsRise seats) (leaves : LeavesRecords seats old new)
    (floors : AllByRecursion (λ (seat : Seat). HasFloor (slice_index sizes seat.slot) (old seat.slot) seat.floor) seats) where
  same_from : (slot : ℕ) → AreSameFrom (floor_in seats slot) (old slot) (new slot)
  same_from slot l past = elim (leaves slot l) [
    | inl same ↦ sym same
    | inr under ↦ absurd (omega (arith, past, under))
  ]

  -- Each slot has the same newest copy.
  slot_same : (slot : ℕ) → newest_at (slice_index sizes slot) (old slot) ≡ newest_at (slice_index sizes slot) (new slot)
  slot_same slot = by (find (λ (seat : Seat). eqb seat.slot slot) seats) refl
    where
      by : (found : Option Seat) → find (λ (seat : Seat). eqb seat.slot slot) seats ≡ found → newest_at (slice_index sizes slot) (old slot) ≡ newest_at (slice_index sizes slot) (new slot)
      by None none =
          let floor : floor_in seats slot ≡ 0 = ap (λ (found : Option Seat). unwrap_or (option_map (λ (seat : Seat). seat.floor) found) 0) none in
          ap (newest_at (slice_index sizes slot)) (fun_ext (λ l. same_from slot l (omega (arith, floor))))
      by (Some seat) found =
          let place = found_place (λ (one : Seat). eqb one.slot slot) seats seat found in
          let own : seat.slot ≡ slot = eqb-true seat.slot slot place.2 in
          let floor : floor_in seats slot ≡ seat.floor = ap (λ (found : Option Seat). unwrap_or (option_map (λ (one : Seat). one.floor) found) 0) found in
          let has = all_at (λ (one : Seat). HasFloor (slice_index sizes one.slot) (old one.slot) one.floor) seats place.0 seat floors place.1 in
          newest_same (slice_index sizes slot) (old slot) (new slot) seat.floor
          (subst (λ (n : ℕ). HasFloor (slice_index sizes n) (old n) seat.floor) own has)
          (subst (λ (n : ℕ). AreSameFrom n (old slot) (new slot)) floor (same_from slot))

  pub held_same : (first : ℕ) (left : List Bool) → newest_held sizes new first left ≡ newest_held sizes old first left
  held_same first [] = refl
  held_same first (out ∷ left) =
      ap (λ (newest : Option Newest). (if out then None else newest) ∷ newest_held sizes new (suc first) left) (sym (slot_same first))
      ∙ ap (λ (rest : List (Option Newest)). (if out then None else newest_at (slice_index sizes first) (old first)) ∷ rest) (held_same (suc first) left)

  -- The disks have the floors of their seats.
  pub floors_same : AllByRecursion (λ (seat : Seat). HasFloor (slice_index sizes seat.slot) (new seat.slot) seat.floor) seats
  floors_same =
      all_from (λ (seat : Seat). HasFloor (slice_index sizes seat.slot) (new seat.slot) seat.floor) seats
      (λ k seat at.
      floor_same seat.floor (old seat.slot) (new seat.slot) (subst (λ (n : ℕ). AreSameFrom n (old seat.slot) (new seat.slot)) (floor_found seats rise k seat at) (same_from seat.slot))
      (slice_index sizes seat.slot)
      (all_at (λ (one : Seat). HasFloor (slice_index sizes one.slot) (old one.slot) one.floor) seats k seat floors at))

-- The disks are the group as they were.
pub blocks_settled : (sizes : List ℕ) (old new : Image) (left : List Bool) (group : GroupValue) → AreSettledAs sizes old left group → LeavesRecords group.seats old new → AreSettledAs sizes new left group
blocks_settled sizes old new left group settled leaves =
    let rise = settled.is_told.is_settled.slots_rise in
    record {
      every_slot = settled.every_slot;
      are_held = held_same sizes old new group.seats rise leaves settled.have_floors 0 left ∙ settled.are_held;
      is_told = settled.is_told;
      have_floors = floors_same sizes old new group.seats rise leaves settled.have_floors;
    }
