-- The cells of a position lie below the floors of a group's seats, and all that a rebuild reads and writes is on slots of these.
use Rattle.std.proofs.Common.{◌≡◌, ℕ, zero, suc, ◌<◌, ◌≤◌, Bool, true, false, cond, eqb, List, [], ◌∷◌, Some, Ok, refl, sym, ap, subst, ◌∙◌, arith}
use Rattle.std.proofs.lemmas.Bool.{eq-eqb, eqb-true, false≢true}
use Rattle.std.specs.Prelude.{find, option_map, slice_get, unwrap_or}
use Rattle.ddf_primary.proofs.ShapeFacts.{depth_le}
use Rattle.ddf_config.specs.declared.seat.Seat.{Seat}
use Rattle.ddf_config.specs.Configuration.{Configuration}
use Rattle.ddf_array.specs.Viewing.{view_of}
use Rattle.ddf_array.specs.Volume.{Volume}
use Rattle.ddf_array.proofs.Fits.{view_seated}
use Rattle.ddf_rebuild.specs.Rebuilding.{NoneLeftInRows}
use Rattle.ddf_rebuild.specs.Target.{IsTargetCell, IsTargetSlot}
use Rattle.ddf_rewrite.proofs.Lists.{all_at}
use Rattle.ddf_update.specs.Group.{IsOneOf}
use Rattle.ddf_steps.specs.Committed.{slots_of}
use Rattle.ddf_seats.specs.Changing.{SlotsRise}
use Rattle.ddf_history_steps.specs.Kept.{is_slot}
use Rattle.ddf_history_steps.specs.BlockFloors.{floor_in}
use Rattle.ddf_write_commands.proofs.BelowFloors.{floor_slot, on_slot}
use Rattle.ddf_write_commands.proofs.SlotsThere.{cell_source_there, on_seats}

-- Where the slots of seats rise each seat is the one of its slot.
pub floor_found : (seats : List Seat) → SlotsRise seats → (place : ℕ) (seat : Seat) → slice_get seats place ≡ Some seat → floor_in seats seat.slot ≡ seat.floor
floor_found [] rise place seat at = absurd cc
floor_found (first ∷ others) rise zero seat at =
    let same : first ≡ seat = cc in
    subst (λ (one : Seat). floor_in (first ∷ others) one.slot ≡ one.floor) same
    (ap (λ (b : Bool). unwrap_or (option_map (λ (one : Seat). one.floor) (cond b (Some first) (find (on_slot first.slot) others))) 0) (eq-eqb first.slot first.slot refl))
floor_found (first ∷ others) rise (suc place) seat at = by (eqb first.slot seat.slot) refl (floor_found others rise.1 place seat at)
  where
    by : (b : Bool) → eqb first.slot seat.slot ≡ b → floor_in others seat.slot ≡ seat.floor
        → unwrap_or (option_map (λ (one : Seat). one.floor) (cond b (Some first) (find (on_slot seat.slot) others))) 0 ≡ seat.floor
    by true e rest = let less = all_at (λ (other : Seat). first.slot < other.slot) others place seat rise.0 at in absurd (omega (arith, less, eqb-true first.slot seat.slot e))
    by false e rest = rest

module _ (config : Configuration) (guid : List ℕ) (seats : List Seat) (volume : Volume) (is : view_of config guid seats ≡ Ok volume) (rise : SlotsRise seats) (element position from to : ℕ) where
  -- The position's cells lie below the floor of its slot,
  pub cell_below : (s l : ℕ) → IsTargetCell volume element position from to s l → l < floor_in seats s
  cell_below s l cell =
      let target = cell.is_target in
      let ends = view_seated config guid seats volume (λ slot end. end ≤ floor_in seats slot) is
      (λ k end seat at below. let own = floor_found seats rise k seat at in omega (arith, below, own))
      element cell.part target.is_part position cell.place target.is_place s target.is_there in
      let deep = depth_le cell.part.shape.layout cell.part.shape.strip cell.part.shape.blocks in
      let below = cell.in_rows.below in
      let lba = cell.lba_is in
      omega (arith, ends, deep, below, lba)

  -- which is a seat's,
  pub cell_slot : (s l : ℕ) → IsTargetCell volume element position from to s l → is_slot (slots_of seats) s ≡ true
  cell_slot s l cell = floor_slot seats s l (cell_below s l cell)

  pub not_cell : (s l : ℕ) → is_slot (slots_of seats) s ≡ false → IsTargetCell volume element position from to s l → ⊥
  not_cell s l other cell = false≢true (sym other ∙ cell_slot s l cell)

  pub target_seat : (slot : ℕ) → IsTargetSlot volume element position slot → IsOneOf (slots_of seats) slot
  target_seat slot target =
      on_seats config guid seats volume is element target.part target.is_target.is_part position target.place slot target.is_target.is_place target.is_target.is_there

  -- and so is one at which no source is left.
  pub none_left_seat : (failed : ℕ → Type 0) (slot : ℕ) → NoneLeftInRows failed volume element position from to slot → IsOneOf (slots_of seats) slot
  none_left_seat failed slot none =
      cell_source_there slot (IsOneOf (slots_of seats)) volume (on_seats config guid seats volume is) element none.part none.is_part none.sector none.other none.none_left.is_of_first
