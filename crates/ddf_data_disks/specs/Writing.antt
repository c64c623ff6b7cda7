-- Records that are written at or past the floors of their slots.
use Rattle.std.specs.Prelude.{◌≡◌, ◌-◌, ◌≤◌, ℕ, List, Some, length, slice_get}
use Rattle.ddf_bay.specs.State.{BayState, size_of}
use Rattle.ddf_update.specs.declared.prepared.Prepared.{Prepared}
use Rattle.ddf_update.specs.Changes.{SlotChange}
use Rattle.ddf_seats.specs.Group.{floor_of}

-- Each slot has its update, and its floor lies at or below the places and the workspace of its new copy, and at or below the last sector.
pub record LieAtFloors {D : Type 0} (disks : BayState D) (floor : ℕ → ℕ) (slots : List ℕ) (seat : ℕ → SlotChange) (updates : List Prepared) : Type 0 where
  pub counted : length updates ≡ length slots
  pub at_floor : (place slot : ℕ) → slice_get slots place ≡ Some slot → floor slot ≤ floor_of (seat place).new
  pub below_anchor : (place slot : ℕ) → slice_get slots place ≡ Some slot → floor slot ≤ size_of disks slot - 1
