-- Seats of a group on disks, and those that a history lists.
use Rattle.std.specs.Prelude.{◌≡◌, ℕ, false, List, Some, slice_get}
use Rattle.ddf_config.specs.declared.seat.Seat.{Seat}
use Rattle.ddf_config.specs.Seats.{floor_of, slot_of}
use Rattle.ddf_seats.specs.declared.seated.Seated.{Seated}
use Rattle.ddf_seats.specs.Group.{GroupValue, floor_of as copy_floor}
use Rattle.ddf_seats.specs.Seated.{seated}
use Rattle.ddf_history.specs.Groups.{groups}
use Rattle.ddf_history.specs.Issued.{Past}

-- none of these seats' slots is lost, and each seat has the floor of its slot
pub record AreOnSlots (group : List ℕ) (past : Past (groups group)) (floor : ℕ → ℕ) (seats : List Seat) : Type 0 where
  pub not_lost : (place : ℕ) (seat : Seat) → slice_get seats place ≡ Some seat → past.lost seat.slot ≡ false
  pub same_floor : (place : ℕ) (seat : Seat) → slice_get seats place ≡ Some seat → seat.floor ≡ floor seat.slot

-- each member has the same floor and the same slot by both, or no seat by either
pub record AreAlikeSeats (one other : List Seat) : Type 0 where
  pub same_floors : (reference : ℕ) → floor_of one reference ≡ floor_of other reference
  pub same_slots : (reference : ℕ) → slot_of one reference ≡ slot_of other reference

-- each seat has the floor of its slot's copy
abbrev pub HaveFloors : GroupValue → Type 0
HaveFloors group = (place : ℕ) (disk : Seated) → slice_get (seated group) place ≡ Some disk → disk.seat.floor ≡ copy_floor disk.copy
