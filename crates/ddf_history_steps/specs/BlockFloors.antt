-- The floors of slots: no record of a disk stands below its floor, and calls on the blocks of arrays write nowhere else.
use Rattle.std.specs.Prelude.{◌≡◌, ◌⊎◌, ℕ, ◌<◌, ◌≤◌, ◌==◌, List, find, option_map, unwrap_or, Ok}
use Rattle.ddf_header.specs.declared.reading.Header.{Header}
use Rattle.ddf_bay.specs.Moments.{IsSettled, StopsLeave}
use Rattle.ddf_bay.specs.State.{BayState, size_of}
use Rattle.ddf_copy.specs.Anchor.{anchor_at}
use Rattle.ddf_seats.specs.declared.seated.Seated.{Seated}
use Rattle.ddf_seats.specs.Group.{floor_of}
use Rattle.std.specs.List.{AllByRecursion}
use Rattle.ddf_config.specs.declared.seat.Seat.{Seat}

-- The headers of both copies of a slot's disk, and its anchor, stand at this LBA or behind it, and a stop leaves of the slot what it holds.
pub record HasFloor {D : Type 0} (disks : BayState D) (slot floor : ℕ) : Type 0 where
  pub anchor : Header
  pub is_anchored : anchor_at (size_of disks slot) (disks.held slot) ≡ Ok anchor
  pub primary : floor ≤ anchor.primary_lba
  pub secondary : floor ≤ anchor.secondary_lba
  pub within : floor < size_of disks slot
  pub is_settled : IsSettled disks.may_hold disks.held slot

-- each slot has its floor, or 0
abbrev pub HaveFloors : {D : Type 0} → BayState D → (floor : ℕ → ℕ) → Type 0
HaveFloors disks floor = (slot : ℕ) → (floor slot ≡ 0) ⊎ HasFloor disks slot (floor slot)

-- a disk's seat has the floor that its copy tells, and so has each of them
abbrev pub IsFloored : Seated → Type 0
IsFloored disk = disk.seat.floor ≡ floor_of disk.copy

abbrev pub AreFloored : List Seated → Type 0
AreFloored disks = AllByRecursion IsFloored disks

-- the floors of seats, by their slots, and 0 where a slot has none
abbrev pub floor_in : List Seat → ℕ → ℕ
floor_in seats slot = unwrap_or (option_map (λ (seat : Seat). seat.floor) (find (λ (seat : Seat). seat.slot == slot) seats)) 0

-- Calls wrote no sector but below the floors: there each may have any bytes, and everywhere else a stop leaves what it might leave before.
pub record WritesBelow {D : Type 0} (floor : ℕ → ℕ) (old new : BayState D) : Type 0 where
  pub same_sizes : new.sizes ≡ old.sizes
  pub told : new.tells_left → old.tells_left
  pub held : (s l : ℕ) → (new.held s l ≡ old.held s l) ⊎ (l < floor s)
  pub left : (s l : ℕ) (bytes : List ℕ) → new.may_hold s l bytes → old.may_hold s l bytes ⊎ (l < floor s)
  pub any_moment : StopsLeave old new (λ image. (s l : ℕ) → old.may_hold s l (image s l) ⊎ (l < floor s))

-- a slot of which a stop left what it holds is so still
abbrev pub StaySettled : {D : Type 0} (old new : BayState D) → Type 0
StaySettled old new = (slot : ℕ) → IsSettled old.may_hold old.held slot → IsSettled new.may_hold new.held slot
