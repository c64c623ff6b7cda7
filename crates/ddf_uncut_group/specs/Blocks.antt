-- What calls on the blocks of arrays leave of the disks of a group.
use Rattle.std.specs.Prelude.{◌≡◌, ◌⊎◌, ℕ, ◌<◌, List}
use Rattle.ddf_bay.specs.Sectors.{Image}
use Rattle.ddf_config.specs.declared.seat.Seat.{Seat}
use Rattle.ddf_history_steps.specs.BlockFloors.{floor_in}

-- No sector is another one but below the floor of a seat's disk.
abbrev pub LeavesRecords : List Seat → (old new : Image) → Type 0
LeavesRecords seats old new = (slot l : ℕ) → (new slot l ≡ old slot l) ⊎ (l < floor_in seats slot)
