-- Arrays that their disks serve, and what a read of one comes to.
use Rattle.std.specs.Prelude.{◌≡◌, ℕ, ◌+◌, ◌*◌, ◌≤◌, false, true, List, length, None, Some, Ok}
use Rattle.ddf_bay.specs.Sectors.{Image}
use Rattle.ddf_config.specs.declared.array.Array.{Array}
use Rattle.ddf_config.specs.declared.seat.Seat.{Seat}
use Rattle.ddf_config.specs.Configuration.{Configuration}
use Rattle.ddf_config.specs.Shapes.{array_capacity}
use Rattle.ddf_config.specs.States.{is_marked}
use Rattle.ddf_array.specs.Viewing.{is_array_within, view_of}
use Rattle.ddf_array.specs.Volume.{Volume}
use Rattle.ddf_read.specs.Given.{AreValues}
use Rattle.ddf_cells.specs.CellsOn.{over_array}
use Rattle.ddf_pieces.specs.Pieces.{bytes_of}
use Rattle.ddf_request.specs.Named.{named_array}
use Rattle.ddf_request.specs.Usable.{bad_blocks, is_held}
use Rattle.ddf_answer.specs.declared.failure.Failure.TheVariants.{Memory}
use Rattle.ddf_answer.specs.Call.{Answer}
use Rattle.ddf_answer.specs.Tells.{EndedWith}
use Rattle.ddf_read_commands.specs.Read.{Outcome}
use Rattle.ddf_read_commands.specs.Read.Outcome.{CutShort, NotRead, Stopped, Whole}
use Rattle.ddf_write_commands.specs.Write.{most_beside}

-- The word names an array that has a view over these seats, so that it can be used as it is recorded. So many blocks from a number on are within its capacity. None of its disks
-- lists bad blocks, and its state and its access bits don't forbid its use. It is within its level by the seats, and isn't marked.
pub record IsServing (config : Configuration) (seats : List Seat) (word : List ℕ) (start count : ℕ) : Type 0 where
  pub entry : List ℕ × Array
  pub is_named : named_array config.arrays word ≡ Some entry
  pub volume : Volume
  pub is_view : view_of config entry.0 seats ≡ Ok volume
  pub in_range : start + count ≤ array_capacity entry.1
  pub none_bad : bad_blocks seats entry.1 ≡ None
  pub not_held : is_held entry.1 ≡ false
  pub within : is_array_within seats entry.1 ≡ true
  pub unmarked : is_marked entry.1 ≡ false

-- All blocks were read, each with its value; or none was, for want of memory; or the first ones were, each with its value, and then the output gave out.
abbrev pub GivesBlocks : Image → Volume → (start count : ℕ) → Outcome → Type 0
GivesBlocks image volume start count (Whole sectors) = (length sectors ≡ count) × AreValues image volume start count sectors
GivesBlocks image volume start count (NotRead failure) = failure ≡ Memory
GivesBlocks image volume start count (Stopped front slot) = ⊥
GivesBlocks image volume start count (CutShort front) = (length front ≤ count) × AreValues image volume start (length front) front

-- The bytes of all blocks were told, those of each as its value has them, and nothing else, with status 0.
pub record IsToldAll (image : Image) (volume : Volume) (start count : ℕ) (answer : Answer) : Type 0 where
  pub sectors : List (List ℕ)
  pub counted : length sectors ≡ count
  pub values : AreValues image volume start count sectors
  pub told : EndedWith 0 (bytes_of sectors) answer

-- The most calls that a read of so many blocks makes of a bay of so many slots, where each block has an available cell and no read fails: 15 to look at each slot,
-- and one for each block.
abbrev pub most_reads : (slots count : ℕ) → ℕ
most_reads slots count = 15 * slots + count

-- how many positions the elements of an array have
abbrev pub positions_of : Volume → ℕ
positions_of volume = over_array (λ element position. 1) volume.parts

-- The most calls that a write of so many blocks makes of a bay of so many slots, where no element of the array keeps parity: 92 for each slot, which find the group and write what
-- stands around the blocks, and one for each block on each position of the array.
abbrev pub most_writes : (slots positions count : ℕ) → ℕ
most_writes slots positions count = most_beside slots + positions * count
