-- What the array of an exercise holds: each of its blocks is filled with one byte.
use Rattle.std.specs.Prelude.{ℕ, Bool, List, replicate, slice_index}
use Rattle.ddf_bay.specs.Memory.{disks_of}
use Rattle.ddf_bay.specs.declared.memory.MemoryBay.{MemoryBay}
use Rattle.ddf_config.specs.declared.seat.Seat.{Seat}
use Rattle.ddf_config.specs.Configuration.{Configuration}
use Rattle.ddf_array.specs.Volume.{Volume}
use Rattle.ddf_uncut_data.specs.Blocks.{HoldsBlocks}
use Rattle.ddf_exercise_disks.specs.Standing.{StandsAt}

-- blocks, by the byte that fills each
abbrev pub filled_with : (bytes : List ℕ) → ℕ → List ℕ
filled_with bytes block = replicate 512 (slice_index bytes block)

-- The disks are this group, and the blocks of its array, as these places of it give it, are filled with these bytes.
pub record StoresAt (name : List ℕ) (total asked : ℕ) (out : List Bool) (config : Configuration) (seats : List Seat) (volume : Volume) (bytes : List ℕ) (bay : MemoryBay) : Type 0 where
  pub stands : StandsAt name total asked out config seats bay
  pub holds : HoldsBlocks volume (disks_of bay).held (filled_with bytes)
