-- Disks in memory to which nothing was written but the records of their group.
use Rattle.std.specs.Prelude.{◌≡◌, ℕ, ◌<◌, Bool, false, List, replicate}
use Rattle.ddf_bay.specs.Memory.{disks_of}
use Rattle.ddf_bay.specs.declared.memory.MemoryBay.{MemoryBay}
use Rattle.ddf_parity.specs.Xor.{zeros}

-- none of the five slots is unplugged
abbrev pub none_out : List Bool
none_out = replicate 5 false

-- every sector below the records of a disk is zeros
abbrev pub IsZero : MemoryBay → Type 0
IsZero bay = (slot l : ℕ) → l < 32687 → (disks_of bay).held slot l ≡ zeros
