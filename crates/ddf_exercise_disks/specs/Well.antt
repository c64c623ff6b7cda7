-- Disks in memory of which no call fails but those on unplugged slots.
use Rattle.std.specs.Prelude.{◌≡◌, ℕ, ◌+◌, ◌<◌, Bool, false, List, [], length, replicate, None, slice_index_or}
use Rattle.ddf_bay.specs.Memory.{disks_of, state_of}
use Rattle.ddf_bay.specs.declared.memory.MemoryBay.{MemoryBay}

-- The sizes of an exercise's disks.
abbrev pub sizes_made : List ℕ
sizes_made = replicate 5 65536

-- No call is listed to fail, and there is room for so many sectors in all; these slots of the five are unplugged, and of the others no call failed.
pub record IsWell (total : ℕ) (out : List Bool) (bay : MemoryBay) : Type 0 where
  pub none_listed : (state_of bay).failing ≡ []
  pub never_over : (state_of bay).stop_after ≡ None
  pub sizes_are : (disks_of bay).sizes ≡ sizes_made
  pub five : length out ≡ 5
  pub plugged : (slot : ℕ) → slot < 5 → slice_index_or (state_of bay).unplugged slot false ≡ slice_index_or out slot false
  pub no_reads : (slot : ℕ) → slot < 5 → slice_index_or out slot false ≡ false → (disks_of bay).failed_reads slot ≡ 0
  pub no_writes : (slot : ℕ) → slot < 5 → slice_index_or out slot false ≡ false → (disks_of bay).failed_writes slot ≡ 0
  pub room_is : (state_of bay).room + (state_of bay).written ≡ total
