-- Why blocks of an array aren't read (profile).
use Rattle.std.specs.Prelude.{◌≡◌, ℕ, ◌+◌, nat_lt, Bool, not, ◌&&◌, Option, Some, None, is_none, if◌then◌else◌}
use Rattle.std.specs.List.{range_with_len, list_any}
use Rattle.ddf_array.specs.Volume.{Volume, capacity}
use Rattle.ddf_array.specs.Within.{is_within}
use Rattle.ddf_array.specs.Sources.{first_copy}
use Rattle.ddf_read.specs.declared.fault.VolumeFault.{VolumeFault}
use Rattle.ddf_read.specs.declared.fault.VolumeFault.TheVariants.{Range, Lost, Unsure, Degraded, Disk}
use Rattle.ddf_read.specs.Given.{NoneLeftIn}

-- a block has no available cell
abbrev pub lacks_copy : Volume → ℕ → Bool
lacks_copy volume block = is_none (first_copy volume block)

-- parity of a marked array is needed
abbrev pub is_unsure : Volume → (start count : ℕ) → Bool
is_unsure volume start count = volume.marked && list_any (lacks_copy volume) (range_with_len start count)

-- the first that applies: past the capacity, not within the level, unsure
abbrev pub read_refusal : Volume → (start count : ℕ) → Option VolumeFault
read_refusal volume start count =
    if nat_lt (capacity volume) (start + count) then Some (Range (capacity volume))
    else (if not (is_within volume) then Some Lost
    else (if is_unsure volume start count then Some Unsure
    else None))

-- the cause of an answer other than Ok
abbrev pub IsReadFault : (failed : ℕ → Type 0) → Volume → (start count : ℕ) → VolumeFault → Type 0
IsReadFault failed volume start count (Range most) = read_refusal volume start count ≡ Some (Range most)
IsReadFault failed volume start count Lost = read_refusal volume start count ≡ Some Lost
IsReadFault failed volume start count Unsure = read_refusal volume start count ≡ Some Unsure
IsReadFault failed volume start count Degraded = ⊥
IsReadFault failed volume start count (Disk slot) =
    (read_refusal volume start count ≡ None) × NoneLeftIn failed volume start count slot
