-- Why blocks of an array aren't written (profile).
use Rattle.std.specs.Prelude.{◌≡◌, ◌≢◌, ℕ, ◌+◌, ◌<◌, nat_lt, not, Option, Some, None, if◌then◌else◌}
use Rattle.ddf_bytes.specs.Counts.{Rose}
use Rattle.ddf_bay.specs.State.{BayState}
use Rattle.ddf_bay.specs.ReadsOnly.{ReadsOnly}
use Rattle.ddf_array.specs.Volume.{Volume, capacity}
use Rattle.ddf_array.specs.Within.{is_within}
use Rattle.ddf_read.specs.declared.fault.VolumeFault.{VolumeFault}
use Rattle.ddf_read.specs.declared.fault.VolumeFault.TheVariants.{Range, Lost, Unsure, Degraded, Disk}
use Rattle.ddf_cells.specs.Degraded.{is_degraded}
use Rattle.ddf_write.specs.Writing.{IsWritten}

-- the first that applies: past the capacity, not within the level, degraded
abbrev pub write_refusal : Volume → (start count : ℕ) → Option VolumeFault
write_refusal volume start count =
    if nat_lt (capacity volume) (start + count) then Some (Range (capacity volume))
    else (if not (is_within volume) then Some Lost
    else (if is_degraded volume then Some Degraded
    else None))

-- a block is none of these
abbrev pub IsOther : (start count block : ℕ) → Type 0
IsOther start count block = (k : ℕ) → k < count → block ≢ start + k

-- the calls ended at a slot: a write or sync of it failed, and it has a sector that the write gives bytes
abbrev pub IsStopped : {D : Type 0} (old new : BayState D) → Volume → (start count slot : ℕ) → Type 0
IsStopped old new volume start count slot = IsWritten volume start count slot × Rose (old.failed_writes slot) (new.failed_writes slot)

-- The cause of an answer other than Ok. Where the blocks are refused no call is made, and nothing changes.
abbrev pub IsRefused : {D : Type 0} (old new : BayState D) → Volume → (start count : ℕ) → VolumeFault → Type 0
IsRefused old new volume start count fault =
    (write_refusal volume start count ≡ Some fault) × (ReadsOnly old new × (new.calls ≡ old.calls))

abbrev pub IsWriteFault : {D : Type 0} (old new : BayState D) → Volume → (start count : ℕ) → VolumeFault → Type 0
IsWriteFault old new volume start count (Range most) = IsRefused old new volume start count (Range most)
IsWriteFault old new volume start count Lost = IsRefused old new volume start count Lost
IsWriteFault old new volume start count Unsure = ⊥
IsWriteFault old new volume start count Degraded = IsRefused old new volume start count Degraded
IsWriteFault old new volume start count (Disk slot) = (write_refusal volume start count ≡ None) × IsStopped old new volume start count slot
