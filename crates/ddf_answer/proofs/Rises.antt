-- Counts of faults over several calls.
use Rattle.std.proofs.Common.{inl, inr, ⊎_elim, ℕ, ◌≤◌}
use Rattle.ddf_bytes.proofs.Common.{rose_behind}
use Rattle.ddf_bay.specs.State.{BayState}
use Rattle.ddf_bay.specs.ReadsOnly.{LookFailed}

-- a look failed, also where more calls followed
pub look_still : {D : Type 0} (old middle new : BayState D) (slot : ℕ) → old.failed_reads slot ≤ middle.failed_reads slot → middle.failed_reads slot ≤ new.failed_reads slot
    → old.failed_writes slot ≤ middle.failed_writes slot → middle.failed_writes slot ≤ new.failed_writes slot → LookFailed old middle slot → LookFailed old new slot
look_still old middle new slot reads reads_then writes writes_then failed = ⊎_elim
    (λ read. inl (rose_behind (old.failed_reads slot) (middle.failed_reads slot) (new.failed_reads slot) reads reads_then read))
    (λ synced. inr (synced.0, rose_behind (old.failed_writes slot) (middle.failed_writes slot) (new.failed_writes slot) writes writes_then synced.1))
    failed
