-- Calls that only read: what they leave of a bay.
use Rattle.std.specs.Prelude.{◌≡◌, ◌≢◌, ◌⊎◌, ℕ, ◌≤◌, ◌<◌, Bool, true, false, IsTrue, List, length, slice_index, slice_index_or}
use Rattle.ddf_bytes.specs.Counts.{Rose}
use Rattle.ddf_bay.specs.Sectors.{IsLeft}
use Rattle.ddf_bay.specs.State.{BayState}
use Rattle.ddf_bay.specs.Moments.{GoesOn, StopsLeave, Keeps}

-- The sectors stay, a stop on the way leaves what it might have left before, and no write was asked for.
pub record ReadsOnly {D : Type 0} (old new : BayState D) : Type 0 where
  pub goes_on : GoesOn old new
  pub same_sizes : new.sizes ≡ old.sizes
  pub same_held : new.held ≡ old.held
  pub keeps : Keeps old.may_hold new.may_hold
  pub any_moment : StopsLeave old new (IsLeft old.may_hold)
  pub none_written : new.sectors_written ≡ old.sectors_written
  pub none_asked : new.sectors_asked ≡ old.sectors_asked

-- Failures of a kind were counted on one slot alone.
pub record FaultsOn {D : Type 0} (faults : BayState D → ℕ → ℕ) (old new : BayState D) (slot : ℕ) : Type 0 where
  pub never_falls : (s : ℕ) → faults old s ≤ faults new s
  pub other_slots : (s : ℕ) → s ≢ slot → faults new s ≡ faults old s

-- a slot's reads, or its writes and syncs, failed
abbrev pub SlotRose : {D : Type 0} (old new : BayState D) → (slot : ℕ) → Type 0
SlotRose old new slot = Rose (old.failed_reads slot) (new.failed_reads slot) ⊎ Rose (old.failed_writes slot) (new.failed_writes slot)

-- no call on a slot failed
abbrev pub SlotSame : {D : Type 0} (old new : BayState D) → (slot : ℕ) → Type 0
SlotSame old new slot = (new.failed_reads slot ≡ old.failed_reads slot) × (new.failed_writes slot ≡ old.failed_writes slot)

-- a read of a slot failed, or where it has no sector its sync
abbrev pub LookFailed : {D : Type 0} (old new : BayState D) → (slot : ℕ) → Type 0
LookFailed old new slot = Rose (old.failed_reads slot) (new.failed_reads slot)
    ⊎ ((slice_index old.sizes slot ≡ 0) × Rose (old.failed_writes slot) (new.failed_writes slot))

-- The calls of a look at one slot failed, or none of them did. A slot that has a sector isn't synced.
pub record LooksAt {D : Type 0} (old new : BayState D) (slot : ℕ) (failed : Bool) : Type 0 where
  pub reads : FaultsOn (λ disks. disks.failed_reads) old new slot
  pub writes : FaultsOn (λ disks. disks.failed_writes) old new slot
  pub same_sizes : new.sizes ≡ old.sizes
  pub rose : failed ≡ true → LookFailed old new slot
  pub same : failed ≡ false → SlotSame old new slot
  pub unsynced : 0 < slice_index old.sizes slot → new.failed_writes slot ≡ old.failed_writes slot

-- Of the first slots, so many, it is told whether a look at them failed. Of one that has a sector no sync did.
pub record AreFailed {D : Type 0} (old new : BayState D) (failed : List Bool) : Type 0 where
  pub rose : (s : ℕ) → s < length failed → IsTrue (slice_index_or failed s false) → LookFailed old new s
  pub same : (s : ℕ) → s < length failed → slice_index_or failed s false ≡ false → SlotSame old new s
  pub unsynced : (s : ℕ) → s < length failed → 0 < slice_index old.sizes s → new.failed_writes s ≡ old.failed_writes s
