-- Answers of calls that look at a slot: they stand for what is there, up to failed calls and want of memory.
use Rattle.std.specs.Prelude.{◌≡◌, ◌⊎◌, ℕ, Bool, true, false, Result, Err}
use Rattle.ddf_header.specs.declared.reading.Header.{Header}
use Rattle.ddf_copy.specs.declared.copy.DiskCopy.{DiskCopy}
use Rattle.ddf_copy.specs.declared.fault.AnchorFault.{AnchorFault}
use Rattle.ddf_copy.specs.declared.fault.AnchorFault.TheVariants as anchor_faults
use Rattle.ddf_copy.specs.declared.fault.CopyFault.{CopyFault}
use Rattle.ddf_copy.specs.declared.fault.CopyFault.TheVariants as copy_faults
use Rattle.ddf_copy.specs.declared.fault.ShowFault.{ShowFault}
use Rattle.ddf_copy.specs.declared.fault.ShowFault.TheVariants as show_faults

-- ---- the result is this answer, or a call on the slot failed, or memory ran out

abbrev pub UpToDisk : ℕ → Result Header AnchorFault → Result Header AnchorFault → Type 0
UpToDisk slot result answer = (result ≡ answer) ⊎ (result ≡ Err (anchor_faults.Disk slot))

abbrev pub UpToMemory : {T : Type 0} → Result T CopyFault → Result T CopyFault → Type 0
UpToMemory result answer = (result ≡ answer) ⊎ (result ≡ Err copy_faults.Memory)

abbrev pub UpToLook : ℕ → Result DiskCopy CopyFault → Result DiskCopy CopyFault → Type 0
UpToLook slot result answer = (result ≡ answer) ⊎ (result ≡ Err (copy_faults.Disk slot)) ⊎ (result ≡ Err copy_faults.Memory)

-- ---- a call on a disk failed

abbrev pub anchor_failed : {T : Type 0} → Result T AnchorFault → Bool
anchor_failed (Err (anchor_faults.Disk slot)) = true
anchor_failed result = false

abbrev pub copy_failed : {T : Type 0} → Result T CopyFault → Bool
copy_failed (Err (copy_faults.Disk slot)) = true
copy_failed result = false

abbrev pub show_failed : {T : Type 0} → Result T ShowFault → Bool
show_failed (Err (show_faults.Disk slot)) = true
show_failed result = false

-- ---- the slot that a fault names is this one

abbrev pub IsAnchorFaultOf : ℕ → AnchorFault → Type 0
IsAnchorFaultOf slot (anchor_faults.Disk named) = named ≡ slot
IsAnchorFaultOf slot fault = Unit {0}

abbrev pub IsCopyFaultOf : ℕ → CopyFault → Type 0
IsCopyFaultOf slot (copy_faults.Disk named) = named ≡ slot
IsCopyFaultOf slot fault = Unit {0}

abbrev pub IsShowFaultOf : ℕ → ShowFault → Type 0
IsShowFaultOf slot (show_faults.Disk named) = named ≡ slot
IsShowFaultOf slot fault = Unit {0}

-- the fault of a look alone: a call on this slot failed, or memory ran out
abbrev pub IsLookFaultOf : ℕ → CopyFault → Type 0
IsLookFaultOf slot fault = (fault ≡ copy_faults.Disk slot) ⊎ (fault ≡ copy_faults.Memory)
