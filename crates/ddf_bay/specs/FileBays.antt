-- What a bay over files tells of its slots.
use Rattle.std.specs.Prelude.{◌≡◌, ◌+◌, ◌-◌, ◌^◌, ◌≤◌, ℕ, Bool, [], Option, min, slice_index, slice_set}
use Rattle.std.proofs.Common.{arith}
use Rattle.std.specs.declared.io.Error.{Error}
use Rattle.std.specs.declared.io.traits.Read
use Rattle.std.specs.declared.io.traits.Write
use Rattle.std.specs.declared.io.traits.Seek
use Rattle.ddf_bay.specs.State.{BayState}
use Rattle.ddf_bay.specs.Counting.{one_more}
use Rattle.ddf_bay.specs.Files.{is_open, allows_writes, why_shut}
use Rattle.ddf_bay.specs.declared.file.FileBay.{FileBay}

-- the slot's path could be opened, as it was asked for
abbrev pub has_opened : {R F D : Type 0} {a : Read.Ghosts F} {b : Write.Ghosts F} {c : Seek.Ghosts F} {d : Read.Ghosts D} → FileBay R F D a b c d → ℕ → Bool
has_opened bay slot = is_open bay.files.items slot

-- why the slot has no file: its path could not be opened, or it was closed
abbrev pub why_not_open : {R F D : Type 0} {a : Read.Ghosts F} {b : Write.Ghosts F} {c : Seek.Ghosts F} {d : Read.Ghosts D} → FileBay R F D a b c d → ℕ → Option Error
why_not_open bay slot = why_shut bay.files.items slot

-- the paths were to be opened for reading and writing, and not for reading alone
abbrev pub is_writable : {R F D : Type 0} {a : Read.Ghosts F} {b : Write.Ghosts F} {c : Seek.Ghosts F} {d : Read.Ghosts D} → FileBay R F D a b c d → Bool
is_writable bay = allows_writes bay.access

-- Calls open and close no slot, and what may be done to the disks stays.
pub record HasSameFiles {R F D : Type 0} {a : Read.Ghosts F} {b : Write.Ghosts F} {c : Seek.Ghosts F} {d : Read.Ghosts D} (old new : FileBay R F D a b c d) : Type 0 where
  pub opened : (s : ℕ) → has_opened new s ≡ has_opened old s
  pub access : is_writable new ≡ is_writable old

-- its sizes and counts, and nothing of what it holds
abbrev pub disks_of : {R F D : Type 0} {a : Read.Ghosts F} {b : Write.Ghosts F} {c : Seek.Ghosts F} {d : Read.Ghosts D} → FileBay R F D a b c d → BayState (FileBay R F D a b c d)
disks_of bay = record {
  sizes = bay.sizes.items;
  held = λ s l. [];
  tells_left = ⊥;
  may_hold = λ s l bytes. ⊥;
  moment = 0;
  left_since = λ t image. ⊥;
  failed_reads = slice_index bay.read_faults;
  failed_writes = slice_index bay.write_faults;
  sectors_written = bay.written;
  sectors_asked = bay.asked;
  calls = bay.made;
  gone = λ slot. ⊥;
  leads_to = HasSameFiles bay;
}

-- its moment stays the same
pub moment_stays : 0 ≤ 0
moment_stays = omega arith

-- No call was made yet: each count is 0.
pub record CountsFromZero {D : Type 0} (disks : BayState D) : Type 0 where
  pub failed_reads : (s : ℕ) → disks.failed_reads s ≡ 0
  pub failed_writes : (s : ℕ) → disks.failed_writes s ≡ 0
  pub sectors_written : disks.sectors_written ≡ 0
  pub sectors_asked : disks.sectors_asked ≡ 0
  pub calls : disks.calls ≡ 0

-- A slot is closed: it has size 0, and all else stays.
pub record IsClosed {D : Type 0} (old new : BayState D) (slot : ℕ) : Type 0 where
  pub sizes : new.sizes ≡ slice_set old.sizes slot 0
  pub failed_reads : new.failed_reads ≡ old.failed_reads
  pub failed_writes : new.failed_writes ≡ old.failed_writes
  pub sectors_written : new.sectors_written ≡ old.sectors_written
  pub sectors_asked : new.sectors_asked ≡ old.sectors_asked
  pub calls : new.calls ≡ old.calls

-- One call was made more, and so many sectors were asked for more: each count up to its last value.
pub record IsCounted {D : Type 0} (old new : BayState D) (sectors : ℕ) : Type 0 where
  pub calls : new.calls ≡ one_more old.calls
  pub sectors_asked : new.sectors_asked ≡ min (old.sectors_asked + sectors) (2 ^ 64 - 1)
