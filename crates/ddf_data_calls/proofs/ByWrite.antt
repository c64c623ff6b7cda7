-- What a write and a resync do to the blocks of an array.
use Rattle.std.proofs.Common.{◌∙◌, inl, inr, ⊎_elim, ℕ, ◌+◌, List, length, sym}
use Rattle.ddf_bay.specs.Sectors.{Image}
use Rattle.ddf_array.specs.Volume.{IsVolume, Volume}
use Rattle.ddf_cells.specs.Alike.{AreAlike}
use Rattle.ddf_cells.proofs.Alike.{copy_is_cell}
use Rattle.ddf_write.specs.Writing.{HasWritten, MayGive}
use Rattle.ddf_resync.specs.Resyncing.{IsTaken, MayResync}
use Rattle.ddf_data_array.specs.Allowed.{once_written, while_written}
use Rattle.ddf_data_array.proofs.Resynced.{kept_resyncing}
use Rattle.ddf_data_array.proofs.Written.{kept_once, kept_while, old_while}
use Rattle.ddf_data_group.specs.Clear.{IsItsCell}
use Rattle.ddf_data_group.proofs.Clearly.{copy_its, parity_its, touched_its}
use Rattle.ddf_data_calls.proofs.Carried.{Carrying}

-- ---- a write

module _ (start : ℕ) (sectors : List (List ℕ)) where
  pub write_its : (v : Volume) → IsVolume v → (slot lba : ℕ) (bytes : List ℕ) → MayGive v start sectors slot lba bytes → IsItsCell v slot lba
  write_its v known slot lba bytes gives =
      ⊎_elim (λ wrote. copy_its v known (start + wrote.0.k) wrote.0.i slot lba wrote.0.is_cell) (λ parity. touched_its v known start (length sectors) slot lba parity) gives

  pub written_same : (v : Volume) → IsVolume v → (one other : Image) → AreAlike v one other → HasWritten v start sectors ⊥ one → HasWritten v start sectors ⊥ other
  written_same v known one other alike has = record {
    cells = λ k i site below at. sym (alike site.slot site.lba (copy_is_cell v known (start + k) i site at)) ∙ has.cells k i site below at;
    parity = λ none. absurd none;
  }

  abbrev pub by_write : Carrying
  by_write = record {
    Gives = λ v before slot lba bytes. MayGive v start sectors slot lba bytes;
    Holds = λ v image. HasWritten v start sectors ⊥ image;
    next = λ allowed. while_written allowed start sectors;
    last = λ allowed. once_written allowed start sectors;
    its = λ v known before slot lba bytes gives. write_its v known slot lba bytes gives;
    same = λ v known one other alike slot lba bytes gives. gives;
    holds_same = written_same;
    weaker = λ allowed block bytes may. old_while allowed start sectors block bytes may;
    amid = λ is_absent v known apart writable before image allowed kept left are. kept_while is_absent v known apart start sectors before image allowed writable kept left are;
    done = λ is_absent v known apart writable before image allowed kept left are holds. kept_once is_absent v known apart start sectors before image allowed writable kept left are holds;
  }

-- ---- a resync

pub resync_its : (v : Volume) → IsVolume v → (before : Image) (slot lba : ℕ) (bytes : List ℕ) → MayResync v (Unit {0}) before slot lba bytes → IsItsCell v slot lba
resync_its v known before slot lba bytes gives = ⊎_elim (λ taken. copy_its v known taken.block taken.i slot lba taken.is_cell) (λ parity. parity_its v known slot lba parity) gives

pub taken_same : (v : Volume) → IsVolume v → (one other : Image) → AreAlike v one other → (slot lba : ℕ) (bytes : List ℕ) → IsTaken v (Unit {0}) one slot lba bytes → IsTaken v (Unit {0}) other slot lba bytes
taken_same v known one other alike slot lba bytes taken =
    let held = taken.held tt in
    record {
      block = taken.block;
      i = taken.i;
      is_cell = taken.is_cell;
      several = taken.several;
      held = λ told. record {
        number = held.number;
        other = held.other;
        is_copy = held.is_copy;
        bytes_are = held.bytes_are ∙ alike held.other.slot held.other.lba (copy_is_cell v known taken.block held.number held.other held.is_copy);
      };
    }

abbrev pub by_resync : Carrying
by_resync = record {
  Gives = λ v before slot lba bytes. MayResync v (Unit {0}) before slot lba bytes;
  Holds = λ v image. Unit {0};
  next = λ allowed. allowed;
  last = λ allowed. allowed;
  its = resync_its;
  same = λ v known one other alike slot lba bytes gives. ⊎_elim (λ taken. inl (taken_same v known one other alike slot lba bytes taken)) inr gives;
  holds_same = λ v known one other alike holds. tt;
  weaker = λ allowed block bytes may. may;
  amid = λ is_absent v known apart writable before image allowed kept left are. kept_resyncing is_absent v known apart before before image allowed writable kept kept left are;
  done = λ is_absent v known apart writable before image allowed kept left are holds. kept_resyncing is_absent v known apart before before image allowed writable kept kept left are;
}
