-- What the blocks of an array have once some of them were written, by its mark.
use Rattle.std.proofs.Common.{inr, ℕ, Bool, true, false, List, [], ◌∷◌, Some, sym, subst, length}
use Rattle.std.specs.Prelude.{if◌then◌else◌}
use Rattle.ddf_bay.specs.Sectors.{Image}
use Rattle.ddf_array.specs.Redundant.{IsRedundant}
use Rattle.ddf_array.specs.Sound.{AreSectors}
use Rattle.ddf_array.specs.Volume.{Volume, IsVolume}
use Rattle.ddf_write.specs.RowWrites.{IsSure}
use Rattle.ddf_write.specs.Writing.{HasWritten, IsLeftByWrite}
use Rattle.ddf_write.proofs.RedundantAfter.{redundant_after}
use Rattle.ddf_data_array.specs.Allowed.{May, is_in, new_bytes, once_written}
use Rattle.ddf_data_array.specs.Changing.{IsWritable, with_mark}
use Rattle.ddf_data_array.specs.Kept.{IsKeptData}
use Rattle.ddf_data_array.proofs.Consistent.{kept_unmarked, value_may, whole_consistent}
use Rattle.ddf_data_array.proofs.Given.{have_cells}
use Rattle.ddf_data_array.proofs.Written.{kept_once}
use Rattle.ddf_data_array.proofs.Common.{kept_more}
use Rattle.ddf_uncut_data.specs.Blocks.{HoldsBlocks, exactly, none_absent, with_sectors}
use Rattle.ddf_uncut_data.specs.Whole.{IsWhole}
use Rattle.ddf_uncut_data.proofs.Held.{is_redundant_now, unmarked_is}
use Rattle.ddf_uncut_data.proofs.Whole.{kept_marked, marked_volume, not_degraded, whole_rows}

-- what a block may have that was written, or wasn't
may_by : (b : Bool) (new old bytes : List ℕ) → May (if b then Some (new ∷ []) else Some (old ∷ [])) bytes → May (Some ((if b then new else old) ∷ [])) bytes
may_by true new old bytes may = may
may_by false new old bytes may = may

-- with or without a mark it keeps what it keeps
kept_under : (marked : Bool) (v : Volume) (image : Image) (blocks : ℕ → List ℕ) → HoldsBlocks v image blocks → IsWhole v → IsKeptData none_absent (with_mark marked v) image (exactly blocks)
kept_under true v image blocks holds whole = kept_marked none_absent v image (exactly blocks) holds.is_volume whole holds.kept
kept_under false v image blocks holds whole = subst (λ (w : Volume). IsKeptData none_absent w image (exactly blocks)) (sym (unmarked_is v holds.unmarked)) holds.kept

module _ (failed : ℕ → Type 0) (marked : Bool) (v : Volume) (start : ℕ) (sectors : List (List ℕ)) (before behind : Image) (blocks : ℕ → List ℕ) (holds : HoldsBlocks v before blocks) (whole : IsWhole v)
    (writable : IsWritable (with_mark marked v)) (are : AreSectors behind) where
  known : IsVolume (with_mark marked v)
  known = marked_volume marked v holds.is_volume

  was_redundant : IsRedundant (with_mark marked v) before
  was_redundant = let is = is_redundant_now v before blocks holds in record { agree = is.agree; sum_to_zero = is.sum_to_zero }

  module _ (left : IsLeftByWrite (with_mark marked v) start sectors before behind) (has : HasWritten (with_mark marked v) start sectors (IsSure failed (with_mark marked v) before) behind) where
    redundant : IsRedundant (with_mark marked v) behind
    redundant = redundant_after (with_mark marked v) known holds.apart (not_degraded v whole) start sectors before behind are was_redundant left Unit tt
        (record { cells = has.cells; parity = λ sure. has.parity (inr (λ slot lba cell. holds.kept.sound.are_sectors slot lba, was_redundant)) })

    once : IsKeptData none_absent (with_mark marked v) behind (once_written (exactly blocks) start sectors)
    once = kept_once none_absent (with_mark marked v) known holds.apart start sectors before behind (exactly blocks) writable
        (kept_under marked v before blocks holds whole) left are (record { cells = has.cells; parity = λ never. absurd never })

    cleared : IsKeptData none_absent (with_mark false v) behind (once_written (exactly blocks) start sectors)
    cleared = kept_unmarked none_absent (with_mark marked v) behind (once_written (exactly blocks) start sectors) are
        (whole_consistent none_absent (with_mark marked v) behind (not_degraded v whole) redundant) (whole_rows none_absent (with_mark false v) behind whole)
        (value_may none_absent (with_mark marked v) behind (once_written (exactly blocks) start sectors) once redundant (have_cells (with_mark marked v) known holds.within (not_degraded v whole)))

    pub holds_written : HoldsBlocks v behind (with_sectors start sectors blocks)
    holds_written = record {
      is_volume = holds.is_volume;
      apart = holds.apart;
      unmarked = holds.unmarked;
      within = holds.within;
      kept = kept_more none_absent v behind (once_written (exactly blocks) start sectors) (exactly (with_sectors start sectors blocks))
          (λ block bytes. may_by (is_in start (length sectors) block) (new_bytes start sectors block) (blocks block) bytes)
          (subst (λ (w : Volume). IsKeptData none_absent w behind (once_written (exactly blocks) start sectors)) (unmarked_is v holds.unmarked) cleared);
    }
