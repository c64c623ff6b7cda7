-- What the blocks of an array hold behind a write between the steps of its group, by what the disks hold below the records alone.
use Rattle.std.proofs.Common.{◌≡◌, ◌∙◌, inl, ℕ, ◌+◌, ◌<◌, Bool, List, sym, subst, length}
use Rattle.ddf_lemmas.proofs.Options.{some_is}
use Rattle.ddf_bay.specs.Sectors.{Image}
use Rattle.ddf_array.specs.declared.part.Part.{Part}
use Rattle.ddf_array.specs.declared.site.Site.{Site}
use Rattle.ddf_array.specs.Sound.{AreSectors}
use Rattle.ddf_array.specs.Volume.{IsVolume, Volume}
use Rattle.ddf_read.specs.Reading.{IsOn}
use Rattle.ddf_cells.specs.Alike.{AreAlike}
use Rattle.ddf_cells.proofs.Alike.{cell_site, copy_is_cell, row_sum_same}
use Rattle.ddf_cells.proofs.CopiesOn.{block_at_sits}
use Rattle.ddf_cells.proofs.OnCells.{block_below}
use Rattle.ddf_write.specs.RowWrites.{IsSure}
use Rattle.ddf_write.specs.Writing.{HasWritten, IsLeftByWrite, IsParityAt, MayGive}
use Rattle.ddf_data_array.specs.Changing.{IsWritable, with_mark}
use Rattle.ddf_data_array.proofs.RowsKept.{alike_cells}
use Rattle.ddf_uncut_data.specs.Blocks.{HoldsBlocks, with_sectors}
use Rattle.ddf_uncut_data.specs.Whole.{IsWhole}
use Rattle.ddf_uncut_data.proofs.Held.{holds_same}
use Rattle.ddf_uncut_data.proofs.Write.{holds_written}
use Rattle.ddf_exercise_disks.proofs.Clip.{IsSameLow, LiesBelow, alike_low, clip, clip_gets, clip_low, clip_sectors}

-- the sector of a touched row lies in its element
touched_below : (w : Volume) → IsVolume w → (start count element sector : ℕ) (part : Part) (one : Site) → IsParityAt w start count element sector part one → sector < part.shape.blocks
touched_below w known start count element sector part one at =
    let touched = at.touched in
    let sits = block_at_sits w known element touched.position sector (start + touched.k) touched.holds_it in
    let same : sits.part ≡ part = some_is (sym sits.is_part ∙ at.is_part) in
    subst (λ (q : Part). sector < q.shape.blocks) same (block_below w known element touched.position sector (start + touched.k) sits)

-- Images alike to an array are written alike, where all that is read is sure.
written_same : (w : Volume) → IsVolume w → (start : ℕ) (sectors : List (List ℕ)) (sure other_sure : Type 0) (image other : Image) → AreAlike w other image → sure
    → HasWritten w start sectors sure image → HasWritten w start sectors other_sure other
written_same w known start sectors sure other_sure image other same is_sure has = record {
  cells = λ k i one below at. same one.slot one.lba (copy_is_cell w known (start + k) i one at) ∙ has.cells k i one below at;
  parity = λ other_is element sector part one at.
      let below = touched_below w known start (length sectors) element sector part one at in
      same one.slot one.lba (cell_site w known element part at.is_part at.position sector one below at.is_there)
      ∙ has.parity is_sure element sector part one at
      ∙ sym (row_sum_same w known other image same element part at.is_part sector below);
}

-- The steps before the blocks and behind them leave what lies below the records, and no read failed on a slot of the array.
pub holds_behind : (failed : ℕ → Type 0) (marked : Bool) (v : Volume) → LiesBelow 4096 v → LiesBelow 4096 (with_mark marked v) → IsVolume (with_mark marked v) → IsWhole v → IsWritable (with_mark marked v)
    → ((slot : ℕ) → IsOn (with_mark marked v) slot → failed slot → ⊥) → (start : ℕ) (sectors : List (List ℕ)) (blocks : ℕ → List ℕ) (old before behind new : Image) → AreSectors old → AreSectors new
    → IsSameLow before old → IsSameLow new behind → IsLeftByWrite (with_mark marked v) start sectors before behind
    → HasWritten (with_mark marked v) start sectors (IsSure failed (with_mark marked v) before) behind → HoldsBlocks v old blocks → HoldsBlocks v new (with_sectors start sectors blocks)
holds_behind failed marked v low marked_low known whole writable none start sectors blocks old before behind new old_sectors new_sectors first last left has holds =
    let image : Image = clip new old in
    let image_sectors : AreSectors image = clip_sectors new old new_sectors old_sectors in
    let image_behind : IsSameLow image behind = λ slot lba below. clip_low new old slot lba below ∙ last slot lba below in
    let alike : AreAlike (with_mark marked v) image behind = alike_cells (with_mark marked v) image behind (alike_low (with_mark marked v) marked_low image behind image_behind) in
    let left_now : IsLeftByWrite (with_mark marked v) start sectors old image = clip_gets new old before behind (MayGive (with_mark marked v) start sectors) last first left in
    let has_now : HasWritten (with_mark marked v) start sectors (IsSure failed (with_mark marked v) old) image =
    written_same (with_mark marked v) known start sectors (IsSure failed (with_mark marked v) before) (IsSure failed (with_mark marked v) old) behind image alike (inl none) has in
    holds_same v image new (with_sectors start sectors blocks) new_sectors (alike_low v low image new (clip_low new old))
    (holds_written failed marked v start sectors old image blocks holds whole writable image_sectors left_now has_now)
