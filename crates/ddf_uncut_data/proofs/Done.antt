-- What the blocks of an array have behind a command that worked on them, between the steps of its group.
use Rattle.std.proofs.Common.{◌≡◌, ◌∙◌, ⊎_elim, ℕ, Bool, true, false, List, [], ◌∷◌, Some, sym, ap, subst, length}
use Rattle.std.specs.Prelude.{unwrap_or}
use Rattle.ddf_bay.specs.Sectors.{Image}
use Rattle.ddf_parity.specs.Xor.{zeros}
use Rattle.ddf_array.specs.Apart.{IsApart}
use Rattle.ddf_array.specs.Sound.{AreSectors}
use Rattle.ddf_array.specs.Volume.{Volume, IsVolume}
use Rattle.ddf_array.specs.Within.{is_within}
use Rattle.ddf_read.specs.Reading.{Failed}
use Rattle.ddf_cells.proofs.Alike.{value_same}
use Rattle.ddf_data_array.specs.Allowed.{May}
use Rattle.ddf_data_array.specs.Changing.{IsWritable, with_mark}
use Rattle.ddf_data_array.specs.Rows.{AreAlikeThroughout}
use Rattle.ddf_data_array.proofs.RowsKept.{alike_cells}
use Rattle.ddf_data_group.specs.Clear.{ChangesItsCells}
use Rattle.ddf_data_group.proofs.Clearly.{write_changes}
use Rattle.ddf_seats.specs.Group.{GroupValue}
use Rattle.ddf_steps.specs.Steps.{Step}
use Rattle.ddf_data_array.proofs.Common.{kept_more}
use Rattle.ddf_answer.specs.Call.{Work}
use Rattle.ddf_write_commands.specs.Resync.{resyncing}
use Rattle.ddf_write_commands.specs.Worked.{AreBlocksDone}
use Rattle.ddf_write_commands.specs.Write.{writing}
use Rattle.ddf_uncut_data.specs.Aside.{LieAside}
use Rattle.ddf_uncut_data.specs.Blank.{IsBlank}
use Rattle.ddf_uncut_data.specs.Blocks.{HoldsBlocks, exactly, held_blocks, none_absent, with_sectors}
use Rattle.ddf_uncut_data.specs.Whole.{IsWhole}
use Rattle.ddf_uncut_data.proofs.Held.{alike_marked, holds_same}
use Rattle.ddf_uncut_data.proofs.Resync.{holds_resynced, holds_zeros}
use Rattle.ddf_uncut_data.proofs.Whole.{marked_volume}
use Rattle.ddf_uncut_data.proofs.Write.{holds_written}

-- What work on the array begins with has sectors of 512 bytes where what it leaves has, since the steps before it change none of the array's.
first_sectors : (v : Volume) (old before behind : Image) → AreSectors old → AreAlikeThroughout v old before → ChangesItsCells v before behind → AreSectors behind → AreSectors before
first_sectors v old before behind are same changes later slot lba = ⊎_elim
    (λ stayed. ap length (sym stayed) ∙ later slot lba)
    (λ cell. ap length (sym (same cell.element cell.position cell.sector slot lba cell.lies)) ∙ are slot lba)
    (changes slot lba)

module _ {D : Type 0} (work : Work D) (found : GroupValue) (first last : List Step) (v : Volume) (told : work.new.tells_left)
    (first_aside : LieAside work.old.sizes v first) (last_aside : LieAside work.old.sizes v last) (whole : IsWhole v) (are : AreSectors work.new.held) where
  pub holds_by_write : (marked : Bool) (start : ℕ) (sectors : List (List ℕ)) (blocks : ℕ → List ℕ) → IsWritable (with_mark marked v)
      → AreBlocksDone (writing start sectors) work found first last (with_mark marked v) → HoldsBlocks v work.old.held blocks
      → HoldsBlocks v work.new.held (with_sectors start sectors blocks)
  holds_by_write marked start sectors blocks writable done holds =
      let same : AreAlikeThroughout v work.old.held done.before = first_aside work.old.held done.before done.first_written in
      let behind_are : AreSectors done.behind = done.are_sectors told in
      let changes : ChangesItsCells (with_mark marked v) done.before done.behind = write_changes (with_mark marked v) start sectors done.before done.behind (marked_volume marked v holds.is_volume) done.is_left in
      let before_are : AreSectors done.before = first_sectors (with_mark marked v) work.old.held done.before done.behind holds.kept.sound.are_sectors (alike_marked marked v work.old.held done.before same) changes behind_are in
      holds_same v done.behind work.new.held (with_sectors start sectors blocks) are (last_aside done.behind work.new.held done.last_written)
      (holds_written (Failed work.old work.new) marked v start sectors done.before done.behind blocks (holds_same v work.old.held done.before blocks before_are same holds) whole writable behind_are done.is_left done.has_done)

  module _ (known : IsVolume v) (apart : IsApart v) (within : is_within v ≡ true) (done : AreBlocksDone resyncing work found first last v) where
    behind_are : AreSectors done.behind
    behind_are = done.are_sectors told

    last_same : AreAlikeThroughout v done.behind work.new.held
    last_same = last_aside done.behind work.new.held done.last_written

    pub holds_by_resync : HoldsBlocks (with_mark false v) work.new.held (held_blocks v work.new.held)
    holds_by_resync =
        let there = holds_same (with_mark false v) done.behind work.new.held (held_blocks v done.behind) are (alike_marked false v done.behind work.new.held last_same)
        (holds_resynced (Failed work.old work.new) v done.before done.behind known apart within whole behind_are done.has_done) in
        record {
          is_volume = there.is_volume;
          apart = there.apart;
          unmarked = there.unmarked;
          within = there.within;
          kept = kept_more none_absent (with_mark false v) work.new.held (exactly (held_blocks v done.behind)) (exactly (held_blocks v work.new.held))
              (λ block bytes may. subst (λ (held : List ℕ). May (Some (held ∷ [])) bytes)
              (ap (λ o. unwrap_or o []) (value_same v known done.behind work.new.held (alike_cells v done.behind work.new.held last_same) block)) may) there.kept;
        }

    pub zeros_by_resync : IsBlank v work.old.held → HoldsBlocks (with_mark false v) work.new.held (λ block. zeros)
    zeros_by_resync blank =
        let same = alike_cells v work.old.held done.before (first_aside work.old.held done.before done.first_written) in
        holds_same (with_mark false v) done.behind work.new.held (λ block. zeros) are (alike_marked false v done.behind work.new.held last_same)
        (holds_zeros (Failed work.old work.new) v done.before done.behind known apart within whole behind_are done.has_done
        (λ slot lba cell. sym (same slot lba cell) ∙ blank slot lba cell))
