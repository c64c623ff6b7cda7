use Rattle.std.proofs.Common.{◌<◌, ◌∙◌, ap, length, get_or, List, ℕ, arith}
use Rattle.ddf_seal.specs.Unread.{written}
use Rattle.ddf_config_records.specs.declared.notes.SlotNote.{SlotNote}
use Rattle.ddf_config_records.specs.NoteRecords.{note_place, note_fields}
use Rattle.ddf_config_records.proofs.NoteRecords.{written_note_more}
use Rattle.ddf_config_records.proofs.notes_writing.put_notes.Goals as goal

pub loop-slot-preserved : goal.loop-slot-preserved
loop-slot-preserved c =
    let most = c.args.most in
    let i = c.loop-slot.slot in
    let note = c.index-notes-slot.result in
    let lt : i < length c.args.notes.now = omega arith in
    c.put_note.ensures ∙ ap (λ (at : ℕ). written (note_fields most at note) c.loop-slot.into) c.note_place.ensures
    ∙ ap (λ (n : SlotNote). written (note_fields most (note_place most i) n) c.loop-slot.into) c.index-notes-slot.is
    ∙ ap (λ (l : List ℕ). written (note_fields most (note_place most i) (get_or c.args.notes.now i note)) l) c.loop-slot.invariant ∙ written_note_more most c.args.into.now c.args.notes.now i note lt
