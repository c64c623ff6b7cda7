use Rattle.std.proofs.Common.{◌≡◌, ◌++◌, ◌∷◌, [], ◌∙◌, sym, ap, List}
use Rattle.ddf_config_records.specs.declared.notes.SlotNote.{SlotNote}
use Rattle.ddf_config_records.specs.NoteRecords.{note_place, note_at}
use Rattle.ddf_config_records.proofs.NoteRecords.{notes_of_slots_none, notes_of_slots_more}
use Rattle.ddf_config_records.proofs.notes_reading.slot_notes.Goals as goal

pub loop-slot-init : goal.loop-slot-init
loop-slot-init c = c.in_ok-notes.ensures.items ∙ sym (notes_of_slots_none c.args.most c.args.bytes.now)

pub loop-slot-preserved : goal.loop-slot-preserved
loop-slot-preserved c =
    let most = c.args.most in
    let bytes = c.args.bytes.now in
    let i = c.loop-slot.slot in
    let note : c.in_ok-note.note ≡ note_at most bytes (note_place most i) = c.in_ok-note.ensures ∙ ap (note_at most bytes) c.note_place.ensures in
    c.in_ok-push.ensures.items ∙ ap (λ (n : SlotNote). c.loop-slot.notes.items ++ n ∷ []) note
    ∙ ap (λ (l : List SlotNote). l ++ note_at most bytes (note_place most i) ∷ []) c.loop-slot.invariant ∙ sym (notes_of_slots_more most i bytes)
