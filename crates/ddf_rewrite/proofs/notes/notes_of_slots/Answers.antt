use Rattle.std.proofs.Common.{◌≡◌, ◌∙◌, ℕ, ap, map}
use Rattle.std.specs.List.{range_with_len}
use Rattle.ddf_config_records.specs.declared.notes.SlotNote.{SlotNote}
use Rattle.ddf_view.proofs.Rebuilt.{made_on}
use Rattle.ddf_rewrite.specs.Placement.{item_at}
use Rattle.ddf_rewrite.specs.Notes.{note_for}
use Rattle.ddf_rewrite.proofs.notes.notes_of_slots.Goals as goal

pub loop-slot-preserved : goal.loop-slot-preserved
loop-slot-preserved c =
    let note : ℕ → SlotNote = λ slot. note_for c.args.holdings.now (item_at c.args.placed.now slot) in
    let is : c.in_ok-note_for.field-0 ≡ note c.loop-slot.slot = c.in_ok-note_for.ensures ∙ ap (note_for c.args.holdings.now) c.item_at.ensures in
    rw (c.in_ok-push.ensures.items, is)
    (made_on note c.loop-slot.notes.items (map note (range_with_len 0 c.args.count)) c.loop-slot.slot c.args.count c.loop-slot-test.true c.loop-slot.invariant)
