use Rattle.std.proofs.Common.{◌≡◌}
use Rattle.ddf_config_records.specs.NoteRecords.{notes_of_slots}
use Rattle.ddf_config_records.proofs.notes_reading.slot_notes.Given as goal

abbrev pub invariant-loop-slot : goal.invariant-loop-slot
invariant-loop-slot l = l.notes.items ≡ notes_of_slots l.most l.slot l.bytes
