use Rattle.std.proofs.Common.{◌≡◌, take}
use Rattle.ddf_seal.specs.Unread.{written}
use Rattle.ddf_config_records.specs.declared.layout.TheConstants.{NOTES_AT}
use Rattle.ddf_config_records.specs.NoteRecords.{all_note_fields}
use Rattle.ddf_config_records.proofs.notes_writing.put_notes.Given as goal

abbrev pub invariant-loop-slot : goal.invariant-loop-slot
invariant-loop-slot l = l.into ≡ written (all_note_fields l.most NOTES_AT (take l.slot l.notes)) l.initial.into
