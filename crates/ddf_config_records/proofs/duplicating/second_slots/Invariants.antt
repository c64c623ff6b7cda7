use Rattle.std.proofs.Common.{◌≡◌, take}
use Rattle.ddf_config_records.proofs.duplicating.second_slots.Given as goal

abbrev pub invariant-loop-note : goal.invariant-loop-note
invariant-loop-note l = l.second.items ≡ take l.note-index l.slots
