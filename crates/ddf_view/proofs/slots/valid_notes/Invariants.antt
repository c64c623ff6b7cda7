use Rattle.std.proofs.Common.{◌≡◌, drop}
use Rattle.ddf_config_records.specs.Slots.{valid_notes}
use Rattle.ddf_view.proofs.slots.valid_notes.Given as goal

abbrev pub invariant-loop-slot : goal.invariant-loop-slot
invariant-loop-slot l = valid_notes l.group l.sequence (drop l.slot-index l.slots) ≡ valid_notes l.group l.sequence l.slots
