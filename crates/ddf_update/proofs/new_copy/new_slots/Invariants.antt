use Rattle.std.proofs.Common.{◌≡◌, ◌-◌, ◌∷◌, replicate}
use Rattle.ddf_config_records.specs.declared.slot.RecordSlot.TheVariants.{Notes}
use Rattle.ddf_update.specs.NewCopies.{new_notes, unused_slot}
use Rattle.ddf_update.proofs.new_copy.new_slots.Given as goal

abbrev pub invariant-loop : goal.invariant-loop
invariant-loop l = l.slots.items ≡ Notes (new_notes l.count l.stamp) ∷ replicate (l.counter - 1) (unused_slot l.size)
