use Rattle.std.proofs.Common.{◌≡◌, replicate}
use Rattle.ddf_update.specs.NewCopies.{no_note}
use Rattle.ddf_update.proofs.new_copy.new_notes.Given as goal

abbrev pub invariant-loop : goal.invariant-loop
invariant-loop l = l.slots.items ≡ replicate l.counter no_note
