use Rattle.std.proofs.Common.{Ok, Err, refl}
use Rattle.ddf_group_commands.proofs.ChangeEnds.{wish_ends}
use Rattle.ddf_group_commands.proofs.changing.change.Goals as goal

pub returns-in-Ok-clause-done : goal.returns-in-Ok-clause-done
returns-in-Ok-clause-done g c = record { outcome = Ok c.in-Ok.sequence; wished = c.in-Ok.ensures.changed; ends = rw (c.as_bytes.ensures.value, c.deref.ensures.0, c.sequence_line.ensures) at c.tell.ensures.ends }

pub returns-in-Ok-clause-ends : goal.returns-in-Ok-clause-ends
returns-in-Ok-clause-ends g c =
    wish_ends _ refl refl refl _ _ c.tell.ensures.stream c.changed.ensures.goes_on c.changed.ensures.same_sizes _ _ _ (returns-in-Ok-clause-done g c)

pub returns-in-Err-clause-done : goal.returns-in-Err-clause-done
returns-in-Err-clause-done g c = record { outcome = Err c.in-Err.failure; wished = c.in-Err.ensures.changed; ends = c.tell_failure.ensures.told }

pub returns-in-Err-clause-ends : goal.returns-in-Err-clause-ends
returns-in-Err-clause-ends g c =
    wish_ends _ refl refl refl _ _ c.tell_failure.ensures.stream c.changed.ensures.goes_on c.changed.ensures.same_sizes _ _ _ (returns-in-Err-clause-done g c)
