use Rattle.std.proofs.Common.{refl}
use Rattle.ddf_group_commands.proofs.ChangeEnds.{assemble_ends}
use Rattle.ddf_group_commands.proofs.ToldGroup.{failure_done, text_done}
use Rattle.ddf_group_commands.proofs.assembling.assemble_disks.Goals as goal

pub returns-in-Ok-clause-done : goal.returns-in-Ok-clause-done
returns-in-Ok-clause-done g c = text_done c.in-Ok.ensures.told (rw c.as_bytes.ensures.value at c.tell.ensures.ends)

pub returns-in-Err-clause-done : goal.returns-in-Err-clause-done
returns-in-Err-clause-done g c = failure_done c.in-Err.ensures.told c.tell_failure.ensures.told

pub returns-in-Ok-clause-ends : goal.returns-in-Ok-clause-ends
returns-in-Ok-clause-ends g c =
    assemble_ends _ refl refl refl _ _ c.tell.ensures.stream c.assembled.ensures.goes_on c.assembled.ensures.same_sizes _ _ (returns-in-Ok-clause-done g c)

pub returns-in-Err-clause-ends : goal.returns-in-Err-clause-ends
returns-in-Err-clause-ends g c =
    assemble_ends _ refl refl refl _ _ c.tell_failure.ensures.stream c.assembled.ensures.goes_on c.assembled.ensures.same_sizes _ _ (returns-in-Err-clause-done g c)
