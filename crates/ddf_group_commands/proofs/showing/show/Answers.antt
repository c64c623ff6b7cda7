use Rattle.std.proofs.Common.{Ok, Err}
use Rattle.ddf_group_commands.proofs.ShowEnds.{show_ends}
use Rattle.ddf_group_commands.proofs.showing.show.Goals as goal

pub returns-in-Ok-clause-done : goal.returns-in-Ok-clause-done
returns-in-Ok-clause-done g c = record { found = Ok c.in-Ok.group; read = c.in-Ok.ensures.read; ends = c.tell_group.ensures.told }

pub returns-in-Err-clause-done : goal.returns-in-Err-clause-done
returns-in-Err-clause-done g c = record { found = Err c.in-Err.failure; read = c.in-Err.ensures.read; ends = c.tell_failure.ensures.told }

pub returns-in-Ok-clause-ends : goal.returns-in-Ok-clause-ends
returns-in-Ok-clause-ends g c = show_ends _ _ _ c.tell_group.ensures.stream c.in-Ok.ensures.reads (returns-in-Ok-clause-done g c)

pub returns-in-Err-clause-ends : goal.returns-in-Err-clause-ends
returns-in-Err-clause-ends g c = show_ends _ _ _ c.tell_failure.ensures.stream c.in-Err.ensures.reads (returns-in-Err-clause-done g c)
