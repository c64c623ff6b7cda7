use Rattle.ddf_command.proofs.Events.{history_answers, history_keeps, history_kept}
use Rattle.ddf_command.proofs.laws.a_group_is_assembled_at_every_moment_of_its_history.Goals as goal

pub returns-clause-answers : goal.returns-clause-answers
returns-clause-answers g c = λ told group start history kept is. history_answers told g.B.Bay.disks group (λ bay. (g.met.B.Bay.told bay).only_now) start history kept is

pub returns-clause-acknowledged : goal.returns-clause-acknowledged
returns-clause-acknowledged g c = λ told group start history kept is. history_keeps told g.B.Bay.disks group (λ bay. (g.met.B.Bay.told bay).only_now) start history kept is

pub returns-clause-kept : goal.returns-clause-kept
returns-clause-kept g c = λ told group start history kept is. history_kept told g.B.Bay.disks group (λ bay. (g.met.B.Bay.told bay).only_now) start history kept is
