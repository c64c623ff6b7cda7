use Rattle.ddf_batch.proofs.Events.{is_over, lines_history}
use Rattle.ddf_batch.proofs.laws.what_lines_acknowledged_is_held.Goals as goal

pub returns-clause-acknowledged : goal.returns-clause-acknowledged
returns-clause-acknowledged g c = λ told guid old new end done. is_over told g.B.Bay.disks guid old new end done

pub returns-clause-held : goal.returns-clause-held
returns-clause-held g c = λ told guid new history kept is. (
  c.a_group_is_assembled_at_every_moment_of_its_history.ensures.acknowledged told guid new history kept is,
  c.a_group_is_assembled_at_every_moment_of_its_history.ensures.answers told guid new history kept is,
)

pub returns-clause-lines : goal.returns-clause-lines
returns-clause-lines g c = λ told stamp group images guid lines from to refused status ran old moments calls.
    lines_history told g.B.Bay.disks g.K.Sink.tells stamp group images guid lines from to refused status ran old moments calls
