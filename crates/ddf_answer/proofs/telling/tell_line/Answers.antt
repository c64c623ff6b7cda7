use Rattle.ddf_answer.specs.Status.{code_of}
use Rattle.ddf_answer.proofs.Told.{untold}
use Rattle.ddf_answer.proofs.telling.tell_line.Goals as goal

pub returns-in-Err-clause-ends : goal.returns-in-Err-clause-ends
returns-in-Err-clause-ends g c = untold (g.T.Display.output c.args.text.now) (code_of c.args.status) g.K.Sink.tells (g.K.Sink.output c.args.sink.now)
