use Rattle.std.proofs.Common.{sym}
use Rattle.ddf_linux.specs.Kinds.{kind_at}
use Rattle.ddf_linux.specs.TurnLaws.{turn_twice}
use Rattle.ddf_linux.proofs.turned.Turned.into_inner.Goals as goal

pub returns-clause-back : goal.returns-clause-back
returns-clause-back g c = λ s l. sym (turn_twice (kind_at c.args.self.kinds s) l ((g.B.Bay.disks c.args.self.inner).held s l))
