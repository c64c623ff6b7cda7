use Rattle.std.proofs.Common.{sym}
use Rattle.ddf_hidden_logs.specs.Masks.{mask_of}
use Rattle.ddf_hidden_logs.specs.TurnLaws.{turn_twice}
use Rattle.ddf_hidden_logs.proofs.hidden.Hidden.into_inner.Goals as goal

pub returns-clause-back : goal.returns-clause-back
returns-clause-back g c = λ s l. sym (turn_twice (mask_of c.args.self.masks.items s) l ((g.B.Bay.disks c.args.self.inner).held s l))
