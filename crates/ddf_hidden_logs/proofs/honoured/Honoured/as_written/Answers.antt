use Rattle.std.proofs.Common.{rules}
use Rattle.ddf_hidden_logs.proofs.Honouring.{as_it_is}
use Rattle.ddf_hidden_logs.proofs.honoured.Honoured.as_written.Goals as goal

pub returns-clause-held : goal.returns-clause-held
returns-clause-held g c = as_it_is g.B.Bay.disks (record { inner = c.plain.result }) c.args.inner (search rules) (search rules) (search rules)
