use Rattle.std.proofs.Common.{append_assoc}
use Rattle.ddf_text.proofs.records.DiskLineDisplay.fmt.Goals as goal

pub returns-clause-writes : goal.returns-clause-writes
returns-clause-writes g c = simp append_assoc c.writeln.ensures.writes
