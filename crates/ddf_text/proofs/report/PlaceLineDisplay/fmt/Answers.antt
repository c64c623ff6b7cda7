use Rattle.std.proofs.Common.{append_assoc}
use Rattle.ddf_text.proofs.report.PlaceLineDisplay.fmt.Goals as goal

pub returns-clause-writes : goal.returns-clause-writes
returns-clause-writes g c = simp append_assoc (simp c.saturating_sub-last.ensures at c.writeln.ensures.writes)
