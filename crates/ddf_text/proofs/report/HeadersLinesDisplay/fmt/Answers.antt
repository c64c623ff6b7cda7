use Rattle.std.proofs.Common.{append_assoc}
use Rattle.ddf_text.proofs.report.HeadersLinesDisplay.fmt.Goals as goal

pub returns-clause-writes : goal.returns-clause-writes
returns-clause-writes g c = simp append_assoc (simp (c.closed_word-closed.ensures, c.closed_sequence.ensures, c.closed_sequence-2.ensures) at c.writeln.ensures.writes)
