use Rattle.std.proofs.Common.{append_assoc}
use Rattle.ddf_text.proofs.report.view_text.Goals as goal

pub returns-in_ok-format-in-Damaged : goal.returns-in_ok-format-in-Damaged
returns-in_ok-format-in-Damaged c = rw c.in-Damaged.is (simp append_assoc c.in_ok-format-in-Damaged.ensures.ok)
