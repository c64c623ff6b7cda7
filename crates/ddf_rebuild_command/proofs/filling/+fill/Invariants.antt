use Rattle.std.proofs.Common.{length}
use Rattle.ddf_rebuild_command.proofs.filling.+fill.Given as goal

abbrev pub decreases-fill : goal.decreases-fill
decreases-fill g l = length l.rows.now
