use Rattle.ddf_repair.proofs.Begins.{is_allowed, is_fresh}
use Rattle.ddf_repair.proofs.laws.a_rebuild_that_begins_is_not_refused.Goals as goal

pub returns : goal.returns
returns c = λ config guid seats aside target change h. is_allowed config guid seats aside change (is_fresh config guid seats aside target change h)
