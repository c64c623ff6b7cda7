use Rattle.std.proofs.Common.{refl}
use Rattle.ddf_tables.proofs.SectorValues.{controller_again}
use Rattle.ddf_copy.specs.Written.{controller_written}
use Rattle.ddf_copy.proofs.sections.controller_in.Goals as goal

pub returns-in-Ok-clause-written : goal.returns-in-Ok-clause-written
unfolding controller_written
returns-in-Ok-clause-written c = controller_again c.in-Ok.controller c.args.sector.now ((c.in-Ok.ensures.ok c.in-Ok.controller).0 refl)
