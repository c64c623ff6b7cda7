use Rattle.std.proofs.Common.{refl}
use Rattle.ddf_tables.proofs.SectorValues.{disk_data_again}
use Rattle.ddf_copy.specs.Written.{disk_data_written}
use Rattle.ddf_copy.proofs.sections.disk_data_in.Goals as goal

pub returns-in-Ok-clause-written : goal.returns-in-Ok-clause-written
unfolding disk_data_written
returns-in-Ok-clause-written c = disk_data_again c.in-Ok.disk c.args.sector.now ((c.in-Ok.ensures.ok c.in-Ok.disk).0 refl)
