use Rattle.ddf_tables.proofs.SectorValues.{controller_both_ways, controller_writable}
use Rattle.ddf_tables.proofs.controller.decode_controller.Goals as goal

pub returns-clause-ok : goal.returns-clause-ok
returns-clause-ok c = controller_both_ways c.args.sector.now c.read.result c.told-sector c.fits-sector c.read.ensures

pub returns-clause-writable : goal.returns-clause-writable
returns-clause-writable c = controller_writable c.args.sector.now c.read.result c.told-sector c.fits-sector c.read.ensures
