use Rattle.ddf_tables.proofs.SectorValues.{disk_data_both_ways, disk_data_writable}
use Rattle.ddf_tables.proofs.disk_data.decode_disk_data.Goals as goal

pub returns-clause-ok : goal.returns-clause-ok
returns-clause-ok c = disk_data_both_ways c.args.sector.now c.read.result c.told-sector c.fits-sector c.read.ensures

pub returns-clause-writable : goal.returns-clause-writable
returns-clause-writable c = disk_data_writable c.args.sector.now c.read.result c.told-sector c.fits-sector c.read.ensures
