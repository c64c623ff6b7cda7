use Rattle.ddf_header.proofs.Decoded.{decodes, decoded_writable, decoded_sound}
use Rattle.ddf_header.proofs.reading.decode.Goals as goal

pub returns-clause-ok : goal.returns-clause-ok
returns-clause-ok c = decodes c.args.kind c.args.sector.now c.read.result c.told-sector c.fits-sector c.read.ensures

pub returns-clause-writable : goal.returns-clause-writable
returns-clause-writable c = decoded_writable c.args.kind c.args.sector.now c.read.result c.told-sector c.fits-sector c.read.ensures

pub returns-clause-sound : goal.returns-clause-sound
returns-clause-sound c = decoded_sound c.args.kind c.args.sector.now c.read.result c.told-sector c.fits-sector c.read.ensures
