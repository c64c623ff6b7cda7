use Rattle.ddf_shortened.proofs.Seen.{sector_below, slot_below}
use Rattle.ddf_shortened.proofs.calls.ShortenedBay.read.Goals as goal

pub read-requires-clause-slot : goal.read-requires-clause-slot
read-requires-clause-slot g c = slot_below c.args.self.now.ends.slots (g.B.Bay.disks c.args.self.now.inner).sizes c.args.slot c.requires.slot

pub read-requires-clause-sector : goal.read-requires-clause-sector
read-requires-clause-sector g c = sector_below c.args.self.now.ends.slots (g.B.Bay.disks c.args.self.now.inner).sizes c.args.slot c.args.lba c.requires.sector
