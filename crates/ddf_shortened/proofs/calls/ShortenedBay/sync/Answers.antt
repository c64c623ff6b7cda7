use Rattle.ddf_shortened.proofs.Seen.{slot_below}
use Rattle.ddf_shortened.proofs.calls.ShortenedBay.sync.Goals as goal

pub sync-requires : goal.sync-requires
sync-requires g c = slot_below c.args.self.now.ends.slots (g.B.Bay.disks c.args.self.now.inner).sizes c.args.slot c.requires
