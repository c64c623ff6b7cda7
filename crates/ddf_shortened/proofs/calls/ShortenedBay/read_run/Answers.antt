use Rattle.std.proofs.Common.{length}
use Rattle.ddf_shortened.proofs.Seen.{run_below, slot_below}
use Rattle.ddf_shortened.proofs.calls.ShortenedBay.read_run.Goals as goal

pub read_run-requires-clause-slot : goal.read_run-requires-clause-slot
read_run-requires-clause-slot g c = slot_below c.args.self.now.ends.slots (g.B.Bay.disks c.args.self.now.inner).sizes c.args.slot c.requires.slot

pub read_run-requires-clause-sectors : goal.read_run-requires-clause-sectors
read_run-requires-clause-sectors g c =
    run_below c.args.self.now.ends.slots (g.B.Bay.disks c.args.self.now.inner).sizes c.args.slot c.args.lba (length c.args.into.now) c.requires.sectors
