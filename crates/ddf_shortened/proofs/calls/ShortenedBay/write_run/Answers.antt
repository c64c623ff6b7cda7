use Rattle.std.proofs.Common.{length}
use Rattle.std.specs.Prelude.{slice_index}
use Rattle.ddf_shortened.specs.Sizes.{seen_sizes}
use Rattle.ddf_shortened.proofs.Seen.{run_below, slot_below}
use Rattle.ddf_shortened.proofs.Behind.{keeps_from}
use Rattle.ddf_shortened.proofs.calls.ShortenedBay.write_run.Goals as goal

pub write_run-requires-clause-slot : goal.write_run-requires-clause-slot
write_run-requires-clause-slot g c = slot_below c.args.self.now.ends.slots (g.B.Bay.disks c.args.self.now.inner).sizes c.args.slot c.requires.slot

pub write_run-requires-clause-sectors : goal.write_run-requires-clause-sectors
write_run-requires-clause-sectors g c =
    run_below c.args.self.now.ends.slots (g.B.Bay.disks c.args.self.now.inner).sizes c.args.slot c.args.lba (length c.args.from.now) c.requires.sectors

pub returns-clause-behind : goal.returns-clause-behind
returns-clause-behind g c =
    let old = g.B.Bay.disks c.args.self.now.inner in
    keeps_from
    old
    (g.B.Bay.disks c.write_run.new.self)
    c.args.slot
    c.args.lba
    c.args.from.now
    (slice_index (seen_sizes c.args.self.now.ends.slots old.sizes) c.args.slot)
    c.requires.sectors
    c.write_run.result
    c.write_run.ensures.held
    c.write_run.ensures.held_failed
    c.write_run.ensures.left
    c.write_run.ensures.any_moment
