use Rattle.std.proofs.Common.{[], ◌∷◌, arith}
use Rattle.std.specs.Prelude.{slice_index}
use Rattle.ddf_shortened.specs.Sizes.{seen_sizes}
use Rattle.ddf_shortened.proofs.Seen.{sector_below, slot_below}
use Rattle.ddf_shortened.proofs.Behind.{keeps_from}
use Rattle.ddf_shortened.proofs.calls.ShortenedBay.write.Goals as goal

pub write-requires-clause-slot : goal.write-requires-clause-slot
write-requires-clause-slot g c = slot_below c.args.self.now.ends.slots (g.B.Bay.disks c.args.self.now.inner).sizes c.args.slot c.requires.slot

pub write-requires-clause-sector : goal.write-requires-clause-sector
write-requires-clause-sector g c = sector_below c.args.self.now.ends.slots (g.B.Bay.disks c.args.self.now.inner).sizes c.args.slot c.args.lba c.requires.sector

pub returns-clause-behind : goal.returns-clause-behind
returns-clause-behind g c =
    let old = g.B.Bay.disks c.args.self.now.inner in
    keeps_from
    old
    (g.B.Bay.disks c.write.new.self)
    c.args.slot
    c.args.lba
    (c.args.from.now ∷ [])
    (slice_index (seen_sizes c.args.self.now.ends.slots old.sizes) c.args.slot)
    (omega (arith, c.requires.sector))
    c.write.result
    c.write.ensures.held
    c.write.ensures.held_failed
    c.write.ensures.left
    c.write.ensures.any_moment
