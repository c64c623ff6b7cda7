use Rattle.std.specs.Prelude.{slice_index}
use Rattle.ddf_copy.proofs.copies.newest.Goals as goal

pub returns-clause-under : goal.returns-clause-under
returns-clause-under g c = λ anchored.
    c.newest.ensures.under (slice_index ((g.B.Bay.disks c.args.bay.now).sizes) c.args.slot) c.args.anchor.now (c.in_ok-copies.ensures.under anchored)
