use Rattle.std.proofs.Common.{◌≤◌, ◌+◌, length, arith}
use Rattle.ddf_read.proofs.Counted.{counted}
use Rattle.ddf_read.proofs.read.read_first.Goals as goal

pub returns-clause-calls : goal.returns-clause-calls
returns-clause-calls g c = λ copied none_failed.
    let one : (g.B.Bay.disks c.read_stretch.new.bay).calls ≤ (g.B.Bay.disks c.args.bay.now).calls + 1 = c.in_ok-read_stretch.ensures.calls none_failed in
    omega (arith, one, counted c.args.view.now c.in-Some.first c.stretch_at-count.result c.args.start (length c.args.out.now) c.stretch_at-count.ensures)
