use Rattle.std.proofs.Common.{◌∙◌, ◌<◌, [], length, ap, arith}
use Rattle.std.proofs.lemmas.List.{get_or_default}
use Rattle.ddf_array.specs.Values.{sum_at}
use Rattle.ddf_read.specs.Sums.{other_sites}
use Rattle.ddf_read.proofs.OtherCells.{first_sum, row_sites}
use Rattle.ddf_resync.proofs.rows.read_sum.Goals as goal

pub sum_rows-requires-clause-part : goal.sum_rows-requires-clause-part
sum_rows-requires-clause-part g c = c.requires.known.are_parts c.args.element c.args.part.now c.requires.part

pub sum_rows-requires-clause-fits : goal.sum_rows-requires-clause-fits
sum_rows-requires-clause-fits g c = c.requires.fits c.args.element c.args.part.now c.requires.part

pub returns-in-Ok-clause-sum : goal.returns-in-Ok-clause-sum
returns-in-Ok-clause-sum g c = λ tells sites row_at.
    let places = c.args.part.now.places in
    let held = (g.B.Bay.disks c.args.bay.now).held in
    let out = c.sum_rows.new.into in
    let some : 0 < length out = omega (arith, c.sum_rows.auto.into, c.from_mut.ensures.len) in
    get_or_default out 0 c.args.into.now [] some
    ∙ first_sum held (other_sites places c.args.sector c.args.position) out some (c.in-Ok.ensures.sums tells)
    ∙ ap (sum_at held) (row_sites places c.args.position c.args.sector sites row_at)
