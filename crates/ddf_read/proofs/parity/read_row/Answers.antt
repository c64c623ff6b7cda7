use Rattle.std.proofs.Common.{◌∙◌, ◌<◌, [], length, sym, arith}
use Rattle.std.proofs.lemmas.List.{get_or_default}
use Rattle.ddf_read.specs.Sums.{other_sites}
use Rattle.ddf_read.proofs.OtherCells.{first_sum, row_given, row_failed}
use Rattle.ddf_read.proofs.parity.read_row.Goals as goal

pub returns-in-Ok-clause-tried : goal.returns-in-Ok-clause-tried
returns-in-Ok-clause-tried g c = λ tells.
    let places = c.args.part.now.places in
    let held = (g.B.Bay.disks c.args.bay.now).held in
    let out = c.sum_rows.new.into in
    let some : 0 < length out = omega (arith, c.sum_rows.auto.into, c.from_mut.ensures.len) in
    row_given places c.args.position c.args.sector _ held _ (sym c.has_row.ensures ∙ c.if-not-has_row.false)
    (get_or_default out 0 c.args.into.now [] some
    ∙ first_sum held (other_sites places c.args.sector c.args.position) out some (c.in-Ok.ensures.sums tells))

pub returns-in-Err-clause-tried : goal.returns-in-Err-clause-tried
returns-in-Err-clause-tried g c =
    row_failed c.args.part.now.places c.args.position c.args.sector _ c.in-Err.slot (sym c.has_row.ensures ∙ c.if-not-has_row.false)
    c.in-Err.ensures.among c.in-Err.ensures.failed
