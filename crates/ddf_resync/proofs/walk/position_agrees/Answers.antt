use Rattle.std.proofs.Common.{◌+◌, refl, subst}
use Rattle.ddf_bay.specs.Sectors.{Image}
use Rattle.ddf_read.proofs.OnlyReading.{only_reads_then}
use Rattle.ddf_resync.specs.Agreeing.{AllOrNot, CopyAgrees, PositionAgrees, RowAgrees}
use Rattle.ddf_resync.proofs.Failing.{all_good, all_or_not}
use Rattle.ddf_resync.proofs.walk.position_agrees.Goals as goal

pub rows_agree-requires-clause-fits : goal.rows_agree-requires-clause-fits
rows_agree-requires-clause-fits g c = rw c.in_ok-copies.ensures.reads.reads.same_sizes c.requires.fits

pub returns-clause-agree : goal.returns-clause-agree
returns-clause-agree g c = λ tells.
    let v = c.args.view.now in
    let part = c.args.part.now in
    let held = (g.B.Bay.disks c.args.bay.now).held in
    let good = all_good (λ k. CopyAgrees v held c.args.element part c.args.position (c.args.sector + k)) c.in_ok-copies.copies c.args.count c.if-not-copies.false (c.in_ok-copies.ensures.agree tells) in
    let rows = subst (λ (image : Image). AllOrNot c.in_ok-rows.rows c.args.count (λ k. RowAgrees v image c.args.element part c.args.position (c.args.sector + k))) c.in_ok-copies.ensures.reads.reads.same_held (c.in_ok-rows.ensures.agree tells) in
    all_or_not (λ k. RowAgrees v held c.args.element part c.args.position (c.args.sector + k)) (λ k. PositionAgrees v held c.args.element part c.args.position (c.args.sector + k)) c.in_ok-rows.rows c.args.count c.args.count refl
    (λ k below row. (good k below, row)) (λ k below never two. never two.1) rows

pub returns-in_err-rows-clause-reads : goal.returns-in_err-rows-clause-reads
returns-in_err-rows-clause-reads g c = only_reads_then c.in_ok-copies.ensures.reads c.in_err-rows.ensures.reads
