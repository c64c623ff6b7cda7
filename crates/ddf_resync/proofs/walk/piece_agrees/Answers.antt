use Rattle.std.proofs.Common.{◌≡◌, ⊎_elim, ◌+◌, ◌<◌, ◌≤◌, length, ap, subst, arith}
use Rattle.std.proofs.lemmas.Bool.{cases_lt}
use Rattle.ddf_bay.specs.Sectors.{Image}
use Rattle.ddf_primary.proofs.ShapeFacts.{cell_facts, depth_le}
use Rattle.ddf_array.proofs.Consistent.{position_within}
use Rattle.ddf_read.proofs.OnlyReading.{only_reads_then}
use Rattle.ddf_cells.proofs.BlockOf.{holds_both}
use Rattle.ddf_resync.specs.Agreeing.{AllOrNot, PositionAgrees, SumAgrees}
use Rattle.ddf_resync.proofs.Failing.{all_bad, all_good}
use Rattle.ddf_resync.proofs.walk.piece_agrees.Goals as goal

pub position_agrees-requires-clause-fits : goal.position_agrees-requires-clause-fits
position_agrees-requires-clause-fits g c = rw (c.loop-position.invariant.reads.reads.same_sizes) c.requires.fits

pub position_agrees-requires-clause-sectors : goal.position_agrees-requires-clause-sectors
position_agrees-requires-clause-sectors g c =
    let shape = c.args.part.now.shape in omega (arith, c.requires.sectors, depth_le shape.layout shape.strip shape.blocks)

pub returns-then-not-agree-clause-agree : goal.returns-then-not-agree-clause-agree
returns-then-not-agree-clause-agree g c = λ tells.
    let v = c.args.view.now in
    let part = c.args.part.now in
    let held = (g.B.Bay.disks c.args.bay.now).held in
    let position = c.loop-position.position in
    let here = subst (λ (image : Image). AllOrNot c.in_ok-agree.agree c.args.count (λ k. PositionAgrees v image c.args.element part position (c.args.sector + k))) c.loop-position.invariant.reads.reads.same_held (c.in_ok-agree.ensures.agree tells) in
    let bad = all_bad (λ k. PositionAgrees v held c.args.element part position (c.args.sector + k)) c.in_ok-agree.agree c.args.count c.if-not-agree.true here in
    (bad.0, (bad.1.0, λ agrees. bad.1.1 (agrees.copies position, agrees.rows position)))

pub loop-position-preserved : goal.loop-position-preserved
loop-position-preserved g c =
    let v = c.args.view.now in
    let part = c.args.part.now in
    let held = (g.B.Bay.disks c.args.bay.now).held in
    let now = c.loop-position.position in
    record {
      reads = only_reads_then c.loop-position.invariant.reads c.in_ok-agree.ensures.reads;
      agree = λ tells position k under below.
          let here = subst (λ (image : Image). AllOrNot c.in_ok-agree.agree c.args.count (λ k. PositionAgrees v image c.args.element part now (c.args.sector + k))) c.loop-position.invariant.reads.reads.same_held (c.in_ok-agree.ensures.agree tells) in
          let good = all_good (λ k. PositionAgrees v held c.args.element part now (c.args.sector + k)) c.in_ok-agree.agree c.args.count c.if-not-agree.false here in
          ⊎_elim (λ (earlier : position < now). c.loop-position.invariant.agree tells position k earlier below)
          (λ (later : now ≤ position). let same : now ≡ position = omega arith in subst (λ n. PositionAgrees v held c.args.element part n (c.args.sector + k)) same (good k below))
          (cases_lt position now);
    }

pub returns-clause-agree : goal.returns-clause-agree
returns-clause-agree g c = λ tells k below.
    let v = c.args.view.now in
    let part = c.args.part.now in
    let held = (g.B.Bay.disks c.args.bay.now).held in
    let known = c.requires.known.are_parts c.args.element part c.requires.part in
    let n : length c.items-position-end.result.now ≡ length part.places = ap length c.items-position-end.ensures in
    record {
      sum = all_good (λ k. SumAgrees held part (c.args.sector + k)) c.in_ok-sums.sums c.args.count c.if-not-sums.false (c.in_ok-sums.ensures.agree tells) k below;
      copies = λ position block own first block_is own_at first_at.
          let within = position_within part.places position (c.args.sector + k) own own_at in
          (c.loop-position.invariant.agree tells position k (omega (arith, within, n, c.loop-position-test.false)) below).0 block own first block_is own_at first_at;
      rows = λ position mirrored parity block sites block_is none row.
          let held_there = holds_both v c.requires.known c.args.element position (c.args.sector + k) part c.requires.part block block_is in
          let within = (cell_facts part.shape known.shape_is).member_within position (c.args.sector + k) held_there.inner held_there.cell_holds in
          (c.loop-position.invariant.agree tells position k (omega (arith, within, n, known.has_places, c.loop-position-test.false)) below).1 mirrored parity block sites block_is none row;
    }

pub returns-in_err-agree-clause-reads : goal.returns-in_err-agree-clause-reads
returns-in_err-agree-clause-reads g c = only_reads_then c.loop-position.invariant.reads c.in_err-agree.ensures.reads
