use Rattle.std.proofs.Common.{◌≡◌, ⊎_elim, ◌+◌, ◌-◌, ◌*◌, ◌/◌, ◌%◌, ◌<◌, ◌≤◌, sym, ap, subst, arith}
use Rattle.std.proofs.lemmas.Bool.{cases_lt}
use Rattle.std.proofs.lemmas.Nat.{div-add-mod'}
use Rattle.ddf_bay.specs.Sectors.{Image}
use Rattle.ddf_primary.specs.Cells.{depth_of, height_of}
use Rattle.ddf_read.proofs.OnlyReading.{only_reads_then}
use Rattle.ddf_resync.specs.Agreeing.{Agrees, AllOrNot}
use Rattle.ddf_resync.proofs.Failing.{all_bad, all_good}
use Rattle.ddf_resync.proofs.walk.scrub_element.Goals as goal

pub depth_of-depth-requires : goal.depth_of-depth-requires
depth_of-depth-requires g c = c.requires.known.are_parts c.args.element c.args.part.now c.requires.part

pub piece_at-count-requires-clause-height : goal.piece_at-count-requires-clause-height
piece_at-count-requires-clause-height g c =
    omega (arith, c.height-height.ensures.some)

pub piece_agrees-requires-clause-fits : goal.piece_agrees-requires-clause-fits
piece_agrees-requires-clause-fits g c = rw c.loop-sector.invariant.reads.reads.same_sizes c.requires.fits

pub returns-then-not-agree-clause-found : goal.returns-then-not-agree-clause-found
returns-then-not-agree-clause-found g c = λ tells.
    let v = c.args.view.now in
    let part = c.args.part.now in
    let held = (g.B.Bay.disks c.args.bay.now).held in
    let sector = c.loop-sector.sector in
    let count = c.piece_at-count.result in
    let here = subst (λ (image : Image). AllOrNot c.in_ok-agree.agree count (λ k. Agrees v image c.args.element part (sector + k))) c.loop-sector.invariant.reads.reads.same_held (c.in_ok-agree.ensures.agree tells) in
    let bad = all_bad (λ k. Agrees v held c.args.element part (sector + k)) c.in_ok-agree.agree count c.if-not-agree.true here in
    let height_is : c.height-height.result ≡ height_of part.shape = c.height-height.ensures.value in
    let row : sector / c.height-height.result ≡ sector / height_of part.shape = ap (λ n. sector / n) height_is in
    let whole : sector / height_of part.shape * height_of part.shape + sector % height_of part.shape ≡ sector = omega (arith, div-add-mod' sector (height_of part.shape)) in
    let in_row : sector % height_of part.shape + count ≤ height_of part.shape = subst (λ n. sector % n + count ≤ n) height_is c.piece_at-count.ensures.row in
    let from : sector / c.height-height.result * height_of part.shape ≡ sector / height_of part.shape * height_of part.shape = ap (λ n. n * height_of part.shape) row in
    let deep : depth_of part.shape ≡ c.depth_of-depth.result = sym c.depth_of-depth.ensures.value in
    record {
      sector = sector + bad.0;
      from = omega (arith, whole, from);
      below = omega (arith, whole, from, in_row, bad.1.0);
      deep = omega (arith, bad.1.0, c.piece_at-count.ensures.within, c.loop-sector-test.true, deep);
      differs = bad.1.1;
      rows_before = λ s before. c.loop-sector.invariant.agree tells s (omega (arith, before, whole, from));
    }

pub loop-sector-preserved : goal.loop-sector-preserved
loop-sector-preserved g c =
    let v = c.args.view.now in
    let part = c.args.part.now in
    let held = (g.B.Bay.disks c.args.bay.now).held in
    let sector = c.loop-sector.sector in
    let count = c.piece_at-count.result in
    record {
      inside = omega (arith, c.piece_at-count.ensures.within, c.loop-sector-test.true);
      reads = only_reads_then c.loop-sector.invariant.reads c.in_ok-agree.ensures.reads;
      agree = λ tells s below.
          let here = subst (λ (image : Image). AllOrNot c.in_ok-agree.agree count (λ k. Agrees v image c.args.element part (sector + k))) c.loop-sector.invariant.reads.reads.same_held (c.in_ok-agree.ensures.agree tells) in
          let good = all_good (λ k. Agrees v held c.args.element part (sector + k)) c.in_ok-agree.agree count c.if-not-agree.false here in
          ⊎_elim (λ (earlier : s < sector). c.loop-sector.invariant.agree tells s earlier)
          (λ (later : sector ≤ s).
          let same : sector + (s - sector) ≡ s = omega arith in subst (λ n. Agrees v held c.args.element part n) same (good (s - sector) (omega (arith, below, later))))
          (cases_lt s sector);
    }

pub returns-clause-found : goal.returns-clause-found
returns-clause-found g c = λ tells s below.
    let deep : c.depth_of-depth.result ≡ depth_of c.args.part.now.shape = c.depth_of-depth.ensures.value in
    c.loop-sector.invariant.agree tells s (omega (arith, below, deep, c.loop-sector-test.false))

pub returns-in_err-agree-clause-reads : goal.returns-in_err-agree-clause-reads
returns-in_err-agree-clause-reads g c = only_reads_then c.loop-sector.invariant.reads c.in_err-agree.ensures.reads
