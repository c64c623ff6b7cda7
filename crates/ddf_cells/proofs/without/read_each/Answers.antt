use Rattle.std.proofs.Common.{length, arith}
use Rattle.std.proofs.lemmas.Result.{err_from_is_err_and}
use Rattle.ddf_read.proofs.OnlyReading.{only_reads_then}
use Rattle.ddf_cells.proofs.WithoutSteps.{given_one_more, left_one}
use Rattle.ddf_cells.proofs.without.read_each.Goals as goal

pub read_one-requires-clause-fits : goal.read_one-requires-clause-fits
read_one-requires-clause-fits g c = rw c.loop-at.invariant.reads.reads.same_sizes c.requires.fits

pub returns-in_err-read_one-clause-left : goal.returns-in_err-read_one-clause-left
returns-in_err-read_one-clause-left g c =
    let p = err_from_is_err_and c.from_residual.result c.from_residual.ensures.1 in
    rw (p.1, p.2) (left_one c.loop-at.invariant.reads c.in_err-read_one.ensures.reads c.args.marked c.args.part.now c.args.position c.args.sector c.loop-at.at (length c.args.out.now) _ c.loop-at-test.true c.in_err-read_one.ensures.left)

pub loop-at-preserved : goal.loop-at-preserved
loop-at-preserved g c = record {
  reads = only_reads_then c.loop-at.invariant.reads c.in_ok-read_one.ensures.reads;
  given = λ tells.
      given_one_more c.loop-at.invariant.reads c.in_ok-read_one.ensures.reads c.args.marked c.args.part.now c.args.position c.args.sector c.loop-at.at c.loop-at.out c.read_one.new.into
      (omega (arith, c.loop-at-test.true, c.loop-at.auto.out)) (c.loop-at.invariant.given tells) (c.in_ok-read_one.ensures.given tells);
}
