use Rattle.std.proofs.Common.{◌≡◌, ◌∙◌, ◌+◌, ◌-◌, length, take, drop, ap, arith}
use Rattle.std.proofs.lemmas.Result.{err_from_is_err_and}
use Rattle.ddf_lemmas.proofs.Lists.{length_of_rest}
use Rattle.ddf_read.proofs.Counted.{calls_more}
use Rattle.ddf_read.proofs.OnlyReading.{only_reads_then, failed_before, failed_behind}
use Rattle.ddf_read.proofs.Pieces.{given_more, left_more}
use Rattle.ddf_read.proofs.SourceSlots.{slot_on}
use Rattle.ddf_read.proofs.read.read_all.Goals as goal

pub read_first-requires-clause-fits : goal.read_first-requires-clause-fits
read_first-requires-clause-fits g c = rw c.loop-at.invariant.reads.reads.same_sizes c.requires.fits

pub read_first-requires-clause-sources : goal.read_first-requires-clause-sources
read_first-requires-clause-sources g c = λ k below.
    let same : c.args.start + (c.loop-at.at + k) ≡ c.args.start + c.loop-at.at + k = omega arith in
    rw (← same) (c.requires.sources (c.loop-at.at + k) (omega (arith, below, length_of_rest c.loop-at.out c.loop-at.at, c.loop-at.auto.out)))

pub returns-in_err-at-clause-left : goal.returns-in_err-at-clause-left
returns-in_err-at-clause-left g c =
    let p = err_from_is_err_and c.from_residual.result c.from_residual.ensures.1 in
    rw (p.1, p.2)
    (left_more c.loop-at.invariant.reads c.in_err-at.ensures.reads c.args.view.now c.args.start c.loop-at.at _ (length c.args.out.now) _
    (omega (arith, length_of_rest c.loop-at.out c.loop-at.at, c.loop-at.auto.out, c.loop-at-test.true)) c.in_err-at.ensures.left)

pub returns-in_err-at-clause-calls : goal.returns-in_err-at-clause-calls
returns-in_err-at-clause-calls g c = λ copied none_failed.
    let left = c.in_err-at.ensures.left in
    let on = slot_on c.args.view.now (c.args.start + c.loop-at.at + left.block) _ left.none_left.is_of_first in
    absurd (none_failed _ on (failed_before c.loop-at.invariant.reads c.in_err-at.ensures.reads _ left.none_left.this_failed))

pub loop-at-preserved : goal.loop-at-preserved
loop-at-preserved g c =
    let so_far = c.loop-at.invariant.reads in
    let next = c.in_ok-at.ensures.reads in
    let long : length (take (length c.loop-at.out - c.loop-at.at) (drop c.loop-at.at c.loop-at.out)) ≡ length c.args.out.now - c.loop-at.at =
    length_of_rest c.loop-at.out c.loop-at.at ∙ ap (λ n. n - c.loop-at.at) c.loop-at.auto.out in
    record {
      inside = omega (arith, c.in_ok-at.ensures.within, long, c.loop-at.invariant.inside);
      reads = only_reads_then so_far next;
      given = λ tells.
          given_more so_far next c.args.view.now c.args.start c.loop-at.at c.in_ok-at.field-0 c.loop-at.out c.read_first.new.out _
          (omega (arith, c.loop-at.invariant.inside, c.loop-at.auto.out)) (omega (arith, c.in_ok-at.ensures.within, c.read_first.auto.out))
          (c.loop-at.invariant.given tells) (c.in_ok-at.ensures.given tells);
      calls = λ copied none_failed.
          let here = rw long at (c.in_ok-at.ensures.calls
          (λ k below.
          let same : c.args.start + (c.loop-at.at + k) ≡ c.args.start + c.loop-at.at + k = omega arith in
          rw (← same) (copied (c.loop-at.at + k) (omega (arith, below, long))))
          (λ slot on rose. none_failed slot on (failed_before so_far next slot rose))) in
          calls_more c.args.view.now c.args.start c.loop-at.at c.in_ok-at.field-0 (length c.args.out.now) _ _ _
          (c.loop-at.invariant.calls copied (λ slot on rose. none_failed slot on (failed_behind so_far next slot rose))) here;
    }
