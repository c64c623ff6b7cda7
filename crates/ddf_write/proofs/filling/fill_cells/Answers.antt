use Rattle.std.proofs.Common.{◌≡◌, ◌≢◌, ◌∙◌, ◌+◌, ◌-◌, ◌/◌, Some, length, take, drop, ap, subst, arith}
use Rattle.ddf_lemmas.proofs.Lists.{length_of_rest}
use Rattle.ddf_primary.specs.Cells.{parity_member}
use Rattle.ddf_array.specs.Rows.{cell_value}
use Rattle.ddf_cells.proofs.Piecewise.{piece_more}
use Rattle.ddf_write.specs.Writing.{IsTouched}
use Rattle.ddf_write.proofs.filling.fill_cells.Goals as goal

pub fill_first-at-requires-clause-holds_data : goal.fill_first-at-requires-clause-holds_data
fill_first-at-requires-clause-holds_data c = λ k below.
    let part = c.args.part.now in
    let same : c.args.sector + (c.loop-at.at + k) ≡ c.args.sector + c.loop-at.at + k = omega arith in
    subst (λ x. parity_member part.shape (x / part.shape.strip) ≢ Some c.args.position) same (c.requires.holds_data (c.loop-at.at + k) (omega (arith, below, length_of_rest c.loop-at.out c.loop-at.at, c.loop-at.auto.out)))

pub fill_first-at-requires-clause-touched : goal.fill_first-at-requires-clause-touched
fill_first-at-requires-clause-touched c = λ k below.
    let same : c.args.sector + (c.loop-at.at + k) ≡ c.args.sector + c.loop-at.at + k = omega arith in
    subst (λ x. IsTouched c.args.view.now c.args.start (length c.args.from.now) c.args.element x) same (c.requires.touched (c.loop-at.at + k) (omega (arith, below, length_of_rest c.loop-at.out c.loop-at.at, c.loop-at.auto.out)))

pub loop-at-preserved : goal.loop-at-preserved
loop-at-preserved c =
    let v = c.args.view.now in
    let long : length (take (length c.loop-at.out - c.loop-at.at) (drop c.loop-at.at c.loop-at.out)) ≡ length c.args.out.now - c.loop-at.at =
    length_of_rest c.loop-at.out c.loop-at.at ∙ ap (λ n. n - c.loop-at.at) c.loop-at.auto.out in
    record {
      inside = omega (arith, c.fill_first-at.ensures.within, long, c.loop-at.invariant.inside);
      values = λ entry image filled values.
          piece_more (λ k bytes. bytes ≡ cell_value v image c.args.element c.args.part.now (c.args.sector + k) c.args.position) c.loop-at.out c.fill_first-at.new.out _ c.loop-at.at c.fill_first-at.result
          (omega (arith, c.loop-at.invariant.inside, c.loop-at.auto.out)) (omega (arith, c.fill_first-at.ensures.within, c.fill_first-at.auto.out))
          (c.loop-at.invariant.values entry image filled values)
          (λ k below.
          let same : c.args.sector + c.loop-at.at + k ≡ c.args.sector + (c.loop-at.at + k) = omega arith in
          c.fill_first-at.ensures.values entry image filled values k below ∙ ap (λ n. cell_value v image c.args.element c.args.part.now n c.args.position) same);
    }

pub returns : goal.returns
returns c = record { values = λ entry image filled values k below. c.loop-at.invariant.values entry image filled values k (omega (arith, below, c.loop-at-test.false, c.loop-at.auto.out)) }
