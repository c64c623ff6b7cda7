use Rattle.std.proofs.Common.{◌≡◌, ◌<◌, ◌≤◌, ⊎_elim, length, slice_get, sym, ◌∙◌, ap, arith}
use Rattle.std.proofs.lemmas.Bool.{cases_lt}
use Rattle.std.proofs.lemmas.Option.{slice_get_within}
use Rattle.ddf_read.proofs.StripsAlong.{fewer_along}
use Rattle.ddf_read.proofs.strip.left_at_each.Goals as goal

pub loop-element-preserved : goal.loop-element-preserved
loop-element-preserved c = record {
  some = omega (arith, c.min-left.ensures, c.loop-element.invariant.some, c.left_at.ensures.some);
  along = λ element below part there.
      ⊎_elim
      (λ (earlier : element < c.loop-element.element).
      fewer_along part c.args.block c.loop-element.left c.min-left.result (omega (arith, c.min-left.ensures)) (c.loop-element.invariant.along element earlier part there))
      (λ (last : c.loop-element.element ≤ element).
      let same : element ≡ c.loop-element.element = omega arith in
      fewer_along part c.args.block c.left_at.result c.min-left.result (omega (arith, c.min-left.ensures))
      (c.left_at.ensures.along part (ap (slice_get c.args.view.now.parts) (sym same) ∙ there)))
      (cases_lt element c.loop-element.element);
}

pub returns-clause-along : goal.returns-clause-along
returns-clause-along c = λ element part there.
    let n = ap length c.parts-element-end.ensures.parts in
    c.loop-element.invariant.along element
    (omega (arith, slice_get_within c.args.view.now.parts element part there, n, c.loop-element-test.false)) part there
