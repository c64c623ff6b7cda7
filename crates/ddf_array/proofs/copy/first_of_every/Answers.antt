use Rattle.std.proofs.Common.{◌∙◌, ap, sym, arith, length}
use Rattle.ddf_lemmas.proofs.Options.{none_from_not_some}
use Rattle.ddf_array.specs.Sources.{element_copies, at_element}
use Rattle.ddf_array.proofs.Firsts.{none_more, first_found, by_some}
use Rattle.ddf_array.proofs.copy.first_of_every.Goals as goal

pub returns-then-is_some : goal.returns-then-is_some
returns-then-is_some c =
    let parts = c.args.view.now.parts in
    let n = ap length c.parts-element-end.ensures.parts in
    by_some _ _ (sym c.is_some.ensures ∙ c.if-is_some.true)
    (λ x is. first_found (at_element parts element_copies c.args.block) (length parts) c.loop-element.element x c.loop-element.invariant (omega (arith, n, c.loop-element-test.true)) (sym c.first_at-site.ensures ∙ is))

pub loop-element-preserved : goal.loop-element-preserved
loop-element-preserved c =
    none_more (at_element c.args.view.now.parts element_copies c.args.block) c.loop-element.element c.loop-element.invariant
    (sym c.first_at-site.ensures ∙ none_from_not_some _ (sym c.is_some.ensures ∙ c.if-is_some.false))
