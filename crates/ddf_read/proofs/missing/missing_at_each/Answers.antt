use Rattle.std.proofs.Common.{◌∙◌, ap, sym, length, arith}
use Rattle.ddf_array.specs.Sources.{at_element, element_rows}
use Rattle.ddf_read.proofs.MissingCells.{missing_found, missing_more}
use Rattle.ddf_read.proofs.missing.missing_at_each.Goals as goal

pub returns-then-is_some : goal.returns-then-is_some
returns-then-is_some c =
    let n = ap length c.parts-element-end.ensures.parts in
    missing_found c.args.view.now (at_element c.args.view.now.parts element_rows c.args.block) c.loop-element.element c.loop-element.invariant (length c.args.view.now.parts)
    (omega (arith, n, c.loop-element-test.true)) c.missing_at-missing.result (sym c.is_some.ensures ∙ c.if-is_some.true) c.missing_at-missing.ensures

pub loop-element-preserved : goal.loop-element-preserved
loop-element-preserved c =
    missing_more c.args.view.now (at_element c.args.view.now.parts element_rows c.args.block) c.loop-element.element c.loop-element.invariant
    c.missing_at-missing.result (sym c.is_some.ensures ∙ c.if-is_some.false) c.missing_at-missing.ensures
