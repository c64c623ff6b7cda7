use Rattle.std.proofs.Common.{◌∙◌, sym}
use Rattle.ddf_secondary.proofs.Blocks.{in_element, past_element, past_all}
use Rattle.ddf_secondary.proofs.concatenated.spot_of_block.Goals as goal

pub returns-then-left-size : goal.returns-then-left-size
returns-then-left-size c =
    sym c.loop-element.invariant ∙ in_element c.args.sizes.now _ _ _ c.loop-element-test.true c.if-left-size.true

pub loop-element-preserved : goal.loop-element-preserved
loop-element-preserved c =
    sym (past_element c.args.sizes.now _ _ _ c.loop-element-test.true c.if-left-size.false) ∙ c.loop-element.invariant

pub unreachable-requires : goal.unreachable-requires
unreachable-requires c =
    past_all c.args.sizes.now _ _ _ c.loop-element-test.false c.requires.within c.loop-element.invariant
