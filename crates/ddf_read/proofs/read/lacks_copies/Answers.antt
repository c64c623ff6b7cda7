use Rattle.std.proofs.Common.{◌∙◌, ◌+◌, sym, arith}
use Rattle.ddf_read.specs.Refused.{lacks_copy}
use Rattle.ddf_read.proofs.Lacking.{any_more, any_hit, lacks_along}
use Rattle.ddf_read.proofs.read.lacks_copies.Goals as goal

pub returns-then-lacks_copy : goal.returns-then-lacks_copy
returns-then-lacks_copy c =
    sym (any_hit (lacks_copy c.args.view.now) c.args.start c.args.count c.loop-at.at c.loop-at-test.true (sym c.lacks_copy.ensures ∙ c.if-lacks_copy.true))

pub loop-at-preserved : goal.loop-at-preserved
loop-at-preserved c = record {
  inside = omega (arith, c.left_in_strip-at.ensures.within, c.loop-at-test.true);
  none = any_more (lacks_copy c.args.view.now) c.args.start c.loop-at.at c.left_in_strip-at.result c.loop-at.invariant.none
      (λ j below. lacks_along c.args.view.now (c.args.start + c.loop-at.at) c.left_in_strip-at.result j c.left_in_strip-at.ensures.along below (sym c.lacks_copy.ensures ∙ c.if-lacks_copy.false));
}
