use Rattle.std.proofs.Common.{◌∙◌, refl, sym, arith}
use Rattle.ddf_read.proofs.Followers.{follow_more}
use Rattle.ddf_read.proofs.stretch.stretch_at.Goals as goal

pub loop-count-preserved : goal.loop-count-preserved
loop-count-preserved c =
    let more = c.left_in_strip-count-in-loop-count in
    record {
      some = omega (arith, more.ensures.some);
      within = omega (arith, more.ensures.within, c.loop-count-test.true);
      follow =
          follow_more c.args.view.now c.args.start c.loop-count.count more.result c.args.first c.loop-count.invariant.follow more.ensures.along
          (sym c.first_copy.ensures ∙ c.if-not-lies_behind.ensures.yes refl);
    }
