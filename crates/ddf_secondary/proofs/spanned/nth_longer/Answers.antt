use Rattle.ddf_secondary.proofs.Longer.{no_more_longer}
use Rattle.ddf_secondary.proofs.spanned.nth_longer.Goals as goal

pub unreachable-requires : goal.unreachable-requires
unreachable-requires c =
    no_more_longer c.args.sizes.now _ c.args.row _ c.args.place c.loop-element-test.false c.requires.within c.loop-element.invariant
