use Rattle.std.proofs.Common.{◌∙◌}
use Rattle.ddf_badblocks.proofs.Apart.{on_is}
use Rattle.ddf_badblocks.proofs.exchange.Exchange.is_on.Goals as goal

pub returns : goal.returns
returns c = rw (← c.self.view_is) (c.all_lie_on.ensures ∙ rw c.as_slice.ensures.value (on_is c.args.size c.self.inside.ranges.items c.self.inside.sides.items c.self.invariant))
