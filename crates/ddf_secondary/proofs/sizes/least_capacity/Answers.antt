use Rattle.std.proofs.Common.{arith, length, ◌<◌}
use Rattle.std.proofs.lemmas.Option.{slice_get_within}
use Rattle.ddf_secondary.proofs.SizeFacts.{reached_more, least_more, least_is}
use Rattle.ddf_secondary.proofs.sizes.least_capacity.Goals as goal

pub loop-size-preserved : goal.loop-size-preserved
loop-size-preserved c =
    let inside : c.loop-size.size-index < length c.args.sizes.now = omega arith in
    rw c.min-least.ensures
    (record {
      reached = reached_more (λ size. size.capacity) c.args.sizes.now c.loop-size.size-index c.loop-size.least _ inside c.loop-size.invariant.reached;
      least = least_more (λ size. size.capacity) c.args.sizes.now c.loop-size.size-index c.loop-size.least _ inside c.loop-size.invariant.least;
    })

pub returns : goal.returns
returns c =
    least_is (λ size. size.capacity) c.args.sizes.now c.loop-size.least c.loop-size.invariant.reached
    (λ k size at_k. c.loop-size.invariant.least k size (omega (arith, slice_get_within c.args.sizes.now k size at_k)) at_k)
