use Rattle.std.proofs.Common.{◌∙◌, sym, arith}
use Rattle.ddf_secondary.proofs.Blocks.{length-one_after_another}
use Rattle.ddf_secondary.proofs.ConcatenatedSpots.{capacities_are_small}
use Rattle.ddf_secondary.proofs.concatenated.capacity.Goals as goal

pub capacity_of_all-requires : goal.capacity_of_all-requires
capacity_of_all-requires c = omega (arith, capacities_are_small c.args.sizes.now c.requires)

pub returns : goal.returns
returns c = c.capacity_of_all.ensures ∙ sym (length-one_after_another 0 c.args.sizes.now)
