use Rattle.std.proofs.Common.{arith}
use Rattle.std.proofs.lemmas.List.Sums.{sum_by_more_le}
use Rattle.ddf_secondary.specs.declared.element.ElementSize.{ElementSize}
use Rattle.ddf_secondary.proofs.ConcatenatedSpots.{capacities_are_small, front_is_small, concatenated_block}
use Rattle.ddf_secondary.proofs.concatenated.block_of_spot.Goals as goal

pub capacity_of_all-requires : goal.capacity_of_all-requires
capacity_of_all-requires c = omega (arith, front_is_small c.args.sizes.now c.args.spot.element c.requires.array)

pub overflow_add-result : goal.overflow_add-result
overflow_add-result c =
    let more = sum_by_more_le (λ (size : ElementSize). size.capacity) c.args.sizes.now c.args.spot.element (record { capacity = 0; unit = 0; rows = 0 }) c.requires.element in
    rw c.capacity_of_all.ensures
    (omega (arith, more, c.requires.within, capacities_are_small c.args.sizes.now c.requires.array))

pub returns : goal.returns
returns c = λ block.
    rw c.capacity_of_all.ensures
    (concatenated_block c.args.sizes.now c.args.spot block c.requires.element c.requires.within)
