use Rattle.std.proofs.Common.{arith}
use Rattle.ddf_secondary.proofs.SpotFacts.{spot_facts, carried_le}
use Rattle.ddf_secondary.proofs.laws.every_block_lies_within_its_element.Goals as goal

pub returns-clause-element : goal.returns-clause-element
returns-clause-element c = λ tiers spot block array holds. (spot_facts tiers array).element_within spot block holds

pub returns-clause-block : goal.returns-clause-block
returns-clause-block c = λ tiers spot block array holds. (spot_facts tiers array).block_within spot block holds

pub returns-clause-capacity : goal.returns-clause-capacity
returns-clause-capacity c = λ tiers spot block array holds fits.
    let facts = spot_facts tiers array in
    omega (arith, facts.block_within spot block holds, carried_le tiers spot.element array (facts.element_within spot block holds) fits)
