use Rattle.ddf_secondary.proofs.SpotFacts.{spot_facts}
use Rattle.ddf_secondary.proofs.tiers.Tiers.locate.Goals as goal

pub returns-clause-element : goal.returns-clause-element
returns-clause-element c =
    let facts = spot_facts c.args.self.now c.spot_of_block.ensures.sound in
    facts.element_within _ _ (facts.named _ _ c.spot_of_block.ensures.spot)

pub returns-clause-block : goal.returns-clause-block
returns-clause-block c =
    let facts = spot_facts c.args.self.now c.spot_of_block.ensures.sound in
    facts.block_within _ _ (facts.named _ _ c.spot_of_block.ensures.spot)

pub returns-clause-holds : goal.returns-clause-holds
returns-clause-holds c = (spot_facts c.args.self.now c.spot_of_block.ensures.sound).named _ _ c.spot_of_block.ensures.spot
