use Rattle.ddf_secondary.proofs.SpotFacts.{spot_facts}
use Rattle.ddf_secondary.proofs.laws.each_carried_spot_holds_a_block.Goals as goal

pub returns : goal.returns
returns c = λ tiers spot array known near. (spot_facts tiers array).covered spot known near
