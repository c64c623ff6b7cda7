use Rattle.ddf_secondary.proofs.SpotFacts.{spot_facts}
use Rattle.ddf_secondary.proofs.laws.two_blocks_never_share_a_spot.Goals as goal

pub returns : goal.returns
returns c = λ tiers spot a b array in_a in_b. (spot_facts tiers array).apart spot a b in_a in_b
