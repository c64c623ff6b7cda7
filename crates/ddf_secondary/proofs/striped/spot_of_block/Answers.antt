use Rattle.ddf_secondary.proofs.StripedSpots.{striped_spot}
use Rattle.ddf_secondary.proofs.striped.spot_of_block.Goals as goal

pub returns : goal.returns
returns c = rw c.unit_of-unit.ensures (striped_spot c.args.sizes.now c.args.block c.requires.within)
