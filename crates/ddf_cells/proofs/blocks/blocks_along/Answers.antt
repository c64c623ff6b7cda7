use Rattle.ddf_cells.proofs.AlongStrips.{blocks_lie}
use Rattle.ddf_cells.proofs.blocks.blocks_along.Goals as goal

pub returns-then-left-most-clause-follow : goal.returns-then-left-most-clause-follow
returns-then-left-most-clause-follow c = λ element position sector k at below.
    blocks_lie c.args.view.now c.capacity.ensures.sound c.args.block c.left_in_strip.result c.left_in_strip.ensures.along element position sector at k below

pub returns-clause-follow : goal.returns-clause-follow
returns-clause-follow c = λ element position sector k at below.
    blocks_lie c.args.view.now c.capacity.ensures.sound c.args.block c.left_in_strip-2.result c.left_in_strip-2.ensures.along element position sector at k below
