use Rattle.std.proofs.Common.{◌∙◌, sym}
use Rattle.ddf_array.proofs.Elements.{every_below, spot_below}
use Rattle.ddf_read.proofs.BlockSources.{kind_every, kind_one}
use Rattle.ddf_read.proofs.block.read_by.Goals as goal

pub read_at_each-requires-clause-block : goal.read_at_each-requires-clause-block
read_at_each-requires-clause-block g c = λ element part there.
    every_below c.args.view.now c.spot-spot.ensures.sound c.args.block element c.spot-spot.result part (sym c.is_in_every.ensures ∙ c.if-is_in_every.true) c.spot-spot.ensures.spot there

pub returns-then-is_in_every-clause-tried : goal.returns-then-is_in_every-clause-tried
returns-then-is_in_every-clause-tried g c =
    let every = sym c.is_in_every.ensures ∙ c.if-is_in_every.true in
    rw (kind_every c.args.view.now c.args.block c.spot-spot.result c.spot-spot.ensures.spot c.args.kind every) c.read_at_each.ensures.tried

pub read_at-requires-clause-block : goal.read_at-requires-clause-block
read_at-requires-clause-block g c = λ part there.
    spot_below c.args.view.now c.spot-spot.ensures.sound c.args.block c.spot-spot.result part c.spot-spot.ensures.spot (rw c.from.ensures at there)

pub returns-clause-tried : goal.returns-clause-tried
returns-clause-tried g c =
    let one = sym c.is_in_every.ensures ∙ c.if-is_in_every.false in
    rw (kind_one c.args.view.now c.args.block c.spot-spot.result c.spot-spot.ensures.spot c.args.kind one) (rw c.from.ensures at c.read_at.ensures.tried)
