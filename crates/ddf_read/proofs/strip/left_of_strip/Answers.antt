use Rattle.std.proofs.Common.{◌∙◌, sym}
use Rattle.ddf_array.proofs.Elements.{every_below, spot_below}
use Rattle.ddf_read.proofs.StripsAlong.{fewer_along, every_along, one_along}
use Rattle.ddf_read.proofs.strip.left_of_strip.Goals as goal

pub left_at_each-requires : goal.left_at_each-requires
left_at_each-requires c = λ element part there.
    every_below c.args.view.now c.spot-spot.ensures.sound c.args.block element c.spot-spot.result part (sym c.is_in_every.ensures ∙ c.if-is_in_every.true) c.spot-spot.ensures.spot there

pub returns-then-is_in_every-clause-along : goal.returns-then-is_in_every-clause-along
returns-then-is_in_every-clause-along c = λ count fewer inside.
    every_along c.args.view.now c.spot-spot.ensures.sound c.args.block c.spot-spot.result c.spot-spot.ensures.spot count inside
    (λ element part there. fewer_along part c.spot-spot.result.block c.left_at_each.result count fewer (c.left_at_each.ensures.along element part there))

pub left_at-requires : goal.left_at-requires
left_at-requires c = λ part there.
    spot_below c.args.view.now c.spot-spot.ensures.sound c.args.block c.spot-spot.result part c.spot-spot.ensures.spot (rw c.from.ensures at there)

pub returns-clause-along : goal.returns-clause-along
returns-clause-along c = λ count fewer inside.
    one_along c.args.view.now c.spot-spot.ensures.sound c.args.block c.spot-spot.result c.spot-spot.ensures.spot count inside (sym c.is_in_every.ensures ∙ c.if-is_in_every.false)
    (λ part there. fewer_along part c.spot-spot.result.block c.left_at.result count fewer (c.left_at.ensures.along part (rw c.from.ensures there)))
