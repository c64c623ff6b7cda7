use Rattle.std.proofs.Common.{◌∙◌, sym, ap, slice_get}
use Rattle.ddf_array.specs.Sources.{element_copies}
use Rattle.ddf_array.proofs.Elements.{every_below, spot_below, spread_every}
use Rattle.ddf_array.proofs.view.View.first_copy.Goals as goal

pub first_of_every-requires : goal.first_of_every-requires
first_of_every-requires c = λ element part there.
    every_below c.args.self.now c.spot-spot.ensures.sound c.args.block element c.spot-spot.result part (sym c.is_in_every.ensures ∙ c.if-is_in_every.true) c.spot-spot.ensures.spot there

pub returns-then-is_in_every : goal.returns-then-is_in_every
returns-then-is_in_every c =
    c.first_of_every.ensures ∙ ap (λ l. slice_get l 0) (sym (spread_every c.args.self.now element_copies c.args.block c.spot-spot.result c.spot-spot.ensures.spot (sym c.is_in_every.ensures ∙ c.if-is_in_every.true)))

pub first_at-requires : goal.first_at-requires
first_at-requires c = λ part there.
    spot_below c.args.self.now c.spot-spot.ensures.sound c.args.block c.spot-spot.result part c.spot-spot.ensures.spot (rw c.from.ensures at there)
