use Rattle.std.proofs.Common.{◌∙◌, sym}
use Rattle.ddf_array.specs.Sources.{element_rows}
use Rattle.ddf_array.proofs.Elements.{every_below, spot_below, spread_every}
use Rattle.ddf_read.proofs.missing.first_missing.Goals as goal

pub missing_at_each-requires : goal.missing_at_each-requires
missing_at_each-requires c = λ element part there.
    every_below c.args.view.now c.spot-spot.ensures.sound c.args.block element c.spot-spot.result part (sym c.is_in_every.ensures ∙ c.if-is_in_every.true) c.spot-spot.ensures.spot there

pub missing_at-requires : goal.missing_at-requires
missing_at-requires c = λ part there.
    spot_below c.args.view.now c.spot-spot.ensures.sound c.args.block c.spot-spot.result part c.spot-spot.ensures.spot (rw c.from.ensures at there)

pub returns-then-is_in_every : goal.returns-then-is_in_every
returns-then-is_in_every c =
    rw (spread_every c.args.view.now element_rows c.args.block c.spot-spot.result c.spot-spot.ensures.spot (sym c.is_in_every.ensures ∙ c.if-is_in_every.true)) c.missing_at_each.ensures
