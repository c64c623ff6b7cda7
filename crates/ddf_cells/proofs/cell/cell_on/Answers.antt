use Rattle.std.proofs.Common.{◌≡◌, ◌∙◌, sym, ap, slice_get, arith}
use Rattle.std.proofs.lemmas.Grind.{common_steps}
use Rattle.ddf_array.proofs.Elements.{every_below, spot_below}
use Rattle.ddf_cells.proofs.cell.cell_on.Goals as goal

pub cell_at-requires : goal.cell_at-requires
cell_at-requires c = λ part there.
    every_below c.args.view.now c.spot-spot.ensures.sound c.args.block c.args.element c.spot-spot.result part (sym c.is_in_every.ensures ∙ c.if-is_in_every.true) c.spot-spot.ensures.spot there

pub cell_at-requires-then-from-element : goal.cell_at-requires-then-from-element
cell_at-requires-then-from-element c = λ part there.
    let same : c.spot-spot.result.element ≡ c.args.element = grind (arith, common_steps, c.if-from-element.true, c.from.ensures) in
    spot_below c.args.view.now c.spot-spot.ensures.sound c.args.block c.spot-spot.result part c.spot-spot.ensures.spot (ap (slice_get c.args.view.now.parts) same ∙ there)
