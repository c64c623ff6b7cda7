use Rattle.std.proofs.Common.{◌≡◌, ◌∙◌, ℕ, ◌/◌, inl, inr, sym, ap, slice_get, arith}
use Rattle.std.proofs.lemmas.Grind.{common_steps}
use Rattle.ddf_primary.proofs.Needs.{parity_height}
use Rattle.ddf_array.proofs.Elements.{every_below, spot_below}
use Rattle.ddf_write.proofs.RowLoops.{only_cell, not_there}
use Rattle.ddf_write.proofs.touching.cell_in_element.Goals as goal

pub place-requires : goal.place-requires
place-requires c =
    every_below c.args.view.now c.spot-spot.ensures.sound c.args.block c.args.element c.spot-spot.result c.args.part.now (sym c.is_in_every.ensures ∙ c.if-is_in_every.true) c.spot-spot.ensures.spot c.requires.is_part

pub returns-then-is_in_every : goal.returns-then-is_in_every
returns-then-is_in_every c = record {
  cell =
      only_cell c.args.view.now c.requires.known c.args.element c.args.part.now c.requires.is_part c.requires.parity c.args.block c.spot-spot.result c.spot-spot.ensures.spot
      (inl (sym c.is_in_every.ensures ∙ c.if-is_in_every.true)) c.place.result c.place.ensures.holds
      (c.place.ensures.row ∙ ap (λ (h : ℕ). c.place.result.sector / h) (parity_height c.args.part.now.shape.layout c.args.part.now.shape.strip c.requires.parity));
}

pub place-requires-then-from-element : goal.place-requires-then-from-element
place-requires-then-from-element c =
    let same : c.spot-spot.result.element ≡ c.args.element = grind (arith, common_steps, c.if-from-element.true, c.from.ensures) in
    spot_below c.args.view.now c.spot-spot.ensures.sound c.args.block c.spot-spot.result c.args.part.now c.spot-spot.ensures.spot (ap (slice_get c.args.view.now.parts) same ∙ c.requires.is_part)

pub returns-then-from-element : goal.returns-then-from-element
returns-then-from-element c =
    let same : c.spot-spot.result.element ≡ c.args.element = grind (arith, common_steps, c.if-from-element.true, c.from.ensures) in
    record {
      cell =
          only_cell c.args.view.now c.requires.known c.args.element c.args.part.now c.requires.is_part c.requires.parity c.args.block c.spot-spot.result c.spot-spot.ensures.spot (inr same)
          c.place-then-from-element.result c.place-then-from-element.ensures.holds
          (c.place-then-from-element.ensures.row ∙ ap (λ (h : ℕ). c.place-then-from-element.result.sector / h) (parity_height c.args.part.now.shape.layout c.args.part.now.shape.strip c.requires.parity));
    }

pub returns : goal.returns
returns c = record {
  cell =
      not_there c.args.view.now c.requires.known c.args.element c.args.part.now c.requires.is_part c.args.block c.spot-spot.result c.spot-spot.ensures.spot (sym c.is_in_every.ensures ∙ c.if-is_in_every.false)
      (λ same. grind (arith, common_steps, c.if-from-element.false, c.from.ensures));
}
