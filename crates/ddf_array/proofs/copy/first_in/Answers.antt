use Rattle.std.proofs.Common.{◌∙◌, ℕ, ap, sym, slice_get}
use Rattle.std.specs.Prelude.{is_some}
use Rattle.ddf_primary.proofs.Needs.{alone}
use Rattle.ddf_array.specs.Levels.{is_on_every}
use Rattle.ddf_array.specs.Places.{site_at}
use Rattle.ddf_array.proofs.ElementCells.{element_copies_two}
use Rattle.ddf_array.proofs.Firsts.{element_copies_every, element_copies_one}
use Rattle.ddf_array.proofs.copy.first_in.Goals as goal

pub returns-then-is_on_every : goal.returns-then-is_on_every
returns-then-is_on_every c =
    let on_every = ap is_on_every (sym c.layout.ensures) ∙ sym c.is_on_every.ensures ∙ c.if-is_on_every.true in
    c.first_position.ensures
    ∙ ap (λ l. slice_get l 0) (sym (element_copies_every c.args.part.now c.args.block c.place-cell.result.member c.place-cell.result.sector c.place-cell.ensures.cell on_every c.requires.part.has_places))

pub returns-in-Some : goal.returns-in-Some
returns-in-Some c =
    c.first_of_two.ensures
    ∙ ap (λ l. slice_get l 0) (sym (element_copies_two c.args.part.now c.args.block (c.in-Some.twins.low.member, c.in-Some.twins.low.sector) (c.in-Some.twins.high.member, c.in-Some.twins.high.sector) c.in-Some.ensures.cells))

pub returns-in-None : goal.returns-in-None
returns-in-None c =
    let not_every = ap is_on_every (sym c.layout.ensures) ∙ sym c.is_on_every.ensures ∙ c.if-is_on_every.false in
    let not_two = sym c.twins.ensures.two ∙ ap is_some c.in-None.is in
    let on_one = alone c.args.part.now.shape.layout not_every not_two in
    c.site_at.ensures
    ∙ ap (λ (p : ℕ). site_at c.args.part.now.places p c.place-cell.result.sector) c.from.ensures
    ∙ element_copies_one c.args.part.now c.args.block c.place-cell.result.member c.place-cell.result.sector c.place-cell.ensures.cell c.requires.part.shape_is on_one
