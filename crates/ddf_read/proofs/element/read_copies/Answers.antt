use Rattle.std.proofs.Common.{◌∙◌, ℕ, sym, ap}
use Rattle.std.specs.Prelude.{is_some}
use Rattle.ddf_primary.proofs.Needs.{alone}
use Rattle.ddf_array.specs.Levels.{is_on_every}
use Rattle.ddf_array.specs.Places.{site_at}
use Rattle.ddf_array.proofs.ElementCells.{copies_on_every, copies_on_one, copies_on_two}
use Rattle.ddf_read.proofs.Sites.{site_at_within}
use Rattle.ddf_read.proofs.element.read_copies.Goals as goal

pub returns-then-is_on_every-clause-tried : goal.returns-then-is_on_every-clause-tried
returns-then-is_on_every-clause-tried g c =
    let on_every = ap is_on_every (sym c.layout.ensures) ∙ sym c.is_on_every.ensures ∙ c.if-is_on_every.true in
    rw (copies_on_every c.args.part.now c.args.block c.place-cell.result.member c.place-cell.result.sector c.place-cell.ensures.cell on_every c.requires.part.has_places) c.read_any.ensures.tried

pub returns-in-Some-clause-tried : goal.returns-in-Some-clause-tried
returns-in-Some-clause-tried g c =
    rw (copies_on_two c.args.part.now c.args.block (c.in-Some.twins.low.member, c.in-Some.twins.low.sector) (c.in-Some.twins.high.member, c.in-Some.twins.high.sector) c.in-Some.ensures.cells) c.read_either.ensures.tried

pub try_site-requires : goal.try_site-requires
try_site-requires g c = rw c.site_at-site.ensures (site_at_within _ c.args.part.now _ c.place-cell.result.sector c.requires.fits c.place-cell.ensures.sector)

pub returns-in-None-clause-tried : goal.returns-in-None-clause-tried
returns-in-None-clause-tried g c =
    let not_every = ap is_on_every (sym c.layout.ensures) ∙ sym c.is_on_every.ensures ∙ c.if-is_on_every.false in
    let not_two = sym c.twins.ensures.two ∙ ap is_some c.in-None.is in
    let on_one = alone c.args.part.now.shape.layout not_every not_two in
    let site_is = c.site_at-site.ensures ∙ ap (λ (p : ℕ). site_at c.args.part.now.places p c.place-cell.result.sector) c.from.ensures in
    rw (copies_on_one c.args.part.now c.args.block c.place-cell.result.member c.place-cell.result.sector c.place-cell.ensures.cell c.requires.part.shape_is on_one) (rw site_is at c.try_site.ensures.tried)
