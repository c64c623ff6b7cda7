use Rattle.std.proofs.Common.{◌≡◌, Some, refl, arith, slice_get}
use Rattle.std.proofs.lemmas.List.{length-take-le}
use Rattle.std.proofs.lemmas.Option.{slice_get_read}
use Rattle.std.proofs.lemmas.Result.{err_from_is_err_and}
use Rattle.ddf_read.proofs.WithoutCopies.{same_part}
use Rattle.ddf_cells.proofs.CellSteps.{given_kept, left_empty, left_kept}
use Rattle.ddf_cells.proofs.without.read_empty.Goals as goal

pub read_each-requires-clause-part : goal.read_each-requires-clause-part
read_each-requires-clause-part g c =
    let at : slice_get c.args.view.now.parts c.args.element ≡ Some c.index-parts-element.result =
    rw c.parts.ensures.parts at (slice_get_read c.parts.result.now _ c.args.element c.index-parts-element.result refl (rw c.parts.ensures.parts c.requires.there) c.index-parts-element.is) in
    c.parts.ensures.sound.are_parts c.args.element c.index-parts-element.result at

pub read_each-requires-clause-fits : goal.read_each-requires-clause-fits
read_each-requires-clause-fits g c =
    let at : slice_get c.args.view.now.parts c.args.element ≡ Some c.index-parts-element.result =
    rw c.parts.ensures.parts at (slice_get_read c.parts.result.now _ c.args.element c.index-parts-element.result refl (rw c.parts.ensures.parts c.requires.there) c.index-parts-element.is) in
    c.requires.fits c.args.element c.index-parts-element.result at

pub read_each-requires-clause-sectors : goal.read_each-requires-clause-sectors
read_each-requires-clause-sectors g c =
    let at : slice_get c.args.view.now.parts c.args.element ≡ Some c.index-parts-element.result =
    rw c.parts.ensures.parts at (slice_get_read c.parts.result.now _ c.args.element c.index-parts-element.result refl (rw c.parts.ensures.parts c.requires.there) c.index-parts-element.is) in
    omega (arith, c.requires.sectors c.index-parts-element.result at, c.empty_from-count.ensures.within, length-take-le c.empty_from-count.result c.args.out.now c.empty_from-count.ensures.within)

pub returns-in_err-read_each-clause-left : goal.returns-in_err-read_each-clause-left
returns-in_err-read_each-clause-left g c =
    let p = err_from_is_err_and c.from_residual.result c.from_residual.ensures.1 in
    let count = c.empty_from-count.result in
    rw (p.1, p.2)
    (λ part part_at.
    let same : c.index-parts-element.result ≡ part = same_part c.args.view.now.parts c.parts.result.now c.args.element c.index-parts-element.result part c.parts.ensures.parts c.index-parts-element.is part_at in
    left_empty _ c.args.view.now c.args.element part c.args.position c.args.sector _ _ count c.empty_from-count.ensures.within c.empty_from-count.ensures.empty
    (left_kept _ c.args.view.now.marked c.index-parts-element.result part same c.args.position c.args.sector count _ _ (length-take-le count c.args.out.now c.empty_from-count.ensures.within) (rw c.is_marked.ensures at c.in_err-read_each.ensures.left)))

pub returns-clause-given : goal.returns-clause-given
returns-clause-given g c = λ tells part part_at.
    let count = c.empty_from-count.result in
    let long = length-take-le count c.args.out.now c.empty_from-count.ensures.within in
    let same : c.index-parts-element.result ≡ part = same_part c.args.view.now.parts c.parts.result.now c.args.element c.index-parts-element.result part c.parts.ensures.parts c.index-parts-element.is part_at in
    given_kept _ c.args.view.now.marked c.index-parts-element.result part same c.args.position c.args.sector count _ c.read_each.new.out _ _ (omega (arith, long, c.read_each.auto.out)) (omega (arith, long)) (rw c.is_marked.ensures at (c.in_ok-read_each.ensures.given tells))
