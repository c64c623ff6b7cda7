use Rattle.std.proofs.Common.{◌≡◌, ◌∙◌, ◌+◌, ◌≤◌, ℕ, List, [], map, length, sym, ap, subst, arith, add-zero}
use Rattle.std.proofs.lemmas.Result.{MatchResult-weaker, on_ok_weaker}
use Rattle.ddf_array.specs.declared.part.Part.{Part}
use Rattle.ddf_array.specs.declared.site.Site.{Site}
use Rattle.ddf_array.specs.Sources.{sources}
use Rattle.ddf_array.specs.Values.{sum_at}
use Rattle.ddf_array.specs.Volume.{IsPart, PartFits}
use Rattle.ddf_read.specs.Along.{further}
use Rattle.ddf_read.specs.Sums.{other_sites}
use Rattle.ddf_read.proofs.WithoutCopies.{same_part, given_by_row}
use Rattle.ddf_read.proofs.OtherCells.{row_sites}
use Rattle.ddf_read.proofs.Pieces.{given_after, left_after}
use Rattle.ddf_read.proofs.by_rows.read_missing.Goals as goal

pub sum_rows-requires-clause-part : goal.sum_rows-requires-clause-part
sum_rows-requires-clause-part g c =
    let missing = c.requires.missing in
    let same : c.index-parts-missing.result ≡ missing.part = same_part c.args.view.now.parts c.parts.result.now c.args.missing.element c.index-parts-missing.result missing.part c.parts.ensures.parts c.index-parts-missing.is missing.is_there in
    subst IsPart (sym same) (c.requires.known.are_parts c.args.missing.element missing.part missing.is_there)

pub sum_rows-requires-clause-fits : goal.sum_rows-requires-clause-fits
sum_rows-requires-clause-fits g c =
    let missing = c.requires.missing in
    let same : c.index-parts-missing.result ≡ missing.part = same_part c.args.view.now.parts c.parts.result.now c.args.missing.element c.index-parts-missing.result missing.part c.parts.ensures.parts c.index-parts-missing.is missing.is_there in
    subst (λ (part : Part). PartFits (g.B.Bay.disks c.args.bay.now).sizes part) (sym same) (c.requires.fits c.args.missing.element missing.part missing.is_there)

pub sum_rows-requires-clause-sectors : goal.sum_rows-requires-clause-sectors
sum_rows-requires-clause-sectors g c =
    let missing = c.requires.missing in
    let same : c.index-parts-missing.result ≡ missing.part = same_part c.args.view.now.parts c.parts.result.now c.args.missing.element c.index-parts-missing.result missing.part c.parts.ensures.parts c.index-parts-missing.is missing.is_there in
    subst (λ (part : Part). c.args.missing.sector + length c.args.out.now ≤ part.shape.blocks) (sym same) (omega (arith, missing.is_missing.room, c.requires.left))

pub read_each-requires-clause-fits : goal.read_each-requires-clause-fits
read_each-requires-clause-fits g c = rw c.in-Err.ensures.reads.reads.same_sizes c.requires.fits

pub returns-in-Ok-clause-given : goal.returns-in-Ok-clause-given
returns-in-Ok-clause-given g c = λ tells k below.
    let missing = c.requires.missing in
    let same : c.index-parts-missing.result ≡ missing.part = same_part c.args.view.now.parts c.parts.result.now c.args.missing.element c.index-parts-missing.result missing.part c.parts.ensures.parts c.index-parts-missing.is missing.is_there in
    let sites : other_sites c.index-parts-missing.result.places c.args.missing.sector c.args.missing.position ≡ missing.is_missing.sites =
    ap (λ (part : Part). other_sites part.places c.args.missing.sector c.args.missing.position) same ∙ row_sites missing.part.places c.args.missing.position c.args.missing.sector missing.is_missing.sites missing.is_missing.gives in
    given_by_row c.args.view.now c.args.start (length c.args.out.now) k c.requires.along below c.requires.lacks
    (subst (λ (block : ℕ). sources c.args.view.now block ≡ [] → ⊥) (add-zero c.args.start) (c.requires.sources 0 c.requires.some))
    missing.is_missing.sites missing.is_missing.row_is _ (g.B.Bay.disks c.args.bay.now).held _
    (c.in-Ok.ensures.sums tells k (omega (arith, below, c.sum_rows.auto.into)) ∙ ap (λ (l : List Site). sum_at (g.B.Bay.disks c.args.bay.now).held (map (further k) l)) sites)

pub returns-in-Err-clause-given : goal.returns-in-Err-clause-given
returns-in-Err-clause-given g c = λ tells.
    on_ok_weaker c.read_each.result
    (λ given. given_after c.in-Err.ensures.reads c.read_each.ensures.reads c.args.view.now c.args.start _ _ (rw c.sum_rows.auto.into at given))
    (c.read_each.ensures.given tells)

pub returns-in-Err-clause-none_left : goal.returns-in-Err-clause-none_left
returns-in-Err-clause-none_left g c =
    MatchResult-weaker c.read_each.result c.read_each.ensures.left (λ done none. none)
    (λ slot left. left_after c.in-Err.ensures.reads c.read_each.ensures.reads c.args.view.now c.args.start _ slot (rw c.sum_rows.auto.into at left))
