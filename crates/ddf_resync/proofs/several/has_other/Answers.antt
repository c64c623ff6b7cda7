use Rattle.std.proofs.Common.{◌≡◌, ◌∙◌, ⊎_elim, ◌<◌, ◌≤◌, Some, refl, sym, ap, subst, arith, length, slice_get}
use Rattle.std.proofs.lemmas.Bool.{cases_lt}
use Rattle.std.proofs.lemmas.Option.{slice_get_read, slice_get_within}
use Rattle.ddf_lemmas.proofs.Options.{some_is}
use Rattle.ddf_array.specs.declared.part.Part.{Part}
use Rattle.ddf_resync.specs.Copying.{AreThisOn}
use Rattle.ddf_resync.proofs.SeveralCells.{no_other, other_there}
use Rattle.ddf_resync.proofs.several.has_other.Goals as goal

pub returns-then-has_other_on : goal.returns-then-has_other_on
returns-then-has_other_on c =
    sym (other_there c.args.view.now c.args.block c.requires.known c.in-Some.first (sym c.first_copy.ensures ∙ c.in-Some.is) c.loop-element.element (c.has_other_on.ensures.yes c.if-has_other_on.true))

pub loop-element-preserved : goal.loop-element-preserved
loop-element-preserved c = λ element part below is_part.
    let v = c.args.view.now in
    let e = c.loop-element.element in
    let own = c.index-parts-element.result in
    let n = ap length c.parts-element-end.ensures.parts in
    let m = ap length c.parts.ensures.parts in
    let is_own : slice_get v.parts e ≡ Some own =
    rw c.parts.ensures.parts at (slice_get_read c.parts.result.now _ e own refl (omega (arith, n, m, c.loop-element-test.true)) c.index-parts-element.is) in
    let at_own = c.index-parts-element.is in
    let long : length c.items-places.result.now ≡ length own.places = ap length c.items-places.ensures ∙ ap (λ (q : Part). length q.places) (sym at_own) in
    ⊎_elim (λ (earlier : element < e). c.loop-element.invariant element part earlier is_part)
    (λ (last : e ≤ element).
    let same : e ≡ element = omega (arith, last, below) in
    let part_is : own ≡ part = some_is (sym is_own ∙ ap (slice_get v.parts) same ∙ is_part) in
    let here : AreThisOn v e (length own.places) c.args.block c.in-Some.first = λ position other inside. c.has_other_on.ensures.no c.if-has_other_on.false position other (omega (arith, inside, long)) in
    subst (λ x. AreThisOn v x (length part.places) c.args.block c.in-Some.first) same (subst (λ (q : Part). AreThisOn v e (length q.places) c.args.block c.in-Some.first) part_is here))
    (cases_lt element e)

pub returns : goal.returns
returns c =
    let n = ap length c.parts-element-end.ensures.parts in
    sym (no_other c.args.view.now c.args.block c.requires.known c.in-Some.first (sym c.first_copy.ensures ∙ c.in-Some.is)
    (λ element part is_part.
    c.loop-element.invariant element part (omega (arith, slice_get_within c.args.view.now.parts element part is_part, n, c.loop-element-test.false)) is_part))
