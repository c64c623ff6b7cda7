use Rattle.std.proofs.Common.{◌≡◌, ◌∙◌, ℕ, ap, length, get_or, length-append, length-drop, arith}
use Rattle.std.proofs.Math.ListN.{set}
use Rattle.std.proofs.lemmas.List.{get_or_default, length-map, length-take}
use Rattle.std.proofs.lemmas.List.Edits.{map_over_more}
use Rattle.ddf_rewrite.specs.Elements.{kept_spare}
use Rattle.ddf_rewrite.proofs.associated.kept_spares.Goals as goal

pub loop-place-preserved : goal.loop-place-preserved
loop-place-preserved c =
    let kept = c.loop-place.place-items in
    let place = c.loop-place.place-index in
    let here = get_or kept place 0 in
    let size : length kept ≡ 8 = omega (arith, simp (length-append, length-map, length-take, length-drop) at (ap length c.loop-place.invariant)) in
    ap (λ (reference : ℕ). set kept place reference) c.kept_spare.ensures
    ∙ map_over_more (kept_spare c.args.config.now c.args.dedicated.now) c.args.spares.now kept place here (omega arith) c.loop-place.invariant (get_or_default kept place 0 here (omega arith))
