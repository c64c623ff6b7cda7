use Rattle.std.proofs.Common.{◌≡◌, ◌∙◌, ◌<◌, Some, length, refl, sym, ap, arith, slice_get, take}
use Rattle.std.specs.Prelude.{fold}
use Rattle.std.proofs.lemmas.List.{take_all}
use Rattle.std.proofs.lemmas.List.Sums.{fold_more}
use Rattle.std.proofs.lemmas.Option.{get_or_from_slice_get, slice_get_read}
use Rattle.ddf_write.specs.Looking.{in_stripes_of}
use Rattle.ddf_write.proofs.pieces.stripe_blocks.Goals as goal

pub loop-element-preserved : goal.loop-element-preserved
loop-element-preserved c =
    let parts = c.args.view.now.parts in
    let element = c.loop-element.element in
    let n = ap length c.parts-element-end.ensures.parts in
    let below : element < length parts = omega (arith, n, c.loop-element-test.true) in
    let part = c.index-parts-element.result in
    let at : slice_get parts element ≡ Some part = rw c.parts.ensures.parts at (slice_get_read c.parts.result.now _ element part refl (rw c.parts.ensures.parts below) c.index-parts-element.is) in
    record {
      some = c.in_stripes_of-blocks.ensures.some;
      value =
          c.in_stripes_of-blocks.ensures.value
          ∙ ap (λ b. in_stripes_of b part) c.loop-element.invariant.value
          ∙ ap (in_stripes_of (fold in_stripes_of 1 (take element parts))) (sym (get_or_from_slice_get parts element part part at))
          ∙ sym (fold_more in_stripes_of 1 parts element part below);
    }

pub returns-clause-value : goal.returns-clause-value
returns-clause-value c =
    let n = ap length c.parts-element-end.ensures.parts in
    c.loop-element.invariant.value ∙ ap (fold in_stripes_of 1) (take_all c.loop-element.element c.args.view.now.parts (omega (arith, n, c.loop-element-test.false)))
