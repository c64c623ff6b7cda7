use Rattle.std.proofs.Common.{◌<◌, length, inl, inr, arith}
use Rattle.std.proofs.lemmas.Option.{slice_get_within}
use Rattle.ddf_secondary.proofs.Longer.{longer_more_yes, longer_more_no, ends_more}
use Rattle.ddf_secondary.proofs.spanned.band_from.Goals as goal
use Rattle.ddf_secondary.proofs.spanned.band_from.Goals.{then-row-size, else-row-size}

pub loop-size-preserved : goal.loop-size-preserved
loop-size-preserved c =
    let sizes = c.args.sizes.now in
    let i = c.loop-size.size-index in
    let inside : i < length sizes = omega arith in
    elim c.if-row-size.branch [
      | then-row-size w ↦ record {
        elements = omega (arith, w.elements-is, c.loop-size.invariant.elements, longer_more_yes c.args.row i sizes (record { capacity = 0; unit = 0; rows = 0 }) inside w.if-row-size.true);
        few = omega (arith, w.elements-is);
        end = λ small. omega (arith, w.end-is, w.min-end.ensures, w.if-row-size.true, c.loop-size.invariant.end small);
        apart = ends_more sizes c.args.row c.loop-size.end c.if-row-size.end i (record { capacity = 0; unit = 0; rows = 0 }) inside (omega (arith, w.end-is, w.min-end.ensures)) (inr (omega (arith, w.end-is, w.min-end.ensures))) c.loop-size.invariant.apart;
      }
      | else-row-size w ↦ record {
        elements = omega (arith, w.elements-is, c.loop-size.invariant.elements, longer_more_no c.args.row i sizes (record { capacity = 0; unit = 0; rows = 0 }) inside w.if-row-size.false);
        few = omega (arith, w.elements-is);
        end = λ small. omega (arith, w.end-is, c.loop-size.invariant.end small);
        apart = ends_more sizes c.args.row c.loop-size.end c.if-row-size.end i (record { capacity = 0; unit = 0; rows = 0 }) inside (omega (arith, w.end-is)) (inl w.if-row-size.false) c.loop-size.invariant.apart;
      }
    ]

pub returns-clause-apart : goal.returns-clause-apart
returns-clause-apart c = λ k size at_k.
    c.loop-size.invariant.apart k size (omega (arith, slice_get_within c.args.sizes.now k size at_k)) at_k
