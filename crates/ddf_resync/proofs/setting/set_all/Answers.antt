use Rattle.std.proofs.Common.{◌≡◌, ◌∙◌, ⊎_elim, ◌+◌, ◌<◌, ◌≤◌, Some, refl, sym, ap, subst, arith, length, slice_get}
use Rattle.std.proofs.lemmas.Bool.{cases_lt}
use Rattle.std.proofs.lemmas.Option.{slice_get_read}
use Rattle.std.proofs.lemmas.Result.{err_from_is_err_and}
use Rattle.ddf_array.specs.declared.part.Part.{Part}
use Rattle.ddf_primary.specs.Cells.{depth_of}
use Rattle.ddf_cells.specs.Touching.{IsTouchedSlot}
use Rattle.ddf_cells.proofs.WriteSteps.{writes_then}
use Rattle.ddf_resync.specs.Setting.{IsNotedAt, IsRightAt, SetsParity}
use Rattle.ddf_resync.specs.Several.{parity_cells, parity_of}
use Rattle.ddf_resync.proofs.Resynced.{equal_kept}
use Rattle.ddf_resync.proofs.SeveralCells.{parity_more, parity_up}
use Rattle.ddf_resync.proofs.Stops.{asks_from, asks_then, row_since}
use Rattle.ddf_resync.proofs.setting.set_all.Goals as goal

pub set_element-requires-clause-fits : goal.set_element-requires-clause-fits
set_element-requires-clause-fits g c = rw c.loop-element.invariant.writes.same_sizes c.requires.fits

pub set_element-requires-clause-is_part : goal.set_element-requires-clause-is_part
set_element-requires-clause-is_part g c =
    let n = ap length c.parts-element-end.ensures.parts in
    rw c.parts.ensures.parts at (slice_get_read c.parts.result.now _ c.loop-element.element c.index-parts-element.result refl (omega (arith, ap length c.parts.ensures.parts, n, c.loop-element-test.true)) c.index-parts-element.is)

pub returns-in_err-set_element-clause-writes : goal.returns-in_err-set_element-clause-writes
returns-in_err-set_element-clause-writes g c = writes_then (SetsParity c.args.view.now) g.B.Bay.tells c.loop-element.invariant.writes c.in_err-set_element.ensures.writes

pub returns-in_err-set_element-clause-cause : goal.returns-in_err-set_element-clause-cause
returns-in_err-set_element-clause-cause g c =
    let p = err_from_is_err_and c.from_residual.result c.from_residual.ensures.1 in
    rw (p.1, p.2) (row_since (SetsParity c.args.view.now) (SetsParity c.args.view.now) g.B.Bay.tells c.loop-element.invariant.writes c.in_err-set_element.ensures.writes c.args.view.now (IsTouchedSlot c.set_element.new.touched) _ c.in_err-set_element.ensures.cause)

pub returns-in_err-set_element-clause-asks : goal.returns-in_err-set_element-clause-asks
returns-in_err-set_element-clause-asks g c =
    let v = c.args.view.now in
    let e = c.loop-element.element in
    let own = c.index-parts-element.result in
    let n = ap length c.parts-element-end.ensures.parts in
    let is_own : slice_get v.parts e ≡ Some own =
    rw c.parts.ensures.parts at (slice_get_read c.parts.result.now _ e own refl (omega (arith, ap length c.parts.ensures.parts, n, c.loop-element-test.true)) c.index-parts-element.is) in
    let more = parity_more v e own is_own in
    let up = parity_up v (e + 1) (length v.parts) (omega (arith, n, c.loop-element-test.true)) in
    asks_then 0 (parity_cells v e) (parity_cells v (length v.parts)) c.loop-element.invariant.asks
    (asks_from (parity_of (Some own)) (parity_of (Some own)) (parity_cells v e) (parity_cells v (length v.parts)) c.in_err-set_element.ensures.asks (omega arith) (omega (arith, more, up)))

pub returns-clause-asks : goal.returns-clause-asks
returns-clause-asks g c =
    let v = c.args.view.now in
    let n = ap length c.parts-element-end.ensures.parts in
    let up = parity_up v c.loop-element.element (length v.parts) (omega (arith, n, c.loop-element.auto)) in
    let asks = c.loop-element.invariant.asks in
    record { asked = omega (arith, asks.asked, up); written = omega (arith, asks.written, up) }

pub loop-element-preserved : goal.loop-element-preserved
loop-element-preserved g c =
    let v = c.args.view.now in
    let so_far = c.loop-element.invariant in
    let next = c.in_ok-set_element.ensures in
    let e = c.loop-element.element in
    let own = c.index-parts-element.result in
    let n = ap length c.parts-element-end.ensures.parts in
    let is_own : slice_get v.parts e ≡ Some own =
    rw c.parts.ensures.parts at (slice_get_read c.parts.result.now _ e own refl (omega (arith, ap length c.parts.ensures.parts, n, c.loop-element-test.true)) c.index-parts-element.is) in
    record {
      writes = writes_then (SetsParity v) g.B.Bay.tells so_far.writes next.writes;
      noted = λ element sector part below is_part deep. ⊎_elim
          (λ (before : element < e) position at is there. next.writes.touched_up at.slot (so_far.noted element sector part before is_part deep position at is there))
          (λ (last : e ≤ element).
          let same : e ≡ element = omega (arith, last, below) in
          let part_same : own ≡ part = some_is (sym is_own ∙ ap (slice_get v.parts) same ∙ is_part) in
          subst (λ (q : Part). IsNotedAt c.set_element.new.touched q sector) part_same (next.noted sector (subst (λ (q : Part). sector < depth_of q.shape) (sym part_same) deep)))
          (cases_lt element e);
      unfailed = next.unfailed ∙ so_far.unfailed;
      asks = asks_then 0 (parity_cells v e) (parity_cells v (e + 1)) so_far.asks
          (asks_from (parity_of (Some own)) (parity_of (Some own)) (parity_cells v e) (parity_cells v (e + 1)) next.asks (omega arith) (parity_more v e own is_own));
      set = λ tells equal element sector part below is_part deep.
          let here = equal_kept v c.requires.known c.requires.apart g.B.Bay.tells so_far.writes tells equal in
          ⊎_elim
          (λ (before : element < e). next.kept tells here element sector part is_part deep (so_far.set tells equal element sector part before is_part deep))
          (λ (last : e ≤ element).
          let same : e ≡ element = omega (arith, last, below) in
          let part_same : part ≡ own = some_is (sym is_part ∙ ap (slice_get v.parts) (sym same) ∙ is_own) in
          let deep_own : sector < depth_of own.shape = subst (λ (q : Part). sector < depth_of q.shape) part_same deep in
          let at_e : slice_get v.parts e ≡ Some part = ap (slice_get v.parts) same ∙ is_part in
          subst (λ i. IsRightAt v (g.B.Bay.disks c.set_element.new.bay).held i part sector) same (next.set tells here part sector at_e deep_own deep))
          (cases_lt element e);
    }
  where
    some_is : {X : Type 0} {a b : X} → Some a ≡ Some b → a ≡ b
    some_is e = cc
