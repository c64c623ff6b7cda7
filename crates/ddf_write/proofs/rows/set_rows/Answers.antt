use Rattle.std.proofs.Common.{ℕ, ◌∙◌, ◌+◌, ◌≤◌, length, refl, ap, arith}
use Rattle.std.proofs.lemmas.Result.{err_from_is_err_and}
use Rattle.ddf_cells.proofs.RunsOn.{sum_below, sum_more}
use Rattle.ddf_cells.proofs.WriteSteps.{writes_start, writes_then}
use Rattle.ddf_write.specs.RowWrites.{IsNoted, IsSummed, parity_cells}
use Rattle.ddf_write.specs.Writing.{MayGive}
use Rattle.ddf_write.proofs.RowLoops.{filled_then, rows_all, rows_more, stopped_since}
use Rattle.ddf_write.proofs.rows.set_rows.Goals as goal

pub set_rows_in-requires-clause-fits : goal.set_rows_in-requires-clause-fits
set_rows_in-requires-clause-fits g c = rw c.loop-element.invariant.writes.same_sizes c.requires.fits

pub loop-element-init : goal.loop-element-init
loop-element-init g c = record {
  writes = writes_start (MayGive c.args.view.now c.args.start c.args.from.now) g.B.Bay.tells (g.B.Bay.disks c.args.bay.now) c.args.touched.now;
  summed = λ tells entry filled values element sector part one below is. absurd (omega (arith, below));
  noted = λ element sector part one below is. absurd (omega (arith, below));
  unfailed = refl;
  reads = refl;
  asked = omega arith;
  written = omega arith;
  calls = λ none. omega arith;
}

pub returns-in_err-set_rows_in-clause-writes : goal.returns-in_err-set_rows_in-clause-writes
returns-in_err-set_rows_in-clause-writes g c = writes_then (MayGive c.args.view.now c.args.start c.args.from.now) g.B.Bay.tells c.loop-element.invariant.writes c.in_err-set_rows_in.ensures.writes

pub returns-in_err-set_rows_in-clause-cause : goal.returns-in_err-set_rows_in-clause-cause
returns-in_err-set_rows_in-clause-cause g c =
    let p = err_from_is_err_and c.from_residual.result c.from_residual.ensures.1 in
    rw (p.1, p.2) (stopped_since c.args.view.now c.args.start c.args.from.now g.B.Bay.tells c.loop-element.invariant.writes c.in_err-set_rows_in.ensures.writes (length c.args.from.now) _ c.in_err-set_rows_in.ensures.cause)

pub returns-in_err-set_rows_in-clause-asked : goal.returns-in_err-set_rows_in-clause-asked
returns-in_err-set_rows_in-clause-asked g c =
    let cells : ℕ → ℕ = parity_cells c.args.view.now.parts (length c.args.from.now) in
    let e = c.loop-element.element in
    let n = ap length c.parts-element-end.ensures.parts in
    let below : e + 1 ≤ length c.args.view.now.parts = omega (arith, n, c.loop-element-test.true) in
    omega (arith, c.loop-element.invariant.asked, c.in_err-set_rows_in.ensures.asked, sum_more cells e, sum_below cells (e + 1) (length c.args.view.now.parts) below)

pub returns-in_err-set_rows_in-clause-written : goal.returns-in_err-set_rows_in-clause-written
returns-in_err-set_rows_in-clause-written g c =
    let cells : ℕ → ℕ = parity_cells c.args.view.now.parts (length c.args.from.now) in
    let e = c.loop-element.element in
    let n = ap length c.parts-element-end.ensures.parts in
    let below : e + 1 ≤ length c.args.view.now.parts = omega (arith, n, c.loop-element-test.true) in
    omega (arith, c.loop-element.invariant.written, c.in_err-set_rows_in.ensures.written, sum_more cells e, sum_below cells (e + 1) (length c.args.view.now.parts) below)

pub returns-in_err-set_rows_in-clause-calls : goal.returns-in_err-set_rows_in-clause-calls
returns-in_err-set_rows_in-clause-calls g c = λ none. omega (arith, c.loop-element.invariant.calls none, c.in_err-set_rows_in.ensures.calls none)

pub returns-clause-summed : goal.returns-clause-summed
returns-clause-summed g c = λ tells entry filled values.
    let v = c.args.view.now in
    let n = ap length c.parts-element-end.ensures.parts in
    rows_all v c.args.start (length c.args.from.now) c.loop-element.element (IsSummed v (g.B.Bay.disks c.loop-element.bay).held) (omega (arith, n, c.loop-element-test.false)) (c.loop-element.invariant.summed tells entry filled values)

pub returns-clause-noted : goal.returns-clause-noted
returns-clause-noted g c =
    let n = ap length c.parts-element-end.ensures.parts in
    rows_all c.args.view.now c.args.start (length c.args.from.now) c.loop-element.element (IsNoted c.loop-element.touched) (omega (arith, n, c.loop-element-test.false)) c.loop-element.invariant.noted

pub returns-clause-asked : goal.returns-clause-asked
returns-clause-asked g c =
    let n = ap length c.parts-element-end.ensures.parts in
    let cells : ℕ → ℕ = parity_cells c.args.view.now.parts (length c.args.from.now) in
    omega (arith, c.loop-element.invariant.asked, sum_below cells c.loop-element.element (length c.args.view.now.parts) (omega (arith, n, c.loop-element.auto)))

pub returns-clause-written : goal.returns-clause-written
returns-clause-written g c =
    let n = ap length c.parts-element-end.ensures.parts in
    let cells : ℕ → ℕ = parity_cells c.args.view.now.parts (length c.args.from.now) in
    omega (arith, c.loop-element.invariant.written, sum_below cells c.loop-element.element (length c.args.view.now.parts) (omega (arith, n, c.loop-element.auto)))

pub loop-element-preserved : goal.loop-element-preserved
loop-element-preserved g c =
    let v = c.args.view.now in
    let now = g.B.Bay.disks c.loop-element.bay in
    let new = g.B.Bay.disks c.set_rows_in.new.bay in
    let so_far = c.loop-element.invariant in
    let next = c.in_ok-set_rows_in.ensures in
    let e = c.loop-element.element in
    let cells : ℕ → ℕ = parity_cells v.parts (length c.args.from.now) in
    record {
      writes = writes_then (MayGive v c.args.start c.args.from.now) g.B.Bay.tells so_far.writes next.writes;
      summed = λ tells entry filled values.
          let filled_now = filled_then v c.requires.known c.requires.apart c.args.start c.args.from.now g.B.Bay.tells entry tells filled so_far.writes in
          rows_more v c.args.start (length c.args.from.now) e (IsSummed v now.held) (IsSummed v new.held) (next.kept tells entry filled_now values) (next.summed tells entry filled_now values)
          (so_far.summed tells entry filled values);
      noted =
          rows_more v c.args.start (length c.args.from.now) e (IsNoted c.loop-element.touched) (IsNoted c.set_rows_in.new.touched) (λ element sector part one is was. next.writes.touched_up one.slot was) next.noted so_far.noted;
      unfailed = next.unfailed ∙ so_far.unfailed;
      reads = next.reads ∙ so_far.reads;
      asked = omega (arith, so_far.asked, next.asked, sum_more cells e);
      written = omega (arith, so_far.written, next.written, sum_more cells e);
      calls = λ none. omega (arith, so_far.calls none, next.calls none);
    }
