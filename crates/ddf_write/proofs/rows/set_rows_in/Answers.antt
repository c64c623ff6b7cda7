use Rattle.std.proofs.Common.{◌≡◌, ◌∙◌, true, false, length, refl, sym, ap, arith}
use Rattle.std.proofs.lemmas.Result.{err_from_is_err_and}
use Rattle.std.proofs.lemmas.Map.Keys.{any_passes_from_place}
use Rattle.ddf_array.specs.Levels.{keeps_parity}
use Rattle.ddf_write.specs.RowWrites.{IsNoted, IsSummed, keeps_parity_in}
use Rattle.ddf_write.specs.Writing.{MayGive}
use Rattle.ddf_cells.proofs.WriteSteps.{writes_start, writes_then}
use Rattle.ddf_write.proofs.RowLoops.{cells_of_parity, filled_then, parity_within, rows_no_part, rows_no_parity, stopped_since}
use Rattle.ddf_write.proofs.rows.set_rows_in.Goals as goal

pub set_rows_from-requires-clause-fits : goal.set_rows_from-requires-clause-fits
set_rows_from-requires-clause-fits g c = rw c.loop-k.invariant.writes.same_sizes c.requires.fits

pub loop-k-init : goal.loop-k-init
loop-k-init g c = record {
  within = omega arith;
  writes = writes_start (MayGive c.args.view.now c.args.start c.args.from.now) g.B.Bay.tells (g.B.Bay.disks c.args.bay.now) c.args.touched.now;
  kept = λ tells entry filled values element sector part one is was. was;
  summed = λ tells entry filled values sector part one is. absurd (omega (arith, is.touched.below));
  noted = λ sector part one is. absurd (omega (arith, is.touched.below));
  unfailed = refl;
  reads = refl;
  asked = omega arith;
  written = omega arith;
}

pub loop-k-preserved : goal.loop-k-preserved
loop-k-preserved g c =
    let v = c.args.view.now in
    let so_far = c.loop-k.invariant in
    let next = c.in_ok-k.ensures in
    record {
      within = omega (arith, next.within);
      writes = writes_then (MayGive v c.args.start c.args.from.now) g.B.Bay.tells so_far.writes next.writes;
      kept = λ tells entry filled values element sector part one is was.
          next.kept tells entry (filled_then v c.requires.known c.requires.apart c.args.start c.args.from.now g.B.Bay.tells entry tells filled so_far.writes) values element sector part one is
          (so_far.kept tells entry filled values element sector part one is was);
      summed = λ tells entry filled values.
          next.summed tells entry (filled_then v c.requires.known c.requires.apart c.args.start c.args.from.now g.B.Bay.tells entry tells filled so_far.writes) values (so_far.summed tells entry filled values);
      noted = next.noted so_far.noted;
      unfailed = next.unfailed ∙ so_far.unfailed;
      reads = next.reads ∙ so_far.reads;
      asked = omega (arith, so_far.asked, next.asked);
      written = omega (arith, so_far.written, next.written);
    }

pub returns-in_default-clause-summed : goal.returns-in_default-clause-summed
returns-in_default-clause-summed g c = λ tells entry filled values.
    rows_no_part c.args.view.now c.args.start (length c.args.from.now) c.args.element (IsSummed c.args.view.now (g.B.Bay.disks c.args.bay.now).held) c.in_default.ensures.found

pub returns-in_default-clause-noted : goal.returns-in_default-clause-noted
returns-in_default-clause-noted g c = rows_no_part c.args.view.now c.args.start (length c.args.from.now) c.args.element (IsNoted c.args.touched.now) c.in_default.ensures.found

pub returns-then-not-keeps_parity-clause-summed : goal.returns-then-not-keeps_parity-clause-summed
returns-then-not-keeps_parity-clause-summed g c = λ tells entry filled values.
    rows_no_parity c.args.view.now c.args.start (length c.args.from.now) c.args.element (IsSummed c.args.view.now (g.B.Bay.disks c.args.bay.now).held) c.in-Some.part.now c.in-Some.ensures.found
    (c.if-not-keeps_parity.ensures ∙ ap keeps_parity c.layout.ensures)

pub returns-then-not-keeps_parity-clause-noted : goal.returns-then-not-keeps_parity-clause-noted
returns-then-not-keeps_parity-clause-noted g c =
    rows_no_parity c.args.view.now c.args.start (length c.args.from.now) c.args.element (IsNoted c.args.touched.now) c.in-Some.part.now c.in-Some.ensures.found
    (c.if-not-keeps_parity.ensures ∙ ap keeps_parity c.layout.ensures)

pub returns-in_err-k-clause-writes : goal.returns-in_err-k-clause-writes
returns-in_err-k-clause-writes g c = writes_then (MayGive c.args.view.now c.args.start c.args.from.now) g.B.Bay.tells c.loop-k.invariant.writes c.in_err-k.ensures.writes

pub returns-in_err-k-clause-cause : goal.returns-in_err-k-clause-cause
returns-in_err-k-clause-cause g c =
    let p = err_from_is_err_and c.from_residual.result c.from_residual.ensures.1 in
    rw (p.1, p.2) (stopped_since c.args.view.now c.args.start c.args.from.now g.B.Bay.tells c.loop-k.invariant.writes c.in_err-k.ensures.writes (length c.args.from.now) _ c.in_err-k.ensures.cause)

pub returns-clause-summed : goal.returns-clause-summed
returns-clause-summed g c = λ tells entry filled values sector part one is.
    c.loop-k.invariant.summed tells entry filled values sector part one (parity_within c.args.view.now c.args.start (length c.args.from.now) c.loop-k.k c.args.element sector part one (omega (arith, c.loop-k-test.false)) is)

pub returns-clause-noted : goal.returns-clause-noted
returns-clause-noted g c = λ sector part one is.
    c.loop-k.invariant.noted sector part one (parity_within c.args.view.now c.args.start (length c.args.from.now) c.loop-k.k c.args.element sector part one (omega (arith, c.loop-k-test.false)) is)

pub returns-clause-calls : goal.returns-clause-calls
returns-clause-calls g c = λ none.
    absurd (never (sym (any_passes_from_place keeps_parity_in c.args.view.now.parts c.args.element c.in-Some.part.now c.in-Some.ensures.found (ap keeps_parity (sym c.layout.ensures) ∙ sym c.if-not-keeps_parity.ensures)) ∙ none))
  where
    never : true ≡ false → ⊥
    never e = cc

pub returns-in_err-k-clause-calls : goal.returns-in_err-k-clause-calls
returns-in_err-k-clause-calls g c = λ none.
    absurd (never (sym (any_passes_from_place keeps_parity_in c.args.view.now.parts c.args.element c.in-Some.part.now c.in-Some.ensures.found (ap keeps_parity (sym c.layout.ensures) ∙ sym c.if-not-keeps_parity.ensures)) ∙ none))
  where
    never : true ≡ false → ⊥
    never e = cc

pub returns-clause-asked : goal.returns-clause-asked
returns-clause-asked g c =
    let all = cells_of_parity c.args.view.now.parts (length c.args.from.now) c.args.element c.in-Some.part.now c.in-Some.ensures.found (ap keeps_parity (sym c.layout.ensures) ∙ sym c.if-not-keeps_parity.ensures) in
    omega (arith, c.loop-k.invariant.asked, c.loop-k.invariant.within, all)

pub returns-clause-written : goal.returns-clause-written
returns-clause-written g c =
    let all = cells_of_parity c.args.view.now.parts (length c.args.from.now) c.args.element c.in-Some.part.now c.in-Some.ensures.found (ap keeps_parity (sym c.layout.ensures) ∙ sym c.if-not-keeps_parity.ensures) in
    omega (arith, c.loop-k.invariant.written, c.loop-k.invariant.within, all)

pub returns-in_err-k-clause-asked : goal.returns-in_err-k-clause-asked
returns-in_err-k-clause-asked g c =
    let all = cells_of_parity c.args.view.now.parts (length c.args.from.now) c.args.element c.in-Some.part.now c.in-Some.ensures.found (ap keeps_parity (sym c.layout.ensures) ∙ sym c.if-not-keeps_parity.ensures) in
    omega (arith, c.loop-k.invariant.asked, c.in_err-k.ensures.asked_most, all)

pub returns-in_err-k-clause-written : goal.returns-in_err-k-clause-written
returns-in_err-k-clause-written g c =
    let all = cells_of_parity c.args.view.now.parts (length c.args.from.now) c.args.element c.in-Some.part.now c.in-Some.ensures.found (ap keeps_parity (sym c.layout.ensures) ∙ sym c.if-not-keeps_parity.ensures) in
    omega (arith, c.loop-k.invariant.written, c.in_err-k.ensures.written_most, all)
