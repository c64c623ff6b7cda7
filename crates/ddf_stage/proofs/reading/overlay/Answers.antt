use Rattle.std.proofs.Common.{◌≡◌, ◌∙◌, ◌+◌, ◌*◌, Option, Some, None, refl, sym, arith, length, slice_get}
use Rattle.std.specs.Prelude.{slice_index_or}
use Rattle.std.proofs.lemmas.Option.{slice_get-get_or}
use Rattle.ddf_bay.proofs.Looks.{reads_start, reads_then}
use Rattle.ddf_bay.proofs.Steps.{over_most, over_reads, over_start, over_then}
use Rattle.ddf_stage.specs.declared.desk.Desk.{Desk}
use Rattle.ddf_stage.specs.declared.desk.Staged.{Staged}
use Rattle.ddf_stage.specs.Desks.{HasDesk}
use Rattle.ddf_stage.specs.Laid.{on_desk}
use Rattle.ddf_stage.proofs.DeskReads.{passed, reads_passed, reads_within}
use Rattle.ddf_stage.proofs.reading.overlay.Goals as goal

pub read_desk-requires-clause-slot : goal.read_desk-requires-clause-slot
read_desk-requires-clause-slot g c =
    let desk : Desk = slice_index_or c.args.desks.now c.loop-desk.desk-index (record { slot = 0; lba = 0 }) in
    let at : slice_get c.args.desks.now c.loop-desk.desk-index ≡ Some desk = slice_get-get_or c.args.desks.now c.loop-desk.desk-index (record { slot = 0; lba = 0 }) c.loop-desk-test.true in
    rw c.loop-desk.invariant.reads.same_sizes (c.requires c.loop-desk.desk-index desk at).0

pub read_desk-requires-clause-sectors : goal.read_desk-requires-clause-sectors
read_desk-requires-clause-sectors g c =
    let desk : Desk = slice_index_or c.args.desks.now c.loop-desk.desk-index (record { slot = 0; lba = 0 }) in
    let at : slice_get c.args.desks.now c.loop-desk.desk-index ≡ Some desk = slice_get-get_or c.args.desks.now c.loop-desk.desk-index (record { slot = 0; lba = 0 }) c.loop-desk-test.true in
    rw c.loop-desk.invariant.reads.same_sizes (c.requires c.loop-desk.desk-index desk at).1

pub returns-in-Err-clause-failed : goal.returns-in-Err-clause-failed
returns-in-Err-clause-failed g c =
    let desk : Desk = slice_index_or c.args.desks.now c.loop-desk.desk-index (record { slot = 0; lba = 0 }) in
    let at : slice_get c.args.desks.now c.loop-desk.desk-index ≡ Some desk = slice_get-get_or c.args.desks.now c.loop-desk.desk-index (record { slot = 0; lba = 0 }) c.loop-desk-test.true in
    let has : HasDesk c.args.desks.now desk.slot = record { number = c.loop-desk.desk-index; desk = desk; is_desk = at; on_slot = refl } in
    (has, rw (sym c.loop-desk.invariant.faults) c.in-Err.ensures.failed)

pub loop-desk-preserved : goal.loop-desk-preserved
loop-desk-preserved g c =
    let desk : Desk = slice_index_or c.args.desks.now c.loop-desk.desk-index (record { slot = 0; lba = 0 }) in
    let at : slice_get c.args.desks.now c.loop-desk.desk-index ≡ Some desk = slice_get-get_or c.args.desks.now c.loop-desk.desk-index (record { slot = 0; lba = 0 }) c.loop-desk-test.true in
    record {
      rest = λ tells.
          let exact : ◌≡◌ {A = Option Staged} None (on_desk c.args.arrays.now (g.B.Bay.disks c.args.bay.now).held desk) = sym c.in-Ok-None.field-0-is ∙ (rw c.loop-desk.invariant.reads.same_held at (c.in-Ok-None.ensures.exact tells)) in
          c.loop-desk.invariant.rest tells ∙ passed c.args.arrays.now (g.B.Bay.disks c.args.bay.now).held c.args.desks.now c.loop-desk.desk-index desk at (sym exact);
      reads = reads_then c.loop-desk.invariant.reads c.read_desk.ensures.reads;
      faults = c.in-Ok-None.ensures.ok ∙ c.loop-desk.invariant.faults;
      writes = c.read_desk.ensures.spends.same ∙ c.loop-desk.invariant.writes;
      spends = over_most 0 (2 * (c.loop-desk.desk-index + 1)) (over_then c.loop-desk.invariant.spends (over_reads c.read_desk.ensures.spends)) (omega arith) (omega arith);
      shut = λ tells.
          let old = (g.B.Bay.disks c.args.bay.now).held in
          let exact : ◌≡◌ {A = Option Staged} None (on_desk c.args.arrays.now old desk) = sym c.in-Ok-None.field-0-is ∙ (rw c.loop-desk.invariant.reads.same_held at (c.in-Ok-None.ensures.exact tells)) in
          let none : on_desk c.args.arrays.now (g.B.Bay.disks c.loop-desk.bay).held desk ≡ None = rw c.loop-desk.invariant.reads.same_held (sym exact) in
          let one = (c.read_desk.ensures.shut tells none).costs.calls_most in
          let so_far = c.loop-desk.invariant.shut tells in
          let passes = reads_passed c.args.arrays.now old c.args.desks.now c.loop-desk.desk-index desk at (sym exact) in
          omega (arith, one, so_far, passes);
    }

pub loop-desk-init : goal.loop-desk-init
loop-desk-init g c = record {
  rest = λ tells. refl;
  reads = reads_start _;
  faults = refl;
  writes = refl;
  spends = over_start _;
  shut = λ tells. omega arith;
}

pub returns-in-Ok-Some-clause-spends : goal.returns-in-Ok-Some-clause-spends
returns-in-Ok-Some-clause-spends g c =
    over_most 0 (2 * length c.args.desks.now) (over_then c.loop-desk.invariant.spends (over_reads c.read_desk.ensures.spends)) (omega arith) (omega (arith, c.loop-desk-test.true))

pub returns-in-Ok-Some-clause-shut : goal.returns-in-Ok-Some-clause-shut
returns-in-Ok-Some-clause-shut g c = λ tells.
    let old = (g.B.Bay.disks c.args.bay.now).held in
    let desk : Desk = slice_index_or c.args.desks.now c.loop-desk.desk-index (record { slot = 0; lba = 0 }) in
    let at : slice_get c.args.desks.now c.loop-desk.desk-index ≡ Some desk = slice_get-get_or c.args.desks.now c.loop-desk.desk-index (record { slot = 0; lba = 0 }) c.loop-desk-test.true in
    let so_far = c.loop-desk.invariant.shut tells in
    let here = reads_within c.args.arrays.now old c.args.desks.now c.loop-desk.desk-index desk at (g.B.Bay.disks c.loop-desk.bay).calls (g.B.Bay.disks c.read_desk.new.bay).calls
    (λ none. (c.read_desk.ensures.shut tells (rw c.loop-desk.invariant.reads.same_held none)).costs.calls_most) c.read_desk.ensures.spends.costs.calls_most in
    omega (arith, so_far, here)

pub returns-in-Err-clause-spends : goal.returns-in-Err-clause-spends
returns-in-Err-clause-spends g c =
    over_most 0 (2 * length c.args.desks.now) (over_then c.loop-desk.invariant.spends (over_reads c.read_desk.ensures.spends)) (omega arith) (omega (arith, c.loop-desk-test.true))

pub returns-in-Err-clause-shut : goal.returns-in-Err-clause-shut
returns-in-Err-clause-shut g c = λ tells.
    let old = (g.B.Bay.disks c.args.bay.now).held in
    let desk : Desk = slice_index_or c.args.desks.now c.loop-desk.desk-index (record { slot = 0; lba = 0 }) in
    let at : slice_get c.args.desks.now c.loop-desk.desk-index ≡ Some desk = slice_get-get_or c.args.desks.now c.loop-desk.desk-index (record { slot = 0; lba = 0 }) c.loop-desk-test.true in
    let so_far = c.loop-desk.invariant.shut tells in
    let here = reads_within c.args.arrays.now old c.args.desks.now c.loop-desk.desk-index desk at (g.B.Bay.disks c.loop-desk.bay).calls (g.B.Bay.disks c.read_desk.new.bay).calls
    (λ none. (c.read_desk.ensures.shut tells (rw c.loop-desk.invariant.reads.same_held none)).costs.calls_most) c.read_desk.ensures.spends.costs.calls_most in
    omega (arith, so_far, here)

pub returns-clause-shut : goal.returns-clause-shut
returns-clause-shut g c = λ tells. let so_far = c.loop-desk.invariant.shut tells in omega (arith, so_far)
