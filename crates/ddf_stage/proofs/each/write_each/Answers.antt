use Rattle.std.proofs.Common.{◌≡◌, ◌+◌, ◌*◌, Some, length, refl, ap, arith}
use Rattle.std.specs.Prelude.{slice_get, slice_index, slice_index_or}
use Rattle.std.proofs.lemmas.Grind.{common_steps}
use Rattle.std.proofs.lemmas.Option.{slice_get-get_or, slice_get_within}
use Rattle.ddf_bay.specs.Sectors.{put_run}
use Rattle.ddf_bay.specs.Moments.{IsAmong, Mixes}
use Rattle.ddf_bay.proofs.Runs.{put_mixes}
use Rattle.ddf_bay.proofs.Steps.{over_most, over_then, over_writes, stops_then}
use Rattle.ddf_stage.specs.declared.desk.Desk.{Desk}
use Rattle.ddf_stage.specs.Desks.{HasDesk}
use Rattle.ddf_stage.proofs.Giving.{adds_more, among_more, mixes_more, there_all, there_more}
use Rattle.ddf_stage.proofs.each.write_each.Goals as goal

pub overflow_add-desk : goal.overflow_add-desk
overflow_add-desk g c =
    let desk : Desk = slice_index_or c.args.desks.now c.loop-desk.desk-index (record { slot = 0; lba = 0 }) in
    let at : slice_get c.args.desks.now c.loop-desk.desk-index ≡ Some desk = slice_get-get_or c.args.desks.now c.loop-desk.desk-index (record { slot = 0; lba = 0 }) c.loop-desk-test.true in
    omega (arith, (c.requires.on c.loop-desk.desk-index desk at).1, g.met.B.Bay.small c.args.bay.now desk.slot, c.requires.few)

pub write_run-requires-clause-slot : goal.write_run-requires-clause-slot
write_run-requires-clause-slot g c =
    let desk : Desk = slice_index_or c.args.desks.now c.loop-desk.desk-index (record { slot = 0; lba = 0 }) in
    let at : slice_get c.args.desks.now c.loop-desk.desk-index ≡ Some desk = slice_get-get_or c.args.desks.now c.loop-desk.desk-index (record { slot = 0; lba = 0 }) c.loop-desk-test.true in
    rw c.loop-desk.invariant.spends.same_sizes (c.requires.on c.loop-desk.desk-index desk at).0

pub write_run-requires-clause-sectors : goal.write_run-requires-clause-sectors
write_run-requires-clause-sectors g c =
    let desk : Desk = slice_index_or c.args.desks.now c.loop-desk.desk-index (record { slot = 0; lba = 0 }) in
    let at : slice_get c.args.desks.now c.loop-desk.desk-index ≡ Some desk = slice_get-get_or c.args.desks.now c.loop-desk.desk-index (record { slot = 0; lba = 0 }) c.loop-desk-test.true in
    let sizes : slice_index (g.B.Bay.disks c.loop-desk.bay).sizes desk.slot ≡ slice_index (g.B.Bay.disks c.args.bay.now).sizes desk.slot = ap (λ (s : _). slice_index s desk.slot) c.loop-desk.invariant.spends.same_sizes in
    omega (arith, (c.requires.on c.loop-desk.desk-index desk at).1, c.requires.few, sizes)

pub returns-in_err-map_err-clause-held : goal.returns-in_err-map_err-clause-held
returns-in_err-map_err-clause-held g c = λ tells.
    let desk : Desk = slice_index_or c.args.desks.now c.loop-desk.desk-index (record { slot = 0; lba = 0 }) in
    let at : slice_get c.args.desks.now c.loop-desk.desk-index ≡ Some desk = slice_get-get_or c.args.desks.now c.loop-desk.desk-index (record { slot = 0; lba = 0 }) c.loop-desk-test.true in
    let mixes : Mixes (g.B.Bay.disks c.loop-desk.bay).held (g.B.Bay.disks c.write_run.new.self).held desk.slot (desk.lba + c.args.offset) c.args.sectors.now = grind (arith, common_steps, c.write_run.ensures.held_failed tells) in
    mixes_more c.args.desks.now c.args.offset c.args.sectors.now c.loop-desk.desk-index desk at (g.B.Bay.disks c.args.bay.now).held (g.B.Bay.disks c.loop-desk.bay).held (g.B.Bay.disks c.write_run.new.self).held (c.loop-desk.invariant.held tells) mixes

pub returns-in_err-map_err-clause-left : goal.returns-in_err-map_err-clause-left
returns-in_err-map_err-clause-left g c =
    let desk : Desk = slice_index_or c.args.desks.now c.loop-desk.desk-index (record { slot = 0; lba = 0 }) in
    let at : slice_get c.args.desks.now c.loop-desk.desk-index ≡ Some desk = slice_get-get_or c.args.desks.now c.loop-desk.desk-index (record { slot = 0; lba = 0 }) c.loop-desk-test.true in
    adds_more c.args.desks.now c.args.offset c.args.sectors.now c.loop-desk.desk-index desk at (g.B.Bay.disks c.args.bay.now).may_hold (g.B.Bay.disks c.loop-desk.bay).may_hold (g.B.Bay.disks c.write_run.new.self).may_hold c.loop-desk.invariant.left c.write_run.ensures.left

pub returns-in_err-map_err-clause-any_moment : goal.returns-in_err-map_err-clause-any_moment
returns-in_err-map_err-clause-any_moment g c =
    let desk : Desk = slice_index_or c.args.desks.now c.loop-desk.desk-index (record { slot = 0; lba = 0 }) in
    let at : slice_get c.args.desks.now c.loop-desk.desk-index ≡ Some desk = slice_get-get_or c.args.desks.now c.loop-desk.desk-index (record { slot = 0; lba = 0 }) c.loop-desk-test.true in
    stops_then {Q = IsAmong (g.B.Bay.disks c.loop-desk.bay).may_hold desk.slot (desk.lba + c.args.offset) c.args.sectors.now} c.loop-desk.invariant.any_moment c.write_run.ensures.any_moment
    (λ image among. among_more c.args.desks.now c.args.offset c.args.sectors.now c.loop-desk.desk-index desk at (g.B.Bay.disks c.args.bay.now).may_hold (g.B.Bay.disks c.loop-desk.bay).may_hold c.loop-desk.invariant.left image among)

pub returns-in_err-map_err-clause-failed : goal.returns-in_err-map_err-clause-failed
returns-in_err-map_err-clause-failed g c =
    let desk : Desk = slice_index_or c.args.desks.now c.loop-desk.desk-index (record { slot = 0; lba = 0 }) in
    let at : slice_get c.args.desks.now c.loop-desk.desk-index ≡ Some desk = slice_get-get_or c.args.desks.now c.loop-desk.desk-index (record { slot = 0; lba = 0 }) c.loop-desk-test.true in
    let has : HasDesk c.args.desks.now desk.slot = record { number = c.loop-desk.desk-index; desk = desk; is_desk = at; on_slot = refl } in
    grind (arith, common_steps, has)

pub loop-desk-preserved : goal.loop-desk-preserved
loop-desk-preserved g c =
    let desk : Desk = slice_index_or c.args.desks.now c.loop-desk.desk-index (record { slot = 0; lba = 0 }) in
    let at : slice_get c.args.desks.now c.loop-desk.desk-index ≡ Some desk = slice_get-get_or c.args.desks.now c.loop-desk.desk-index (record { slot = 0; lba = 0 }) c.loop-desk-test.true in
    record {
      there = λ tells.
          let done : (g.B.Bay.disks c.write_run.new.self).held ≡ put_run (g.B.Bay.disks c.loop-desk.bay).held desk.slot (desk.lba + c.args.offset) c.args.sectors.now = grind (arith, common_steps, c.write_run.ensures.held tells) in
          there_more c.args.desks.now c.requires.own c.args.offset c.args.sectors.now c.loop-desk.desk-index desk at (g.B.Bay.disks c.loop-desk.bay).held (g.B.Bay.disks c.write_run.new.self).held done (c.loop-desk.invariant.there tells);
      held = λ tells.
          let done : (g.B.Bay.disks c.write_run.new.self).held ≡ put_run (g.B.Bay.disks c.loop-desk.bay).held desk.slot (desk.lba + c.args.offset) c.args.sectors.now = grind (arith, common_steps, c.write_run.ensures.held tells) in
          let mixes : Mixes (g.B.Bay.disks c.loop-desk.bay).held (g.B.Bay.disks c.write_run.new.self).held desk.slot (desk.lba + c.args.offset) c.args.sectors.now =
          rw done (put_mixes (g.B.Bay.disks c.loop-desk.bay).held desk.slot (desk.lba + c.args.offset) c.args.sectors.now) in
          mixes_more c.args.desks.now c.args.offset c.args.sectors.now c.loop-desk.desk-index desk at (g.B.Bay.disks c.args.bay.now).held (g.B.Bay.disks c.loop-desk.bay).held (g.B.Bay.disks c.write_run.new.self).held (c.loop-desk.invariant.held tells) mixes;
      left = adds_more c.args.desks.now c.args.offset c.args.sectors.now c.loop-desk.desk-index desk at (g.B.Bay.disks c.args.bay.now).may_hold (g.B.Bay.disks c.loop-desk.bay).may_hold (g.B.Bay.disks c.write_run.new.self).may_hold c.loop-desk.invariant.left c.write_run.ensures.left;
      any_moment = stops_then {Q = IsAmong (g.B.Bay.disks c.loop-desk.bay).may_hold desk.slot (desk.lba + c.args.offset) c.args.sectors.now} c.loop-desk.invariant.any_moment c.write_run.ensures.any_moment
          (λ image among. among_more c.args.desks.now c.args.offset c.args.sectors.now c.loop-desk.desk-index desk at (g.B.Bay.disks c.args.bay.now).may_hold (g.B.Bay.disks c.loop-desk.bay).may_hold c.loop-desk.invariant.left image among);
      reads = grind (arith, common_steps);
      spends = over_most ((c.loop-desk.desk-index + 1) * length c.args.sectors.now) (c.loop-desk.desk-index + 1) (over_then c.loop-desk.invariant.spends (over_writes c.write_run.ensures.spends)) (omega arith) (omega arith);
      writes = grind (arith, common_steps);
    }

pub returns-clause-there : goal.returns-clause-there
returns-clause-there g c = λ tells.
    there_all c.args.desks.now c.args.offset c.args.sectors.now (g.B.Bay.disks c.loop-desk.bay).held (λ k desk at. slice_get_within c.args.desks.now k desk at)
    (λ k desk below at. c.loop-desk.invariant.there tells k desk (omega (arith, slice_get_within c.args.desks.now k desk at, c.loop-desk-test.false)) at)
