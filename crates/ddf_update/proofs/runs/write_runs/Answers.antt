use Rattle.std.proofs.Common.{◌≡◌, ◌+◌, ◌∷◌, length, drop, refl, sym, ◌∙◌, ap, arith}
use Rattle.std.specs.Prelude.{slice_get, Some}
use Rattle.std.proofs.lemmas.Option.{slice_get_read}
use Rattle.std.proofs.lemmas.Grind.{common_steps}
use Rattle.ddf_bay.specs.Sectors.{put_run}
use Rattle.ddf_bay.specs.Moments.{Mixes, IsAmong}
use Rattle.ddf_bay.proofs.Steps.{stops_then}
use Rattle.ddf_bay.proofs.Runs.{put_mixes}
use Rattle.ddf_copy.specs.Runs.{put_runs, sector_count}
use Rattle.ddf_update.proofs.RunSteps.{rest_is, mixes_more, adds_more, among_more}
use Rattle.ddf_update.proofs.runs.write_runs.Goals as goal

pub overflow_add-at : goal.overflow_add-at
overflow_add-at g c =
    let at : slice_get c.args.runs.now c.loop-run.run-index ≡ Some c.run-item.result = slice_get_read c.args.runs.now _ c.loop-run.run-index c.run-item.result refl c.loop-run-test.true c.run-item.is in
    omega (arith, (c.requires.room c.loop-run.run-index c.run-item.result at).1, g.met.B.Bay.small c.args.bay.now c.args.slot, c.from.ensures)

pub write_run-requires-clause-some : goal.write_run-requires-clause-some
write_run-requires-clause-some g c =
    let at : slice_get c.args.runs.now c.loop-run.run-index ≡ Some c.run-item.result = slice_get_read c.args.runs.now _ c.loop-run.run-index c.run-item.result refl c.loop-run-test.true c.run-item.is in
    rw c.items.ensures (c.requires.room c.loop-run.run-index c.run-item.result at).0

pub write_run-requires-clause-sectors : goal.write_run-requires-clause-sectors
write_run-requires-clause-sectors g c =
    let at : slice_get c.args.runs.now c.loop-run.run-index ≡ Some c.run-item.result = slice_get_read c.args.runs.now _ c.loop-run.run-index c.run-item.result refl c.loop-run-test.true c.run-item.is in
    rw (c.items.ensures, c.from.ensures, c.loop-run.invariant.sizes) (c.requires.room c.loop-run.run-index c.run-item.result at).1

pub returns-in_err-map_err-clause-left : goal.returns-in_err-map_err-clause-left
returns-in_err-map_err-clause-left g c =
    let at : slice_get c.args.runs.now c.loop-run.run-index ≡ Some c.run-item.result = slice_get_read c.args.runs.now _ c.loop-run.run-index c.run-item.result refl c.loop-run-test.true c.run-item.is in
    adds_more (g.B.Bay.disks c.args.bay.now).may_hold (g.B.Bay.disks c.loop-run.bay).may_hold (g.B.Bay.disks c.write_run.new.self).may_hold c.args.slot c.args.lba c.args.runs.now c.loop-run.run-index c.run-item.result at c.loop-run.invariant.left (rw (c.items.ensures, c.from.ensures) at c.write_run.ensures.left)

pub returns-in_err-map_err-clause-any_moment : goal.returns-in_err-map_err-clause-any_moment
returns-in_err-map_err-clause-any_moment g c =
    let at : slice_get c.args.runs.now c.loop-run.run-index ≡ Some c.run-item.result = slice_get_read c.args.runs.now _ c.loop-run.run-index c.run-item.result refl c.loop-run-test.true c.run-item.is in
    stops_then {Q = IsAmong (g.B.Bay.disks c.loop-run.bay).may_hold c.args.slot (c.args.lba + c.from.result) c.items.result.now} c.loop-run.invariant.any_moment c.write_run.ensures.any_moment (λ image among. among_more (g.B.Bay.disks c.args.bay.now).may_hold (g.B.Bay.disks c.loop-run.bay).may_hold (g.B.Bay.disks c.write_run.new.self).may_hold c.args.slot c.args.lba c.args.runs.now c.loop-run.run-index c.run-item.result at c.loop-run.invariant.left image (rw (c.items.ensures, c.from.ensures) at among))

pub returns-in_err-map_err-clause-held : goal.returns-in_err-map_err-clause-held
returns-in_err-map_err-clause-held g c = λ tells.
    let at : slice_get c.args.runs.now c.loop-run.run-index ≡ Some c.run-item.result = slice_get_read c.args.runs.now _ c.loop-run.run-index c.run-item.result refl c.loop-run-test.true c.run-item.is in
    let mixes : Mixes (g.B.Bay.disks c.loop-run.bay).held (g.B.Bay.disks c.write_run.new.self).held c.args.slot (c.args.lba + c.from.result) c.items.result.now = grind (arith, common_steps, c.write_run.ensures.held_failed tells) in
    mixes_more (g.B.Bay.disks c.args.bay.now).held (g.B.Bay.disks c.loop-run.bay).held (g.B.Bay.disks c.write_run.new.self).held c.args.slot c.args.lba c.args.runs.now c.loop-run.run-index c.run-item.result at (c.loop-run.invariant.held tells) (rw (c.items.ensures, c.from.ensures) at mixes)

pub loop-run-preserved : goal.loop-run-preserved
loop-run-preserved g c =
    let at : slice_get c.args.runs.now c.loop-run.run-index ≡ Some c.run-item.result = slice_get_read c.args.runs.now _ c.loop-run.run-index c.run-item.result refl c.loop-run-test.true c.run-item.is in
    let rest : drop c.loop-run.run-index c.args.runs.now ≡ c.run-item.result ∷ drop (c.loop-run.run-index + 1) c.args.runs.now = rest_is c.args.runs.now c.loop-run.run-index c.run-item.result at in
    let counted = ap sector_count rest in
    record {
      written_runs = λ tells.
          let done : (g.B.Bay.disks c.write_run.new.self).held ≡ put_run (g.B.Bay.disks c.loop-run.bay).held c.args.slot (c.args.lba + c.from.result) c.items.result.now = grind (arith, common_steps, c.write_run.ensures.held tells) in
          rw (done, c.items.ensures, c.from.ensures) (sym (ap (put_runs (g.B.Bay.disks c.loop-run.bay).held c.args.slot c.args.lba) rest) ∙ c.loop-run.invariant.written_runs tells);
      held = λ tells.
          let done : (g.B.Bay.disks c.write_run.new.self).held ≡ put_run (g.B.Bay.disks c.loop-run.bay).held c.args.slot (c.args.lba + c.from.result) c.items.result.now = grind (arith, common_steps, c.write_run.ensures.held tells) in
          let mixes : Mixes (g.B.Bay.disks c.loop-run.bay).held (g.B.Bay.disks c.write_run.new.self).held c.args.slot (c.args.lba + c.from.result) c.items.result.now =
          rw done (put_mixes (g.B.Bay.disks c.loop-run.bay).held c.args.slot (c.args.lba + c.from.result) c.items.result.now) in
          mixes_more (g.B.Bay.disks c.args.bay.now).held (g.B.Bay.disks c.loop-run.bay).held (g.B.Bay.disks c.write_run.new.self).held c.args.slot c.args.lba c.args.runs.now c.loop-run.run-index c.run-item.result at (c.loop-run.invariant.held tells) (rw (c.items.ensures, c.from.ensures) at mixes);
      left = adds_more (g.B.Bay.disks c.args.bay.now).may_hold (g.B.Bay.disks c.loop-run.bay).may_hold (g.B.Bay.disks c.write_run.new.self).may_hold c.args.slot c.args.lba c.args.runs.now c.loop-run.run-index c.run-item.result at c.loop-run.invariant.left (rw (c.items.ensures, c.from.ensures) at c.write_run.ensures.left);
      any_moment = stops_then {Q = IsAmong (g.B.Bay.disks c.loop-run.bay).may_hold c.args.slot (c.args.lba + c.from.result) c.items.result.now} c.loop-run.invariant.any_moment c.write_run.ensures.any_moment (λ image among. among_more (g.B.Bay.disks c.args.bay.now).may_hold (g.B.Bay.disks c.loop-run.bay).may_hold (g.B.Bay.disks c.write_run.new.self).may_hold c.args.slot c.args.lba c.args.runs.now c.loop-run.run-index c.run-item.result at c.loop-run.invariant.left image (rw (c.items.ensures, c.from.ensures) at among));
      goes_on = λ bay leads. c.loop-run.invariant.goes_on bay (c.write_run.ensures.spends.goes_on bay leads);
      told = grind (arith, common_steps);
      sizes = grind (arith, common_steps);
      writes = grind (arith, common_steps);
      reads = grind (arith, common_steps);
      asked_up = grind (arith, common_steps);
      asked = omega (arith, counted, c.write_run.ensures.spends.costs.asked, c.loop-run.invariant.asked, ap length c.items.ensures);
      written_up = grind (arith, common_steps);
      written = omega (arith, counted, c.write_run.ensures.spends.costs.written, c.loop-run.invariant.written, ap length c.items.ensures);
      calls_up = grind (arith, common_steps);
      calls = grind (arith, common_steps);
    }
