use Rattle.std.proofs.Common.{◌≡◌, ◌∙◌, Some, refl, arith}
use Rattle.std.proofs.lemmas.Grind.{common_steps}
use Rattle.std.proofs.lemmas.Option.{slice_get-get_or, slice_get_read}
use Rattle.std.specs.Prelude.{slice_get, slice_index_or}
use Rattle.ddf_update.specs.Group.{IsOneOf}
use Rattle.ddf_update.proofs.ChangeSteps.{change_done, change_stops, may_now}
use Rattle.ddf_update.proofs.Getting.{getting_stops, has_got}
use Rattle.ddf_update.proofs.Costs.{spends_all, spends_more, spends_within}
use Rattle.ddf_update.proofs.changes.write_disks.Goals as goal

pub write_disk-requires-clause-on_slot : goal.write_disk-requires-clause-on_slot
write_disk-requires-clause-on_slot g c =
    let place = c.loop-place.place in
    let slots = c.args.slots.now in
    let slot = slice_index_or slots place 0 in
    let update = c.index-updates-place.result in
    let here : slice_get slots place ≡ Some slot = slice_get-get_or slots place 0 (omega (arith, c.requires.counted, c.loop-place-test.true)) in
    let there : slice_get c.args.updates.now place ≡ Some update = slice_get_read c.args.updates.now _ place update refl c.loop-place-test.true c.index-updates-place.is in
    rw c.loop-place.invariant.spends.same_sizes (c.requires.lie_on place slot update here there)

pub returns-in_err-write_disk-clause-any_moment : goal.returns-in_err-write_disk-clause-any_moment
returns-in_err-write_disk-clause-any_moment g c = λ tells seat may.
    let start = g.B.Bay.disks c.args.bay.now in
    let slots = c.args.slots.now in
    let updates = c.args.updates.now in
    let now = g.B.Bay.disks c.loop-place.bay in
    let place = c.loop-place.place in
    let slot = slice_index_or slots place 0 in
    let update = c.index-updates-place.result in
    let here : slice_get slots place ≡ Some slot = slice_get-get_or slots place 0 (omega (arith, c.requires.counted, c.loop-place-test.true)) in
    let there : slice_get updates place ≡ Some update = slice_get_read updates _ place update refl c.loop-place-test.true c.index-updates-place.is in
    let so_far = c.loop-place.invariant.changed tells seat may in
    let one = may_now start slots seat updates c.requires.are_slots may now c.loop-place.invariant.spends.same_sizes place so_far slot update here there in
    let step = getting_stops now (g.B.Bay.disks c.write_disk.new.bay) slot update (seat place) (seat place).mode (c.write_disk.ensures.change tells) (c.write_disk.ensures.adopt tells) (c.write_disk.ensures.relocate tells) (may.are_prepared place update there) one in
    change_stops start slots seat updates c.requires.are_slots may now c.loop-place.invariant.spends.same_sizes place so_far slot update here there (g.B.Bay.disks c.write_disk.new.bay) (c.loop-place.invariant.any_moment tells seat may) step

pub returns-in_err-write_disk-clause-failed : goal.returns-in_err-write_disk-clause-failed
returns-in_err-write_disk-clause-failed g c =
    let slots = c.args.slots.now in
    let place = c.loop-place.place in
    let slot = slice_index_or slots place 0 in
    let here : slice_get slots place ≡ Some slot = slice_get-get_or slots place 0 (omega (arith, c.requires.counted, c.loop-place-test.true)) in
    let one : IsOneOf slots slot = record { place = place; is_there = here } in
    grind (arith, common_steps, one, c.in_err-write_disk.ensures.failed, c.loop-place.invariant.writes, c.from_residual.ensures)

pub returns-in_err-write_disk-clause-spends : goal.returns-in_err-write_disk-clause-spends
returns-in_err-write_disk-clause-spends g c =
    let place = c.loop-place.place in
    let update = c.index-updates-place.result in
    let there : slice_get c.args.updates.now place ≡ Some update = slice_get_read c.args.updates.now _ place update refl c.loop-place-test.true c.index-updates-place.is in
    spends_within c.args.updates.now place update there c.loop-place.invariant.spends c.write_disk.ensures.spends

pub returns-clause-spends : goal.returns-clause-spends
returns-clause-spends g c = spends_all c.args.updates.now _ c.loop-place.invariant.spends

pub loop-place-preserved : goal.loop-place-preserved
loop-place-preserved g c =
    let start = g.B.Bay.disks c.args.bay.now in
    let slots = c.args.slots.now in
    let updates = c.args.updates.now in
    let now = g.B.Bay.disks c.loop-place.bay in
    let place = c.loop-place.place in
    let slot = slice_index_or slots place 0 in
    let update = c.index-updates-place.result in
    let here : slice_get slots place ≡ Some slot = slice_get-get_or slots place 0 (omega (arith, c.requires.counted, c.loop-place-test.true)) in
    let there : slice_get updates place ≡ Some update = slice_get_read updates _ place update refl c.loop-place-test.true c.index-updates-place.is in
    record {
      any_moment = λ tells seat may.
          let so_far = c.loop-place.invariant.changed tells seat may in
          let one = may_now start slots seat updates c.requires.are_slots may now c.loop-place.invariant.spends.same_sizes place so_far slot update here there in
          let step = getting_stops now (g.B.Bay.disks c.write_disk.new.bay) slot update (seat place) (seat place).mode (c.write_disk.ensures.change tells) (c.write_disk.ensures.adopt tells) (c.write_disk.ensures.relocate tells) (may.are_prepared place update there) one in
          change_stops start slots seat updates c.requires.are_slots may now c.loop-place.invariant.spends.same_sizes place so_far slot update here there (g.B.Bay.disks c.write_disk.new.bay) (c.loop-place.invariant.any_moment tells seat may) step;
      changed = λ tells seat may.
          let so_far = c.loop-place.invariant.changed tells seat may in
          let one = may_now start slots seat updates c.requires.are_slots may now c.loop-place.invariant.spends.same_sizes place so_far slot update here there in
          let done = has_got now (g.B.Bay.disks c.write_disk.new.bay) slot update (seat place) (seat place).mode (c.in_ok-write_disk.ensures.changed tells) (c.in_ok-write_disk.ensures.adopted tells) (c.in_ok-write_disk.ensures.relocated tells) (may.are_prepared place update there) one in
          change_done start slots seat updates c.requires.are_slots may now c.loop-place.invariant.spends.same_sizes place so_far slot update here there (g.B.Bay.disks c.write_disk.new.bay) done;
      spends = spends_more updates place update there c.loop-place.invariant.spends c.write_disk.ensures.spends;
      reads = c.write_disk.ensures.spends.same ∙ c.loop-place.invariant.reads;
      writes = c.in_ok-write_disk.ensures.ok ∙ c.loop-place.invariant.writes;
    }
