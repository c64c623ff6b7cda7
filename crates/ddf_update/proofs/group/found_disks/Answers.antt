use Rattle.std.proofs.Common.{◌≡◌, ◌∙◌, Some, refl, arith}
use Rattle.std.proofs.lemmas.Grind.{common_steps}
use Rattle.std.proofs.lemmas.Option.{slice_get-get_or, slice_get_read}
use Rattle.std.specs.Prelude.{slice_get, slice_index_or}
use Rattle.ddf_copy.specs.declared.which.Which.TheVariants.{Secondary}
use Rattle.ddf_update.specs.Group.{IsOneOf}
use Rattle.ddf_update.proofs.Costs.{spends_all, spends_more, spends_within}
use Rattle.ddf_update.proofs.GroupSteps.{group_founded, group_stops, next_blank}
use Rattle.ddf_update.proofs.group.found_disks.Goals as goal

pub write_disk-requires-clause-on_slot : goal.write_disk-requires-clause-on_slot
write_disk-requires-clause-on_slot g c =
    let place = c.loop-place.place in
    let slots = c.args.slots.now in
    let slot = slice_index_or slots place 0 in
    let update = c.index-updates-place.result in
    let here : slice_get slots place ≡ Some slot = slice_get-get_or slots place 0 (omega (arith, c.requires.counted, c.loop-place-test.true)) in
    let there : slice_get c.args.updates.now place ≡ Some update = slice_get_read c.args.updates.now _ place update refl c.loop-place-test.true c.index-updates-place.is in
    rw c.loop-place.invariant.spends.same_sizes (c.requires.lie_on place slot update here there)

pub returns-in_err-write_disk-clause-any_moment : goal.returns-in_err-write_disk-clause-any_moment
returns-in_err-write_disk-clause-any_moment g c = λ tells copy may.
    let start = g.B.Bay.disks c.args.bay.now in
    let slots = c.args.slots.now in
    let place = c.loop-place.place in
    let slot = slice_index_or slots place 0 in
    let update = c.index-updates-place.result in
    let here : slice_get slots place ≡ Some slot = slice_get-get_or slots place 0 (omega (arith, c.requires.counted, c.loop-place-test.true)) in
    let there : slice_get c.args.updates.now place ≡ Some update = slice_get_read c.args.updates.now _ place update refl c.loop-place-test.true c.index-updates-place.is in
    let so_far = c.loop-place.invariant.founded tells copy may in
    let one = next_blank start slots copy c.requires.are_slots c.args.updates.now (g.B.Bay.disks c.loop-place.bay) c.loop-place.invariant.spends.same_sizes place slot may so_far here in
    let step = c.write_disk.ensures.found tells Secondary (copy place) (may.are_prepared place update there) one in
    group_stops start slots copy c.requires.are_slots (g.B.Bay.disks c.loop-place.bay) (g.B.Bay.disks c.write_disk.new.bay) c.loop-place.invariant.spends.same_sizes place slot update so_far here (may.are_prepared place update there) (may.are_under place slot here) (c.loop-place.invariant.any_moment tells copy may) step

pub returns-in_err-write_disk-clause-failed : goal.returns-in_err-write_disk-clause-failed
returns-in_err-write_disk-clause-failed g c =
    let slots = c.args.slots.now in
    let place = c.loop-place.place in
    let slot = slice_index_or slots place 0 in
    let here : slice_get slots place ≡ Some slot = slice_get-get_or slots place 0 (omega (arith, c.requires.counted, c.loop-place-test.true)) in
    let one : IsOneOf slots slot = record { place = place; is_there = here } in
    grind (arith, common_steps, one, c.in_err-write_disk.ensures.failed, c.loop-place.invariant.writes, c.from_residual.ensures)

pub loop-place-preserved : goal.loop-place-preserved
loop-place-preserved g c =
    let start = g.B.Bay.disks c.args.bay.now in
    let slots = c.args.slots.now in
    let place = c.loop-place.place in
    let slot = slice_index_or slots place 0 in
    let update = c.index-updates-place.result in
    let here : slice_get slots place ≡ Some slot = slice_get-get_or slots place 0 (omega (arith, c.requires.counted, c.loop-place-test.true)) in
    let there : slice_get c.args.updates.now place ≡ Some update = slice_get_read c.args.updates.now _ place update refl c.loop-place-test.true c.index-updates-place.is in
    record {
      any_moment = λ tells copy may.
          let so_far = c.loop-place.invariant.founded tells copy may in
          let one = next_blank start slots copy c.requires.are_slots c.args.updates.now (g.B.Bay.disks c.loop-place.bay) c.loop-place.invariant.spends.same_sizes place slot may so_far here in
          let step = c.write_disk.ensures.found tells Secondary (copy place) (may.are_prepared place update there) one in
          group_stops start slots copy c.requires.are_slots (g.B.Bay.disks c.loop-place.bay) (g.B.Bay.disks c.write_disk.new.bay) c.loop-place.invariant.spends.same_sizes place slot update so_far here (may.are_prepared place update there) (may.are_under place slot here) (c.loop-place.invariant.any_moment tells copy may) step;
      founded = λ tells copy may.
          let so_far = c.loop-place.invariant.founded tells copy may in
          let one = next_blank start slots copy c.requires.are_slots c.args.updates.now (g.B.Bay.disks c.loop-place.bay) c.loop-place.invariant.spends.same_sizes place slot may so_far here in
          let done = c.in_ok-write_disk.ensures.founded tells Secondary (copy place) (may.are_prepared place update there) one in
          group_founded start slots copy c.requires.are_slots (g.B.Bay.disks c.loop-place.bay) (g.B.Bay.disks c.write_disk.new.bay) c.loop-place.invariant.spends.same_sizes place slot update so_far here (may.are_prepared place update there) (may.are_under place slot here) done;
      spends = spends_more c.args.updates.now place update there c.loop-place.invariant.spends c.write_disk.ensures.spends;
      reads = c.write_disk.ensures.spends.same ∙ c.loop-place.invariant.reads;
      writes = c.in_ok-write_disk.ensures.ok ∙ c.loop-place.invariant.writes;
    }

pub returns-in_err-write_disk-clause-spends : goal.returns-in_err-write_disk-clause-spends
returns-in_err-write_disk-clause-spends g c =
    let place = c.loop-place.place in
    let update = c.index-updates-place.result in
    let there : slice_get c.args.updates.now place ≡ Some update = slice_get_read c.args.updates.now _ place update refl c.loop-place-test.true c.index-updates-place.is in
    spends_within c.args.updates.now place update there c.loop-place.invariant.spends c.write_disk.ensures.spends

pub returns-clause-spends : goal.returns-clause-spends
returns-clause-spends g c = spends_all c.args.updates.now _ c.loop-place.invariant.spends
