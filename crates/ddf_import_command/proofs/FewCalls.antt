-- How many calls an import makes.
use Rattle.std.proofs.Common.{ℕ, ◌+◌, ◌*◌, ◌<◌, ◌≤◌, ◌^◌, Bool, List, [], length, ap, arith}
use Rattle.ddf_bay.specs.Moments.{Costs}
use Rattle.ddf_bay.specs.State.{BayState}
use Rattle.ddf_config.specs.declared.seat.Seat.{Seat}
use Rattle.ddf_update.specs.Prepared.{all_calls, all_sectors}
use Rattle.ddf_recovery.specs.Committed.{recovery_updates}
use Rattle.ddf_seats.specs.Group.{GroupValue}
use Rattle.ddf_joining.specs.Importing.{join_slots, join_updates}
use Rattle.ddf_joining.specs.JoinValue.{JoinValue}
use Rattle.ddf_recovery.specs.Ready.{ReadyValue}
use Rattle.ddf_steps.specs.Steps.{in_order}
use Rattle.ddf_group_commands.specs.GroupRead.{IsReadFrom}
use Rattle.ddf_group_commands.proofs.FewCalls.{prepared_few, recovery_few, rise_few, seats_few, slots_few}
use Rattle.ddf_import_command.specs.Import.{IsImportReady}
use Rattle.ddf_import_command.proofs.Placed.{join_lies, joining_seats, was_first}

module _ {D : Type 0} (tells : Type 0) (old : BayState D) (native other : GroupValue) (timestamp : ℕ) (left_out : List Bool) (recovery : ReadyValue) (join : JoinValue)
    (from : IsReadFrom tells old native) (also : IsReadFrom tells old other) (time : timestamp < 2 ^ 32) (ready : IsImportReady timestamp left_out native other recovery join) where
  abbrev count : ℕ
  count = length old.sizes

  joining_few : length join.joining ≤ count
  joining_few =
      let seats = rise_few 0 count other.seats also.assembled.slots_rise (λ place seat at. let low = (also.seats place seat at).0 in (omega arith, omega (arith, low))) in
      let same = ap (λ (one : List Seat). length one) (joining_seats tells old native other timestamp left_out recovery join from also time ready) in
      omega (arith, seats, same)

  join_few : all_calls (join_updates join) ≤ 25 * count
  join_few =
      let lies = join_lies tells old native other timestamp left_out recovery join from also time ready in
      let slots = slots_few old.sizes (join_slots join) lies.are_slots in
      let counted = lies.counted in
      let few = prepared_few (in_order join.one.step.disks) join.one.updates ready.follows.are_prepared in
      omega (arith, few, slots, counted)

  module _ (middle : BayState D) (first : Costs old middle (all_sectors (recovery_updates recovery)) (length native.seats + all_calls (recovery_updates recovery))) where
    -- Once the recovery was tried,
    pub recover_calls : middle.calls ≤ old.calls + 52 * count
    recover_calls =
        let was = was_first tells old native other timestamp left_out recovery join from also time ready in
        let most = first.calls_most in
        let seats = seats_few tells old native [] timestamp recovery from was in
        let one = recovery_few tells old native [] timestamp recovery from was in
        omega (arith, most, seats, one)

    -- and the join behind it.
    pub import_calls : (new : BayState D) → Costs middle new (all_sectors (join_updates join)) (length join.joining + all_calls (join_updates join)) → new.calls ≤ old.calls + 52 * count
    import_calls new second =
        let was = was_first tells old native other timestamp left_out recovery join from also time ready in
        let most = first.calls_most in
        let then = second.calls_most in
        let seats = seats_few tells old native [] timestamp recovery from was in
        let one = recovery_few tells old native [] timestamp recovery from was in
        let its = joining_few in
        let other = join_few in
        omega (arith, most, then, seats, one, its, other)
