-- A run of a copyback, by what the calls promise that it makes.
use Rattle.std.proofs.Common.{◌≡◌, ℕ, ◌+◌, false, List, length, Err, Result, inl, inr, refl, sym, ap, subst, ◌∙◌, arith}
use Rattle.std.specs.Prelude.{is_ok}
use Rattle.ddf_bay.specs.State.{BayState}
use Rattle.ddf_config.specs.declared.seat.Seat.{Seat}
use Rattle.ddf_cells.specs.Touching.{GoesBetween}
use Rattle.ddf_cells.specs.Writing.{AsksFor}
use Rattle.ddf_cells.proofs.Writes.{asks_then}
use Rattle.ddf_update.specs.Prepared.{all_sectors}
use Rattle.ddf_recovery.specs.Committed.{next_updates, recovery_updates}
use Rattle.ddf_recovery.specs.Ready.{ReadyValue, all_ready}
use Rattle.ddf_seats.specs.Group.{GroupValue}
use Rattle.ddf_answer.specs.declared.failure.Failure.{Failure}
use Rattle.ddf_group_commands.specs.Costs.{ready_sectors}
use Rattle.ddf_write_commands.proofs.Arrays.{goes_then}
use Rattle.ddf_write_commands.proofs.Costs.{before_add, next_fits}
use Rattle.ddf_array.specs.Volume.{Volume}
use Rattle.ddf_repair.specs.declared.first.Target.{Target}
use Rattle.ddf_rebuild_command.specs.declared.going_back.GoingBack.{GoingBack}
use Rattle.ddf_rebuild_command.specs.BackPlans.{CanCopy}
use Rattle.ddf_rebuild_command.specs.BackRun.{GoesCopying, IsBackRun, IsCopyFault, IsFilledRun, IsNotFilled, IsRecoveredTo, IsReturnOutcome, IsRoomFilled, ready_recovered}
use Rattle.ddf_rebuild_command.specs.Opened.{GoesOpening, IsOpened}
use Rattle.ddf_rebuild_command.specs.Standing.{GoesNext, recovery_in}
use Rattle.ddf_rebuild_command.proofs.Costs.{asks_most}

-- ---- what is asked behind the recovery

can_by : (sizes : List ℕ) (seats : List Seat) (volume : Volume) (target : Target) (slot start : ℕ) (ready : ReadyValue) → CanCopy sizes seats volume target slot start ready → (next : ReadyValue) → length next.steps ≡ 1 → CanCopy sizes seats volume target slot start next
can_by sizes seats volume target slot start ready can next one = record {
  config = can.config;
  guid = can.guid;
  is_view = can.is_view;
  fit = can.fit;
  apart = can.apart;
  unmarked = can.unmarked;
  is_within = can.is_within;
  aside = can.aside;
  is_seat = can.is_seat;
  below = can.below;
  one = one;
}

-- The room can be filled once the group is recovered.
pub can_still : (old_sizes sizes : List ℕ) → sizes ≡ old_sizes → (old_seats seats : List Seat) → seats ≡ old_seats → (volume : Volume) (target : Target) (slot start : ℕ) (ready next : ReadyValue) → next ≡ ready_recovered ready
    → CanCopy old_sizes old_seats volume target slot start ready → CanCopy sizes seats volume target slot start next
can_still old_sizes sizes same_sizes old_seats seats same_seats volume target slot start ready next is can =
    subst (λ (all : List ℕ). CanCopy all seats volume target slot start next) (sym same_sizes)
    (subst (λ (all : List Seat). CanCopy old_sizes all volume target slot start next) (sym same_seats) (can_by old_sizes old_seats volume target slot start ready can next (ap (λ (one : ReadyValue). length one.steps) is ∙ can.one)))

-- ---- a run

module _ {B : Type 0} (disks : B → BayState B) (tells : Type 0) (old new : BayState B) (plan : GoingBack) (found : GroupValue) (ready : ReadyValue) (middle : B)
    (opens : GoesOpening tells old (disks middle) found (recovery_in ready.recovery)) (mid_found : GroupValue) (mid_ready : ReadyValue) (is : mid_ready ≡ ready_recovered ready)
    (opened : IsOpened tells old (disks middle) found (recovery_in ready.recovery) mid_found mid_ready) where
  abbrev recovered : IsRecoveredTo disks tells old new plan found ready middle
  recovered = record { opens = opens; opened_found = mid_found; opened = subst (IsOpened tells old (disks middle) found (recovery_in ready.recovery) mid_found) is opened }

  -- The room wasn't filled.
  pub not_filled : GoesCopying tells (disks middle) new plan.view plan.target plan.slot plan.start mid_found mid_ready → (failure : Failure) → IsCopyFault tells (disks middle) new plan.view plan.target plan.slot plan.start mid_found mid_ready failure
      → IsNotFilled disks tells old new plan found ready (Err failure)
  not_filled copying failure fault = record {
    middle = middle;
    recovered = recovered;
    copying = subst (GoesCopying tells (disks middle) new plan.view plan.target plan.slot plan.start mid_found) is copying;
    failure = failure;
    is = refl;
    failed = subst (λ (one : ReadyValue). IsCopyFault tells (disks middle) new plan.view plan.target plan.slot plan.start mid_found one failure) is fault;
  }

  module _ (behind : B) (copying : GoesCopying tells (disks middle) (disks behind) plan.view plan.target plan.slot plan.start mid_found mid_ready) (filled : IsRoomFilled tells (disks middle) (disks behind) plan.view plan.target plan.slot plan.start mid_found mid_ready) where
    -- It was, whatever came of the last step.
    pub filled_run : (result : Result ℕ Failure) → GoesNext tells (disks behind) new mid_found mid_ready (is_ok result)
        → IsReturnOutcome disks tells old new plan found ready (disks behind) mid_found result → IsFilledRun disks tells old new plan found ready result
    filled_run result next outcome = record {
      middle = middle;
      recovered = recovered;
      behind = behind;
      copying = subst (GoesCopying tells (disks middle) (disks behind) plan.view plan.target plan.slot plan.start mid_found) is copying;
      filled = subst (IsRoomFilled tells (disks middle) (disks behind) plan.view plan.target plan.slot plan.start mid_found) is filled;
      returning = subst (λ (one : ReadyValue). GoesNext tells (disks behind) new mid_found one (is_ok result)) is next;
      outcome = outcome;
    }

-- ---- what it asks for

module _ {D : Type 0} {old middle : BayState D} (ready : ReadyValue) (most : ℕ) (recovers : AsksFor old middle (all_sectors (recovery_updates ready))) where
  -- The recovery alone,
  pub recovery_asks : AsksFor old middle (ready_sectors (all_ready ready) + most)
  recovery_asks =
      let steps = before_add false ready.recovery ready.steps in
      asks_most (ready_sectors (all_ready ready) + most) (omega (arith, steps)) recovers

  -- the room behind it,
  pub room_asks : {new : BayState D} → AsksFor middle new most → AsksFor old new (ready_sectors (all_ready ready) + most)
  room_asks fills =
      let steps = before_add false ready.recovery ready.steps in
      asks_then (ready_sectors (all_ready ready) + most) (omega (arith, steps)) recovers fills

  -- and the last step behind that.
  pub return_asks : {behind new : BayState D} → (next : ReadyValue) → next ≡ ready_recovered ready → AsksFor middle behind most → AsksFor behind new (all_sectors (next_updates next))
      → AsksFor old new (ready_sectors (all_ready ready) + most)
  return_asks {behind = behind} {new = new} next is fills writes =
      let steps = before_add false ready.recovery ready.steps in
      let last = next_fits ready.steps in
      asks_then (ready_sectors (all_ready ready) + most) (omega (arith, steps, last)) (asks_then (all_sectors (recovery_updates ready) + most) (omega arith) recovers fills)
      (subst (λ (one : ReadyValue). AsksFor behind new (all_sectors (next_updates one))) is writes)

-- No count falls in a run.
pub back_goes : {B : Type 0} (disks : B → BayState B) (tells : Type 0) (old new : BayState B) (plan : GoingBack) (found : GroupValue) (ready : ReadyValue) (outcome : Result ℕ Failure)
    → IsBackRun disks tells old new plan found ready outcome → GoesBetween old new
back_goes disks tells old new plan found ready outcome (inl none) = none.opens.goes
back_goes disks tells old new plan found ready outcome (inr (inl run)) = goes_then old (disks run.middle) new run.recovered.opens.goes run.copying.goes
back_goes disks tells old new plan found ready outcome (inr (inr run)) =
    goes_then old (disks run.middle) new run.recovered.opens.goes (goes_then (disks run.middle) (disks run.behind) new run.copying.goes run.returning.goes)
