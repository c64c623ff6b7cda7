-- A resync of an array between the steps of its group, by what the call promises.
use Rattle.std.proofs.Common.{◌≡◌, ℕ, ◌<◌, List, None, Option, Result, Ok, refl, sym, subst, ◌∙◌}
use Rattle.ddf_bay.specs.Sectors.{Image}
use Rattle.ddf_bay.specs.State.{BayState}
use Rattle.ddf_config.specs.declared.seat.Seat.{Seat}
use Rattle.ddf_config.specs.Seats.{SeatsFit}
use Rattle.ddf_update.specs.Group.{IsOneOf}
use Rattle.ddf_read.specs.declared.fault.VolumeFault.{VolumeFault}
use Rattle.ddf_read.specs.declared.fault.VolumeFault.TheVariants as volumes
use Rattle.ddf_resync.specs.Resyncing.{IsResyncFault, IsStopped, MayResync, resync_refusal}
use Rattle.ddf_steps.specs.Committed.{slots_of}
use Rattle.ddf_seats.specs.Group.{GroupValue}
use Rattle.ddf_assembly.specs.Group.{group_of}
use Rattle.ddf_recovery.specs.Recovery.{config_recovered}
use Rattle.ddf_history_steps.specs.BlockFloors.{floor_in}
use Rattle.ddf_answer.specs.declared.failure.Failure.{Failure}
use Rattle.ddf_answer.specs.declared.failure.Failure.TheVariants.{Disk}
use Rattle.ddf_answer.specs.Call.{Work}
use Rattle.ddf_read_commands.specs.Use.{failure_of_volume}
use Rattle.ddf_group_commands.specs.GroupRead.{IsReadFrom}
use Rattle.ddf_write_commands.specs.declared.planning.Plan.{Plan}
use Rattle.ddf_write_commands.specs.Marking.{marked_config}
use Rattle.ddf_write_commands.specs.Plans.{IsPlanOf}
use Rattle.ddf_write_commands.specs.Resync.{HasResyncedArray, SparesWhatAgrees, resync_behind, resync_refusals, resync_request, resyncing}
use Rattle.ddf_write_commands.proofs.BelowFloors.{given_below}
use Rattle.ddf_write_commands.proofs.PlanMade.{resync_accepted}
use Rattle.ddf_write_commands.proofs.ResyncWorks.{resync_stopped}
use Rattle.ddf_write_commands.proofs.Since.{HasComeTo}
use Rattle.ddf_write_commands.proofs.SlotsThere.{resync_on_seat}
use Rattle.ddf_write_commands.proofs.Works.{HasStopped}

-- It ended at a slot.
pub record IsEnded {D : Type 0} (plan : Plan) (old new : BayState D) (seats : List Seat) (failure : Failure) : Type 0 where
  pub slot : ℕ
  pub is : failure ≡ Disk slot
  pub has_stopped : HasStopped resyncing seats plan.view old new slot

module _ {D : Type 0} (tells : Type 0) (old opened behind : BayState D) (found : GroupValue) (word : List ℕ) (plan : Plan) (is : IsPlanOf resync_refusals resync_behind (config_recovered found) found.seats word plan)
    (from : IsReadFrom tells old found) (same_sizes : opened.sizes ≡ old.sizes) where
  fit : SeatsFit opened.sizes found.seats
  fit = subst (λ (sizes : List ℕ). SeatsFit sizes found.seats) (sym same_sizes) from.seats

  -- what it gives bytes lies below the floors of the seats
  pub under : (before : Image) (s l : ℕ) (bytes : List ℕ) → MayResync plan.view tells before s l bytes → l < floor_in found.seats s
  under before s l bytes may =
      given_below (marked_config (config_recovered found) is.entry) is.entry.0 found.seats plan.view opened.sizes is.is_for.is_marked_view.is_view is.is_for.known from.assembled.slots_rise fit tells before s l bytes may

  pub on_seat : (slot : ℕ) → IsStopped opened behind plan.view slot → IsOneOf (slots_of found.seats) slot
  on_seat slot stopped =
      resync_on_seat (marked_config (config_recovered found) is.entry) is.entry.0 found.seats plan.view is.is_for.is_marked_view.is_view is.is_for.known opened.sizes from.assembled.slots_rise fit opened behind slot stopped

  pub accepted : resync_refusal plan.view ≡ None
  accepted = resync_accepted (config_recovered found) found.seats word plan is

  -- Where it isn't done it stopped at the slot of a seat.
  pub ended : (fault : VolumeFault) → IsResyncFault opened behind plan.view fault → IsEnded plan opened behind found.seats (failure_of_volume fault)
  ended (volumes.Range most) fault = absurd fault
  ended volumes.Degraded fault = absurd fault
  ended volumes.Lost fault = let none = sym accepted ∙ fault.0 in absurd cc
  ended volumes.Unsure fault = let none = sym accepted ∙ fault.0 in absurd cc
  ended (volumes.Disk slot) fault = record {
    slot = slot;
    is = refl;
    has_stopped = resync_stopped tells plan.view opened behind (floor_in found.seats) (under opened.held) found.seats slot (on_seat slot fault.1) fault.1;
  }

-- What the command came to.
pub has_resynced : {D : Type 0} (work : Work D) (named : Option (List ℕ)) (timestamp : ℕ) (word : List ℕ) (outcome : Result ℕ Failure) (come : HasComeTo resyncing work named timestamp word (resync_request word) outcome)
    → (work.tells → (found : GroupValue) → group_of come.taken.newest named ≡ Ok found → SparesWhatAgrees work found timestamp word) → HasResyncedArray work named timestamp word outcome
has_resynced work named timestamp word outcome come spares = record { taken = come.taken; gone = come.gone; gives = come.gives; leaves = come.leaves; along = come.along; costs = come.costs; spares = spares }
