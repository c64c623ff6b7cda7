-- A resync that begins with a look at what it needs.
use Rattle.std.proofs.Common.{◌≡◌, ◌∙◌, ℕ, suc, ◌+◌, ◌≤◌, Bool, List, [], ◌∷◌, Option, None, Result, Ok, Err, inl, inr, refl, ap, subst, sym, arith}
use Rattle.ddf_bay.specs.Sectors.{Image, IsLeft}
use Rattle.ddf_bay.specs.State.{BayState}
use Rattle.ddf_bay.proofs.Steps.{stops_then, stops_weaken}
use Rattle.ddf_array.specs.Volume.{Volume}
use Rattle.ddf_read.specs.declared.fault.VolumeFault.{VolumeFault}
use Rattle.ddf_read.specs.declared.fault.VolumeFault.TheVariants as volumes
use Rattle.ddf_read.specs.Reading.{Failed, OnlyReads}
use Rattle.ddf_cells.specs.Touching.{GoesBetween}
use Rattle.ddf_copy.specs.declared.newest_copy.Newest.{Newest}
use Rattle.ddf_resync.specs.Resyncing.{IsNeedsFault, IsUnread, resync_refusal}
use Rattle.ddf_update.specs.Group.{IsOneOf}
use Rattle.ddf_recovery.specs.Committed.{WasReadied}
use Rattle.ddf_steps.specs.Committed.{slots_of}
use Rattle.ddf_seats.specs.Group.{GroupValue}
use Rattle.ddf_assembly.specs.Group.{group_of}
use Rattle.ddf_recovery.specs.Ready.{ReadyValue}
use Rattle.ddf_recovery.specs.Recovery.{config_recovered}
use Rattle.ddf_assembly.specs.Slots.{newest_from}
use Rattle.ddf_history_steps.proofs.Entering.{admitted_still, kept_still}
use Rattle.ddf_answer.specs.declared.failure.Failure.{Failure}
use Rattle.ddf_answer.specs.declared.failure.Failure.TheVariants.{Disk}
use Rattle.ddf_answer.specs.Call.{work_of}
use Rattle.ddf_answer.proofs.Costs.{none_written, writes_most, writes_since}
use Rattle.ddf_read_commands.specs.Use.{failure_of_volume}
use Rattle.ddf_group_commands.specs.Change.{is_done}
use Rattle.ddf_group_commands.specs.Costs.{steps_sectors}
use Rattle.ddf_group_commands.specs.GroupRead.{IsFoundBy, IsReadFrom}
use Rattle.ddf_group_commands.proofs.Beside.{beside_since, reads_beside}
use Rattle.ddf_group_commands.proofs.Keeping.{reads_keep, since_entry}
use Rattle.ddf_group_commands.proofs.LeftWriting.{left_still}
use Rattle.ddf_write_commands.specs.declared.planning.Plan.{Plan}
use Rattle.ddf_write_commands.specs.Planned.{IsPlanned}
use Rattle.ddf_write_commands.specs.Plans.{IsPlanOf}
use Rattle.ddf_write_commands.specs.Resync.{HasResyncedBlocks, IsUnreadAt, resync_behind, resync_refusals, resync_request, resyncing}
use Rattle.ddf_write_commands.specs.Worked.{IsLeftDoing}
use Rattle.ddf_write_commands.proofs.Between.{seat_there}
use Rattle.ddf_write_commands.proofs.PlanKept.{planned}
use Rattle.ddf_write_commands.proofs.ResyncArray.{on_seat}
use Rattle.ddf_write_commands.proofs.ResyncWorks.{resync_steady}
use Rattle.ddf_write_commands.proofs.Sparing.{spares_since, spares_unwritten}
use Rattle.ddf_write_commands.proofs.Since.{along_since, left_since, none_along, worked_since}

-- Of an array that isn't refused a look ends at a slot alone.
pub look_ended : {D : Type 0} (old new : BayState D) (volume : Volume) → resync_refusal volume ≡ None → (fault : VolumeFault) → IsNeedsFault old new volume fault → IsUnreadAt old new volume (failure_of_volume fault)
look_ended old new volume accepted (volumes.Range most) is = absurd is
look_ended old new volume accepted volumes.Degraded is = absurd is
look_ended old new volume accepted volumes.Lost is = let none = sym accepted ∙ is.0 in absurd cc
look_ended old new volume accepted volumes.Unsure is = let none = sym accepted ∙ is.0 in absurd cc
look_ended old new volume accepted (volumes.Disk slot) is = record { slot = slot; is = refl; none_left = is.1 }

pub goes_looked : {D : Type 0} (old looked : BayState D) → OnlyReads old looked → GoesBetween old looked
goes_looked old looked reads = record {
  goes_on = reads.reads.goes_on;
  same_sizes = reads.reads.same_sizes;
  reads_rise = reads.never_falls;
  writes_rise = λ s. let same = ap (λ (counts : ℕ → ℕ). counts s) reads.same_writes in omega (arith, same);
}

-- The group that was found is found still.
module _ {D : Type 0} (old looked : BayState D) (reads : OnlyReads old looked) (group : GroupValue) where
  newest_still : (slot : ℕ) (left : List Bool) → newest_from looked slot left ≡ newest_from old slot left
  newest_still slot [] = refl
  newest_still slot (out ∷ left) = rw (reads.reads.same_sizes, reads.reads.same_held, newest_still (suc slot) left) refl

  pub found_still : (left : List Bool) (named : Option (List ℕ)) → IsFoundBy old left named group → IsFoundBy looked left named group
  found_still left named by = record {
    every_slot = rw reads.reads.same_sizes by.every_slot;
    is_found = subst (λ (newest : List (Option Newest)). group_of newest named ≡ Ok group) (sym (newest_still 0 left)) by.is_found;
  }

module _ {D : Type 0} (tells : Type 0) (old looked : BayState D) (reads : OnlyReads old looked) (group : GroupValue) (plan : Plan) (timestamp : ℕ) (ready : ReadyValue) (was : WasReadied group plan.changes timestamp ready) where
  writes_rise : (slot : ℕ) → old.failed_writes slot ≤ looked.failed_writes slot
  writes_rise = (goes_looked old looked reads).writes_rise

  module _ (word : List ℕ) (is : IsPlanOf resync_refusals resync_behind (config_recovered group) group.seats word plan) where
    abbrev plan_is : IsPlanned group timestamp word (resync_request word)
    plan_is = (planned group resync_refusals resync_behind word plan timestamp is (omega arith) ready was).planned

    volume_is : plan_is.volume ≡ plan.view
    volume_is = (planned group resync_refusals resync_behind word plan timestamp is (omega arith) ready was).volume_is

    -- what a stop might have left before is left before the first steps
    left_first : (new : BayState D) (image : Image) → IsLeft old.may_hold image → IsLeftDoing resyncing (work_of tells old new) group timestamp word (resync_request word) image
    left_first new image left = record { plan = plan_is; is_left = inl (left_still old plan_is.first image left) }

  -- ---- it ended the call

  module _ (word : List ℕ) (its : IsPlanOf resync_refusals resync_behind (config_recovered group) group.seats word plan) (from : IsReadFrom tells old group) (slot : ℕ) (unread : IsUnread (Failed old looked) plan.view slot) where
    is_seat : IsOneOf (slots_of group.seats) slot
    is_seat = on_seat tells old old looked group word plan its from refl slot (inr unread)

    pub look_failed : HasResyncedBlocks tells old looked group plan timestamp (Err (Disk slot))
    look_failed = record {
      worked = λ word is. record {
        plan = plan_is word is;
        is_seat = is_seat;
        there = seat_there resyncing (work_of tells old looked) group timestamp word (resync_request word) from.seats slot is_seat;
        stopped = inr (subst (λ (volume : Volume). IsUnread (Failed old looked) volume slot) (sym (volume_is word is)) unread, inl reads.reads);
      };
      leaves = λ told word is. stops_weaken reads.reads.any_moment (left_first word is looked);
      beside = λ told. reads_beside old looked (slots_of group.seats) reads.reads;
      keeps = λ told left named by steps are. reads_keep old looked left group steps reads.reads;
      along = λ told left named by word is. none_along resyncing (work_of tells old looked) named timestamp word (resync_request word) reads.reads left (Ok group) group refl;
      costs = λ steps are. writes_most (steps_sectors steps + resyncing.most_sectors plan.view) (omega arith) (none_written (work_of tells old looked) reads.reads);
      spares = λ told word is. spares_unwritten (work_of tells old looked) group timestamp word reads.reads;
    }

  -- ---- or the resync came behind it

  pub behind_look : (new : BayState D) (outcome : Result ℕ Failure) → HasResyncedBlocks tells looked new group plan timestamp outcome → HasResyncedBlocks tells old new group plan timestamp outcome
  behind_look new outcome done = record {
    worked = λ word is.
        worked_since tells resyncing resync_steady old looked new reads.reads reads.never_falls writes_rise group timestamp word (resync_request word) outcome (done.worked word is);
    leaves = λ told word is.
        stops_then (stops_weaken reads.reads.any_moment (left_first word is new)) (done.leaves told word is)
        (λ image left. left_since tells resyncing resync_steady old looked new reads.reads reads.never_falls writes_rise group timestamp word (resync_request word) image left);
    beside = λ told. beside_since old looked new (slots_of group.seats) reads.reads (done.beside told);
    keeps = λ told left named by steps are. since_entry old looked new left group steps (is_done outcome) reads.reads (done.keeps told left named (found_still old looked reads group left named by) steps are);
    along = λ told left named by word is any_plan guid same past kept admitted.
        along_since tells resyncing resync_steady old looked new reads.reads reads.never_falls writes_rise guid past left group timestamp word (resync_request word) any_plan (is_done outcome) kept
        (done.along told left named (found_still old looked reads group left named by) word is any_plan guid same past (kept_still guid past old looked reads.reads kept) (admitted_still guid past old looked reads.reads left group admitted));
    costs = λ steps are. writes_since tells old looked new reads.reads (steps_sectors steps + resyncing.most_sectors plan.view) (done.costs steps are);
    spares = λ told word is. spares_since tells old looked new reads.reads reads.never_falls group timestamp word (done.spares told word is);
  }
