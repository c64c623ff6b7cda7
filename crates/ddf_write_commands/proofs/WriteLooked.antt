-- A write that looked at what lies beside its blocks, and came no further.
use Rattle.std.proofs.Common.{◌≡◌, ◌∙◌, ℕ, ◌+◌, ◌≤◌, false, List, [], ◌++◌, None, Option, Result, Ok, Err, inl, inr, refl, sym, subst, arith}
use Rattle.std.proofs.lemmas.Bool.{false≢true}
use Rattle.ddf_bay.specs.ReadsOnly.{ReadsOnly}
use Rattle.ddf_bay.specs.State.{BayState}
use Rattle.ddf_bay.proofs.Steps.{stops_weaken}
use Rattle.ddf_array.specs.Volume.{Volume}
use Rattle.ddf_read.specs.declared.fault.VolumeFault.{VolumeFault}
use Rattle.ddf_read.specs.declared.fault.VolumeFault.TheVariants as volumes
use Rattle.ddf_read.specs.Reading.{Failed, OnlyReads}
use Rattle.ddf_update.specs.Group.{IsOneOf}
use Rattle.ddf_write.specs.declared.beside.LookFault.TheVariants as looks_faults
use Rattle.ddf_write.specs.Beside.{NoneLeftBeside}
use Rattle.ddf_write.specs.Looking.{IsLookFault}
use Rattle.ddf_write.specs.WriteRefused.{write_refusal}
use Rattle.ddf_group.specs.declared.answer.Assembly.{Assembly}
use Rattle.ddf_assembly.specs.Group.{group_of}
use Rattle.ddf_steps.specs.Committed.{slots_of}
use Rattle.ddf_seats.specs.Group.{GroupValue}
use Rattle.ddf_recovery.specs.Recovery.{config_recovered}
use Rattle.ddf_answer.specs.declared.failure.Failure.{Failure}
use Rattle.ddf_answer.specs.declared.failure.Failure.TheVariants.{Conflict, Disk, Memory, Refused, Split}
use Rattle.ddf_answer.specs.Call.{work_of}
use Rattle.ddf_answer.proofs.Costs.{none_written, writes_most}
use Rattle.ddf_read_commands.specs.Use.{failure_of_volume}
use Rattle.ddf_group_commands.specs.Change.{Request}
use Rattle.ddf_group_commands.specs.Costs.{steps_sectors}
use Rattle.ddf_group_commands.specs.GroupRead.{IsGroupRead, IsReadFrom}
use Rattle.ddf_group_commands.proofs.Beside.{reads_beside}
use Rattle.ddf_group_commands.proofs.Keeping.{reads_keep}
use Rattle.ddf_group_commands.proofs.LeftWriting.{left_still}
use Rattle.ddf_write_commands.specs.declared.planning.Plan.{Plan}
use Rattle.ddf_write_commands.specs.Planned.{IsPlanned}
use Rattle.ddf_write_commands.specs.Plans.{IsPlanOf, unmarked_view}
use Rattle.ddf_write_commands.specs.Worked.{IsWorkedIn, IsWorkedOf}
use Rattle.ddf_write_commands.specs.Write.{CallsOfPlan, CallsOfWriting, IsUnseen, looking, write_behind, write_refusals, write_request}
use Rattle.ddf_write_commands.proofs.Between.{seat_there}
use Rattle.ddf_write_commands.proofs.BesideKept.{left_there}
use Rattle.ddf_write_commands.proofs.Looked.{goes_looked}
use Rattle.ddf_write_commands.proofs.Since.{HasComeTo, HaveBeenMade, HaveSince, made_since, none_along, worked_since}
use Rattle.ddf_write_commands.proofs.WriteArray.{look_on_seat}
use Rattle.ddf_write_commands.proofs.WriteWorks.{look_steady}

-- Of blocks that aren't refused a look ends at a slot alone.
pub look_unseen : {D : Type 0} (old new : BayState D) (volume : Volume) (start count : ℕ) → write_refusal volume start count ≡ None → (fault : VolumeFault)
    → IsLookFault old new volume start count (looks_faults.Volume fault) → IsUnseen old new volume start count (failure_of_volume fault)
look_unseen old new volume start count accepted (volumes.Range most) is = let none = sym accepted ∙ is.0 in absurd cc
look_unseen old new volume start count accepted volumes.Lost is = let none = sym accepted ∙ is.0 in absurd cc
look_unseen old new volume start count accepted volumes.Unsure is = absurd is
look_unseen old new volume start count accepted volumes.Degraded is = let none = sym accepted ∙ is.0 in absurd cc
look_unseen old new volume start count accepted (volumes.Disk slot) is = is.1

module _ {D : Type 0} (tells : Type 0) (old middle looked : BayState D) (reads : ReadsOnly old middle) (reads_rise : (slot : ℕ) → old.failed_reads slot ≤ middle.failed_reads slot)
    (writes_rise : (slot : ℕ) → old.failed_writes slot ≤ middle.failed_writes slot) (looks : OnlyReads middle looked) (named : Option (List ℕ)) (timestamp : ℕ) (word : List ℕ) (start count : ℕ) (group : GroupValue)
    (read : IsGroupRead (work_of tells old middle) named (Ok group)) (planned : IsPlanned group timestamp word (write_request word start count)) where
  abbrev request : Request
  request = write_request word start count

  made : HaveBeenMade (looking start count) tells middle looked group timestamp word request false
  made = record {
    leaves = λ told. stops_weaken looks.reads.any_moment (λ image left. record { plan = planned; is_left = inl (left_still middle planned.first image left) });
    beside = λ told. reads_beside middle looked (slots_of group.seats) looks.reads;
    keeps = λ told left by found steps are. reads_keep middle looked left group steps looks.reads;
    along = λ told left by found. none_along (looking start count) (work_of tells middle looked) by timestamp word request looks.reads left (Ok group) group refl;
    unfailed = λ is. absurd (false≢true is);
    goes = goes_looked middle looked looks;
    costs = record {
      plan = planned;
      most = writes_most (steps_sectors (planned.first ++ planned.last) + (looking start count).most_sectors planned.volume) (omega arith) (none_written (work_of tells middle looked) looks.reads);
    };
  }

  -- what it promises since its entry
  pub look_since : HaveSince (looking start count) (work_of tells old looked) named timestamp word request group false
  look_since = made_since tells (looking start count) (look_steady start count) old middle looked reads reads_rise writes_rise named timestamp word request group read false made

  -- ---- a cell beside the blocks can't be read, or memory ran out

  module _ (plan : Plan) (is : IsPlanOf (write_refusals start count) write_behind (config_recovered group) group.seats word plan) (volume_is : planned.volume ≡ plan.view) (from : IsReadFrom tells middle group) where
    worked : (failure : Failure) → IsUnseen middle looked (unmarked_view plan) start count failure → IsWorkedOf (looking start count) (work_of tells middle looked) group timestamp word request (Err failure)
    worked (Disk slot) left =
        let none : NoneLeftBeside (Failed middle looked) plan.view start count slot = left_there start count group word plan is (Failed middle looked) slot left in
        let seat : IsOneOf (slots_of group.seats) slot = look_on_seat tells start count [] middle middle looked group word plan is from refl (Failed middle looked) slot none in
        record {
          plan = planned;
          is_seat = seat;
          there = seat_there (looking start count) (work_of tells middle looked) group timestamp word request from.seats slot seat;
          stopped = inr (subst (λ (v : Volume). NoneLeftBeside (Failed middle looked) v start count slot) (sym volume_is) none, inl looks.reads);
        }
    worked Memory left = looks.reads
    worked (Refused refusal) left = absurd left
    worked (Conflict i j sequence differ) left = absurd left
    worked (Split i j) left = absurd left

    pub look_came : (failure : Failure) → IsUnseen middle looked (unmarked_view plan) start count failure → HasComeTo (looking start count) (work_of tells old looked) named timestamp word request (Err failure)
    look_came failure left = record {
      taken = look_since.taken;
      gone = λ given. look_since.gone;
      gives = subst (λ (one : Result GroupValue Assembly). IsWorkedIn (looking start count) (work_of tells old looked) timestamp word request one (Err failure)) (sym look_since.is_group)
          (worked_since tells (looking start count) (look_steady start count) old middle looked reads reads_rise writes_rise group timestamp word request (Err failure) (worked failure left));
      leaves = look_since.leaves;
      along = look_since.along;
      costs = look_since.costs;
    }

    pub look_calls : (failure : Failure) (left : IsUnseen middle looked (unmarked_view plan) start count failure) → CallsOfPlan (work_of tells old looked) group timestamp word start count
        → CallsOfWriting (work_of tells old looked) timestamp word start count (group_of (look_came failure left).taken.newest named)
    unfolding look_came
    look_calls failure left calls = subst (λ (one : Result GroupValue Assembly). CallsOfWriting (work_of tells old looked) timestamp word start count one) (sym look_since.is_group) (inr calls)
