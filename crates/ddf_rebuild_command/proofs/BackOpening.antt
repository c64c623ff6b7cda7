-- A copyback whose group wasn't recovered, since the entry of its call.
use Rattle.std.proofs.Common.{◌≡◌, ◌⊎◌, ℕ, ◌≤◌, Bool, false, List, [], ◌∷◌, ◌++◌, Option, Err, refl, inl, inr}
use Rattle.std.proofs.lemmas.Bool.{false≢true}
use Rattle.ddf_bay.specs.Moments.{StopsLeave}
use Rattle.ddf_bay.specs.ReadsOnly.{ReadsOnly}
use Rattle.ddf_bay.specs.Sectors.{IsLeft}
use Rattle.ddf_bay.specs.State.{BayState}
use Rattle.ddf_bay.proofs.Steps.{rose_since}
use Rattle.ddf_config.specs.Seats.{SeatsFit}
use Rattle.ddf_history.specs.Groups.{groups}
use Rattle.ddf_history.specs.Issued.{Past}
use Rattle.ddf_steps.specs.Committed.{slots_of}
use Rattle.ddf_seats.specs.Group.{GroupValue}
use Rattle.ddf_history_steps.specs.Going.{IsAdmitted}
use Rattle.ddf_history_steps.specs.Kept.{AreAllKept}
use Rattle.ddf_answer.specs.declared.failure.Failure.{Failure}
use Rattle.ddf_answer.specs.declared.failure.Failure.TheVariants.{Conflict, Disk, Memory, Refused, Split}
use Rattle.ddf_answer.specs.Call.{Work, work_of}
use Rattle.ddf_group_commands.specs.GroupRead.{IsFoundBy}
use Rattle.ddf_group_commands.proofs.LeftWriting.{left_still, writing_since}
use Rattle.ddf_rebuild_command.specs.BackAlong.{ComesAlongBack, IsAlongBack}
use Rattle.ddf_rebuild_command.specs.BackPlanned.{IsBackPlanned, IsLeftGoingBack}
use Rattle.ddf_rebuild_command.specs.BackPlanned.BackStage.{Opening}
use Rattle.ddf_rebuild_command.specs.CopiedBack.{IsBackOf}
use Rattle.ddf_rebuild_command.specs.Opened.{GoesOpening}
use Rattle.ddf_rebuild_command.specs.Standing.{IsSlotFault}
use Rattle.ddf_rebuild_command.proofs.BackCame.{HasRunBack}
use Rattle.ddf_rebuild_command.proofs.OpeningRun.{ends_kept, open_beside, open_keeps, open_leaves, open_moments}
use Rattle.ddf_rebuild_command.proofs.PositionRun.{seat_there}

module _ {D : Type 0} (tells : Type 0) (entry start new : BayState D) (reads : ReadsOnly entry start) (writes_rise : (s : ℕ) → entry.failed_writes s ≤ start.failed_writes s)
    (found : GroupValue) (timestamp : ℕ) (word : List ℕ) (slot : ℕ) (plan : IsBackPlanned entry.sizes found timestamp word slot) (fit : SeatsFit entry.sizes found.seats)
    (opens : GoesOpening tells start new found plan.first) where
  abbrev work : Work D
  work = work_of tells entry new

  unopened_fault : (failure : Failure) → IsSlotFault start new (slots_of found.seats) failure → IsBackOf work found timestamp word slot (Err failure)
  unopened_fault (Disk failed) fault = inl (record {
    steps = plan.first ++ plan.last ∷ [];
    are_asked = plan.are_asked;
    is_seat = fault.0;
    there = seat_there entry.sizes found.seats fit failed fault.0;
    rose = rose_since (entry.failed_writes failed) (start.failed_writes failed) (new.failed_writes failed) (writes_rise failed) fault.1;
  })
  unopened_fault Memory fault = absurd fault
  unopened_fault (Refused refusal) fault = absurd fault
  unopened_fault (Conflict i j sequence differ) fault = absurd fault
  unopened_fault (Split i j) fault = absurd fault

  unopened_leaves : tells → StopsLeave entry new (λ image. IsLeft entry.may_hold image ⊎ IsLeftGoingBack work found timestamp word slot image)
  unopened_leaves told =
      open_leaves tells entry start new reads writes_rise found timestamp word fit plan.first opens (λ image. IsLeft entry.may_hold image ⊎ IsLeftGoingBack work found timestamp word slot image)
      (λ image left. inl left) (λ image writing. inr (record { plan = plan; stage = Opening; is_left = writing })) told

  unopened_along : tells → (left : List Bool) (named : Option (List ℕ)) → IsFoundBy start left named found → (group : List ℕ) → found.config.group ≡ group → (past : Past (groups group))
      → AreAllKept group past entry → IsAdmitted group past entry left found → ComesAlongBack group work past left found plan false
  unopened_along told left named by group same past kept admitted = record {
    any_moment = open_moments tells entry start new reads writes_rise found timestamp word fit plan.first opens told left named by group same past kept admitted (IsAlongBack group work past left found plan)
        (λ image before. record { stage = Opening; now = past; has_gone = inl refl; is_left = left_still entry plan.first image before; is_kept = kept image before })
        (λ image writing now goes is. record { stage = Opening; now = now; has_gone = goes; is_left = writing_since entry start reads plan.first image writing; is_kept = is });
    ends = λ left_told.
        let ends = ends_kept tells entry start new reads writes_rise found timestamp word fit plan.first opens told left named by group same past kept admitted left_told in
        record {
          stage = Opening;
          now = ends.0;
          has_gone = ends.1;
          is_over = λ so. absurd (false≢true so);
          is_left = λ image is_left. writing_since entry start reads plan.first image (opens.ends told image is_left);
          all_kept = ends.2;
        };
  }

  -- What the run comes to.
  pub ran_unopened : (failure : Failure) → IsSlotFault start new (slots_of found.seats) failure → HasRunBack tells entry start new found timestamp word slot (Err failure)
  ran_unopened failure fault = record {
    steps = plan.first ++ plan.last ∷ [];
    are_asked = plan.are_asked;
    goes = opens.goes;
    gives = unopened_fault failure fault;
    leaves = unopened_leaves;
    beside = open_beside tells entry start new reads writes_rise found timestamp word fit plan.first opens;
    keeps = λ told left named by group same past kept admitted.
        open_keeps tells entry start new reads writes_rise found timestamp word fit plan.first opens told left named by group same past kept admitted (plan.last ∷ []);
    along = λ told left named by group same past kept admitted. (plan, unopened_along told left named by group same past kept admitted);
  }
