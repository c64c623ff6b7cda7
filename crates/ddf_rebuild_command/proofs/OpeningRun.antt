-- A rebuild of which no row was filled, since the entry of its call: its first steps failed, or nothing was to be filled.
use Rattle.std.proofs.Common.{◌≡◌, ℕ, ◌≤◌, Bool, true, false, List, [], ◌++◌, length, Option, Ok, Err, append-nil, refl, sym, subst, ◌∙◌, inl, inr}
use Rattle.std.proofs.lemmas.Bool.{false≢true}
use Rattle.ddf_bay.specs.Moments.{StopsLeave}
use Rattle.ddf_bay.specs.ReadsOnly.{ReadsOnly}
use Rattle.ddf_bay.specs.Sectors.{Image, IsLeft}
use Rattle.ddf_bay.specs.State.{BayState}
use Rattle.ddf_bay.proofs.Steps.{stops_then, stops_weaken, rose_since}
use Rattle.ddf_config.specs.declared.seat.Seat.{Seat}
use Rattle.ddf_config.specs.Configuration.{Configuration}
use Rattle.ddf_config.specs.Seats.{SeatsFit}
use Rattle.ddf_history.specs.Groups.{groups}
use Rattle.ddf_history.specs.Issued.{Past}
use Rattle.ddf_history.specs.Promise.{IsKept}
use Rattle.ddf_history.specs.Scenes.{scene_of}
use Rattle.ddf_steps.specs.Committed.{AreSettled, slots_of}
use Rattle.ddf_seats.specs.Group.{GroupValue}
use Rattle.ddf_recovery.specs.Ready.{ReadyValue}
use Rattle.ddf_steps.specs.Steps.{Step}
use Rattle.ddf_history_steps.specs.Going.{Goes, IsAdmitted, KeepsHistory, changes_in}
use Rattle.ddf_history_steps.specs.Kept.{AreAllKept, is_read}
use Rattle.ddf_answer.specs.declared.failure.Failure.{Failure}
use Rattle.ddf_answer.specs.declared.failure.Failure.TheVariants.{Conflict, Disk, Memory, Refused, Split}
use Rattle.ddf_answer.specs.Call.{Work, work_of}
use Rattle.ddf_group_commands.specs.Change.{steps_of as steps_asked}
use Rattle.ddf_group_commands.specs.Requests.{linux_members}
use Rattle.ddf_group_commands.specs.GroupRead.{IsFoundBy}
use Rattle.ddf_group_commands.specs.Others.{LeavesOthers}
use Rattle.ddf_group_commands.specs.Writing.{IsLeftWriting}
use Rattle.ddf_group_commands.proofs.Beside.{beside_since}
use Rattle.ddf_group_commands.proofs.LeftWriting.{left_still}
use Rattle.ddf_rebuild_command.specs.Along.{ComesAlong, IsAlong}
use Rattle.ddf_rebuild_command.specs.Asked.{rebuild_request}
use Rattle.ddf_rebuild_command.specs.Opened.{GoesOpening, IsOpened}
use Rattle.ddf_rebuild_command.specs.Planned.{IsIdle, IsPlanned}
use Rattle.ddf_rebuild_command.specs.Rebuilt.{IsRebuiltOf, MayBeLeft}
use Rattle.ddf_rebuild_command.specs.Rounds.{steps_of}
use Rattle.ddf_rebuild_command.specs.Stages.Stage.{Opening}
use Rattle.ddf_rebuild_command.specs.Standing.{IsSlotFault}
use Rattle.ddf_rebuild_command.proofs.Coming.{changes_both, goes_more}
use Rattle.ddf_rebuild_command.proofs.OneRound.{stops_both}
use Rattle.ddf_rebuild_command.proofs.PositionRun.{seat_there}
use Rattle.ddf_history_steps.proofs.Entering.{admitted_still, kept_still}
use Rattle.ddf_group_commands.proofs.LeftWriting.{writing_since}
use Rattle.ddf_write_commands.proofs.Sparing.{written_since}

module _ {D : Type 0} (tells : Type 0) (entry start new : BayState D) (reads : ReadsOnly entry start) (writes_rise : (slot : ℕ) → entry.failed_writes slot ≤ start.failed_writes slot)
    (found : GroupValue) (timestamp : ℕ) (word : List ℕ) (fit : SeatsFit entry.sizes found.seats) (first : List Step) (opens : GoesOpening tells start new found first) where
  abbrev work : Work D
  work = work_of tells entry new

  abbrev slots : List ℕ
  slots = slots_of found.seats

  -- ---- what a stop leaves

  pub open_leaves : (P : Image → Type 0) → ((image : Image) → IsLeft entry.may_hold image → P image) → ((image : Image) → IsLeftWriting entry first image → P image) → tells → StopsLeave entry new P
  open_leaves P before opening told =
      stops_then (stops_weaken reads.any_moment before) (opens.leaves told) (λ image writing. opening image (writing_since entry start reads first image writing))

  pub open_beside : tells → LeavesOthers entry new slots
  open_beside told = beside_since entry start new slots reads (opens.beside told)

  -- ---- what it means to a history

  module _ (told : tells) (left : List Bool) (named : Option (List ℕ)) (by : IsFoundBy start left named found) (group : List ℕ) (same : found.config.group ≡ group) (past : Past (groups group))
      (kept : AreAllKept group past entry) (admitted : IsAdmitted group past entry left found) where
    kept_start : AreAllKept group past start
    kept_start = kept_still group past entry start reads kept

    admitted_start : IsAdmitted group past start left found
    admitted_start = admitted_still group past entry start reads left found admitted

    abbrev pub GoesTo : List Step → Past (groups group) → Type 0
    GoesTo steps now = Goes group past (is_read left) found (changes_in found steps) now

    pub open_moments : (P : Image → Type 0) → ((image : Image) → IsLeft entry.may_hold image → P image)
        → ((image : Image) → IsLeftWriting start first image → (now : Past (groups group)) → GoesTo first now → IsKept now (scene_of entry.sizes image) → P image) → StopsLeave entry new P
    open_moments P before opening =
        stops_then (stops_weaken reads.any_moment before)
        (stops_both start new (IsLeftWriting start first) (λ image. (now : Past (groups group)) × GoesTo first now × IsKept now (scene_of start.sizes image)) (opens.leaves told)
        (opens.any_moment told left named by group same past kept_start admitted_start))
        (λ image both. opening image both.0 both.1.0 both.1.1 (subst (λ (sizes : List ℕ). IsKept both.1.0 (scene_of sizes image)) reads.same_sizes both.1.2))

    pub ends_kept : new.tells_left → (now : Past (groups group)) × GoesTo first now × AreAllKept group now new
    ends_kept left_told = opens.all_kept told left_told left named by group same past kept_start admitted_start

    -- a call of these steps and others
    more : (others : List Step) (now : Past (groups group)) → GoesTo first now → GoesTo (first ++ others) now
    more others now goes =
        subst (λ (changes : List Configuration). Goes group past (is_read left) found changes now) (sym (changes_both found first others))
        (goes_more group past (is_read left) found (changes_in found first) (changes_in found others) now goes)

    pub open_keeps : (others : List Step) → KeepsHistory group entry new past left found (changes_in found (first ++ others)) false
    open_keeps others = record {
      any_moment = open_moments (λ image. (now : Past (groups group)) × GoesTo (first ++ others) now × IsKept now (scene_of entry.sizes image)) (λ image before. (past, inl refl, kept image before))
          (λ image writing now goes is. (now, more others now goes, is));
      ends = λ left_told. let ends = ends_kept left_told in (ends.0, more others ends.0 ends.1, ends.2);
    }

    -- they were written
    pub open_done : (now_found : GroupValue) (now_ready : ReadyValue) → IsOpened tells start new found first now_found now_ready → KeepsHistory group entry new past left found (changes_in found first) true
    open_done now_found now_ready opened = record {
      any_moment = open_moments (λ image. (now : Past (groups group)) × GoesTo first now × IsKept now (scene_of entry.sizes image)) (λ image before. (past, inl refl, kept image before))
          (λ image writing now goes is. (now, goes, is));
      ends = λ left_told.
          let at = opened.at_end told left_told left named by group same past kept_start admitted_start in
          (at.0, at.1, at.2.at_end.all_kept);
    }

  -- ---- they failed

  pub open_fault : (steps : List Step) → steps_asked found timestamp (rebuild_request word (linux_members found)) ≡ Ok steps → (failure : Failure) → IsSlotFault start new slots failure
      → IsRebuiltOf work found timestamp word (Err failure)
  open_fault steps asked (Disk slot) fault = inl (record {
    steps = steps;
    are_asked = asked;
    is_seat = fault.0;
    there = seat_there entry.sizes found.seats fit slot fault.0;
    rose = rose_since (entry.failed_writes slot) (start.failed_writes slot) (new.failed_writes slot) (writes_rise slot) fault.1;
  })
  open_fault steps asked Memory fault = absurd fault
  open_fault steps asked (Refused refusal) fault = absurd fault
  open_fault steps asked (Conflict i j sequence differ) fault = absurd fault
  open_fault steps asked (Split i j) fault = absurd fault

  -- ---- of a position that is to be filled

  module _ (plan : IsPlanned found timestamp word) (first_is : plan.first ≡ first) where
    at_opening : (image : Image) → IsLeftWriting entry first image → IsLeftWriting entry plan.first image
    at_opening image writing = subst (λ (steps : List Step). IsLeftWriting entry steps image) (sym first_is) writing

    pub planned_leaves : tells → (steps : List Step) → StopsLeave entry new (MayBeLeft work found timestamp word steps)
    planned_leaves told steps =
        open_leaves (MayBeLeft work found timestamp word steps) (λ image left. inl left) (λ image writing. inr (inr (record { plan = plan; stage = Opening; is_left = at_opening image writing }))) told

    pub planned_along : tells → (left : List Bool) (named : Option (List ℕ)) → IsFoundBy start left named found → (group : List ℕ) → found.config.group ≡ group → (past : Past (groups group))
        → AreAllKept group past entry → IsAdmitted group past entry left found → ComesAlong group work past left found plan false
    planned_along told left named by group same past kept admitted = record {
      any_moment = open_moments told left named by group same past kept admitted (IsAlong group work past left found plan)
          (λ image before. record { stage = Opening; now = past; has_come = inl refl; is_left = left_still entry plan.first image before; is_kept = kept image before })
          (λ image writing now goes is. record {
            stage = Opening;
            now = now;
            has_come = subst (λ (steps : List Step). Goes group past (is_read left) found (changes_in found steps) now) (sym first_is) goes;
            is_left = at_opening image (writing_since entry start reads first image writing);
            is_kept = is;
          });
      ends = λ left_told.
          let ends = ends_kept told left named by group same past kept admitted left_told in
          record {
            stage = Opening;
            now = ends.0;
            has_come = subst (λ (steps : List Step). Goes group past (is_read left) found (changes_in found steps) ends.0) (sym first_is) ends.1;
            is_over = λ so. absurd (false≢true so);
            is_left = λ image is_left. at_opening image (writing_since entry start reads first image (opens.ends told image is_left));
            all_kept = ends.2;
          };
    }

    pub planned_keeps : tells → (left : List Bool) (named : Option (List ℕ)) → IsFoundBy start left named found → (group : List ℕ) → found.config.group ≡ group → (past : Past (groups group))
        → AreAllKept group past entry → IsAdmitted group past entry left found → KeepsHistory group entry new past left found (changes_in found (plan.first ++ steps_of plan.rounds)) false
    planned_keeps told left named by group same past kept admitted =
        subst (λ (steps : List Step). KeepsHistory group entry new past left found (changes_in found (steps ++ steps_of plan.rounds)) false) (sym first_is)
        (open_keeps told left named by group same past kept admitted (steps_of plan.rounds))

  -- ---- where nothing is to be filled

  module _ (idle : IsIdle found timestamp word) (asked : steps_asked found timestamp (rebuild_request word (linux_members found)) ≡ Ok first) where
    pub idle_leaves : tells → StopsLeave entry new (MayBeLeft work found timestamp word first)
    idle_leaves told = open_leaves (MayBeLeft work found timestamp word first) (λ image left. inl left) (λ image writing. inr (inl (idle, writing))) told

    pub idle_done : (now_found : GroupValue) (now_ready : ReadyValue) → IsOpened tells start new found first now_found now_ready → (sequence : ℕ) → sequence ≡ now_found.config.sequence
        → IsRebuiltOf work found timestamp word (Ok sequence)
    idle_done now_found now_ready opened sequence is = inr (record {
      idle = idle;
      recovered = record {
        steps = first;
        are_asked = asked;
        is_last = is ∙ opened.is_last;
        are_written = λ told. written_since entry start reads first new.held (opened.are_written told);
        none_asked = λ none. opened.none_asked none ∙ reads.none_asked;
        are_settled = λ told. subst (λ (seats : List Seat). AreSettled new seats (length seats)) opened.same_seats (opened.stands.holds told).are_settled;
      };
    })

    pub idle_keeps_failed : tells → (left : List Bool) (named : Option (List ℕ)) → IsFoundBy start left named found → (group : List ℕ) → found.config.group ≡ group → (past : Past (groups group))
        → AreAllKept group past entry → IsAdmitted group past entry left found → KeepsHistory group entry new past left found (changes_in found first) false
    idle_keeps_failed told left named by group same past kept admitted =
        subst (λ (steps : List Step). KeepsHistory group entry new past left found (changes_in found steps) false) (append-nil first) (open_keeps told left named by group same past kept admitted [])
