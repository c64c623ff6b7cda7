-- An array that is resynced between the steps of its group: each end of it, by what the calls promise.
use Rattle.std.proofs.Common.{◌≡◌, ◌∙◌, ◌⊎◌, ℕ, ◌≤◌, Bool, true, false, List, ◌++◌, Option, None, Result, Ok, Err, if◌then◌else◌, inl, inr, ⊎_elim, refl, ap, subst, sym, arith}
use Rattle.std.proofs.lemmas.Bool.{false≢true}
use Rattle.ddf_bytes.specs.Counts.{Rose}
use Rattle.ddf_bytes.proofs.Common.{rose_behind}
use Rattle.ddf_bay.specs.Moments.{GoesOn, StopsLeave}
use Rattle.ddf_bay.specs.State.{BayState}
use Rattle.ddf_bay.specs.Told.{IsTold}
use Rattle.ddf_config.specs.States.{is_marked}
use Rattle.ddf_plan.specs.declared.change.Change.{Change}
use Rattle.ddf_array.specs.Volume.{Volume}
use Rattle.ddf_array.specs.Within.{is_redundant}
use Rattle.ddf_update.specs.Prepared.{all_sectors}
use Rattle.ddf_read.specs.declared.fault.VolumeFault.{VolumeFault}
use Rattle.ddf_read.specs.Reading.{Failed, OnlyReads}
use Rattle.ddf_cells.specs.Touching.{GoesBetween}
use Rattle.ddf_resync.specs.Compared.{HasDiffered}
use Rattle.ddf_resync.specs.Resyncing.{AddsResynced, HasResynced, IsAmongResynced, IsLeftByResync, IsResyncFault}
use Rattle.ddf_resync.specs.Several.{resync_sectors}
use Rattle.ddf_recovery.specs.Committed.{WasReadied, next_updates}
use Rattle.ddf_steps.specs.Committed.{slots_of}
use Rattle.ddf_seats.specs.Group.{GroupValue}
use Rattle.ddf_recovery.specs.Ready.{ReadyValue, readied}
use Rattle.ddf_recovery.specs.Recovery.{config_recovered}
use Rattle.ddf_seats.specs.Seated.{seated}
use Rattle.ddf_steps.specs.Steps.{Step}
use Rattle.ddf_history_steps.specs.BlockFloors.{AreFloored, StaySettled, floor_in}
use Rattle.ddf_history_steps.specs.Steps.{IsCommit}
use Rattle.ddf_answer.specs.declared.failure.Failure.{Failure}
use Rattle.ddf_answer.specs.declared.failure.Failure.TheVariants.{Disk}
use Rattle.ddf_answer.specs.Call.{work_of}
use Rattle.ddf_answer.specs.Costs.{WritesAtMost}
use Rattle.ddf_answer.proofs.Costs.{none_written, writes_most}
use Rattle.ddf_read_commands.specs.Use.{failure_of_volume}
use Rattle.ddf_group_commands.specs.Change.{IsChanged, KeepsHistories, is_done, steps_or}
use Rattle.ddf_group_commands.specs.Costs.{steps_sectors}
use Rattle.ddf_group_commands.specs.GroupRead.{IsFoundBy, IsReadFrom}
use Rattle.ddf_group_commands.specs.Others.{LeavesOthers}
use Rattle.ddf_group_commands.specs.Writing.{IsLeftWriting}
use Rattle.ddf_group_commands.specs.Written.{AreWritten}
use Rattle.ddf_write_commands.specs.declared.planning.Plan.{Plan}
use Rattle.ddf_write_commands.specs.Around.{front, rest}
use Rattle.ddf_write_commands.specs.Closed.{IsClosed}
use Rattle.ddf_write_commands.specs.Costs.{sectors_before}
use Rattle.ddf_write_commands.specs.Opened.{CanGoOn, IsOpened, steps_left}
use Rattle.ddf_write_commands.specs.Planned.{IsPlanned}
use Rattle.ddf_write_commands.specs.Plans.{IsPlanOf}
use Rattle.ddf_write_commands.specs.Resync.{DifferedBehind, HasResyncedBlocks, resync_behind, resync_refusals, resync_request, resyncing}
use Rattle.ddf_write_commands.proofs.Arrays.{along_of, aside_of, can_close_of, closed_along, closed_aside, closed_keeps, closed_leaves, closed_of, keeps_of, not_opened_along, not_opened_keeps, not_opened_leaves, not_opened_of, stopped_leaves, stopped_of}
use Rattle.ddf_write_commands.proofs.Costs.{closed_costs, opened_costs, worked_costs}
use Rattle.ddf_write_commands.proofs.OnePlan.{same_first, same_volume}
use Rattle.ddf_write_commands.proofs.PlanKept.{IsPlannedAs, planned_by}
use Rattle.ddf_write_commands.proofs.ResyncArray.{ended, under}
use Rattle.ddf_write_commands.proofs.ResyncWorks.{resync_steady, resync_worked}
use Rattle.ddf_write_commands.proofs.Sparing.{differed_since, its_steps, marks_there}
use Rattle.ddf_write_commands.proofs.Works.{HasStopped, HasWorked}

module _ {D : Type 0} (tells : Type 0) (old : BayState D) (group : GroupValue) (plan : Plan) (timestamp : ℕ) (ready : ReadyValue) (from : IsReadFrom tells old group) (was : WasReadied group plan.changes timestamp ready)
    (planned : (word : List ℕ) × IsPlanOf resync_refusals resync_behind (config_recovered group) group.seats word plan) (floored : AreFloored (seated group)) where
  abbrev asked : List Change
  asked = front plan.redundant plan.changes

  -- The steps before the blocks weren't written.
  pub blocks_not_opened : (opened : BayState D) (failure : Failure) → WritesAtMost (work_of tells old opened) (sectors_before plan.marks ready) → IsChanged (work_of tells old opened) group (steps_or (readied group plan.changes timestamp)) (Err failure)
      → (tells → LeavesOthers old opened (slots_of group.seats))
      → (tells → (left : List Bool) (named : Option (List ℕ)) → IsFoundBy old left named group → (steps : List Step) → readied group asked timestamp ≡ Ok steps → KeepsHistories old opened left group steps false)
      → (tells → (steps : List Step) → readied group asked timestamp ≡ Ok steps → StopsLeave old opened (IsLeftWriting old steps)) → IsTold old → IsTold opened
      → HasResyncedBlocks tells old opened group plan timestamp (Err failure)
  blocks_not_opened opened failure opens changed beside keeps leaves tells_old tells_opened = record {
    worked = λ word is. not_opened_of tells resyncing resync_steady old group resync_refusals resync_behind plan timestamp ready was word is (omega arith) opened failure changed;
    leaves = λ told word is. not_opened_leaves tells resyncing resync_steady old group resync_refusals resync_behind plan timestamp ready was word is (omega arith) opened (leaves told);
    beside = beside;
    keeps = λ told left named by steps are.
        not_opened_keeps tells resyncing resync_steady old group resync_refusals resync_behind plan timestamp ready was planned.0 planned.1 (omega arith) opened left (keeps told left named by) steps are;
    along = λ told left named by word is.
        not_opened_along tells resyncing resync_steady old group resync_refusals resync_behind plan timestamp ready was word is (omega arith) opened left (keeps told left named by) (leaves told) tells_old tells_opened;
    costs = λ steps are. opened_costs tells group plan.changes timestamp ready was plan.marks (resyncing.most_sectors plan.view) steps are opens;
    spares = λ told word is any_plan unmarked.
        inl (writes_most (steps_sectors (any_plan.first ++ any_plan.last)) (omega arith)
        (opened_costs tells group plan.changes timestamp ready was plan.marks 0 (any_plan.first ++ any_plan.last) (its_steps group plan timestamp word is any_plan) opens));
  }

  module _ (opened : BayState D) (now_group : GroupValue) (left_ready : ReadyValue) (opens : IsOpened tells old opened group asked plan.changes timestamp now_group left_ready)
      (before_costs : WritesAtMost (work_of tells old opened) (sectors_before plan.marks ready)) (left_is : left_ready ≡ record { recovery = None; steps = rest plan.marks ready.steps })
      (beside : tells → LeavesOthers old opened (slots_of group.seats)) (leaves : tells → (steps : List Step) → readied group asked timestamp ≡ Ok steps → StopsLeave old opened (IsLeftWriting old steps))
      (goes_on : GoesOn old opened) (same_sizes : opened.sizes ≡ old.sizes) (same_reads : opened.failed_reads ≡ old.failed_reads)
      (opened_rise : (slot : ℕ) → old.failed_writes slot ≤ opened.failed_writes slot) (tells_opened : IsTold opened)
      (behind : BayState D) (tells_behind : IsTold behind) (told_back : behind.tells_left → opened.tells_left) (moments : StopsLeave opened behind (IsAmongResynced plan.view tells opened.held opened.may_hold))
      (adds : AddsResynced plan.view tells opened.held opened.may_hold behind.may_hold) (holds : tells → IsLeftByResync plan.view tells opened.held behind.held) (goes : GoesBetween opened behind)
      (works_cost : WritesAtMost (work_of tells opened behind) (resyncing.most_sectors plan.view))
      (agreed : tells → plan.marks ≡ true → OnlyReads opened behind ⊎ HasDiffered plan.view opened.held opened behind) where
    -- of an array that isn't marked nothing was asked for, or it differed
    none_or_differed : tells → (plan.marks ≡ true) ⊎ (is_redundant plan.view ≡ false) → WritesAtMost (work_of tells opened behind) 0 ⊎ HasDiffered plan.view opened.held opened behind
    none_or_differed told (inl marks) = ⊎_elim (λ reads. inl (none_written (work_of tells opened behind) reads.reads)) inr (agreed told marks)
    none_or_differed told (inr plain) =
        inl (subst (λ (b : Bool). WritesAtMost (work_of tells opened behind) (if b then resync_sectors plan.view else 0)) plain works_cost)

    module _ (word : List ℕ) (is : IsPlanOf resync_refusals resync_behind (config_recovered group) group.seats word plan) (any_plan : IsPlanned group timestamp word (resync_request word)) where
      marks_or : is_marked any_plan.entry.1 ≡ false → (plan.marks ≡ true) ⊎ (is_redundant plan.view ≡ false)
      marks_or unmarked = by (is_redundant plan.view) refl
        where
          by : (b : Bool) → is_redundant plan.view ≡ b → (plan.marks ≡ true) ⊎ (is_redundant plan.view ≡ false)
          by true e = inl (marks_there group plan timestamp word is any_plan unmarked e)
          by false e = inr e

      its_plan : IsPlannedAs group timestamp word (resync_request word) opens.steps (steps_left left_ready) plan.view
      its_plan = planned_by group resync_refusals resync_behind word plan timestamp is (omega arith) ready was opens.steps (steps_left left_ready) opens.are_first opens.are_all

      -- it differed, also where more calls came behind
      differed_by : tells → (new : BayState D) → ((slot : ℕ) → behind.failed_reads slot ≤ new.failed_reads slot) → HasDiffered plan.view opened.held opened behind
          → DifferedBehind (work_of tells old new) any_plan.first any_plan.volume
      differed_by told new rise differed = record {
        before = opened.held;
        first_written = subst (λ (steps : List Step). AreWritten old.sizes old.held steps opened.held)
            (sym (same_first group timestamp word (resync_request word) any_plan its_plan.planned ∙ its_plan.first_is)) (opens.are_written told);
        has_differed = subst (λ (volume : Volume). HasDiffered volume opened.held old new)
            (sym (same_volume group timestamp word (resync_request word) any_plan its_plan.planned ∙ its_plan.volume_is))
            (differed_since plan.view opened.held old opened behind new
            (λ slot failed.
            rose_behind (old.failed_reads slot) (behind.failed_reads slot) (new.failed_reads slot)
            (let up = goes.reads_rise slot in let same = ap (λ (counts : ℕ → ℕ). counts slot) same_reads in omega (arith, up, same)) (rise slot)
            (subst (λ (counts : ℕ → ℕ). Rose (counts slot) (behind.failed_reads slot)) same_reads failed))
            differed);
      }

    works : (done : Bool) → (tells → done ≡ true → HasResynced (Failed opened behind) plan.view opened.held behind.held) → (tells → done ≡ true → StaySettled opened behind)
        → HasWorked resyncing tells (floor_in group.seats) plan.view opened behind done
    works done resynced settled =
        resync_worked tells plan.view opened behind (floor_in group.seats) (under tells old opened behind group planned.0 plan planned.1 from same_sizes opened.held) done told_back moments adds holds resynced settled goes

    works_false : HasWorked resyncing tells (floor_in group.seats) plan.view opened behind false
    works_false = works false (λ told so. absurd (false≢true so)) (λ told so. absurd (false≢true so))

    stopped_at : (slot : ℕ) → HasStopped resyncing group.seats plan.view opened behind slot → HasResyncedBlocks tells old behind group plan timestamp (Err (Disk slot))
    stopped_at slot stops = record {
      worked = λ word is.
          stopped_of tells resyncing resync_steady old group resync_refusals resync_behind plan timestamp ready was word is (omega arith) opened now_group left_ready from opens floored
          beside leaves goes_on same_sizes same_reads opened_rise tells_opened behind tells_behind false works_false slot stops;
      leaves = λ told word is.
          stopped_leaves tells resyncing resync_steady old group resync_refusals resync_behind plan timestamp ready was word is (omega arith) opened now_group left_ready from opens floored
          beside leaves goes_on same_sizes same_reads opened_rise tells_opened behind tells_behind false works_false told;
      beside = aside_of tells resyncing resync_steady old group resync_refusals resync_behind plan timestamp ready was planned.0 planned.1 (omega arith) opened now_group left_ready from
          opens floored beside leaves goes_on same_sizes same_reads opened_rise tells_opened behind tells_behind false works_false;
      keeps = λ told left named by steps are.
          keeps_of tells resyncing resync_steady old group resync_refusals resync_behind plan timestamp ready was planned.0 planned.1 (omega arith) opened now_group left_ready from
          opens floored beside leaves goes_on same_sizes same_reads opened_rise tells_opened behind tells_behind false works_false left named by steps are told;
      along = λ told left named by word is.
          along_of tells resyncing resync_steady old group resync_refusals resync_behind plan timestamp ready was word is (omega arith) opened now_group left_ready from opens floored
          beside leaves goes_on same_sizes same_reads opened_rise tells_opened behind tells_behind false works_false told left named by;
      costs = λ steps are. worked_costs tells group plan.changes timestamp ready was plan.marks (resyncing.most_sectors plan.view) steps are before_costs works_cost;
      spares = λ told word is any_plan unmarked. ⊎_elim
          (λ none.
          inl (writes_most (steps_sectors (any_plan.first ++ any_plan.last)) (omega arith)
          (worked_costs tells group plan.changes timestamp ready was plan.marks 0 (any_plan.first ++ any_plan.last) (its_steps group plan timestamp word is any_plan) before_costs none)))
          (λ differed. inr (differed_by word is any_plan told behind (λ slot. omega arith) differed))
          (none_or_differed told (marks_or word is any_plan unmarked));
    }

    -- The resync stopped at a slot.
    pub blocks_stopped : (fault : VolumeFault) → IsResyncFault opened behind plan.view fault → HasResyncedBlocks tells old behind group plan timestamp (Err (failure_of_volume fault))
    blocks_stopped fault is =
        let ends = ended tells old opened behind group planned.0 plan planned.1 from same_sizes fault is in
        subst (λ (failure : Failure). HasResyncedBlocks tells old behind group plan timestamp (Err failure)) (sym ends.is) (stopped_at ends.slot ends.has_stopped)

    module _ (resynced : tells → HasResynced (Failed opened behind) plan.view opened.held behind.held) (settled : tells → StaySettled opened behind) where
      works_true : HasWorked resyncing tells (floor_in group.seats) plan.view opened behind true
      works_true = works true (λ told so. resynced told) (λ told so. settled told)

      -- It is done, so that the last step can be written.
      pub can_close : CanGoOn tells behind now_group left_ready
      can_close =
          can_close_of tells resyncing resync_steady old group resync_refusals resync_behind plan timestamp ready was planned.0 planned.1 (omega arith) opened now_group left_ready from
          opens floored beside leaves goes_on same_sizes same_reads opened_rise tells_opened behind tells_behind true works_true refl

      -- This came of it.
      pub blocks_closed : (new : BayState D) → IsTold new → (new.tells_left → behind.tells_left) → (tells → LeavesOthers behind new (slots_of now_group.seats))
          → (tells → StopsLeave behind new (IsLeftWriting behind (steps_left left_ready))) → new.failed_reads ≡ behind.failed_reads → WritesAtMost (work_of tells behind new) (all_sectors (next_updates left_ready))
          → (outcome : Result ℕ Failure) → IsClosed tells behind new now_group left_ready outcome → (tells → IsCommit behind new left_ready (is_done outcome)) → HasResyncedBlocks tells old new group plan timestamp outcome
      blocks_closed new tells_new back aside closing new_reads last_costs outcome closes commits = record {
        worked = λ word is.
            closed_of tells resyncing resync_steady old group resync_refusals resync_behind plan timestamp ready was word is (omega arith) opened now_group left_ready from opens floored
            beside leaves goes_on same_sizes same_reads opened_rise tells_opened behind tells_behind true works_true refl new tells_new back aside closing new_reads outcome closes;
        leaves = λ told word is.
            closed_leaves tells resyncing resync_steady old group resync_refusals resync_behind plan timestamp ready was word is (omega arith) opened now_group left_ready from opens
            floored beside leaves goes_on same_sizes same_reads opened_rise tells_opened behind tells_behind true works_true refl new tells_new back aside closing new_reads told;
        beside = closed_aside tells resyncing resync_steady old group resync_refusals resync_behind plan timestamp ready was planned.0 planned.1 (omega arith) opened now_group
            left_ready from opens floored beside leaves goes_on same_sizes same_reads opened_rise tells_opened behind tells_behind true works_true refl new tells_new back aside closing new_reads;
        keeps = λ told left named by steps are.
            closed_keeps tells resyncing resync_steady old group resync_refusals resync_behind plan timestamp ready was planned.0 planned.1 (omega arith) opened now_group
            left_ready from opens floored beside leaves goes_on same_sizes same_reads opened_rise tells_opened behind tells_behind true works_true refl new tells_new back aside closing new_reads (is_done outcome) commits told left named by steps are;
        along = λ told left named by word is.
            closed_along tells resyncing resync_steady old group resync_refusals resync_behind plan timestamp ready was word is (omega arith) opened now_group left_ready from opens floored
            beside leaves goes_on same_sizes same_reads opened_rise tells_opened behind tells_behind true works_true refl new tells_new back aside closing new_reads (is_done outcome) commits told left named by;
        costs = λ steps are. closed_costs tells group plan.changes timestamp ready was plan.marks (resyncing.most_sectors plan.view) steps are before_costs works_cost left_ready left_is last_costs;
        spares = λ told word is any_plan unmarked. ⊎_elim
            (λ none.
            inl (writes_most (steps_sectors (any_plan.first ++ any_plan.last)) (omega arith)
            (closed_costs tells group plan.changes timestamp ready was plan.marks 0 (any_plan.first ++ any_plan.last) (its_steps group plan timestamp word is any_plan) before_costs none left_ready left_is last_costs)))
            (λ differed. inr (differed_by word is any_plan told new (λ slot. let same = ap (λ (counts : ℕ → ℕ). counts slot) new_reads in omega (arith, same)) differed))
            (none_or_differed told (marks_or word is any_plan unmarked));
      }
