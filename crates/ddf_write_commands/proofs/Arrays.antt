-- The three calls around the blocks of an array, each as it ends: what came of all.
use Rattle.std.proofs.Common.{◌≡◌, ℕ, ◌≤◌, Bool, true, false, List, ◌++◌, length, Option, Result, Ok, Err, sym, ap, subst, ◌∙◌, inl, arith}
use Rattle.ddf_lemmas.proofs.Options.{ok_is}
use Rattle.ddf_bay.specs.Moments.{GoesOn, StopsLeave}
use Rattle.ddf_bay.specs.State.{BayState}
use Rattle.ddf_bay.proofs.Steps.{stops_weaken}
use Rattle.ddf_config.specs.Configuration.{Configuration}
use Rattle.ddf_plan.specs.declared.change.Change.{Change}
use Rattle.ddf_cells.specs.Touching.{GoesBetween}
use Rattle.ddf_recovery.specs.Committed.{WasReadied}
use Rattle.ddf_steps.specs.Committed.{slots_of}
use Rattle.ddf_seats.specs.Group.{GroupValue}
use Rattle.ddf_recovery.specs.Ready.{ReadyValue, readied}
use Rattle.ddf_recovery.specs.Recovery.{config_recovered}
use Rattle.ddf_seats.specs.Seated.{seated}
use Rattle.ddf_steps.specs.Steps.{Step}
use Rattle.ddf_history_steps.specs.Going.{KeepsHistory, changes_in}
use Rattle.ddf_history_steps.specs.Steps.{IsCommit}
use Rattle.ddf_history_steps.specs.BlockFloors.{AreFloored, floor_in}
use Rattle.ddf_history_steps.proofs.Course.{recovery_failed}
use Rattle.ddf_answer.specs.declared.failure.Failure.{Failure}
use Rattle.ddf_answer.specs.declared.failure.Failure.TheVariants.{Disk}
use Rattle.ddf_answer.specs.Call.{work_of}
use Rattle.ddf_group_commands.specs.Change.{IsChanged, KeepsHistories, Request, steps_or}
use Rattle.ddf_group_commands.specs.GroupRead.{IsFoundBy, IsReadFrom}
use Rattle.ddf_group_commands.specs.Others.{LeavesOthers}
use Rattle.ddf_group_commands.specs.Writing.{IsLeftWriting}
use Rattle.ddf_write_commands.specs.declared.planning.Plan.{Plan}
use Rattle.ddf_write_commands.specs.Along.{AllComeAlong}
use Rattle.ddf_write_commands.specs.Around.{front}
use Rattle.ddf_write_commands.specs.Closed.{IsClosed}
use Rattle.ddf_write_commands.specs.Doing.{Doing}
use Rattle.ddf_write_commands.specs.Opened.{CanGoOn, IsOpened, steps_left}
use Rattle.ddf_write_commands.specs.Planned.{Entry, IsPlanned, Refusing, request_around}
use Rattle.ddf_write_commands.specs.Plans.{IsPlanOf}
use Rattle.ddf_write_commands.specs.Worked.{IsArrayLeft, IsLeftDoing, IsWorkedOf}
use Rattle.ddf_write_commands.proofs.Between.{can_close, close_along, close_aside, close_keeps, close_leaves, closed, not_opened, work_along, work_aside, work_keeps, work_leaves, work_left, work_stopped}
use Rattle.ddf_bay.specs.Told.{IsTold}
use Rattle.ddf_history_steps.proofs.CommittingGoes.{changes_of_both}
use Rattle.ddf_write_commands.proofs.OnePlan.{same_first, same_last, same_volume}
use Rattle.ddf_write_commands.proofs.Parts.{opening_fails}
use Rattle.ddf_write_commands.proofs.PlanKept.{IsPlannedAs, first, is_first, planned, planned_by, steps_are}
use Rattle.ddf_write_commands.proofs.Works.{HasStopped, HasWorked, IsSteady}

pub goes_then : {D : Type 0} (a b c : BayState D) → GoesBetween a b → GoesBetween b c → GoesBetween a c
goes_then a b c one two = record {
  goes_on = λ bay leads. one.goes_on bay (two.goes_on bay leads);
  same_sizes = two.same_sizes ∙ one.same_sizes;
  reads_rise = λ s. let first = one.reads_rise s in let second = two.reads_rise s in omega (arith, first, second);
  writes_rise = λ s. let first = one.writes_rise s in let second = two.writes_rise s in omega (arith, first, second);
}

-- by what calls promise that write no blocks
pub goes_by : {D : Type 0} (a b : BayState D) → GoesOn a b → b.sizes ≡ a.sizes → b.failed_reads ≡ a.failed_reads → ((slot : ℕ) → a.failed_writes slot ≤ b.failed_writes slot) → GoesBetween a b
goes_by a b goes_on same_sizes same_reads writes_rise = record {
  goes_on = goes_on;
  same_sizes = same_sizes;
  reads_rise = λ s. let same = ap (λ (counts : ℕ → ℕ). counts s) same_reads in omega (arith, same);
  writes_rise = writes_rise;
}

module _ {D : Type 0} (tells : Type 0) (doing : Doing) (steady : IsSteady doing) (old : BayState D) (found : GroupValue) (refusing : Refusing) (behind : Entry → List Change) (plan : Plan) (timestamp : ℕ)
    (ready : ReadyValue) (was : WasReadied found plan.changes timestamp ready) (word : List ℕ) (is : IsPlanOf refusing behind (config_recovered found) found.seats word plan)
    (few : length (behind is.entry) ≤ 1) where
  abbrev request : Request
  request = request_around refusing behind word

  abbrev asked : List Change
  asked = front plan.redundant plan.changes

  -- ---- the first call failed

  module _ (opened : BayState D) where
    pub not_opened_of : (failure : Failure) → IsChanged (work_of tells old opened) found (steps_or (readied found plan.changes timestamp)) (Err failure)
        → IsWorkedOf doing (work_of tells old opened) found timestamp word request (Err failure)
    not_opened_of failure changed =
        not_opened doing (work_of tells old opened) found timestamp word request (planned found refusing behind word plan timestamp is few ready was).planned failure
        (subst (λ (steps : Result (List Step) Failure). IsChanged (work_of tells old opened) found steps (Err failure)) (sym (steps_are found refusing behind word plan timestamp is few)) changed)

    pub not_opened_leaves : ((steps : List Step) → readied found asked timestamp ≡ Ok steps → StopsLeave old opened (IsLeftWriting old steps))
        → StopsLeave old opened (IsLeftDoing doing (work_of tells old opened) found timestamp word request)
    not_opened_leaves leaves =
        let its_plan = planned found refusing behind word plan timestamp is few ready was in
        stops_weaken (leaves (first found refusing behind word plan timestamp is few ready was) (is_first found refusing behind word plan timestamp is few ready was))
        (λ image writing. record { plan = its_plan.planned; is_left = inl (subst (λ (steps : List Step). IsLeftWriting old steps image) (sym its_plan.first_is) writing) })

    module _ (left : List Bool) (keeps : (steps : List Step) → readied found asked timestamp ≡ Ok steps → KeepsHistories old opened left found steps false) where
      abbrev its_first : List Step
      its_first = first found refusing behind word plan timestamp is few ready was

      keeps_first : KeepsHistories old opened left found its_first false
      keeps_first = keeps its_first (is_first found refusing behind word plan timestamp is few ready was)

      pub not_opened_keeps : (steps : List Step) → readied found plan.changes timestamp ≡ Ok steps → KeepsHistories old opened left found steps false
      not_opened_keeps steps are group same past kept admitted =
          let its_plan = planned found refusing behind word plan timestamp is few ready was in
          let both : its_plan.planned.first ++ its_plan.planned.last ≡ steps =
          ok_is (sym its_plan.planned.are_asked ∙ steps_are found refusing behind word plan timestamp is few ∙ ap steps_or are) in
          subst (λ (all : List Step). KeepsHistory group old opened past left found (changes_in found all) false) both
          (subst (λ (all : List Configuration). KeepsHistory group old opened past left found all false) (sym (changes_of_both found its_plan.planned.first its_plan.planned.last))
          (recovery_failed group old opened past left found (changes_in found its_plan.planned.first) (changes_in found its_plan.planned.last)
          (subst (λ (all : List Step). KeepsHistory group old opened past left found (changes_in found all) false) (sym its_plan.first_is) (keeps_first group same past kept admitted))))

      pub not_opened_along : ((steps : List Step) → readied found asked timestamp ≡ Ok steps → StopsLeave old opened (IsLeftWriting old steps)) → IsTold old → IsTold opened
          → AllComeAlong doing (work_of tells old opened) left found timestamp word request false
      not_opened_along leaves tells_old tells_opened any_plan group same past kept admitted =
          let its_plan = planned found refusing behind word plan timestamp is few ready was in
          let first_is : its_first ≡ any_plan.first = sym (same_first found timestamp word request any_plan its_plan.planned ∙ its_plan.first_is) in
          opening_fails tells group past left found timestamp word request any_plan doing old opened tells_old tells_opened
          (subst (λ (all : List Step). KeepsHistory group old opened past left found (changes_in found all) false) first_is (keeps_first group same past kept admitted))
          (subst (λ (all : List Step). StopsLeave old opened (IsLeftWriting old all)) first_is (leaves its_first (is_first found refusing behind word plan timestamp is few ready was)))

  -- ---- it didn't

  module _ (opened : BayState D) (now_found : GroupValue) (left_ready : ReadyValue) (from : IsReadFrom tells old found) (opens : IsOpened tells old opened found asked plan.changes timestamp now_found left_ready)
      (floored : AreFloored (seated found)) (beside : tells → LeavesOthers old opened (slots_of found.seats))
      (leaves : tells → (steps : List Step) → readied found asked timestamp ≡ Ok steps → StopsLeave old opened (IsLeftWriting old steps)) (goes_on : GoesOn old opened)
      (same_sizes : opened.sizes ≡ old.sizes) (same_reads : opened.failed_reads ≡ old.failed_reads) (opened_rise : (slot : ℕ) → old.failed_writes slot ≤ opened.failed_writes slot) (tells_opened : IsTold opened)
      (done_blocks : BayState D) (tells_done : IsTold done_blocks) where
    abbrev its_plan : IsPlannedAs found timestamp word request opens.steps (steps_left left_ready) plan.view
    its_plan = planned_by found refusing behind word plan timestamp is few ready was opens.steps (steps_left left_ready) opens.are_first opens.are_all

    -- What is planned of the group otherwise is the same.
    module _ (any_plan : IsPlanned found timestamp word request) where
      any_first : any_plan.first ≡ opens.steps
      any_first = same_first found timestamp word request any_plan its_plan.planned ∙ its_plan.first_is

      any_last : any_plan.last ≡ steps_left left_ready
      any_last = same_last found timestamp word request any_plan its_plan.planned ∙ its_plan.last_is

      any_volume : any_plan.volume ≡ plan.view
      any_volume = same_volume found timestamp word request any_plan its_plan.planned ∙ its_plan.volume_is

    leaves_first : tells → StopsLeave old opened (IsLeftWriting old opens.steps)
    leaves_first told = leaves told opens.steps opens.are_first

    module _ (done : Bool) (works : HasWorked doing tells (floor_in found.seats) plan.view opened done_blocks done) where
      -- the work failed
      pub stopped_of : (slot : ℕ) → HasStopped doing found.seats plan.view opened done_blocks slot → IsWorkedOf doing (work_of tells old done_blocks) found timestamp word request (Err (Disk slot))
      stopped_of slot stops =
          work_stopped tells doing steady old opened found now_found asked plan.changes timestamp left_ready from opens floored beside leaves_first same_sizes same_reads opened_rise tells_opened plan.view
          done_blocks tells_done done works word request its_plan.planned its_plan.first_is its_plan.last_is its_plan.volume_is slot stops

      -- it was done, and nothing behind it
      pub left_of : done ≡ true → IsArrayLeft doing (work_of tells old done_blocks) found timestamp word request
      left_of so =
          work_left tells doing steady old opened found now_found asked plan.changes timestamp left_ready from opens floored beside leaves_first same_sizes same_reads opened_rise tells_opened plan.view
          done_blocks tells_done done works word request its_plan.planned its_plan.first_is its_plan.last_is its_plan.volume_is so

      pub stopped_leaves : tells → StopsLeave old done_blocks (IsLeftDoing doing (work_of tells old done_blocks) found timestamp word request)
      stopped_leaves =
          work_leaves tells doing steady old opened found now_found asked plan.changes timestamp left_ready from opens floored beside leaves_first same_sizes same_reads opened_rise tells_opened plan.view
          done_blocks tells_done done works word request its_plan.planned its_plan.first_is its_plan.last_is its_plan.volume_is

      pub aside_of : tells → LeavesOthers old done_blocks (slots_of found.seats)
      aside_of =
          work_aside tells doing steady old opened found now_found asked plan.changes timestamp left_ready from opens floored beside leaves_first same_sizes same_reads opened_rise tells_opened plan.view
          done_blocks tells_done done works

      pub along_of : tells → (left : List Bool) (named : Option (List ℕ)) → IsFoundBy old left named found → AllComeAlong doing (work_of tells old done_blocks) left found timestamp word request false
      along_of told left named by any_plan group same past kept admitted =
          work_along tells doing steady old opened found now_found asked plan.changes timestamp left_ready from opens floored beside leaves_first same_sizes same_reads opened_rise tells_opened plan.view
          done_blocks tells_done done works word request any_plan (any_first any_plan) (any_last any_plan) (any_volume any_plan) left named by told group same past kept admitted

      module _ (left : List Bool) (named : Option (List ℕ)) (by : IsFoundBy old left named found) (steps : List Step) (are : readied found plan.changes timestamp ≡ Ok steps) where
        pub keeps_of : tells → KeepsHistories old done_blocks left found steps false
        keeps_of =
            work_keeps tells doing steady old opened found now_found asked plan.changes timestamp left_ready from opens floored beside leaves_first same_sizes same_reads opened_rise tells_opened plan.view
            done_blocks tells_done done works left named by steps are

      pub can_close_of : done ≡ true → CanGoOn tells done_blocks now_found left_ready
      can_close_of =
          can_close tells doing steady old opened found now_found asked plan.changes timestamp left_ready from opens floored beside leaves_first same_sizes same_reads opened_rise tells_opened plan.view
          done_blocks tells_done done works

      -- it was done
      module _ (is_so : done ≡ true) (new : BayState D) (tells_new : IsTold new) (back : new.tells_left → done_blocks.tells_left)
          (aside : tells → LeavesOthers done_blocks new (slots_of now_found.seats)) (closing : tells → StopsLeave done_blocks new (IsLeftWriting done_blocks (steps_left left_ready)))
          (new_reads : new.failed_reads ≡ done_blocks.failed_reads) where
        pub closed_of : (outcome : Result ℕ Failure) → IsClosed tells done_blocks new now_found left_ready outcome → IsWorkedOf doing (work_of tells old new) found timestamp word request outcome
        closed_of outcome closes =
            closed tells doing steady old opened found now_found asked plan.changes timestamp left_ready from opens floored beside leaves_first same_sizes same_reads opened_rise tells_opened plan.view
            done_blocks tells_done done works is_so new tells_new back aside closing new_reads word request its_plan.planned its_plan.first_is its_plan.last_is its_plan.volume_is outcome closes

        pub closed_aside : tells → LeavesOthers old new (slots_of found.seats)
        closed_aside =
            close_aside tells doing steady old opened found now_found asked plan.changes timestamp left_ready from opens floored beside leaves_first same_sizes same_reads opened_rise tells_opened plan.view
            done_blocks tells_done done works is_so new tells_new back aside closing new_reads

        pub closed_leaves : tells → StopsLeave old new (IsLeftDoing doing (work_of tells old new) found timestamp word request)
        closed_leaves =
            close_leaves tells doing steady old opened found now_found asked plan.changes timestamp left_ready from opens floored beside leaves_first same_sizes same_reads opened_rise tells_opened plan.view
            done_blocks tells_done done works is_so new tells_new back aside closing new_reads word request its_plan.planned its_plan.first_is its_plan.last_is its_plan.volume_is

        module _ (done_all : Bool) (commits : tells → IsCommit done_blocks new left_ready done_all) where
          pub closed_along : tells → (left : List Bool) (named : Option (List ℕ)) → IsFoundBy old left named found
              → AllComeAlong doing (work_of tells old new) left found timestamp word request done_all
          closed_along told left named by any_plan group same past kept admitted =
              close_along tells doing steady old opened found now_found asked plan.changes timestamp left_ready from opens floored beside leaves_first same_sizes same_reads opened_rise tells_opened plan.view
              done_blocks tells_done done works is_so new tells_new back aside closing new_reads word request any_plan (any_first any_plan) (any_last any_plan) (any_volume any_plan)
              done_all commits left named by told group same past kept admitted

          pub closed_keeps : tells → (left : List Bool) (named : Option (List ℕ)) → IsFoundBy old left named found → (steps : List Step) → readied found plan.changes timestamp ≡ Ok steps
              → KeepsHistories old new left found steps done_all
          closed_keeps told left named by steps are =
              close_keeps tells doing steady old opened found now_found asked plan.changes timestamp left_ready from opens floored beside leaves_first same_sizes same_reads opened_rise tells_opened plan.view
              done_blocks tells_done done works is_so new tells_new back aside closing new_reads done_all commits left named by steps are told
