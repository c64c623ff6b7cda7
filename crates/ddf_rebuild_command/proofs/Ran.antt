-- What a run of a rebuild comes to: by what was planned of it.
use Rattle.std.proofs.Common.{◌≡◌, ◌⊎◌, ℕ, ◌≤◌, Bool, List, [], ◌∷◌, ◌++◌, Result, Ok, Err, refl, sym, ap, subst, ◌∙◌, inl, inr, arith}
use Rattle.std.specs.Prelude.{is_ok}
use Rattle.ddf_bay.specs.ReadsOnly.{ReadsOnly}
use Rattle.ddf_bay.specs.Sectors.{Image}
use Rattle.ddf_bay.specs.State.{BayState}
use Rattle.ddf_array.specs.Volume.{Volume}
use Rattle.ddf_config.specs.Seats.{SeatsFit}
use Rattle.ddf_config.specs.declared.seat.Seat.{Seat}
use Rattle.ddf_repair.specs.declared.first.Target.{Target}
use Rattle.ddf_steps.specs.Committed.{DoRise, slots_of}
use Rattle.ddf_seats.specs.Group.{GroupValue}
use Rattle.ddf_steps.specs.Ready.{ReadyStep}
use Rattle.ddf_recovery.specs.Ready.{ReadyValue}
use Rattle.ddf_steps.specs.Steps.{Step}
use Rattle.ddf_history_steps.specs.Going.{KeepsHistory, changes_in}
use Rattle.ddf_answer.specs.declared.failure.Failure.{Failure}
use Rattle.ddf_answer.specs.Call.{work_of}
use Rattle.ddf_group_commands.specs.Change.{is_done, steps_of as steps_asked}
use Rattle.ddf_group_commands.specs.Requests.{linux_members}
use Rattle.ddf_write_commands.specs.Around.{rest}
use Rattle.ddf_write_commands.proofs.Arrays.{goes_then}
use Rattle.ddf_rebuild_command.specs.declared.planning.Filling.{Filling}
use Rattle.ddf_rebuild_command.specs.Along.{ComesAlong}
use Rattle.ddf_rebuild_command.specs.Asked.{rebuild_request, rows_in}
use Rattle.ddf_rebuild_command.specs.Filled.{AreFilled, CanFill, GoesFilling, IsFillFault, rounds_in}
use Rattle.ddf_rebuild_command.specs.Notes.{notes}
use Rattle.ddf_rebuild_command.specs.Opened.{GoesOpening, IsOpened, steps_before}
use Rattle.ddf_rebuild_command.specs.Planned.{IsIdle, IsPlanned, first_row}
use Rattle.ddf_rebuild_command.specs.Rebuilt.{IsRebuiltOf}
use Rattle.ddf_rebuild_command.specs.Rounds.{Round, rows_of, steps_of}
use Rattle.ddf_rebuild_command.specs.Run.{IsFillOutcome, IsFillRun, IsNotOpened, IsRecoveryRun, ready_behind, rounds_of}
use Rattle.ddf_rebuild_command.specs.Standing.{IsSlotFault, recovery_in}
use Rattle.ddf_rebuild_command.proofs.Coming.{AreAbove}
use Rattle.ddf_rebuild_command.proofs.OpeningRun as opening
use Rattle.ddf_rebuild_command.proofs.PlanFits.{IsPlannedFor}
use Rattle.ddf_rebuild_command.proofs.PositionRun as position
use Rattle.ddf_rebuild_command.proofs.RunCame.{HasRun}

-- ---- the rounds of a plan

above_by : (sequence number : ℕ) (rows : List ℕ) (steps : List ReadyStep) → sequence ≤ number → DoRise number steps → AreAbove sequence (rounds_in rows steps)
above_by sequence number [] steps le rise = tt
above_by sequence number (row ∷ rows) [] le rise = tt
above_by sequence number (row ∷ rows) (one ∷ others) le rise =
    (let up = rise.0 in omega (arith, le, up), above_by sequence one.step.config.sequence rows others (let up = rise.0 in omega (arith, le, up)) rise.1)

not_none : {X : Type 0} (xs : List X) (x : X) → xs ++ x ∷ [] ≡ [] → ⊥
not_none [] x e = cc
not_none (first ∷ xs) x e = cc

done_is : (outcome : Result ℕ Failure) → is_ok outcome ≡ is_done outcome
done_is (Ok sequence) = refl
done_is (Err failure) = refl

module _ {D : Type 0} (tells : Type 0) (entry start new : BayState D) (reads : ReadsOnly entry start) (reads_rise : (slot : ℕ) → entry.failed_reads slot ≤ start.failed_reads slot)
    (writes_rise : (slot : ℕ) → entry.failed_writes slot ≤ start.failed_writes slot) (told_since : (t : ℕ) (image : Image) → new.left_since t image → new.tells_left)
    (found : GroupValue) (timestamp : ℕ) (word : List ℕ) (fit : SeatsFit entry.sizes found.seats) (ready : ReadyValue) where
  -- ---- a position was to be filled

  module _ (filling : Filling) (for : IsPlannedFor found timestamp word filling ready) where
    abbrev plan : IsPlanned found timestamp word
    plan = for.planned

    some_rounds : plan.rounds ≡ [] → ⊥
    some_rounds none =
        not_none (notes plan.kept (rows_in plan.entry.1 plan.target.element)) (rows_in plan.entry.1 plan.target.element) (sym plan.rows_are ∙ ap rows_of none)

    module _ (mid : BayState D) (opens : GoesOpening tells start mid found (steps_before filling.begins ready)) (opened_found : GroupValue)
        (opened : IsOpened tells start mid found (steps_before filling.begins ready) opened_found (ready_behind filling ready)) (done : Bool)
        (fills : GoesFilling tells mid new filling.view filling.target filling.from (rounds_of filling ready) opened_found (ready_behind filling ready) done) where
      -- the same in the words of the plan
      opens_plan : GoesOpening tells start mid found plan.first
      opens_plan = subst (λ (steps : List Step). GoesOpening tells start mid found steps) (sym for.first_is) opens

      opened_plan : IsOpened tells start mid found plan.first opened_found (ready_behind filling ready)
      opened_plan = subst (λ (steps : List Step). IsOpened tells start mid found steps opened_found (ready_behind filling ready)) (sym for.first_is) opened

      in_plan : (P : Volume → Target → ℕ → List Round → Type 0) → P filling.view filling.target filling.from (rounds_of filling ready) → P plan.volume plan.target (first_row plan) plan.rounds
      in_plan P is =
          subst (λ (volume : Volume). P volume plan.target (first_row plan) plan.rounds) (sym for.volume_is)
          (subst (λ (target : Target). P filling.view target (first_row plan) plan.rounds) (sym for.target_is)
          (subst (λ (from : ℕ). P filling.view filling.target from plan.rounds) (sym for.from_is)
          (subst (λ (rounds : List Round). P filling.view filling.target filling.from rounds) (sym for.rounds_are) is)))

      fills_plan : GoesFilling tells mid new plan.volume plan.target (first_row plan) plan.rounds opened_found (ready_behind filling ready) done
      fills_plan = in_plan (λ volume target from rounds. GoesFilling tells mid new volume target from rounds opened_found (ready_behind filling ready) done) fills

      above : AreAbove found.config.sequence plan.rounds
      above =
          subst (λ (rounds : List Round). AreAbove found.config.sequence rounds) (sym for.rounds_are)
          (above_by found.config.sequence opened_found.config.sequence filling.rows (rest filling.begins ready.steps) opened.no_lower opened.stands.is_ready.rises)

      filled_run : (outcome : Result ℕ Failure) → done ≡ is_done outcome → IsRebuiltOf (work_of tells entry new) found timestamp word outcome → HasRun tells entry start new found timestamp word outcome
      filled_run outcome is gives = record {
        steps = plan.first ++ steps_of plan.rounds;
        are_asked = plan.are_asked;
        goes = goes_then start mid new opens.goes fills.goes;
        gives = gives;
        leaves = λ told.
            position.run_leaves tells entry start mid new reads reads_rise writes_rise told_since found timestamp word plan fit opens_plan opened_found (ready_behind filling ready) opened_plan done fills_plan above
            some_rounds told (plan.first ++ steps_of plan.rounds);
        beside = position.run_beside tells entry start mid new reads reads_rise writes_rise told_since found timestamp word plan fit opens_plan opened_found (ready_behind filling ready) opened_plan done fills_plan
            above some_rounds;
        keeps = λ told left named by group same past kept admitted.
            subst (λ (b : Bool). KeepsHistory group entry new past left found (changes_in found (plan.first ++ steps_of plan.rounds)) b) is
            (position.run_keeps tells entry start mid new reads reads_rise writes_rise told_since found timestamp word plan fit opens_plan opened_found (ready_behind filling ready) opened_plan done fills_plan
            above some_rounds told left named by group same past kept admitted);
        along = λ told left named by group same past kept admitted. inr (
          plan,
          subst (λ (b : Bool). ComesAlong group (work_of tells entry new) past left found plan b) is
              (position.run_along tells entry start mid new reads reads_rise writes_rise told_since found timestamp word plan fit opens_plan opened_found (ready_behind filling ready) opened_plan done fills_plan
              above some_rounds told left named by group same past kept admitted),
        );
      }

      gives_by : (outcome : Result ℕ Failure) → CanFill mid.sizes opened_found.seats filling.view filling.target (rows_in plan.entry.1 plan.target.element) filling.from filling.rows
          → IsFillOutcome tells mid new filling opened_found (ready_behind filling ready) outcome → IsRebuiltOf (work_of tells entry new) found timestamp word outcome
      gives_by (Ok sequence) can is =
          position.run_done tells entry start mid new reads reads_rise writes_rise told_since found timestamp word plan fit opens_plan opened_found (ready_behind filling ready) opened_plan done fills_plan above
          some_rounds is.0 is.1 (in_plan (λ volume target from rounds. AreFilled tells mid new volume target from rounds opened_found (ready_behind filling ready) is.0 is.1) is.2) sequence is.3
      gives_by (Err failure) can is =
          position.run_fault tells entry start mid new reads reads_rise writes_rise told_since found timestamp word plan fit opens_plan opened_found (ready_behind filling ready) opened_plan done fills_plan above
          some_rounds failure
          (in_plan (λ volume target from rounds. IsFillFault tells mid new volume target from rounds opened_found (ready_behind filling ready) (rows_in plan.entry.1 plan.target.element) failure)
          (is (rows_in plan.entry.1 plan.target.element) can))

    -- Its first steps failed.
    not_opened : (failure : Failure) → GoesOpening tells start new found (steps_before filling.begins ready) → IsSlotFault start new (slots_of found.seats) failure
        → HasRun tells entry start new found timestamp word (Err failure)
    not_opened failure opens fault = record {
      steps = plan.first ++ steps_of plan.rounds;
      are_asked = plan.are_asked;
      goes = opens.goes;
      gives = opening.open_fault tells entry start new reads writes_rise found timestamp word fit (steps_before filling.begins ready) opens (plan.first ++ steps_of plan.rounds) plan.are_asked failure fault;
      leaves = λ told.
          opening.planned_leaves tells entry start new reads writes_rise found timestamp word fit (steps_before filling.begins ready) opens plan for.first_is told (plan.first ++ steps_of plan.rounds);
      beside = opening.open_beside tells entry start new reads writes_rise found timestamp word fit (steps_before filling.begins ready) opens;
      keeps = λ told left named by group same past kept admitted.
          opening.planned_keeps tells entry start new reads writes_rise found timestamp word fit (steps_before filling.begins ready) opens plan for.first_is told left named by group same past kept admitted;
      along = λ told left named by group same past kept admitted. inr (
        plan,
        opening.planned_along tells entry start new reads writes_rise found timestamp word fit (steps_before filling.begins ready) opens plan for.first_is told left named by group same past kept admitted,
      );
    }

  -- ---- nothing was to be filled

  module _ (idle : IsIdle found timestamp word) (first : List Step) (asked : steps_asked found timestamp (rebuild_request word (linux_members found)) ≡ Ok first) (opens : GoesOpening tells start new found first) where
    idle_done : (now_found : GroupValue) (now_ready : ReadyValue) → IsOpened tells start new found first now_found now_ready → (sequence : ℕ) → sequence ≡ now_found.config.sequence
        → HasRun tells entry start new found timestamp word (Ok sequence)
    idle_done now_found now_ready opened sequence is = record {
      steps = first;
      are_asked = asked;
      goes = opens.goes;
      gives = opening.idle_done tells entry start new reads writes_rise found timestamp word fit first opens idle asked now_found now_ready opened sequence is;
      leaves = opening.idle_leaves tells entry start new reads writes_rise found timestamp word fit first opens idle asked;
      beside = opening.open_beside tells entry start new reads writes_rise found timestamp word fit first opens;
      keeps = λ told left named by group same past kept admitted.
          opening.open_done tells entry start new reads writes_rise found timestamp word fit first opens told left named by group same past kept admitted now_found now_ready opened;
      along = λ told left named by group same past kept admitted. inl idle;
    }

    idle_failed : (failure : Failure) → IsSlotFault start new (slots_of found.seats) failure → HasRun tells entry start new found timestamp word (Err failure)
    idle_failed failure fault = record {
      steps = first;
      are_asked = asked;
      goes = opens.goes;
      gives = opening.open_fault tells entry start new reads writes_rise found timestamp word fit first opens first asked failure fault;
      leaves = opening.idle_leaves tells entry start new reads writes_rise found timestamp word fit first opens idle asked;
      beside = opening.open_beside tells entry start new reads writes_rise found timestamp word fit first opens;
      keeps = λ told left named by group same past kept admitted.
          opening.idle_keeps_failed tells entry start new reads writes_rise found timestamp word fit first opens idle asked told left named by group same past kept admitted;
      along = λ told left named by group same past kept admitted. inl idle;
    }

-- ---- by what the run promises

module _ {B : Type 0} (disks : B → BayState B) (tells : Type 0) (entry start new : BayState B) (reads : ReadsOnly entry start) (reads_rise : (slot : ℕ) → entry.failed_reads slot ≤ start.failed_reads slot)
    (writes_rise : (slot : ℕ) → entry.failed_writes slot ≤ start.failed_writes slot) (told_since : (t : ℕ) (image : Image) → new.left_since t image → new.tells_left)
    (found : GroupValue) (timestamp : ℕ) (word : List ℕ) (fit : SeatsFit entry.sizes found.seats) (ready : ReadyValue) where
  -- of a position
  pub ran_filling : (filling : Filling) (for : IsPlannedFor found timestamp word filling ready)
      → CanFill start.sizes found.seats filling.view filling.target (rows_in for.planned.entry.1 for.planned.target.element) filling.from filling.rows
      → (outcome : Result ℕ Failure) → IsFillRun disks tells start new found ready filling outcome ⊎ IsNotOpened disks tells start new found ready filling outcome
      → HasRun tells entry start new found timestamp word outcome
  ran_filling filling for can outcome (inl run) =
      let end = rows_in for.planned.entry.1 for.planned.target.element in
      let can_mid : CanFill (disks run.middle).sizes run.opened_found.seats filling.view filling.target end filling.from filling.rows =
      subst (λ (sizes : List ℕ). CanFill sizes run.opened_found.seats filling.view filling.target end filling.from filling.rows) (sym run.opens.goes.same_sizes)
      (subst (λ (seats : List Seat). CanFill start.sizes seats filling.view filling.target end filling.from filling.rows) (sym run.opened.same_seats) can) in
      filled_run tells entry start new reads reads_rise writes_rise told_since found timestamp word fit ready filling for (disks run.middle) run.opens run.opened_found run.opened (is_ok outcome) run.fills outcome
      (done_is outcome)
      (gives_by tells entry start new reads reads_rise writes_rise told_since found timestamp word fit ready filling for (disks run.middle) run.opens run.opened_found run.opened (is_ok outcome) run.fills outcome
      can_mid run.outcome)
  ran_filling filling for can outcome (inr none) =
      subst (λ (one : Result ℕ Failure). HasRun tells entry start new found timestamp word one) (sym none.is)
      (not_opened tells entry start new reads reads_rise writes_rise told_since found timestamp word fit ready filling for none.failure none.opens none.failed)

  -- and of none
  pub ran_idle : IsIdle found timestamp word → steps_asked found timestamp (rebuild_request word (linux_members found)) ≡ Ok (recovery_in ready.recovery) → (outcome : Result ℕ Failure)
      → IsRecoveryRun disks tells start new found ready outcome → HasRun tells entry start new found timestamp word outcome
  ran_idle idle asked (Ok sequence) run =
      idle_done tells entry start new reads reads_rise writes_rise told_since found timestamp word fit ready idle (recovery_in ready.recovery) asked run.opens run.outcome.0 run.outcome.1 run.outcome.2 sequence
      run.outcome.3
  ran_idle idle asked (Err failure) run =
      idle_failed tells entry start new reads reads_rise writes_rise told_since found timestamp word fit ready idle (recovery_in ready.recovery) asked run.opens failure run.outcome
