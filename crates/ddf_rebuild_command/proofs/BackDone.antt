-- What a run of a copyback comes to: by what was planned of it.
use Rattle.std.proofs.Common.{◌≡◌, ℕ, ◌<◌, ◌≤◌, false, true, List, [], ◌∷◌, None, Result, Ok, Err, sym, subst, inl, inr, arith}
use Rattle.ddf_array.specs.Volume.{Volume}
use Rattle.ddf_bay.specs.ReadsOnly.{ReadsOnly}
use Rattle.ddf_bay.specs.Sectors.{Image}
use Rattle.ddf_bay.specs.State.{BayState}
use Rattle.ddf_cells.specs.Touching.{GoesBetween}
use Rattle.ddf_config.specs.Seats.{SeatsFit}
use Rattle.ddf_repair.specs.declared.first.Target.{Target}
use Rattle.ddf_steps.specs.Ready.{ReadyStep}
use Rattle.ddf_steps.specs.Steps.{Step}
use Rattle.ddf_seats.specs.Group.{GroupValue}
use Rattle.ddf_recovery.specs.Ready.{ReadyValue}
use Rattle.ddf_answer.specs.declared.failure.Failure.{Failure}
use Rattle.ddf_rebuild_command.specs.declared.going_back.GoingBack.{GoingBack}
use Rattle.ddf_rebuild_command.specs.BackPlanned.{IsBackPlanned}
use Rattle.ddf_rebuild_command.specs.BackRun.{GoesCopying, IsBackRun, IsCopyFault, IsFilledRun, IsNotFilled, IsNotRecovered, IsRoomFilled, ready_recovered}
use Rattle.ddf_rebuild_command.specs.Opened.{GoesOpening, IsOpened}
use Rattle.ddf_rebuild_command.specs.Standing.{GoesNext, IsNextWritten, recovery_in}
use Rattle.ddf_rebuild_command.proofs.BackCame.{HasRunBack}
use Rattle.ddf_rebuild_command.proofs.BackFits.{IsBackFor}
use Rattle.ddf_rebuild_command.proofs.BackOpening.{ran_unopened}
use Rattle.ddf_rebuild_command.proofs.BackRan.{back_goes}
use Rattle.ddf_rebuild_command.proofs.BackRuns.{ran_back, ran_unfilled, ran_unreturned}

module _ {B : Type 0} (disks : B → BayState B) (tells : Type 0) (entry start new : BayState B) (reads : ReadsOnly entry start) (reads_rise : (s : ℕ) → entry.failed_reads s ≤ start.failed_reads s)
    (writes_rise : (s : ℕ) → entry.failed_writes s ≤ start.failed_writes s) (told : (bay : B) (t : ℕ) (image : Image) → (disks bay).left_since t image → (disks bay).tells_left)
    (new_told : (t : ℕ) (image : Image) → new.left_since t image → new.tells_left)
    (found : GroupValue) (timestamp : ℕ) (word : List ℕ) (slot : ℕ) (fit : SeatsFit entry.sizes found.seats) (going : GoingBack) (ready : ReadyValue)
    (for : IsBackFor entry.sizes found timestamp word slot going ready) where
  abbrev plan : IsBackPlanned entry.sizes found timestamp word slot
  plan = for.planned

  -- ---- the same in the words of the plan

  -- what is ready behind the recovery
  abbrev next : ReadyValue
  next = record { recovery = None; steps = for.one ∷ [] }

  in_next : (P : ReadyValue → Type 0) → P (ready_recovered ready) → P next
  in_next P is = subst (λ (steps : List ReadyStep). P (record { recovery = None; steps = steps })) for.steps_are is

  in_plan : (P : Volume → Target → (to at : ℕ) → ReadyValue → Type 0) → P going.view going.target going.slot going.start (ready_recovered ready) → P plan.volume plan.target plan.to plan.room.start next
  in_plan P is =
      subst (λ (volume : Volume). P volume plan.target plan.to plan.room.start next) (sym for.volume_is)
      (subst (λ (target : Target). P going.view target plan.to plan.room.start next) (sym for.target_is)
      (subst (λ (to : ℕ). P going.view going.target to plan.room.start next) (sym for.to_is)
      (subst (λ (at : ℕ). P going.view going.target going.slot at next) (sym for.start_is)
      (in_next (P going.view going.target going.slot going.start) is))))

  opens_plan : (mid : BayState B) → GoesOpening tells start mid found (recovery_in ready.recovery) → GoesOpening tells start mid found plan.first
  opens_plan mid opens = subst (λ (steps : List Step). GoesOpening tells start mid found steps) (sym for.first_is) opens

  opened_plan : (mid : BayState B) (opened_found : GroupValue) → IsOpened tells start mid found (recovery_in ready.recovery) opened_found (ready_recovered ready) → IsOpened tells start mid found plan.first opened_found next
  opened_plan mid opened_found opened =
      subst (λ (steps : List Step). IsOpened tells start mid found steps opened_found next) (sym for.first_is)
      (in_next (IsOpened tells start mid found (recovery_in ready.recovery) opened_found) opened)

  -- ---- by what came of the run

  unopened : (outcome : Result ℕ Failure) → IsNotRecovered disks tells start new going found ready outcome → HasRunBack tells entry start new found timestamp word slot outcome
  unopened outcome none =
      subst (λ (one : Result ℕ Failure). HasRunBack tells entry start new found timestamp word slot one) (sym none.is)
      (ran_unopened tells entry start new reads writes_rise found timestamp word slot plan fit (opens_plan new none.opens) none.failure none.failed)

  unfilled : (outcome : Result ℕ Failure) → IsNotFilled disks tells start new going found ready outcome → GoesBetween start new → HasRunBack tells entry start new found timestamp word slot outcome
  unfilled outcome run goes =
      let mid = disks run.middle in
      let opened_found = run.recovered.opened_found in
      subst (λ (one : Result ℕ Failure). HasRunBack tells entry start new found timestamp word slot one) (sym run.is)
      (ran_unfilled tells entry start mid new reads reads_rise writes_rise new_told found timestamp word slot plan fit (opens_plan mid run.recovered.opens) opened_found next
      (opened_plan mid opened_found run.recovered.opened)
      (in_plan (λ volume target to at ready. GoesCopying tells mid new volume target to at opened_found ready) run.copying) run.failure
      (in_plan (λ volume target to at ready. IsCopyFault tells mid new volume target to at opened_found ready run.failure) run.failed) goes)

  filled : (outcome : Result ℕ Failure) → IsFilledRun disks tells start new going found ready outcome → GoesBetween start new → HasRunBack tells entry start new found timestamp word slot outcome
  filled (Ok sequence) run goes =
      let mid = disks run.middle in
      let behind = disks run.behind in
      let opened_found = run.recovered.opened_found in
      let opened = opened_plan mid opened_found run.recovered.opened in
      let rises : found.config.sequence < for.one.step.config.sequence = (let low = opened.no_lower in let up = opened.stands.is_ready.rises.0 in omega (arith, low, up)) in
      ran_back tells entry start mid behind new reads reads_rise writes_rise (told run.behind) new_told found timestamp word slot plan fit (opens_plan mid run.recovered.opens) opened_found None for.one
      for.last_is opened (in_plan (λ volume target to at ready. GoesCopying tells mid behind volume target to at opened_found ready) run.copying)
      (in_plan (λ volume target to at ready. IsRoomFilled tells mid behind volume target to at opened_found ready) run.filled)
      (in_next (λ ready. GoesNext tells behind new opened_found ready true) run.returning) rises run.outcome.0 run.outcome.1
      (in_next (λ ready. IsNextWritten tells behind new opened_found ready run.outcome.0 run.outcome.1) run.outcome.2) sequence run.outcome.3 goes
  filled (Err failure) run goes =
      let mid = disks run.middle in
      let behind = disks run.behind in
      let opened_found = run.recovered.opened_found in
      let opened = opened_plan mid opened_found run.recovered.opened in
      let rises : found.config.sequence < for.one.step.config.sequence = (let low = opened.no_lower in let up = opened.stands.is_ready.rises.0 in omega (arith, low, up)) in
      ran_unreturned tells entry start mid behind new reads reads_rise writes_rise (told run.behind) new_told found timestamp word slot plan fit (opens_plan mid run.recovered.opens) opened_found None for.one
      for.last_is opened (in_plan (λ volume target to at ready. GoesCopying tells mid behind volume target to at opened_found ready) run.copying)
      (in_plan (λ volume target to at ready. IsRoomFilled tells mid behind volume target to at opened_found ready) run.filled)
      (in_next (λ ready. GoesNext tells behind new opened_found ready false) run.returning) rises failure run.outcome goes

  by_run : (outcome : Result ℕ Failure) → IsBackRun disks tells start new going found ready outcome → GoesBetween start new → HasRunBack tells entry start new found timestamp word slot outcome
  by_run outcome (inl none) goes = unopened outcome none
  by_run outcome (inr (inl run)) goes = unfilled outcome run goes
  by_run outcome (inr (inr run)) goes = filled outcome run goes

  -- What the run comes to.
  pub back_ran : (outcome : Result ℕ Failure) → IsBackRun disks tells start new going found ready outcome → HasRunBack tells entry start new found timestamp word slot outcome
  back_ran outcome run = by_run outcome run (back_goes disks tells start new going found ready outcome run)
