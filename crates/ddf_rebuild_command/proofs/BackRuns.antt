-- A copyback since the entry of its call, in one.
use Rattle.std.proofs.Common.{◌≡◌, ℕ, ◌<◌, ◌≤◌, true, false, List, [], ◌∷◌, ◌++◌, Option, Ok, Err}
use Rattle.ddf_bay.specs.ReadsOnly.{ReadsOnly}
use Rattle.ddf_bay.specs.Sectors.{Image}
use Rattle.ddf_bay.specs.State.{BayState}
use Rattle.ddf_cells.specs.Touching.{GoesBetween}
use Rattle.ddf_config.specs.Seats.{SeatsFit}
use Rattle.ddf_steps.specs.Committed.{slots_of}
use Rattle.ddf_steps.specs.Ready.{ReadyStep}
use Rattle.ddf_seats.specs.Group.{GroupValue}
use Rattle.ddf_recovery.specs.Ready.{ReadyValue}
use Rattle.ddf_answer.specs.declared.failure.Failure.{Failure}
use Rattle.ddf_rebuild_command.specs.BackPlanned.{IsBackPlanned}
use Rattle.ddf_rebuild_command.specs.BackRun.{GoesCopying, IsCopyFault, IsRoomFilled}
use Rattle.ddf_rebuild_command.specs.Opened.{GoesOpening, IsOpened}
use Rattle.ddf_rebuild_command.specs.Standing.{GoesNext, IsNextWritten, IsSlotFault}
use Rattle.ddf_rebuild_command.proofs.BackCame.{HasRunBack}
use Rattle.ddf_rebuild_command.proofs.BackSince.{run_along, run_beside, run_done, run_fault, run_keeps, run_leaves, unfilled_along, unfilled_beside, unfilled_fault, unfilled_keeps, unfilled_leaves_all}

-- The room wasn't filled.
module _ {D : Type 0} (tells : Type 0) (entry start mid new : BayState D) (reads : ReadsOnly entry start) (reads_rise : (s : ℕ) → entry.failed_reads s ≤ start.failed_reads s)
    (writes_rise : (s : ℕ) → entry.failed_writes s ≤ start.failed_writes s) (new_told : (t : ℕ) (image : Image) → new.left_since t image → new.tells_left)
    (found : GroupValue) (timestamp : ℕ) (word : List ℕ) (slot : ℕ) (plan : IsBackPlanned entry.sizes found timestamp word slot) (fit : SeatsFit entry.sizes found.seats)
    (opens : GoesOpening tells start mid found plan.first) (opened_found : GroupValue) (opened_ready : ReadyValue) (opened : IsOpened tells start mid found plan.first opened_found opened_ready)
    (copying : GoesCopying tells mid new plan.volume plan.target plan.to plan.room.start opened_found opened_ready) where
  pub ran_unfilled : (failure : Failure) → IsCopyFault tells mid new plan.volume plan.target plan.to plan.room.start opened_found opened_ready failure → GoesBetween start new
      → HasRunBack tells entry start new found timestamp word slot (Err failure)
  ran_unfilled failure fault goes = record {
    steps = plan.first ++ plan.last ∷ [];
    are_asked = plan.are_asked;
    goes = goes;
    gives = unfilled_fault tells entry start mid new reads reads_rise writes_rise new_told found timestamp word slot plan fit opens opened_found opened_ready opened copying failure fault;
    leaves = unfilled_leaves_all tells entry start mid new reads reads_rise writes_rise new_told found timestamp word slot plan fit opens opened_found opened_ready opened copying;
    beside = unfilled_beside tells entry start mid new reads reads_rise writes_rise new_told found timestamp word slot plan fit opens opened_found opened_ready opened copying;
    keeps = λ told left named by group same past kept admitted. unfilled_keeps tells entry start mid new reads reads_rise writes_rise new_told found timestamp word slot plan fit opens opened_found opened_ready opened copying told left named by group same past kept admitted;
    along = λ told left named by group same past kept admitted. (plan, unfilled_along tells entry start mid new reads reads_rise writes_rise new_told found timestamp word slot plan fit opens opened_found opened_ready opened copying told left named by group same past kept admitted);
  }

-- It was, and the last step was written.
pub ran_back : {D : Type 0} (tells : Type 0) (entry start mid behind new : BayState D) (reads : ReadsOnly entry start) (reads_rise : (s : ℕ) → entry.failed_reads s ≤ start.failed_reads s)
    (writes_rise : (s : ℕ) → entry.failed_writes s ≤ start.failed_writes s) (behind_told : (t : ℕ) (image : Image) → behind.left_since t image → behind.tells_left)
    (new_told : (t : ℕ) (image : Image) → new.left_since t image → new.tells_left)
    (found : GroupValue) (timestamp : ℕ) (word : List ℕ) (slot : ℕ) (plan : IsBackPlanned entry.sizes found timestamp word slot) (fit : SeatsFit entry.sizes found.seats)
    (opens : GoesOpening tells start mid found plan.first) (opened_found : GroupValue) (recovery : Option ReadyStep) (one : ReadyStep) (last_is : plan.last ≡ one.step)
    (opened : IsOpened tells start mid found plan.first opened_found (record { recovery = recovery; steps = one ∷ [] }))
    (copying : GoesCopying tells mid behind plan.volume plan.target plan.to plan.room.start opened_found (record { recovery = recovery; steps = one ∷ [] }))
    (filled : IsRoomFilled tells mid behind plan.volume plan.target plan.to plan.room.start opened_found (record { recovery = recovery; steps = one ∷ [] }))
    (returning : GoesNext tells behind new opened_found (record { recovery = recovery; steps = one ∷ [] }) true) (rises : found.config.sequence < one.step.config.sequence)
    (now_found : GroupValue) (now_ready : ReadyValue) → IsNextWritten tells behind new opened_found (record { recovery = recovery; steps = one ∷ [] }) now_found now_ready → (sequence : ℕ) → sequence ≡ now_found.config.sequence → GoesBetween start new → HasRunBack tells entry start new found timestamp word slot (Ok sequence)
ran_back tells entry start mid behind new reads reads_rise writes_rise behind_told new_told found timestamp word slot plan fit opens opened_found recovery one last_is opened copying filled returning rises now_found now_ready written sequence is goes = record {
  steps = plan.first ++ plan.last ∷ [];
  are_asked = plan.are_asked;
  goes = goes;
  gives = run_done tells entry start mid behind new reads reads_rise writes_rise behind_told new_told found timestamp word slot plan fit opens opened_found recovery one last_is opened copying filled true returning rises now_found now_ready written sequence is;
  leaves = run_leaves tells entry start mid behind new reads reads_rise writes_rise behind_told new_told found timestamp word slot plan fit opens opened_found recovery one last_is opened copying filled true returning rises;
  beside = run_beside tells entry start mid behind new reads reads_rise writes_rise behind_told new_told found timestamp word slot plan fit opens opened_found recovery one last_is opened copying filled true returning rises;
  keeps = λ told left named by group same past kept admitted. run_keeps tells entry start mid behind new reads reads_rise writes_rise behind_told new_told found timestamp word slot plan fit opens opened_found recovery one last_is opened copying filled true returning rises told left named by group same past kept admitted;
  along = λ told left named by group same past kept admitted. (plan, run_along tells entry start mid behind new reads reads_rise writes_rise behind_told new_told found timestamp word slot plan fit opens opened_found recovery one last_is opened copying filled true returning rises told left named by group same past kept admitted);
}

-- It was, and the last step wasn't.
pub ran_unreturned : {D : Type 0} (tells : Type 0) (entry start mid behind new : BayState D) (reads : ReadsOnly entry start) (reads_rise : (s : ℕ) → entry.failed_reads s ≤ start.failed_reads s)
    (writes_rise : (s : ℕ) → entry.failed_writes s ≤ start.failed_writes s) (behind_told : (t : ℕ) (image : Image) → behind.left_since t image → behind.tells_left)
    (new_told : (t : ℕ) (image : Image) → new.left_since t image → new.tells_left)
    (found : GroupValue) (timestamp : ℕ) (word : List ℕ) (slot : ℕ) (plan : IsBackPlanned entry.sizes found timestamp word slot) (fit : SeatsFit entry.sizes found.seats)
    (opens : GoesOpening tells start mid found plan.first) (opened_found : GroupValue) (recovery : Option ReadyStep) (one : ReadyStep) (last_is : plan.last ≡ one.step)
    (opened : IsOpened tells start mid found plan.first opened_found (record { recovery = recovery; steps = one ∷ [] }))
    (copying : GoesCopying tells mid behind plan.volume plan.target plan.to plan.room.start opened_found (record { recovery = recovery; steps = one ∷ [] }))
    (filled : IsRoomFilled tells mid behind plan.volume plan.target plan.to plan.room.start opened_found (record { recovery = recovery; steps = one ∷ [] }))
    (returning : GoesNext tells behind new opened_found (record { recovery = recovery; steps = one ∷ [] }) false) (rises : found.config.sequence < one.step.config.sequence)
    (failure : Failure) → IsSlotFault behind new (slots_of opened_found.seats) failure → GoesBetween start new → HasRunBack tells entry start new found timestamp word slot (Err failure)
ran_unreturned tells entry start mid behind new reads reads_rise writes_rise behind_told new_told found timestamp word slot plan fit opens opened_found recovery one last_is opened copying filled returning rises failure fault goes = record {
  steps = plan.first ++ plan.last ∷ [];
  are_asked = plan.are_asked;
  goes = goes;
  gives = run_fault tells entry start mid behind new reads reads_rise writes_rise behind_told new_told found timestamp word slot plan fit opens opened_found recovery one last_is opened copying filled false returning rises failure fault;
  leaves = run_leaves tells entry start mid behind new reads reads_rise writes_rise behind_told new_told found timestamp word slot plan fit opens opened_found recovery one last_is opened copying filled false returning rises;
  beside = run_beside tells entry start mid behind new reads reads_rise writes_rise behind_told new_told found timestamp word slot plan fit opens opened_found recovery one last_is opened copying filled false returning rises;
  keeps = λ told left named by group same past kept admitted. run_keeps tells entry start mid behind new reads reads_rise writes_rise behind_told new_told found timestamp word slot plan fit opens opened_found recovery one last_is opened copying filled false returning rises told left named by group same past kept admitted;
  along = λ told left named by group same past kept admitted. (plan, run_along tells entry start mid behind new reads reads_rise writes_rise behind_told new_told found timestamp word slot plan fit opens opened_found recovery one last_is opened copying filled false returning rises told left named by group same past kept admitted);
}
