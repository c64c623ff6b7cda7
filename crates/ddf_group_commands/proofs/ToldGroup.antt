-- What `assemble` comes to, and what it tells.
use Rattle.std.proofs.Common.{◌≡◌, ℕ, ◌≤◌, List, [], Option, Result, Ok, Err, refl, subst, sym}
use Rattle.std.specs.Prelude.{string_bytes}
use Rattle.std.specs.declared.string.String.{String}
use Rattle.std.specs.declared.alloc.Global.{Global}
use Rattle.ddf_bay.specs.ReadsOnly.{ReadsOnly}
use Rattle.ddf_bay.specs.State.{BayState}
use Rattle.ddf_group.specs.declared.answer.Assembly.{Assembly}
use Rattle.ddf_seats.specs.Group.{GroupValue}
use Rattle.ddf_assembly.specs.Group.{group_of}
use Rattle.ddf_answer.specs.declared.failure.Failure.{Failure}
use Rattle.ddf_answer.specs.Answers.{IsToldFailure}
use Rattle.ddf_group_commands.specs.Assemble.{HasTold, IsAssembleDone, IsTold, no_change, told_group}
use Rattle.ddf_answer.specs.Call.{Answer, Work, work_of}
use Rattle.ddf_group_commands.specs.Change.{HasChanged}
use Rattle.ddf_group_commands.specs.GroupRead.{IsGroupRead}
use Rattle.ddf_answer.specs.Tells.{ClosesWith}
use Rattle.ddf_group_commands.proofs.ChangeEnds.{told_failure}
use Rattle.ddf_group_commands.proofs.Outcomes.{HasWritten, changed_group, has_changed}

module _ {D : Type 0} {work : Work D} {named : Option (List ℕ)} {timestamp : ℕ} where
  -- why it tells nothing of a group
  pub told_not : {outcome : Result ℕ Failure} {failure : Failure} → outcome ≡ Err failure → HasChanged work named timestamp no_change outcome → HasTold work named timestamp (Err failure)
  told_not {outcome = outcome} is has = record { outcome = outcome; has = has; failed = is; told = tt }

  -- the text of a group that was recovered
  pub told_text : {outcome : Result ℕ Failure} {sequence : ℕ} {group : GroupValue} {text : String Global} → outcome ≡ Ok sequence → (has : HasChanged work named timestamp no_change outcome)
      → group_of has.taken.newest named ≡ Ok group → string_bytes text ≡ told_group group → HasTold work named timestamp (Ok text)
  told_text {outcome = outcome} {sequence = sequence} {group = group} is has found text = record { outcome = outcome; has = has; failed = tt; told = (group, sequence, found, is, text) }

  -- a text was printed
  pub text_done : {text : String Global} {answer : Answer} → HasTold work named timestamp (Ok text) → ClosesWith 0 (string_bytes text) answer → IsAssembleDone work named timestamp answer
  text_done {answer = answer} is closes =
      let all = is.told in
      record {
        outcome = is.outcome;
        has = is.has;
        ends = subst (λ (found : Result GroupValue Assembly). IsTold found is.outcome answer) (sym all.2)
            (subst (λ (outcome : Result ℕ Failure). IsTold (Ok all.0) outcome answer) (sym all.3)
            (subst (λ (text : List ℕ). ClosesWith 0 text answer) all.4 closes));
      }

  -- or a failure was
  pub failure_done : {failure : Failure} {answer : Answer} → HasTold work named timestamp (Err failure) → IsToldFailure failure answer → IsAssembleDone work named timestamp answer
  failure_done {failure = failure} {answer = answer} is told = record {
    outcome = is.outcome;
    has = is.has;
    ends = subst (λ (outcome : Result ℕ Failure). IsTold (group_of is.has.taken.newest named) outcome answer) (sym is.failed)
        (told_failure (group_of is.has.taken.newest named) failure answer told);
  }

-- The text of a group that was read, and recovered.
pub told_changed : {D : Type 0} (tells : Type 0) (old middle new : BayState D) (reads : ReadsOnly old middle)
    (reads_rise : (slot : ℕ) → old.failed_reads slot ≤ middle.failed_reads slot) (writes_rise : (slot : ℕ) → old.failed_writes slot ≤ middle.failed_writes slot)
    (named : Option (List ℕ)) (timestamp : ℕ) (group : GroupValue) (outcome : Result ℕ Failure) (sequence : ℕ) (text : String Global)
    → IsGroupRead (work_of tells old middle) named (Ok group) → HasWritten tells middle new group [] timestamp outcome → outcome ≡ Ok sequence → string_bytes text ≡ told_group group
    → HasTold (work_of tells old new) named timestamp (Ok text)
told_changed tells old middle new reads reads_rise writes_rise named timestamp group outcome sequence text read written is same =
    told_text is (has_changed tells old middle new reads reads_rise writes_rise named timestamp no_change group [] outcome read refl written)
    (changed_group tells old middle new reads reads_rise writes_rise named timestamp no_change group [] outcome read refl written) same
