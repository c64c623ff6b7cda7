-- How a copyback ends.
use Rattle.std.proofs.Common.{◌≡◌, inl, inr, ⊎_elim, ℕ, Result, Ok, Err, List, refl}
use Rattle.std.specs.Prelude.{IsTrue}
use Rattle.ddf_bay.specs.Moments.{GoesOn}
use Rattle.ddf_bay.specs.ReadsOnly.{ReadsOnly}
use Rattle.ddf_group.specs.declared.answer.Assembly.{Assembly}
use Rattle.ddf_seats.specs.Group.{GroupValue}
use Rattle.ddf_answer.specs.declared.failure.Failure.{Failure}
use Rattle.ddf_answer.specs.declared.failure.Failure.TheVariants.{Conflict, Disk, Memory, Refused, Split}
use Rattle.ddf_answer.specs.Answers.{IsToldFailure}
use Rattle.ddf_answer.specs.Call.{Answer, Work}
use Rattle.ddf_answer.specs.Ends.{EndsBy, HasCause, SomeSlotRose, is_unwritten}
use Rattle.ddf_answer.proofs.Causes.{closes_wrote, contradicted_told, done_told, fault_told, memory_cause, no_disk, refused_told, wrote}
use Rattle.ddf_group_commands.specs.Change.{IsToldChange}
use Rattle.ddf_words.specs.declared.command.Command.TheVariants.{Copyback}
use Rattle.ddf_words.specs.declared.traits.Traits.{Traits}
use Rattle.ddf_words.specs.Traits.{traits_of}
use Rattle.ddf_rebuild_command.specs.CopiedBack.{IsBackIn, IsBackOf}

module _ {D : Type 0} (work : Work D) (answer : Answer) (rose : Type 0) (stream : answer.status ≡ 6 → rose) (timestamp : ℕ) (word : List ℕ) (slot : ℕ) where
  abbrev traits : Traits
  traits = traits_of (Copyback word slot)

  slot_rose : (found : GroupValue) (failed : ℕ) → IsBackOf work found timestamp word slot (Err (Disk failed)) → SomeSlotRose work.old work.new
  slot_rose found failed is = ⊎_elim
      (λ wrote. record { slot = failed; there = wrote.there; rose = inr wrote.rose })
      (λ stopped. record { slot = failed; there = stopped.there; rose = inl stopped.none_left.none_left.this_failed })
      is

  failure_cause : (failure : Failure) (found : Result GroupValue Assembly) → IsBackIn work timestamp word slot found (Err failure) → IsToldFailure failure answer → HasCause traits work answer rose
  failure_cause (Disk failed) (Ok group) is told = fault_told traits work answer stream (slot_rose group failed is) told
  failure_cause (Disk failed) (Err fault) is told = absurd (⊎_elim (λ e. no_disk fault failed cc) (λ memory. cc) is.0)
  failure_cause (Refused refusal) found is told = refused_told traits work answer stream refl told
  failure_cause Memory found is told = memory_cause traits work answer stream told.0
  failure_cause (Conflict i j sequence differ) found is told = contradicted_told traits work answer stream refl told
  failure_cause (Split i j) found is told = contradicted_told traits work answer stream refl told

  failure_unwritten : (failure : Failure) (found : Result GroupValue Assembly) → IsBackIn work timestamp word slot found (Err failure) → IsToldFailure failure answer
      → IsTrue (is_unwritten answer.status) → ReadsOnly work.old work.new
  failure_unwritten (Disk failed) found is told un = absurd (closes_wrote refl told un)
  failure_unwritten Memory (Ok group) is told un = is
  failure_unwritten (Refused refusal) (Ok group) is told un = is.1
  failure_unwritten (Conflict i j sequence differ) (Ok group) is told un = absurd is
  failure_unwritten (Split i j) (Ok group) is told un = absurd is
  failure_unwritten failure (Err fault) is told un = is.1

  cause_by : (outcome : Result ℕ Failure) (found : Result GroupValue Assembly) → IsBackIn work timestamp word slot found outcome → IsToldChange outcome answer → HasCause traits work answer rose
  cause_by (Ok sequence) found is told = done_told traits work answer stream told
  cause_by (Err failure) found is told = failure_cause failure found is told

  unwritten_by : (outcome : Result ℕ Failure) (found : Result GroupValue Assembly) → IsBackIn work timestamp word slot found outcome → IsToldChange outcome answer
      → IsTrue (is_unwritten answer.status) → ReadsOnly work.old work.new
  unwritten_by (Ok sequence) found is told un = absurd (⊎_elim (λ zero. wrote answer.status 0 refl zero un) (λ last. wrote answer.status 6 refl last un) told.ends)
  unwritten_by (Err failure) found is told un = failure_unwritten failure found is told un

  -- Each status has its cause.
  pub copyback_ends : GoesOn work.old work.new → work.new.sizes ≡ work.old.sizes → (outcome : Result ℕ Failure) (found : Result GroupValue Assembly) → IsBackIn work timestamp word slot found outcome
      → IsToldChange outcome answer → EndsBy traits work answer rose
  copyback_ends goes_on same_sizes outcome found is told = record {
    cause = cause_by outcome found is told;
    unwritten = unwritten_by outcome found is told;
    stays = λ none. absurd cc;
    goes_on = goes_on;
    same_sizes = same_sizes;
  }
