-- How a command that changes or recovers a group ends.
use Rattle.std.proofs.Common.{◌≡◌, ◌⊎◌, inl, inr, ⊎_elim, ℕ, true, Option, Result, Ok, Err, refl, List, arith}
use Rattle.std.specs.Prelude.{IsTrue}
use Rattle.ddf_bay.specs.State.{BayState}
use Rattle.ddf_bay.specs.ReadsOnly.{ReadsOnly}
use Rattle.ddf_bay.proofs.Looks.{reads_start}
use Rattle.ddf_bay.specs.Moments.{GoesOn}
use Rattle.ddf_bytes.specs.Streams.{SinkRose, SinkState}
use Rattle.ddf_words.specs.declared.traits.Traits.{Traits}
use Rattle.ddf_group.specs.declared.answer.Assembly.{Assembly}
use Rattle.ddf_seats.specs.Group.{GroupValue}
use Rattle.ddf_assembly.specs.Group.{group_of}
use Rattle.ddf_assembly.specs.Slots.{IsLooked, newest_from}
use Rattle.ddf_answer.specs.declared.failure.Failure.{Failure}
use Rattle.ddf_answer.specs.declared.failure.Failure.TheVariants.{Conflict, Disk, Memory, Refused, Split}
use Rattle.ddf_answer.specs.Answers.{IsToldFailure}
use Rattle.ddf_group_commands.specs.Assemble.{IsAssembleDone, IsTold, no_change}
use Rattle.ddf_answer.specs.Call.{Answer, Work, answer_of, work_of}
use Rattle.ddf_group_commands.specs.Change.{HasChanged, IsChangeDone, IsChangedIn, IsToldChange, Request}
use Rattle.ddf_group_commands.specs.Requests.{IsWished, linux_found}
use Rattle.ddf_answer.specs.Ends.{Ends, HasCause, is_unwritten}
use Rattle.ddf_steps.specs.Committed.{slots_of}
use Rattle.ddf_group_commands.proofs.Beside.{reads_beside}
use Rattle.ddf_group_commands.proofs.Costs.{none_cost}
use Rattle.ddf_group_commands.proofs.Keeping.{reads_keep}
use Rattle.ddf_group_commands.proofs.LeftWriting.{reads_leave}
use Rattle.ddf_answer.proofs.Causes.{closes_wrote, contradicted_told, fault_told, memory_cause, no_disk, refused_told, stream_cause, wrote}

-- ---- how it ends

-- What a command tells that is done, or why it isn't.
abbrev IsClosing : Result ℕ Failure → Answer → Type 0
IsClosing (Ok sequence) answer = (answer.status ≡ 0) ⊎ (answer.status ≡ 6)
IsClosing (Err failure) answer = IsToldFailure failure answer

change_closes : (outcome : Result ℕ Failure) (answer : Answer) → IsToldChange outcome answer → IsClosing outcome answer
change_closes (Ok sequence) answer told = told.ends
change_closes (Err failure) answer told = told

-- A failure is told as one whatever was found.
pub told_failure : (found : Result GroupValue Assembly) (failure : Failure) (answer : Answer) → IsToldFailure failure answer → IsTold found (Err failure) answer
told_failure (Ok group) failure answer told = told
told_failure (Err fault) failure answer told = told

assemble_closes : (found : Result GroupValue Assembly) (outcome : Result ℕ Failure) (answer : Answer) → IsTold found outcome answer → IsClosing outcome answer
assemble_closes (Ok group) (Ok sequence) answer told = told.ends
assemble_closes (Err fault) (Ok sequence) answer told = absurd told
assemble_closes (Ok group) (Err failure) answer told = told
assemble_closes (Err fault) (Err failure) answer told = told

-- of a command over a group that may write
module _ {D : Type 0} (traits : Traits) (may : traits.may_refuse ≡ true) (takes : traits.takes_group ≡ true) (writes : traits.may_write ≡ true) (work : Work D) (answer : Answer)
    (stream : answer.status ≡ 6 → SinkRose answer.old answer.new) (goes_on : GoesOn work.old work.new) (same_sizes : work.new.sizes ≡ work.old.sizes)
    (named : Option (List ℕ)) (timestamp : ℕ) where
  module _ (request : Request) where
    cause_by : (outcome : Result ℕ Failure) (found : Result GroupValue Assembly) → IsChangedIn work timestamp request found outcome → IsClosing outcome answer → HasCause traits work answer (SinkRose answer.old answer.new)
    cause_by (Ok sequence) found is told = ⊎_elim inl (stream_cause traits work answer stream) told
    cause_by (Err (Disk slot)) (Ok group) is told = fault_told traits work answer stream (record { slot = slot; there = is.there; rose = inr is.rose }) told
    cause_by (Err (Disk slot)) (Err fault) is told = absurd (⊎_elim (λ e. no_disk fault slot cc) (λ memory. cc) is.0)
    cause_by (Err (Refused refusal)) found is told = refused_told traits work answer stream may told
    cause_by (Err Memory) found is told = memory_cause traits work answer stream told.0
    cause_by (Err (Conflict i j sequence differ)) found is told = contradicted_told traits work answer stream takes told
    cause_by (Err (Split i j)) found is told = contradicted_told traits work answer stream takes told

    unwritten_by : (outcome : Result ℕ Failure) (found : Result GroupValue Assembly) → IsChangedIn work timestamp request found outcome → IsClosing outcome answer
        → IsTrue (is_unwritten answer.status) → ReadsOnly work.old work.new
    unwritten_by (Ok sequence) found is told un = absurd (⊎_elim (λ zero. wrote answer.status 0 refl zero un) (λ six. wrote answer.status 6 refl six un) told)
    unwritten_by (Err (Disk slot)) found is told un = absurd (closes_wrote refl told un)
    unwritten_by (Err Memory) (Ok group) is told un = is
    unwritten_by (Err (Refused refusal)) (Ok group) is told un = is.1
    unwritten_by (Err (Conflict i j sequence differ)) (Ok group) is told un = absurd is
    unwritten_by (Err (Split i j)) (Ok group) is told un = absurd is
    unwritten_by (Err failure) (Err fault) is told un = is.1

    ends_by : (outcome : Result ℕ Failure) (found : Result GroupValue Assembly) → IsChangedIn work timestamp request found outcome → IsClosing outcome answer → Ends traits work answer
    ends_by outcome found is told = record {
      cause = cause_by outcome found is told;
      unwritten = unwritten_by outcome found is told;
      stays = λ none. absurd cc;
      goes_on = goes_on;
      same_sizes = same_sizes;
    }

    -- A change ends so,
    pub change_ends : IsChangeDone work named timestamp request answer → Ends traits work answer
    change_ends done = ends_by done.outcome (group_of done.has.taken.newest named) done.has.gives (change_closes done.outcome answer done.ends)

  -- so one that was wished,
  pub wish_ends : (request : (linux : List ℕ) → Request) → IsWished work named timestamp request answer → Ends traits work answer
  wish_ends request done =
      change_ends (request done.wished.linux) (record { outcome = done.outcome; has = done.wished.has; ends = done.ends })

  -- and so does `assemble`.
  pub assemble_ends : IsAssembleDone work named timestamp answer → Ends traits work answer
  assemble_ends done = ends_by no_change done.outcome (group_of done.has.taken.newest named) done.has.gives (assemble_closes (group_of done.has.taken.newest named) done.outcome answer done.ends)

-- ---- before anything was done

nothing_in : {D : Type 0} (old : BayState D) (tells : Type 0) (timestamp : ℕ) (request : Request) (found : Result GroupValue Assembly)
    → IsChangedIn (work_of tells old old) timestamp request found (Err Memory)
nothing_in old tells timestamp request (Ok group) = reads_start old
nothing_in old tells timestamp request (Err fault) = (inr refl, reads_start old)

-- memory ran out
spent_first : {D : Type 0} (old : BayState D) (tells : Type 0) (named : Option (List ℕ)) (timestamp : ℕ) (request : Request) → IsLooked old old
    → HasChanged (work_of tells old old) named timestamp request (Err Memory)
spent_first old tells named timestamp request looked = record {
  taken = record {
    left = looked.left;
    every_slot = looked.every_slot;
    failed = looked.are_failed.rose;
    newest = newest_from old 0 looked.left;
    read = λ tells. refl;
    beside = λ told found is. reads_beside old old (slots_of found.seats) (reads_start old);
    keeps = λ told found is steps asked. reads_keep old old looked.left found steps (reads_start old);
    unfailed = λ done slot below kept. refl;
  };
  seen = λ slot below kept. refl;
  gone = λ given. absurd (given refl);
  calls = omega arith;
  costs = none_cost (work_of tells old old) timestamp request (group_of (newest_from old 0 looked.left) named) (reads_start old);
  gives = nothing_in old tells timestamp request (group_of (newest_from old 0 looked.left) named);
  leaves = λ told found is steps asked. reads_leave old old steps (reads_start old);
}

module _ {D : Type 0} (old : BayState D) (tells told : Type 0) (before : SinkState) (named : Option (List ℕ)) (timestamp : ℕ) (looked : IsLooked old old) where
  pub wished_nothing : (request : (linux : List ℕ) → Request) → IsWished (work_of tells old old) named timestamp request (answer_of told before before 5)
  unfolding spent_first
  wished_nothing request =
      let linux = linux_found (group_of (newest_from old 0 looked.left) named) in
      record {
        outcome = Err Memory;
        wished = record { linux = linux; has = spent_first old tells named timestamp (request linux) looked; are_its = refl };
        ends = (refl, λ told. refl);
      }

  pub assembled_nothing : IsAssembleDone (work_of tells old old) named timestamp (answer_of told before before 5)
  assembled_nothing =
      let has = spent_first old tells named timestamp no_change looked in
      record { outcome = Err Memory; has = has; ends = told_failure (group_of has.taken.newest named) Memory (answer_of told before before 5) (refl, λ told. refl) }
