-- What a write of blocks came to, by what it took from its input.
use Rattle.std.proofs.Common.{◌≡◌, ◌⊎◌, ℕ, ◌+◌, ◌≤◌, Bool, true, false, List, ◌++◌, length, ◌==◌, Option, Result, Ok, Err, refl, ap, sym, subst, inr, ⊎_elim}
use Rattle.std.specs.Prelude.{IsTrue}
use Rattle.ddf_bay.specs.Moments.{GoesOn}
use Rattle.ddf_bay.specs.ReadsOnly.{ReadsOnly}
use Rattle.ddf_bytes.specs.Streams.{SinkRose}
use Rattle.ddf_config.specs.declared.refusal.Refusal.TheVariants.{ShortPayload}
use Rattle.ddf_group.specs.declared.answer.Assembly.{Assembly}
use Rattle.ddf_seats.specs.Group.{GroupValue}
use Rattle.ddf_assembly.specs.Group.{group_of}
use Rattle.ddf_answer.specs.declared.failure.Failure.{Failure}
use Rattle.ddf_answer.specs.declared.failure.Failure.TheVariants.{Memory, Refused}
use Rattle.ddf_answer.specs.Answers.{IsToldFailure}
use Rattle.ddf_answer.specs.Call.{Answer, Input, Work}
use Rattle.ddf_answer.specs.Ends.{EndsBy, HasCause, is_unwritten}
use Rattle.ddf_answer.proofs.Causes.{closes_wrote, done_told, refused_told, stream_cause, wrote}
use Rattle.ddf_answer.proofs.Costs.{none_written}
use Rattle.ddf_words.specs.declared.command.Command.TheVariants.{Write}
use Rattle.ddf_words.specs.declared.traits.Traits.{Traits}
use Rattle.ddf_words.specs.Traits.{traits_of}
use Rattle.ddf_group_commands.specs.Change.{Request}
use Rattle.ddf_read_commands.specs.Read.{most_looks}
use Rattle.ddf_write_commands.specs.declared.payload.PayloadFault.{PayloadFault}
use Rattle.ddf_write_commands.specs.declared.payload.PayloadFault.TheVariants as payloads
use Rattle.ddf_write_commands.specs.declared.writing.Done.{Done}
use Rattle.ddf_write_commands.specs.declared.writing.WriteFault.{WriteFault}
use Rattle.ddf_write_commands.specs.declared.writing.WriteFault.TheVariants as faults
use Rattle.ddf_write_commands.specs.Payload.{ArePiecesOf, InputRose, IsNoPayload, IsShort, IsUntaken, Pieces}
use Rattle.ddf_write_commands.specs.Planned.{IsPlanned}
use Rattle.ddf_write_commands.specs.Worked.{IsWorkedIn}
use Rattle.ddf_write_commands.specs.Write.{CallsOfPlan, CallsOfWriting, HasWrittenArray, IsAccepted, IsDoneTold, IsSequenceTold, IsWriteTold, IsWriteIn, IsWrittenAs, Outcome, answered, fault_of_payload, looking, write_request, writing}
use Rattle.ddf_write_commands.specs.Write.Outcome.{Broken, NotRead, Short, Taken, Unfit}
use Rattle.ddf_write_commands.proofs.Ended.{failure_cause, failure_unwritten}
use Rattle.ddf_write_commands.proofs.Since.{HasComeTo, HaveSince}
use Rattle.ddf_write_commands.proofs.WriteCalls.{few_in}
use Rattle.ddf_write_commands.proofs.WriteWorks.{look_steady, write_steady}

module _ {D : Type 0} (work : Work D) (input : Input) (named : Option (List ℕ)) (timestamp : ℕ) (word : List ℕ) (start count : ℕ) where
  abbrev request : Request
  request = write_request word start count

  unfit_memory : (failure : Failure) → ◌≡◌ {A = Result ℕ Failure} (Err failure) (Err Memory) → Unfit failure ≡ Unfit Memory
  unfit_memory failure spent = let same : failure ≡ Memory = cc in ap Unfit same

  -- of a write that takes nothing it isn't said how it goes in pieces
  abbrev none_taken : Pieces
  none_taken = record { each = 1; ahead = 0 }

  -- nothing was taken from the input
  pub unfit_looked : IsUntaken input → ReadsOnly work.old work.new → (failure : Failure) → (come : HasComeTo (looking start count) work named timestamp word request (Err failure))
      → CallsOfWriting work timestamp word start count (group_of come.taken.newest named) → HasWrittenArray work input named timestamp word start count (Unfit failure)
  unfit_looked untaken reads failure come calls = record {
    taken = come.taken;
    gone = λ given. come.gone (λ spent. given (unfit_memory failure spent));
    pieces = none_taken;
    gives = (untaken, reads, come.gives);
    leaves = λ told. tt;
    along = λ told. tt;
    costs = none_written work reads;
    calls = calls;
  }

  -- nor was anything looked at but the group
  pub unfit_came : IsUntaken input → ReadsOnly work.old work.new → (failure : Failure) → HasComeTo (looking start count) work named timestamp word request (Err failure)
      → work.new.calls ≤ work.old.calls + most_looks (length work.old.sizes) → HasWrittenArray work input named timestamp word start count (Unfit failure)
  unfit_came untaken reads failure come few = unfit_looked untaken reads failure come (few_in work timestamp word start count (group_of come.taken.newest named) few)

  -- ---- what lies beside the blocks was looked at

  module _ (group : GroupValue) (plan : IsPlanned group timestamp word request) (pieces : Pieces) (are_pieces : ArePiecesOf plan.volume start count pieces)
      (since : HaveSince (looking start count) work named timestamp word request group false) (reads : ReadsOnly work.old work.new) (calls : CallsOfPlan work group timestamp word start count) where
    are_calls : CallsOfWriting work timestamp word start count (group_of since.taken.newest named)
    are_calls = subst (λ (one : Result GroupValue Assembly). CallsOfWriting work timestamp word start count one) (sym since.is_group) (inr calls)

    is_accepted : IsAccepted timestamp word start count pieces (group_of since.taken.newest named)
    is_accepted = record { found = group; is_found = since.is_group; steps = plan.first ++ plan.last; are_asked = plan.are_asked; plan = plan; are_pieces = are_pieces }

    -- the input ended before
    short_came : (found : ℕ) → IsShort input pieces count found → HasWrittenArray work input named timestamp word start count (Short found)
    short_came found short = record {
      taken = since.taken;
      gone = λ given. since.gone;
      pieces = pieces;
      gives = (short, is_accepted, reads);
      leaves = λ told. tt;
      along = λ told. tt;
      costs = none_written work reads;
      calls = are_calls;
    }

    -- it failed
    not_read_came : InputRose input → HasWrittenArray work input named timestamp word start count NotRead
    not_read_came rose = record {
      taken = since.taken;
      gone = λ given. since.gone;
      pieces = pieces;
      gives = (rose, is_accepted, reads);
      leaves = λ told. tt;
      along = λ told. tt;
      costs = none_written work reads;
      calls = are_calls;
    }

    -- there was no memory
    no_room : HasComeTo (looking start count) work named timestamp word request (Err Memory)
    no_room = record {
      taken = since.taken;
      gone = λ given. since.gone;
      gives = subst (λ (one : Result GroupValue Assembly). IsWorkedIn (looking start count) work timestamp word request one (Err Memory)) (sym since.is_group) reads;
      leaves = since.leaves;
      along = since.along;
      costs = since.costs;
    }

    -- why there was nothing to write
    pub payload_came : (fault : PayloadFault) → IsNoPayload input pieces count fault → IsWrittenAs work input named timestamp word start count (Err (fault_of_payload fault))
    unfolding no_room
    payload_came (payloads.Short found) is = record { outcome = Short found; is_answered = refl; has = short_came found is }
    payload_came payloads.Failed is = record { outcome = NotRead; is_answered = refl; has = not_read_came is }
    payload_came payloads.Memory is = record { outcome = Unfit Memory; is_answered = refl; has = unfit_looked is reads Memory no_room are_calls }

  pub unfit_as : (failure : Failure) → HasWrittenArray work input named timestamp word start count (Unfit failure) → IsWrittenAs work input named timestamp word start count (Err (faults.Failure failure))
  unfit_as failure has = record { outcome = Unfit failure; is_answered = refl; has = has }

-- ---- what is told of it

module _ (count : ℕ) (answer : Answer) where
  pub told_done : (outcome : Outcome) (done : Done) → Ok done ≡ answered outcome → IsDoneTold count done answer → IsWriteTold count outcome answer
  told_done (Taken sectors (Ok one)) done is told =
      let same : done ≡ record { blocks = length sectors; sequence = one } = cc in subst (λ (those : Done). IsDoneTold count those answer) same told
  told_done (Taken sectors (Err failure)) done is told = absurd cc
  told_done (Broken sectors) done is told = absurd cc
  told_done (Short found) done is told = absurd cc
  told_done NotRead done is told = absurd cc
  told_done (Unfit failure) done is told = absurd cc

  pub told_failed : (outcome : Outcome) (failure : Failure) → ◌≡◌ {A = Result Done WriteFault} (Err (faults.Failure failure)) (answered outcome) → IsToldFailure failure answer → IsWriteTold count outcome answer
  told_failed (Taken sectors (Ok one)) failure is told = absurd cc
  told_failed (Taken sectors (Err other)) failure is told = let same : failure ≡ other = cc in subst (λ (one : Failure). IsToldFailure one answer) same told
  told_failed (Broken sectors) failure is told = absurd cc
  told_failed (Short found) failure is told = let same : failure ≡ Refused (ShortPayload found) = cc in subst (λ (one : Failure). IsToldFailure one answer) same told
  told_failed NotRead failure is told = absurd cc
  told_failed (Unfit other) failure is told = let same : failure ≡ other = cc in subst (λ (one : Failure). IsToldFailure one answer) same told

  pub told_input : (outcome : Outcome) → ◌≡◌ {A = Result Done WriteFault} (Err faults.Input) (answered outcome) → (answer.status ≡ 6) × (answer.tells → answer.new.taken ≡ answer.old.taken)
      → IsWriteTold count outcome answer
  told_input (Taken sectors (Ok one)) is told = absurd cc
  told_input (Taken sectors (Err failure)) is told = absurd cc
  told_input (Broken sectors) is told = told
  told_input (Short found) is told = absurd cc
  told_input NotRead is told = told
  told_input (Unfit failure) is told = absurd cc

-- ---- how it ends

module _ {D : Type 0} (work : Work D) (input : Input) (answer : Answer) (timestamp : ℕ) (word : List ℕ) (start count : ℕ) (pieces : Pieces) (stream : answer.status ≡ 6 → SinkRose answer.old answer.new ⊎ InputRose input)
    (goes_on : GoesOn work.old work.new) (same_sizes : work.new.sizes ≡ work.old.sizes) where
  abbrev Rises : Type 0
  Rises = SinkRose answer.old answer.new ⊎ InputRose input

  abbrev traits : Traits
  traits = traits_of (Write word start count)

  sequence_cause : (all : Bool) (blocks sequence : ℕ) → IsSequenceTold all blocks sequence answer → HasCause traits work answer Rises
  sequence_cause true blocks sequence told = done_told traits work answer stream told
  sequence_cause false blocks sequence told = ⊎_elim (λ seven. inr (inr (inr (inr (inr (inr (seven, refl))))))) (stream_cause traits work answer stream) told.ends

  sequence_wrote : (all : Bool) (blocks sequence : ℕ) → IsSequenceTold all blocks sequence answer → IsTrue (is_unwritten answer.status) → ⊥
  sequence_wrote true blocks sequence told un = closes_wrote refl told un
  sequence_wrote false blocks sequence told un = ⊎_elim (λ seven. wrote answer.status 7 refl seven un) (λ last. wrote answer.status 6 refl last un) told.ends

  cause_by : (outcome : Outcome) (meaning : Result GroupValue Assembly) → IsWriteIn work input timestamp word start count pieces meaning outcome → IsWriteTold count outcome answer → HasCause traits work answer Rises
  cause_by (Taken sectors (Ok sequence)) meaning is told = sequence_cause (length sectors == count) (length sectors) sequence told
  cause_by (Taken sectors (Err failure)) meaning is told =
      failure_cause traits refl refl refl (writing start sectors) (write_steady start sectors) work answer Rises stream timestamp word (write_request word start count) failure meaning is.2 told
  cause_by (Broken sectors) meaning is told = stream_cause traits work answer stream told.0
  cause_by (Short found) meaning is told = refused_told traits work answer stream refl told
  cause_by NotRead meaning is told = stream_cause traits work answer stream told.0
  cause_by (Unfit failure) meaning is told =
      failure_cause traits refl refl refl (looking start count) (look_steady start count) work answer Rises stream timestamp word (write_request word start count) failure meaning is.2 told

  unwritten_by : (outcome : Outcome) (meaning : Result GroupValue Assembly) → IsWriteIn work input timestamp word start count pieces meaning outcome → IsWriteTold count outcome answer
      → IsTrue (is_unwritten answer.status) → ReadsOnly work.old work.new
  unwritten_by (Taken sectors (Ok sequence)) meaning is told un = absurd (sequence_wrote (length sectors == count) (length sectors) sequence told un)
  unwritten_by (Taken sectors (Err failure)) meaning is told un =
      failure_unwritten traits refl refl refl (writing start sectors) (write_steady start sectors) work answer Rises stream timestamp word (write_request word start count) failure meaning is.2 told un
  unwritten_by (Broken sectors) meaning is told un = absurd (wrote answer.status 6 refl told.0 un)
  unwritten_by (Short found) meaning is told un = is.2
  unwritten_by NotRead meaning is told un = is.2
  unwritten_by (Unfit failure) meaning is told un = is.1

  pub write_ends : (outcome : Outcome) (meaning : Result GroupValue Assembly) → IsWriteIn work input timestamp word start count pieces meaning outcome → IsWriteTold count outcome answer → EndsBy traits work answer Rises
  write_ends outcome meaning is told =
      record { cause = cause_by outcome meaning is told; unwritten = unwritten_by outcome meaning is told; stays = λ none. absurd cc; goes_on = goes_on; same_sizes = same_sizes }
