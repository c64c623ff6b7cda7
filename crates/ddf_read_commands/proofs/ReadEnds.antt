-- How `read` ends.
use Rattle.std.proofs.Common.{◌≡◌, inl, ⊎_elim, ℕ, List, Option, Result, Ok, Err, refl}
use Rattle.ddf_bytes.specs.Streams.{SinkRose}
use Rattle.ddf_bay.specs.ReadsOnly.{ReadsOnly}
use Rattle.ddf_array.specs.Volume.{Volume}
use Rattle.ddf_group.specs.declared.answer.Assembly.{Assembly}
use Rattle.ddf_seats.specs.Group.{GroupValue}
use Rattle.ddf_assembly.specs.Group.{group_of}
use Rattle.ddf_words.specs.Traits.{traits_of}
use Rattle.ddf_words.specs.declared.command.Command.TheVariants as commands
use Rattle.ddf_answer.specs.declared.failure.Failure.TheVariants.{Conflict, Disk, Memory, Refused, Split}
use Rattle.ddf_answer.specs.Call.{Answer, Work}
use Rattle.ddf_answer.specs.Ends.{Ends, HasCause, SomeSlotRose}
use Rattle.ddf_answer.proofs.Causes.{contradicted_told, fault_cause, fault_told, memory_cause, no_disk, refused_told, stream_cause}
use Rattle.ddf_read_commands.specs.Read.{CutShort, IsReadDone, IsReadIn, IsReadTold, IsWithoutSource, NotRead, Outcome, Stopped, Whole}

module _ {D : Type 0} (work : Work D) (named : Option (List ℕ)) (word : List ℕ) (start count : ℕ) (answer : Answer) (stream : answer.status ≡ 6 → SinkRose answer.old answer.new) where
  -- a block without a source names a slot that failed
  rose_from : {v : Volume} {first most : ℕ} (slot : ℕ) → IsWithoutSource work v first most slot → SomeSlotRose work.old work.new
  rose_from slot is = record { slot = slot; there = is.there; rose = inl is.none_left.none_left.this_failed }

  rose_by : (slot : ℕ) (group : Result GroupValue Assembly) → IsReadIn work word start count group (NotRead (Disk slot)) → SomeSlotRose work.old work.new
  rose_by slot (Ok group) is = rose_from slot is.2
  rose_by slot (Err fault) is = absurd (⊎_elim (λ e. no_disk fault slot cc) (λ memory. cc) is)

  rose_behind : (front : List (List ℕ)) (slot : ℕ) (group : Result GroupValue Assembly) → IsReadIn work word start count group (Stopped front slot) → SomeSlotRose work.old work.new
  rose_behind front slot (Ok group) is = rose_from slot is.2.2
  rose_behind front slot (Err fault) is = absurd (⊎_elim (λ e. cc) (λ memory. cc) is)

  cause_by : (outcome : Outcome) (group : Result GroupValue Assembly) → IsReadIn work word start count group outcome → IsReadTold outcome answer
      → HasCause (traits_of (commands.Read word start count)) work answer (SinkRose answer.old answer.new)
  cause_by (Whole sectors) group is told = inl told.ends
  cause_by (NotRead (Refused refusal)) group is told = refused_told (traits_of (commands.Read word start count)) work answer stream refl told
  cause_by (NotRead (Disk slot)) group is told = fault_told (traits_of (commands.Read word start count)) work answer stream (rose_by slot group is) told
  cause_by (NotRead (Conflict i j sequence differ)) group is told = contradicted_told (traits_of (commands.Read word start count)) work answer stream refl told
  cause_by (NotRead (Split i j)) group is told = contradicted_told (traits_of (commands.Read word start count)) work answer stream refl told
  cause_by (NotRead Memory) group is told = memory_cause (traits_of (commands.Read word start count)) work answer stream told.0
  cause_by (Stopped front slot) group is told = fault_cause (traits_of (commands.Read word start count)) work answer stream (rose_behind front slot group is) told.ends
  cause_by (CutShort front) group is told = stream_cause (traits_of (commands.Read word start count)) work answer stream told.0

  pub read_ends : ReadsOnly work.old work.new → IsReadDone work named word start count answer → Ends (traits_of (commands.Read word start count)) work answer
  read_ends reads done = record {
    cause = cause_by done.outcome (group_of done.has.newest named) done.has.gives done.ends;
    unwritten = λ un. reads;
    stays = λ none. reads;
    goes_on = reads.goes_on;
    same_sizes = reads.same_sizes;
  }
