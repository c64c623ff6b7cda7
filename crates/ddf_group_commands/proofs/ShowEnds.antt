-- How `show` ends.
use Rattle.std.proofs.Common.{◌≡◌, inr, ⊎_elim, ℕ, List, Option, Result, Ok, Err, refl, arith}
use Rattle.ddf_bay.specs.ReadsOnly.{ReadsOnly}
use Rattle.ddf_bay.specs.State.{BayState}
use Rattle.ddf_bytes.specs.Streams.{SinkRose, SinkState}
use Rattle.ddf_words.specs.Traits.{traits_of}
use Rattle.ddf_words.specs.declared.command.Command.TheVariants.{Show}
use Rattle.ddf_group.specs.declared.answer.Assembly.{Assembly}
use Rattle.ddf_seats.specs.Group.{GroupValue}
use Rattle.ddf_assembly.specs.Group.{group_of}
use Rattle.ddf_assembly.specs.Slots.{IsLooked, newest_from}
use Rattle.ddf_answer.specs.declared.failure.Failure.{Failure}
use Rattle.ddf_answer.specs.declared.failure.Failure.TheVariants.{Conflict, Disk, Memory, Refused, Split}
use Rattle.ddf_answer.specs.Call.{Answer, Work, answer_of, work_of}
use Rattle.ddf_answer.specs.Ends.{Ends, HasCause}
use Rattle.ddf_answer.proofs.Causes.{contradicted_told, done_told, memory_cause, no_disk, refused_told}
use Rattle.ddf_group_commands.specs.GroupRead.{IsGroupRead, group_or}
use Rattle.ddf_group_commands.specs.Show.{IsShowTold, IsShown}

-- what was read is no slot that failed
no_slot : (found : Result GroupValue Assembly) (slot : ℕ) → ◌≡◌ {A = Result GroupValue Failure} (Err (Disk slot)) (group_or found) → ⊥
no_slot (Ok group) slot e = cc
no_slot (Err fault) slot e = no_disk fault slot cc

module _ {D : Type 0} (work : Work D) (named : Option (List ℕ)) (answer : Answer) (stream : answer.status ≡ 6 → SinkRose answer.old answer.new) where
  cause_by : (found : Result GroupValue Failure) → IsGroupRead work named found → IsShowTold found answer → HasCause (traits_of Show) work answer (SinkRose answer.old answer.new)
  cause_by (Ok group) read told = ⊎_elim (done_told (traits_of Show) work answer stream) (λ spent. memory_cause (traits_of Show) work answer stream spent.0) told
  cause_by (Err (Refused refusal)) read told = refused_told (traits_of Show) work answer stream refl told
  cause_by (Err (Disk slot)) read told = absurd (⊎_elim (no_slot (group_of read.newest named) slot) (λ memory. cc) read.answer)
  cause_by (Err (Conflict i j sequence differ)) read told = contradicted_told (traits_of Show) work answer stream refl told
  cause_by (Err (Split i j)) read told = contradicted_told (traits_of Show) work answer stream refl told
  cause_by (Err Memory) read told = memory_cause (traits_of Show) work answer stream told.0

  pub show_ends : ReadsOnly work.old work.new → IsShown work named answer → Ends (traits_of Show) work answer
  show_ends reads shown = record {
    cause = cause_by shown.found shown.read shown.ends;
    unwritten = λ un. reads;
    stays = λ none. reads;
    goes_on = reads.goes_on;
    same_sizes = reads.same_sizes;
  }

-- memory ran out before anything was done
pub shown_nothing : {D : Type 0} (old : BayState D) (tells told : Type 0) (before : SinkState) (named : Option (List ℕ)) → IsLooked old old
    → IsShown (work_of tells old old) named (answer_of told before before 5)
shown_nothing old tells told before named looked = record {
  found = Err Memory;
  read = record {
    left = looked.left;
    every_slot = looked.every_slot;
    failed = looked.are_failed.rose;
    seen = looked.are_failed.same;
    unsynced = looked.are_failed.unsynced;
    newest = newest_from old 0 looked.left;
    read = λ tells. refl;
    answer = inr refl;
    gone = λ given. absurd (given refl);
    calls = omega arith;
  };
  ends = (refl, λ told. refl);
}
