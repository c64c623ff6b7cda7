-- How `label` ends.
use Rattle.std.proofs.Common.{◌≡◌, ℕ, Bool, List, Result, Ok, Err, refl}
use Rattle.std.specs.Prelude.{IsTrue}
use Rattle.ddf_bytes.specs.declared.stamp.Stamp.{Stamp}
use Rattle.ddf_bytes.specs.Streams.{SinkRose}
use Rattle.ddf_bay.specs.Moments.{GoesOn}
use Rattle.ddf_bay.specs.ReadsOnly.{ReadsOnly}
use Rattle.ddf_header.specs.declared.kind.Revision.{Revision}
use Rattle.ddf_words.specs.Traits.{traits_of}
use Rattle.ddf_words.specs.declared.command.Command.TheVariants as commands
use Rattle.ddf_words.specs.declared.command.DiskStyle.{DiskStyle}
use Rattle.ddf_answer.specs.Call.{Answer, Work}
use Rattle.ddf_answer.specs.Ends.{Ends, HasCause, is_unwritten}
use Rattle.ddf_answer.specs.declared.failure.Failure.{Failure}
use Rattle.ddf_answer.specs.declared.failure.Failure.TheVariants.{Conflict, Disk, Memory, Refused, Split}
use Rattle.ddf_answer.proofs.Causes.{closes_wrote, done_told, fault_told, memory_cause, refused_told}
use Rattle.ddf_disk_commands.specs.Label.{IsLabelled, IsToldLabel, IsTried}

module _ {D : Type 0} (work : Work D) (style : DiskStyle) (large : Bool) (revision : Revision) (stamp : Stamp) (named : List ℕ) (answer : Answer) where
  cause_of : (answer.status ≡ 6 → SinkRose answer.old answer.new) → (outcome : Result (Unit {0}) Failure) → IsTried work large revision stamp named outcome → IsToldLabel outcome answer
      → HasCause (traits_of (commands.Label style large named)) work answer (SinkRose answer.old answer.new)
  cause_of stream (Ok done) tried told = done_told (traits_of (commands.Label style large named)) work answer stream told
  cause_of stream (Err (Refused refusal)) tried told = refused_told (traits_of (commands.Label style large named)) work answer stream refl told
  cause_of stream (Err (Disk slot)) tried told = fault_told (traits_of (commands.Label style large named)) work answer stream (record { slot = slot; there = tried.0; rose = tried.1 }) told
  cause_of stream (Err (Conflict i j sequence differ)) tried told = absurd tried
  cause_of stream (Err (Split i j)) tried told = absurd tried
  cause_of stream (Err Memory) tried told = memory_cause (traits_of (commands.Label style large named)) work answer stream told.0

  unwritten_of : (outcome : Result (Unit {0}) Failure) → IsTried work large revision stamp named outcome → IsToldLabel outcome answer → IsTrue (is_unwritten answer.status) → ReadsOnly work.old work.new
  unwritten_of (Ok done) tried told is = absurd (closes_wrote refl told is)
  unwritten_of (Err (Refused refusal)) tried told is = tried.1
  unwritten_of (Err (Disk slot)) tried told is = absurd (closes_wrote refl told is)
  unwritten_of (Err (Conflict i j sequence differ)) tried told is = absurd tried
  unwritten_of (Err (Split i j)) tried told is = absurd tried
  unwritten_of (Err Memory) tried told is = tried

  pub label_ends : IsLabelled work large revision stamp named answer → (answer.status ≡ 6 → SinkRose answer.old answer.new) → GoesOn work.old work.new → work.new.sizes ≡ work.old.sizes
      → Ends (traits_of (commands.Label style large named)) work answer
  label_ends labelled stream goes_on same_sizes = record {
    cause = cause_of stream labelled.outcome labelled.tried labelled.ends;
    unwritten = unwritten_of labelled.outcome labelled.tried labelled.ends;
    stays = λ none. absurd cc;
    goes_on = goes_on;
    same_sizes = same_sizes;
  }
