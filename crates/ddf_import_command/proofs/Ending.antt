-- How an import ends.
use Rattle.std.proofs.Common.{◌≡◌, ℕ, zero, suc, ◌<◌, Bool, true, false, List, [], ◌∷◌, length, Option, Some, Result, Ok, Err, inl, inr, ⊎_elim, refl, arith}
use Rattle.std.specs.Prelude.{IsTrue, slice_index_or}
use Rattle.ddf_bay.specs.Moments.{GoesOn}
use Rattle.ddf_bay.specs.ReadsOnly.{ReadsOnly}
use Rattle.ddf_bay.specs.State.{BayState}
use Rattle.ddf_bay.proofs.Looks.{reads_start}
use Rattle.ddf_bytes.specs.Streams.{SinkRose, SinkState}
use Rattle.ddf_words.specs.declared.traits.Traits.{Traits}
use Rattle.ddf_group.specs.declared.answer.Assembly.{Assembly}
use Rattle.ddf_seats.specs.Group.{GroupValue}
use Rattle.ddf_assembly.specs.Group.{group_of}
use Rattle.ddf_assembly.specs.Slots.{IsLooked, newest_from}
use Rattle.ddf_answer.specs.declared.failure.Failure.{Failure}
use Rattle.ddf_answer.specs.declared.failure.Failure.TheVariants.{Conflict, Disk, Memory, Refused, Split}
use Rattle.ddf_answer.specs.Answers.{IsToldFailure}
use Rattle.ddf_answer.specs.Call.{Answer, Work, answer_of, work_of}
use Rattle.ddf_answer.specs.Ends.{Ends, HasCause, SomeSlotRose, is_unwritten}
use Rattle.ddf_answer.proofs.Causes.{closes_wrote, contradicted_told, fault_told, memory_cause, no_disk, refused_told}
use Rattle.ddf_group_commands.proofs.LeftWriting.{reads_leave}
use Rattle.ddf_import_command.specs.Import.{HasImported, IsImportDone, IsImportedIn, IsLook, IsNone, import_steps}
use Rattle.ddf_import_command.proofs.Asked.{first_left}
use Rattle.ddf_import_command.proofs.Both.{spent}
use Rattle.ddf_import_command.proofs.Keeping.{reads_join}

-- a slot of which this is told is one of them
out_there : (left : List Bool) (slot : ℕ) → slice_index_or left slot false ≡ true → slot < length left
out_there [] slot is = absurd cc
out_there (out ∷ left) zero is = omega arith
out_there (out ∷ left) (suc slot) is = let below = out_there left slot is in omega (arith, below)

-- of a command over two groups that may write
module _ {D : Type 0} (traits : Traits) (may : traits.may_refuse ≡ true) (takes : traits.takes_group ≡ true) (writes : traits.may_write ≡ true) (work : Work D) (answer : Answer)
    (stream : answer.status ≡ 6 → SinkRose answer.old answer.new) (goes_on : GoesOn work.old work.new) (same_sizes : work.new.sizes ≡ work.old.sizes) (timestamp : ℕ) where
  none_is : (fault : Assembly) (slot : ℕ) → IsNone work fault (Err (Disk slot)) → ⊥
  none_is fault slot is = ⊎_elim (λ e. no_disk fault slot cc) (λ memory. absurd cc) is.0

  -- a slot of a disk that joins, which the look left out
  left_out : (look : IsLook work) (slot : ℕ) → slice_index_or look.left slot false ≡ true → SomeSlotRose work.old work.new
  left_out look slot is =
      let below = out_there look.left slot is in
      let failed = look.failed slot below is in
      record { slot = slot; there = rw look.every_slot at below; rose = ⊎_elim (λ read. inl read) (λ synced. inr synced.1) failed }

  cause_by : (failure : Failure) (look : IsLook work) (also : List Bool) (native joined : Result GroupValue Assembly) → IsImportedIn work timestamp look.left also native joined (Err failure)
      → IsToldFailure failure answer → HasCause traits work answer (SinkRose answer.old answer.new)
  cause_by (Disk slot) look also (Ok native) (Ok joined) is told = fault_told traits work answer stream
      (⊎_elim (λ left. left_out look slot (first_left timestamp look.left native joined slot left.is_asked)) (λ fault. record { slot = slot; there = fault.there; rose = inr fault.rose }) is) told
  cause_by (Disk slot) look also (Ok native) (Err fault) is told = absurd (none_is fault slot is)
  cause_by (Disk slot) look also (Err fault) joined is told = absurd (none_is fault slot is)
  cause_by (Refused refusal) look also native joined is told = refused_told traits work answer stream may told
  cause_by Memory look also native joined is told = memory_cause traits work answer stream told.0
  cause_by (Conflict i j sequence differ) look also native joined is told = contradicted_told traits work answer stream takes told
  cause_by (Split i j) look also native joined is told = contradicted_told traits work answer stream takes told

  unwritten_by : (failure : Failure) (left also : List Bool) (native joined : Result GroupValue Assembly) → IsImportedIn work timestamp left also native joined (Err failure)
      → IsToldFailure failure answer → IsTrue (is_unwritten answer.status) → ReadsOnly work.old work.new
  unwritten_by (Disk slot) left also native joined is told un = absurd (closes_wrote refl told un)
  unwritten_by (Refused refusal) left also (Ok native) (Ok joined) is told un = is.1
  unwritten_by Memory left also (Ok native) (Ok joined) is told un = is
  unwritten_by (Conflict i j sequence differ) left also (Ok native) (Ok joined) is told un = absurd is
  unwritten_by (Split i j) left also (Ok native) (Ok joined) is told un = absurd is
  unwritten_by failure left also (Ok native) (Err fault) is told un = is.1
  unwritten_by failure left also (Err fault) joined is told un = is.1

  -- Where it failed it ends so.
  pub failed_ends : (named : Option (List ℕ)) (other : List ℕ) (failure : Failure) → HasImported work named other timestamp (Err failure) → IsToldFailure failure answer → Ends traits work answer
  failed_ends named other failure has told =
      let native = group_of has.first.newest named in
      let joined = group_of has.second.newest (Some other) in
      record {
        cause = cause_by failure has.first has.second.left native joined has.gives told;
        unwritten = unwritten_by failure has.first.left has.second.left native joined has.gives told;
        stays = λ none. absurd cc;
        goes_on = goes_on;
        same_sizes = same_sizes;
      }

-- ---- before anything was done

-- Memory ran out.
pub imported_nothing : {D : Type 0} (old : BayState D) (tells told : Type 0) (before : SinkState) (named : Option (List ℕ)) (other : List ℕ) (timestamp : ℕ) → IsLooked old old
    → IsImportDone (work_of tells old old) named other timestamp (answer_of told before before 5)
imported_nothing {D = D} old tells told before named other timestamp looked =
    let look : IsLook (work_of {D = D} tells old old) = record {
      left = looked.left;
      every_slot = looked.every_slot;
      failed = looked.are_failed.rose;
      newest = newest_from old 0 looked.left;
      read = λ tells. refl;
    } in
    record {
      outcome = Err Memory;
      has = record {
        first = look;
        second = look;
        seen = λ slot below kept also_kept. refl;
        unfailed = λ done slot below kept. refl;
        gone = λ given. absurd (given refl);
        calls = omega arith;
        gives = spent tells old named other timestamp old look.left look.left (group_of look.newest named) (group_of look.newest (Some other)) (reads_start old);
        keeps = λ told native joined is is_joined made asked. reads_join old old look.left native joined timestamp made (reads_start old);
        leaves = λ told native joined is is_joined made asked. reads_leave old old (import_steps made) (reads_start old);
      };
      ends = (refl, λ told. refl);
    }
