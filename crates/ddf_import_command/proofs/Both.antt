-- What an import comes to, by two looks at the disks and what was written then.
use Rattle.std.proofs.Common.{◌≡◌, ◌⊎◌, ℕ, ◌≤◌, Bool, List, Option, Some, Result, Ok, Err, inl, inr, ⊎_elim, refl, ap, sym, subst, ◌∙◌, arith, ◌+◌, ◌*◌, ◌<◌, length}
use Rattle.std.specs.Prelude.{OnOk}
use Rattle.ddf_bay.specs.Moments.{StopsLeave}
use Rattle.ddf_bay.specs.ReadsOnly.{LookFailed, ReadsOnly}
use Rattle.ddf_bay.specs.State.{BayState}
use Rattle.ddf_bay.proofs.Looks.{reads_then}
use Rattle.ddf_bay.proofs.Steps.{rose_since}
use Rattle.ddf_group.specs.declared.answer.Assembly.{Assembly}
use Rattle.ddf_seats.specs.Group.{GroupValue}
use Rattle.ddf_assembly.specs.Group.{group_of}
use Rattle.ddf_joining.specs.Joining.{Joining}
use Rattle.ddf_answer.specs.Answers.{failure_of}
use Rattle.ddf_answer.specs.Call.{work_of}
use Rattle.ddf_answer.specs.declared.failure.Failure.{Failure}
use Rattle.ddf_answer.specs.declared.failure.Failure.TheVariants.{Conflict, Disk, Memory, Refused, Split}
use Rattle.ddf_answer.proofs.Rises.{look_still}
use Rattle.ddf_group_commands.specs.Change.{is_done}
use Rattle.ddf_group_commands.specs.GroupRead.{IsFoundBy, IsGroupRead, group_or}
use Rattle.ddf_group_commands.specs.Writing.{IsLeftWriting}
use Rattle.ddf_group_commands.proofs.LeftWriting.{leaves_since, reads_leave}
use Rattle.ddf_group_commands.proofs.Outcomes.{found_same, group_read, newest_still, where_done}
use Rattle.ddf_import_command.specs.Import.{HasImported, IsImported, IsImportedIn, IsLook, IsNone, KeepsJoins, import_asked, import_steps}
use Rattle.ddf_import_command.proofs.Keeping.{join_since, reads_join}

-- a look failed, also where the disks were only read before
look_later : {D : Type 0} (old middle new : BayState D) (slot : ℕ) → middle.sizes ≡ old.sizes → old.failed_reads slot ≤ middle.failed_reads slot → old.failed_writes slot ≤ middle.failed_writes slot
    → LookFailed middle new slot → LookFailed old new slot
look_later old middle new slot same reads writes failed = ⊎_elim
    (λ read. inl (rose_since (old.failed_reads slot) (middle.failed_reads slot) (new.failed_reads slot) reads read))
    (λ synced. inr (rw same at synced.0, rose_since (old.failed_writes slot) (middle.failed_writes slot) (new.failed_writes slot) writes synced.1))
    failed

-- Counts of faults don't fall.
pub record Rises {D : Type 0} (old new : BayState D) : Type 0 where
  pub reads : (slot : ℕ) → old.failed_reads slot ≤ new.failed_reads slot
  pub writes : (slot : ℕ) → old.failed_writes slot ≤ new.failed_writes slot

module _ {D : Type 0} (tells : Type 0) where
  -- a look at the disks, and what followed
  pub first_look : (old middle new : BayState D) (named : Option (List ℕ)) (found : Result GroupValue Failure) → Rises old middle → Rises middle new
      → IsGroupRead (work_of tells old middle) named found → IsLook (work_of tells old new)
  first_look old middle new named found rise then read = record {
    left = read.left;
    every_slot = read.every_slot;
    failed = λ slot below out. look_still old middle new slot (rise.reads slot) (then.reads slot) (rise.writes slot) (then.writes slot) (read.failed slot below out);
    newest = read.newest;
    read = read.read;
  }

  -- another one behind it
  pub second_look : (old first middle new : BayState D) (named : Option (List ℕ)) (found : Result GroupValue Failure) → ReadsOnly old first → Rises old first → Rises old middle → Rises middle new
      → IsGroupRead (work_of tells first middle) named found → IsLook (work_of tells old new)
  second_look old first middle new named found reads before rise then read = record {
    left = read.left;
    every_slot = rw reads.same_sizes at read.every_slot;
    failed = λ slot below out.
        look_still old middle new slot (rise.reads slot) (then.reads slot) (rise.writes slot) (then.writes slot)
        (look_later old first middle slot reads.same_sizes (before.reads slot) (before.writes slot) (read.failed slot below out));
    newest = read.newest;
    read = λ told. read.read told ∙ newest_still old first reads.same_sizes reads.same_held 0 read.left;
  }

  module _ (old : BayState D) (named : Option (List ℕ)) (other : List ℕ) (timestamp : ℕ) where
    -- ---- there is no group

    memory_is : (failure : Failure) → ◌≡◌ {A = Result GroupValue Failure} (Err failure) (Err Memory) → failure ≡ Memory
    memory_is failure is = cc

    fault_is : (failure : Failure) (fault : Assembly) → ◌≡◌ {A = Result GroupValue Failure} (Err failure) (Err (failure_of fault)) → failure ≡ failure_of fault
    fault_is failure fault is = cc

    no_group : (new : BayState D) (failure : Failure) (fault : Assembly) → ReadsOnly old new
        → (◌≡◌ {A = Result GroupValue Failure} (Err failure) (group_or (Err fault))) ⊎ (◌≡◌ {A = Result GroupValue Failure} (Err failure) (Err Memory))
        → IsNone (work_of tells old new) fault (Err failure)
    no_group new failure fault reads answer = (
      ⊎_elim
          (λ none. inl (ap (λ (one : Failure). Err one) (fault_is failure fault none)))
          (λ memory. inr (ap (λ (one : Failure). Err one) (memory_is failure memory)))
          answer,
      reads,
    )

    -- Where memory ran out nothing was written, whichever groups there are.
    pub spent : (new : BayState D) (left also : List Bool) (native joined : Result GroupValue Assembly) → ReadsOnly old new
        → IsImportedIn (work_of tells old new) timestamp left also native joined (Err Memory)
    spent new left also (Ok native) (Ok joined) reads = reads
    spent new left also (Ok native) (Err fault) reads = (inr refl, reads)
    spent new left also (Err fault) joined reads = (inr refl, reads)

    none_at_first : (new : BayState D) (left also : List Bool) (failure : Failure) (native joined : Result GroupValue Assembly) → ReadsOnly old new
        → (◌≡◌ {A = Result GroupValue Failure} (Err failure) (group_or native)) ⊎ (◌≡◌ {A = Result GroupValue Failure} (Err failure) (Err Memory))
        → IsImportedIn (work_of tells old new) timestamp left also native joined (Err failure)
    none_at_first new left also failure (Err fault) joined reads answer = no_group new failure fault reads answer
    none_at_first new left also failure (Ok native) joined reads answer = ⊎_elim
        (λ none. absurd cc)
        (λ memory.
        subst (λ (one : Failure). IsImportedIn (work_of tells old new) timestamp left also (Ok native) joined (Err one)) (sym (memory_is failure memory))
        (spent new left also (Ok native) joined reads))
        answer

    none_behind : (new : BayState D) (left also : List Bool) (failure : Failure) (native : GroupValue) (joined : Result GroupValue Assembly) → ReadsOnly old new
        → (◌≡◌ {A = Result GroupValue Failure} (Err failure) (group_or joined)) ⊎ (◌≡◌ {A = Result GroupValue Failure} (Err failure) (Err Memory))
        → IsImportedIn (work_of tells old new) timestamp left also (Ok native) joined (Err failure)
    none_behind new left also failure native (Err fault) reads answer = no_group new failure fault reads answer
    none_behind new left also failure native (Ok joined) reads answer = ⊎_elim
        (λ none. absurd cc)
        (λ memory.
        subst (λ (one : Failure). IsImportedIn (work_of tells old new) timestamp left also (Ok native) (Ok joined) (Err one)) (sym (memory_is failure memory)) reads)
        answer

    -- The first look found none, or memory ran out.
    pub none_first : (new : BayState D) (failure : Failure) → Rises old new → ReadsOnly old new → IsGroupRead (work_of tells old new) named (Err failure)
        → HasImported (work_of tells old new) named other timestamp (Err failure)
    none_first new failure rise reads read = record {
      first = record { left = read.left; every_slot = read.every_slot; failed = read.failed; newest = read.newest; read = read.read };
      second = record { left = read.left; every_slot = read.every_slot; failed = read.failed; newest = read.newest; read = read.read };
      seen = λ slot below kept also_kept. (read.seen slot below kept).0;
      unfailed = λ done. absurd cc;
      gone = λ given. read.gone (λ spent. given (ap (λ (one : Failure). Err one) (memory_is failure spent)));
      calls = let most = read.calls in omega (arith, most);
      gives = none_at_first new read.left read.left failure (group_of read.newest named) (group_of read.newest (Some other)) reads read.answer;
      keeps = λ told native joined is is_joined made asked. reads_join old new read.left native joined timestamp made reads;
      leaves = λ told native joined is is_joined made asked. reads_leave old new (import_steps made) reads;
    }

    module _ (first : BayState D) (native : GroupValue) (rise : Rises old first) (reads : ReadsOnly old first) (read : IsGroupRead (work_of tells old first) named (Ok native)) where
      -- A slot of the first look is one of another behind it.
      below_too : (left : List Bool) → length left ≡ length first.sizes → (slot : ℕ) → slot < length read.left → slot < length left
      below_too left every slot below = let same = ap (λ (sizes : List ℕ). length sizes) reads.same_sizes in let own = read.every_slot in omega (arith, below, every, same, own)

      -- The second did.
      pub none_second : (new : BayState D) (failure : Failure) → Rises first new → Rises old new → ReadsOnly first new → IsGroupRead (work_of tells first new) (Some other) (Err failure)
          → HasImported (work_of tells old new) named other timestamp (Err failure)
      unfolding first_look second_look
      none_second new failure then whole more also =
          let all = reads_then reads more in
          record {
            first = first_look old first new named (Ok native) rise then read;
            second = second_look old first new new (Some other) (Err failure) reads rise whole (record { reads = λ slot. omega arith; writes = λ slot. omega arith }) also;
            seen = λ slot below kept also_kept. (also.seen slot (below_too also.left also.every_slot slot below) also_kept).0 ∙ (read.seen slot below kept).0;
            unfailed = λ done. absurd cc;
            gone = λ given. read.gone (λ spent. absurd cc);
            calls = let most = read.calls in let then = also.calls in let same = ap (λ (sizes : List ℕ). length sizes) reads.same_sizes in omega (arith, most, then, same);
            gives = subst (λ (one : Result GroupValue Assembly). IsImportedIn (work_of tells old new) timestamp read.left also.left one (group_of also.newest (Some other)) (Err failure))
                (sym (group_read (work_of tells old first) named native read)) (none_behind new read.left also.left failure native (group_of also.newest (Some other)) all also.answer);
            keeps = λ told one joined is is_joined made asked. reads_join old new read.left one joined timestamp made all;
            leaves = λ told one joined is is_joined made asked. reads_leave old new (import_steps made) all;
          }

      module _ (middle : BayState D) (joined : GroupValue) (then : Rises first middle) (more : ReadsOnly first middle) (whole : Rises old middle)
          (also : IsGroupRead (work_of tells first middle) (Some other) (Ok joined)) where
        abbrev all : ReadsOnly old middle
        all = reads_then reads more

        -- what came of groups that were read before
        imported_before : (new : BayState D) (out : List Bool) (asked : Result Joining Failure) (outcome : Result ℕ Failure) → IsImported (work_of tells middle new) out native joined asked outcome
            → IsImported (work_of tells old new) out native joined asked outcome
        imported_before new out asked (Ok sequence) done = record {
          made = done.made;
          are_asked = done.are_asked;
          is_last = done.is_last;
          are_written = λ told. rw (all.same_sizes, all.same_held) at (done.are_written told);
          are_settled = done.are_settled;
          joined_settled = done.joined_settled;
        }
        imported_before new out asked (Err (Refused refusal)) done = (done.0, reads_then all done.1)
        imported_before new out asked (Err (Disk slot)) (inl left) = inl (record { is_asked = left.is_asked; seen = left.seen; reads = reads_then all left.reads })
        imported_before new out asked (Err (Disk slot)) (inr fault) = inr (record {
          made = fault.made;
          are_asked = fault.are_asked;
          is_seat = fault.is_seat;
          there = rw all.same_sizes at fault.there;
          rose = rose_since (old.failed_writes slot) (middle.failed_writes slot) (new.failed_writes slot) (whole.writes slot) fault.rose;
        })
        imported_before new out asked (Err Memory) done = reads_then all done
        imported_before new out asked (Err (Conflict i j sequence differ)) done = absurd done
        imported_before new out asked (Err (Split i j)) done = absurd done

        both_found : (new : BayState D) (outcome : Result ℕ Failure) → Rises middle new → Rises first new → ((slot : ℕ) → new.failed_reads slot ≡ middle.failed_reads slot)
            → OnOk outcome (new.failed_writes ≡ middle.failed_writes) → new.calls ≤ middle.calls + 52 * length middle.sizes
            → IsImported (work_of tells middle new) also.left native joined (import_asked timestamp read.left native joined) outcome
            → (tells → (left also_left : List Bool) (called also_called : Option (List ℕ)) → IsFoundBy middle left called native → IsFoundBy middle also_left also_called joined
            → (made : Joining) → import_asked timestamp read.left native joined ≡ Ok made → KeepsJoins middle new left native joined timestamp made (is_done outcome))
            → (tells → (made : Joining) → import_asked timestamp read.left native joined ≡ Ok made → StopsLeave middle new (IsLeftWriting middle (import_steps made)))
            → HasImported (work_of tells old new) named other timestamp outcome
        unfolding first_look second_look
        both_found new outcome later since same_reads unfailed written imported keeps leaves = record {
          first = first_look old first new named (Ok native) rise since read;
          second = second_look old first middle new (Some other) (Ok joined) reads rise whole later also;
          seen = λ slot below kept also_kept. same_reads slot ∙ (also.seen slot (below_too also.left also.every_slot slot below) also_kept).0 ∙ (read.seen slot below kept).0;
          unfailed = λ done slot below kept. ap (λ (counts : ℕ → ℕ). counts slot) (where_done outcome unfailed done)
              ∙ ⊎_elim
              (λ seen. (also.seen slot (below_too also.left also.every_slot slot below) seen.1).1 ∙ (read.seen slot below seen.0).1)
              (λ some. also.unsynced slot (below_too also.left also.every_slot slot below) (rw reads.same_sizes some) ∙ read.unsynced slot below some)
              kept;
          gone = λ given. read.gone (λ spent. absurd cc);
          calls =
              let most = read.calls in let then = also.calls in let same = ap (λ (sizes : List ℕ). length sizes) reads.same_sizes in
              let same_too = ap (λ (sizes : List ℕ). length sizes) more.same_sizes in omega (arith, most, then, written, same, same_too);
          gives = subst (λ (one : Result GroupValue Assembly). IsImportedIn (work_of tells old new) timestamp read.left also.left one (group_of also.newest (Some other)) outcome)
              (sym (group_read (work_of tells old first) named native read))
              (subst (λ (one : Result GroupValue Assembly). IsImportedIn (work_of tells old new) timestamp read.left also.left (Ok native) one outcome)
              (sym (group_read (work_of tells first middle) (Some other) joined also))
              (imported_before new also.left (import_asked timestamp read.left native joined) outcome imported));
          keeps = λ told one two is is_too made asked.
              let same = found_same native one (sym (group_read (work_of tells old first) named native read) ∙ is) in
              let same_too = found_same joined two (sym (group_read (work_of tells first middle) (Some other) joined also) ∙ is_too) in
              subst (λ (group : GroupValue). import_asked timestamp read.left group two ≡ Ok made → KeepsJoins old new read.left group two timestamp made (is_done outcome)) same
              (subst (λ (group : GroupValue). import_asked timestamp read.left native group ≡ Ok made → KeepsJoins old new read.left native group timestamp made (is_done outcome)) same_too
              (λ now_asked.
              join_since old middle new read.left native joined timestamp made (is_done outcome) all
              (keeps told read.left also.left named (Some other)
              (record {
                every_slot = rw all.same_sizes read.every_slot;
                is_found = rw (newest_still old middle all.same_sizes all.same_held 0 read.left) (rw (read.read told) at (group_read (work_of tells old first) named native read));
              })
              (record {
                every_slot = rw more.same_sizes also.every_slot;
                is_found = rw (newest_still first middle more.same_sizes more.same_held 0 also.left) (rw (also.read told) at (group_read (work_of tells first middle) (Some other) joined also));
              })
              made now_asked)))
              asked;
          leaves = λ told one two is is_too made asked.
              let same = found_same native one (sym (group_read (work_of tells old first) named native read) ∙ is) in
              let same_too = found_same joined two (sym (group_read (work_of tells first middle) (Some other) joined also) ∙ is_too) in
              leaves_since old middle new (import_steps made) all
              (leaves told made
              (ap (λ (group : GroupValue). import_asked timestamp read.left group joined) same ∙ ap (λ (group : GroupValue). import_asked timestamp read.left one group) same_too ∙ asked));
        }

        -- Both found one.
        pub has_imported : (left out : List Bool) → left ≡ read.left → out ≡ also.left → (new : BayState D) (outcome : Result ℕ Failure) → Rises middle new → Rises first new
            → ((slot : ℕ) → new.failed_reads slot ≡ middle.failed_reads slot) → OnOk outcome (new.failed_writes ≡ middle.failed_writes) → new.calls ≤ middle.calls + 52 * length middle.sizes
            → IsImported (work_of tells middle new) out native joined (import_asked timestamp left native joined) outcome
            → (tells → (one two : List Bool) (called also_called : Option (List ℕ)) → IsFoundBy middle one called native → IsFoundBy middle two also_called joined
            → (made : Joining) → import_asked timestamp left native joined ≡ Ok made → KeepsJoins middle new one native joined timestamp made (is_done outcome))
            → (tells → (made : Joining) → import_asked timestamp left native joined ≡ Ok made → StopsLeave middle new (IsLeftWriting middle (import_steps made)))
            → HasImported (work_of tells old new) named other timestamp outcome
        has_imported left out is_left is_out new outcome later since same_reads unfailed written imported keeps leaves =
            both_found new outcome later since same_reads unfailed written (rw (is_left, is_out) at imported) (rw is_left at keeps) (rw is_left at leaves)
