-- How a call of the program ends.
use Rattle.std.proofs.Common.{◌≡◌, ◌⊎◌, inl, inr, ⊎_elim, ℕ, ◌*◌, List, [], ◌++◌, length, replicate, false, Option, Result, Ok, Err, refl, sym, subst, arith}
use Rattle.std.specs.Prelude.{IsTrue}
use Rattle.std.proofs.lemmas.Bool.{cases_lt}
use Rattle.std.proofs.lemmas.List.{append-nil, length-replicate}
use Rattle.ddf_bytes.specs.declared.stamp.Stamp.{Stamp}
use Rattle.ddf_bytes.specs.Stamps.{timestamp_of}
use Rattle.ddf_bytes.specs.Streams.{SinkState, SourceState}
use Rattle.ddf_bay.specs.State.{BayState}
use Rattle.ddf_bay.proofs.Looks.{failed_padded, none_failed, reads_start}
use Rattle.ddf_bay.proofs.Steps.{stops_start}
use Rattle.ddf_update.specs.Group.{IsLeftFoundingAll}
use Rattle.ddf_group.specs.declared.answer.Assembly.{Assembly}
use Rattle.ddf_steps.specs.Committed.{slots_of}
use Rattle.ddf_seats.specs.Group.{GroupValue}
use Rattle.ddf_assembly.specs.Group.{group_of}
use Rattle.ddf_assembly.specs.Slots.{IsLooked, newest_from}
use Rattle.ddf_words.specs.declared.command.Asked.{Asked}
use Rattle.ddf_words.specs.declared.command.Command.{Command}
use Rattle.ddf_words.specs.declared.command.Command.TheVariants.{Assemble, Change, Copyback, Examine, Import, Label, Read, Rebuild, Resync, Scrub, Show, Write}
use Rattle.ddf_words.specs.declared.traits.Traits.{Traits}
use Rattle.ddf_words.specs.declared.words.WordFault.{WordFault}
use Rattle.ddf_words.specs.declared.words.WordFault.TheVariants as words
use Rattle.ddf_words.specs.Words.{Word, GoWrongAt}
use Rattle.ddf_answer.specs.Call.{Answer, Work, answer_of, input_of, work_of}
use Rattle.ddf_answer.specs.Ends.{EndsBy, HasCause, SomeSlotRose}
use Rattle.ddf_answer.specs.declared.failure.Failure.TheVariants.{Memory}
use Rattle.ddf_disk_commands.specs.Examine.{IsExamined}
use Rattle.ddf_answer.proofs.Causes.{IsFaultless, fault_by, slot_by, stream_by, words_by}
use Rattle.ddf_answer.proofs.Costs.{none_written, writes_most}
use Rattle.ddf_disk_commands.specs.Label.{label_copy, label_sectors, label_slots, revision_of}
use Rattle.ddf_disk_commands.specs.LabelRefusal.{label_layout}
use Rattle.ddf_group_commands.proofs.Beside.{reads_beside}
use Rattle.ddf_group_commands.proofs.ChangeEnds.{assembled_nothing, wished_nothing}
use Rattle.ddf_group_commands.proofs.Keeping.{reads_keep}
use Rattle.ddf_group_commands.proofs.ShowEnds.{shown_nothing}
use Rattle.ddf_group_commands.specs.Change.{Request, TakesGroup}
use Rattle.ddf_group_commands.specs.Costs.{steps_sectors}
use Rattle.ddf_group_commands.specs.Requests.{linux_found, request_for}
use Rattle.ddf_import_command.proofs.Ending.{imported_nothing}
use Rattle.ddf_read_commands.proofs.LeftOut.{has_no_place}
use Rattle.ddf_read_commands.proofs.ReadBlocks.{memory_in}
use Rattle.ddf_read_commands.proofs.Scrubbed.{scrubbed_nothing}
use Rattle.ddf_read_commands.specs.Read.{CallsOfReading, NotRead}
use Rattle.ddf_write_commands.specs.Doing.{Doing}
use Rattle.ddf_write_commands.specs.Resync.{IsResyncDone, resync_request, resyncing}
use Rattle.ddf_write_commands.specs.Worked.{IsWorkedIn}
use Rattle.ddf_write_commands.proofs.Costs.{unwritten_costs}
use Rattle.ddf_write_commands.proofs.Since.{none_along}
use Rattle.ddf_rebuild_command.specs.Asked.{rebuild_request}
use Rattle.ddf_rebuild_command.specs.CopiedBack.{IsBackIn, IsCopybackDone}
use Rattle.ddf_rebuild_command.specs.GoingBack.{copyback_request}
use Rattle.ddf_rebuild_command.specs.Rebuilt.{IsRebuildDone, IsRebuiltIn}
use Rattle.ddf_rebuild_command.proofs.Costs.{none_cost}
use Rattle.ddf_rebuild_command.proofs.BackCosts.{none_cost_back}
use Rattle.ddf_write_commands.specs.Write.{IsWriteDone, looking, write_request}
use Rattle.ddf_write_commands.specs.Write.Outcome.{Unfit}
use Rattle.ddf_write_commands.proofs.WriteCalls.{few_in}
use Rattle.ddf_command.specs.Run.{IsCommandDone, is_status}

-- ---- what the cause of a status tells

module _ {D : Type 0} (traits : Traits) (work : Work D) (answer : Answer) (rose : Type 0) where
  -- it is one of those that a call may end with
  status_by : HasCause traits work answer rose → IsTrue (is_status answer.status)
  status_by (inl zero) = subst (λ (n : ℕ). IsTrue (is_status n)) (sym zero) refl
  status_by (inr (inl five)) = subst (λ (n : ℕ). IsTrue (is_status n)) (sym five) refl
  status_by (inr (inr (inl one))) = subst (λ (n : ℕ). IsTrue (is_status n)) (sym one.0) refl
  status_by (inr (inr (inr (inl four)))) = subst (λ (n : ℕ). IsTrue (is_status n)) (sym four.0) refl
  status_by (inr (inr (inr (inr (inl three))))) = subst (λ (n : ℕ). IsTrue (is_status n)) (sym three.0) refl
  status_by (inr (inr (inr (inr (inr (inl six)))))) = subst (λ (n : ℕ). IsTrue (is_status n)) (sym six.0) refl
  status_by (inr (inr (inr (inr (inr (inr seven)))))) = subst (λ (n : ℕ). IsTrue (is_status n)) (sym seven.0) refl

module _ {D : Type 0} {traits : Traits} {work : Work D} {answer : Answer} {rose : Type 0} (ends : EndsBy traits work answer rose) where
  pub status_of : IsTrue (is_status answer.status)
  status_of = status_by traits work answer rose ends.cause

  pub good_words : answer.status ≡ 2 → ⊥
  good_words two = words_by traits work answer rose ends.cause two

  pub slot_rose : answer.status ≡ 3 → SomeSlotRose work.old work.new
  slot_rose three = slot_by traits work answer rose ends.cause three

  pub stream_rose : answer.status ≡ 6 → rose
  stream_rose six = stream_by traits work answer rose ends.cause six

  pub no_fault : (SomeSlotRose work.old work.new → ⊥) → (rose → ⊥) → IsFaultless traits answer
  no_fault none good = fault_by traits work answer rose ends.cause none good

-- ---- words

-- words go wrong at one place
pub one_place : (accepted : List Word → Type 0) (words : List Word) (p q : ℕ) → GoWrongAt accepted words p → GoWrongAt accepted words q → p ≡ q
one_place accepted words p q one other = ⊎_elim
    (λ under. absurd (one.no_longer q under other.within other.good))
    (λ from. ⊎_elim (λ over. absurd (other.no_longer p over one.within one.good)) (λ upto. omega (arith, from, upto)) (cases_lt q p))
    (cases_lt p q)

-- words ask for one thing
pub same_asked : (result : Result Asked WordFault) (one other : Asked) → result ≡ Ok one → (result ≡ Ok other) ⊎ (result ≡ Err words.Memory) → one ≡ other
same_asked result one other is (inl also) = cc
same_asked result one other is (inr memory) = cc

-- ---- before anything was done

-- no slot was looked at
none_looked : {D : Type 0} (old : BayState D) → IsLooked old old
none_looked old = record {
  left = replicate (length old.sizes) false;
  every_slot = length-replicate (length old.sizes) false;
  are_failed = failed_padded old old [] (length old.sizes) (none_failed old old) (λ s le. (refl, refl));
}

-- nothing was done before memory ran out
nothing_done : {D : Type 0} (old : BayState D) (tells told : Type 0) (before : SinkState) → IsExamined (work_of tells old old) (answer_of told before before 5)
nothing_done old tells told before = record {
  failed = replicate (length old.sizes) false;
  every_slot = length-replicate (length old.sizes) false;
  are_failed = failed_padded old old [] (length old.sizes) (none_failed old old) (λ s le. (refl, refl));
  ends = inr (inl refl);
  tells = λ disks output. record { whole = λ low. absurd (omega (arith, low)); front = record { count = 0; within = omega arith; front = sym (append-nil before.taken) } };
  calls = omega arith;
}

-- nothing of a group was changed
taken_nothing : {D : Type 0} (old : BayState D) (tells : Type 0) (named : Option (List ℕ)) (timestamp : ℕ) (request : Request) → TakesGroup (work_of tells old old) named timestamp request false
taken_nothing old tells named timestamp request = record {
  left = (none_looked old).left;
  every_slot = (none_looked old).every_slot;
  failed = (none_looked old).are_failed.rose;
  newest = newest_from old 0 (none_looked old).left;
  read = λ tells. refl;
  beside = λ told found is. reads_beside old old (slots_of found.seats) (reads_start old);
  keeps = λ told found is steps asked. reads_keep old old (none_looked old).left found steps (reads_start old);
  unfailed = λ done slot below kept. refl;
}

-- and no blocks were worked on
worked_nothing : {D : Type 0} (doing : Doing) (old : BayState D) (tells : Type 0) (timestamp : ℕ) (word : List ℕ) (request : Request) (meaning : Result GroupValue Assembly)
    → IsWorkedIn doing (work_of tells old old) timestamp word request meaning (Err Memory)
worked_nothing doing old tells timestamp word request (Ok found) = reads_start old
worked_nothing doing old tells timestamp word request (Err fault) = (inr refl, reads_start old)

-- and no position was filled
none_rebuilt : {D : Type 0} (old : BayState D) (tells : Type 0) (timestamp : ℕ) (word : List ℕ) (meaning : Result GroupValue Assembly)
    → IsRebuiltIn (work_of tells old old) timestamp word meaning (Err Memory)
none_rebuilt old tells timestamp word (Ok found) = reads_start old
none_rebuilt old tells timestamp word (Err fault) = (inr refl, reads_start old)

none_back : {D : Type 0} (old : BayState D) (tells : Type 0) (timestamp : ℕ) (word : List ℕ) (slot : ℕ) (meaning : Result GroupValue Assembly)
    → IsBackIn (work_of tells old old) timestamp word slot meaning (Err Memory)
none_back old tells timestamp word slot (Ok found) = reads_start old
none_back old tells timestamp word slot (Err fault) = (inr refl, reads_start old)

-- and nothing of an array was read
none_counted : {D : Type 0} (old : BayState D) (tells : Type 0) (word : List ℕ) (start count : ℕ) (meaning : Result GroupValue Assembly) → CallsOfReading (work_of tells old old) word start count meaning
none_counted old tells word start count (Ok found) = λ volume readable copied calm. record { pieces = 0; few = omega arith; grew = omega arith }
none_counted old tells word start count (Err fault) = tt

module _ {D : Type 0} (old : BayState D) (tells told : Type 0) (before : SinkState) (named : Option (List ℕ)) (timestamp : ℕ) (word : List ℕ) where
  resynced_nothing : IsResyncDone (work_of tells old old) named timestamp word (answer_of told before before 5)
  resynced_nothing =
      let taken = taken_nothing old tells named timestamp (resync_request word) in
      record {
        outcome = Err Memory;
        has = record {
          taken = taken;
          gone = λ given. absurd (given refl);
          gives = worked_nothing resyncing old tells timestamp word (resync_request word) (group_of taken.newest named);
          leaves = λ tells found is steps asked. stops_start old _;
          along = λ told. none_along resyncing (work_of tells old old) named timestamp word (resync_request word) (reads_start old) taken.left (group_of taken.newest named);
          costs = unwritten_costs resyncing (work_of tells old old) timestamp word (resync_request word) (reads_start old) (group_of taken.newest named);
          spares = λ told found is any_plan unmarked. inl (writes_most (steps_sectors (any_plan.first ++ any_plan.last)) (omega arith) (none_written (work_of tells old old) (reads_start old)));
        };
        ends = (refl, λ told. refl);
      }

  rebuilt_nothing : IsRebuildDone (work_of tells old old) named timestamp word (answer_of told before before 5)
  unfolding taken_nothing none_looked
  rebuilt_nothing =
      let linux = linux_found (group_of (newest_from old 0 (none_looked old).left) named) in
      let taken = taken_nothing old tells named timestamp (rebuild_request word linux) in
      record {
        outcome = Err Memory;
        has = record {
          linux = linux;
          taken = taken;
          are_its = refl;
          gone = λ given. absurd (given refl);
          gives = none_rebuilt old tells timestamp word (group_of taken.newest named);
          leaves = λ tells found is steps asked. stops_start old _;
          along = λ tells found is steps asked group same past kept admitted. inl (refl, reads_start old);
          costs = none_cost (work_of tells old old) timestamp word (reads_start old) (group_of taken.newest named);
        };
        ends = (refl, λ told. refl);
      }

  copied_nothing : (slot : ℕ) → IsCopybackDone (work_of tells old old) named timestamp word slot (answer_of told before before 5)
  unfolding taken_nothing none_looked
  copied_nothing slot =
      let linux = linux_found (group_of (newest_from old 0 (none_looked old).left) named) in
      let taken = taken_nothing old tells named timestamp (copyback_request (length old.sizes) word slot linux) in
      record {
        outcome = Err Memory;
        has = record {
          linux = linux;
          taken = taken;
          are_its = refl;
          gone = λ given. absurd (given refl);
          gives = none_back old tells timestamp word slot (group_of taken.newest named);
          leaves = λ tells found is steps asked. stops_start old _;
          along = λ tells found is steps asked group same past kept admitted. inl (refl, reads_start old);
          costs = none_cost_back (work_of tells old old) timestamp word slot (reads_start old) (group_of taken.newest named);
        };
        ends = (refl, λ told. refl);
      }

  wrote_nothing : (reads : Type 0) (input : SourceState) (start count : ℕ) → IsWriteDone (work_of tells old old) (input_of reads input input) named timestamp word start count (answer_of told before before 5)
  wrote_nothing reads input start count =
      let request = write_request word start count in
      let taken = taken_nothing old tells named timestamp request in
      record {
        outcome = Unfit Memory;
        has = record {
          taken = taken;
          gone = λ given. absurd (given refl);
          pieces = record { each = 1; ahead = 0 };
          gives = (refl, reads_start old, worked_nothing (looking start count) old tells timestamp word request (group_of taken.newest named));
          leaves = λ tells. tt;
          along = λ tells. tt;
          costs = none_written (work_of tells old old) (reads_start old);
          calls = few_in (work_of tells old old) timestamp word start count (group_of taken.newest named) (omega arith);
        };
        ends = (refl, λ told. refl);
      }

pub done_nothing : {D : Type 0} (old : BayState D) (tells told : Type 0) (before : SinkState) (reads : Type 0) (input : SourceState) (stamp : Stamp) (group : Option (List ℕ)) (command : Command)
    → IsCommandDone (work_of tells old old) (input_of reads input input) stamp group command (answer_of told before before 5)
done_nothing old tells told before reads input stamp group Examine = nothing_done old tells told before
done_nothing old tells told before reads input stamp group Assemble = assembled_nothing old tells told before group (timestamp_of stamp) (none_looked old)
done_nothing old tells told before reads input stamp group Show = shown_nothing old tells told before group (none_looked old)
done_nothing old tells told before reads input stamp group (Label style large slots) = record {
  outcome = Err Memory;
  tried = reads_start old;
  ends = (refl, λ told. refl);
  unfailed = tt;
  any_moment = λ tells. stops_start old (IsLeftFoundingAll old (label_slots old.sizes slots) (label_copy large (revision_of style) stamp old.sizes slots));
  costs = writes_most (label_sectors (label_layout large old.sizes slots) * length (label_slots old.sizes slots)) (omega arith) (none_written (work_of tells old old) (reads_start old));
  calls = omega arith;
  refused = λ tells refusal is. reads_start old;
}
done_nothing old tells told before reads input stamp group (Read name start count) = record {
  outcome = NotRead Memory;
  has = record {
    left = (none_looked old).left;
    every_slot = (none_looked old).every_slot;
    failed = (none_looked old).are_failed.rose;
    newest = newest_from old 0 (none_looked old).left;
    read = λ tells. refl;
    no_place = λ tells slot out. has_no_place old (none_looked old).left (newest_from old 0 (none_looked old).left) group slot refl out;
    gone = λ given. absurd (given refl);
    gives = memory_in (work_of tells old old) name start count (group_of (newest_from old 0 (none_looked old).left) group);
    looks = λ unread. omega arith;
    calls = none_counted old tells name start count (group_of (newest_from old 0 (none_looked old).left) group);
  };
  ends = (refl, λ told. refl);
}
done_nothing old tells told before reads input stamp group (Scrub name) = scrubbed_nothing old tells told before group name (none_looked old)
done_nothing old tells told before reads input stamp group (Resync name) = resynced_nothing old tells told before group (timestamp_of stamp) name
done_nothing old tells told before reads input stamp group (Rebuild name) = rebuilt_nothing old tells told before group (timestamp_of stamp) name
done_nothing old tells told before reads input stamp group (Copyback name slot) = copied_nothing old tells told before group (timestamp_of stamp) name slot
done_nothing old tells told before reads input stamp group (Write name start count) = wrote_nothing old tells told before group (timestamp_of stamp) name reads input start count
done_nothing old tells told before reads input stamp group (Import other) = imported_nothing old tells told before group other (timestamp_of stamp) (none_looked old)
done_nothing old tells told before reads input stamp group (Change wish) = wished_nothing old tells told before group (timestamp_of stamp) (none_looked old) (request_for (length old.sizes) stamp wish)
