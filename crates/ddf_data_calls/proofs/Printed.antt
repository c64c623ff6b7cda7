-- What a read prints over a history of data.
use Rattle.std.proofs.Common.{◌≡◌, ◌∙◌, ℕ, ◌+◌, ◌<◌, ◌^◌, Bool, List, [], length, Option, Some, None, Result, Ok, Err, refl, ap, sym, subst, ⊎_elim, arith}
use Rattle.std.proofs.lemmas.Option.{get_or_from_slice_get, slice_get_within}
use Rattle.std.specs.Prelude.{slice_index_or}
use Rattle.ddf_bay.specs.State.{BayState}
use Rattle.ddf_config.specs.declared.array.Array.{Array}
use Rattle.ddf_config.specs.declared.seat.Seat.{Seat}
use Rattle.ddf_config.specs.Configuration.{Configuration}
use Rattle.ddf_config.specs.Seats.{floor_of}
use Rattle.ddf_copy.specs.declared.newest_copy.Newest.{Newest}
use Rattle.ddf_array.specs.Losing.{AreFewer}
use Rattle.ddf_array.specs.Viewing.{view_of}
use Rattle.ddf_array.specs.Volume.{IsVolume, Volume}
use Rattle.ddf_view.proofs.Tests.{same_bytes}
use Rattle.ddf_data_array.specs.Allowed.{Allowed, May}
use Rattle.ddf_data_group.specs.Grouped.{Promises}
use Rattle.ddf_data_group.specs.Over.{AreCurrentSeats}
use Rattle.ddf_rewrite.proofs.Lists.{some_same}
use Rattle.ddf_history.specs.Groups.{groups}
use Rattle.ddf_history.specs.Issued.{Past}
use Rattle.ddf_seats.specs.Group.{GroupValue}
use Rattle.ddf_assembly.specs.Group.{group_of}
use Rattle.ddf_recovery.specs.Recovery.{trusted_seats}
use Rattle.ddf_assembly.specs.Slots.{newest_from}
use Rattle.ddf_history_steps.specs.Kept.{is_read}
use Rattle.ddf_history_steps.proofs.Alone.{alone_group}
use Rattle.ddf_history_steps.proofs.Begun.{assembled_kept}
use Rattle.ddf_history_steps.proofs.Told.{found_name}
use Rattle.ddf_data_history.specs.Promised.{seats_in}
use Rattle.ddf_data_history.proofs.Returned.{read_since}
use Rattle.ddf_data_history.proofs.Steps.{seats_are}
use Rattle.ddf_request.specs.Named.{named_array}
use Rattle.ddf_answer.specs.declared.failure.Failure.{Failure}
use Rattle.ddf_answer.specs.declared.failure.Failure.TheVariants.{Memory}
use Rattle.ddf_answer.specs.Answers.{failure_of}
use Rattle.ddf_answer.specs.Call.{Answer, work_of}
use Rattle.ddf_group.specs.declared.answer.Assembly.{Assembly}
use Rattle.ddf_answer.proofs.Common.{no_failure}
use Rattle.ddf_read_commands.specs.Read.{AreBlocks, HasRead, IsReadDone, IsReadIn, IsReadOf, IsReadTold, IsReadable, Outcome}
use Rattle.ddf_read_commands.specs.Read.Outcome.{CutShort, NotRead, Stopped, Whole}
use Rattle.ddf_data_calls.specs.Reading.{AdmitsRead, HasReturned, MayBe, Means, blocks_printed}
use Rattle.ddf_data_calls.proofs.Few.{ArraysFew, given_few}
use Rattle.ddf_data_calls.proofs.Seats as seating
use Rattle.ddf_data_calls.proofs.Volumes.{view_is}

-- ---- seats of which some are read

-- fewer seats of current members have floors that are numbers of sectors too
fewer_small : (config : Configuration) (seats fewer : List Seat) → AreCurrentSeats config.members seats → AreFewer seats fewer → (reference f : ℕ) → floor_of fewer reference ≡ Some f → f < 2 ^ 64
fewer_small config seats fewer are few reference f is = ⊎_elim
    (λ none. let no : None ≡ Some f = sym none ∙ is in absurd cc)
    (λ same. are.small reference f (sym same.0 ∙ is)) (few reference)

-- ---- which group is read

-- the group that a call means is found by its own name
pub meant_group : (group : List ℕ) {D : Type 0} (state : BayState D) (left : List Bool) (newest : List (Option Newest)) (long : length left ≡ length state.sizes)
    → (is : newest ≡ newest_from state 0 left) (past : Past (groups group)) (floor : ℕ → ℕ) (promises : Promises) → AdmitsRead group past floor promises state left
    → (named : Option (List ℕ)) → Means group newest named → (found : GroupValue) → group_of newest named ≡ Ok found → found.config.group ≡ group
meant_group group state left newest long is past floor promises admits None means found at =
    alone_group group state left newest long is past admits.same_slots admits.is_kept admits.may_read admits.member means found at
meant_group group state left newest long is past floor promises admits (Some name) means found at = found_name newest name found at ∙ same_bytes name group means

-- ---- what is printed

module _ (group : List ℕ) {D : Type 0} (tells : Type 0) (told : tells) (old new : BayState D) (past : Past (groups group)) (floor : ℕ → ℕ) (small : (slot : ℕ) → floor slot < 2 ^ 64)
    (promises : Promises) (left : List Bool) (admits : AdmitsRead group past floor promises old left) (newest : List (Option Newest)) (long : length left ≡ length old.sizes)
    (is : newest ≡ newest_from old 0 left) (named : Option (List ℕ)) (found : GroupValue) (at : group_of newest named ≡ Ok found) (own : found.config.group ≡ group) where
  fewer : AreFewer (seats_in group past floor found.config) (trusted_seats found)
  fewer = seating.trusted_fewer group old left newest long is past admits.same_slots admits.is_kept admits.may_read admits.member named found at own floor admits.have_floors

  few : ArraysFew found.config
  few =
      let assembled = assembled_kept group old left newest long is past admits.same_slots admits.is_kept admits.may_read admits.member named found at own in
      given_few group old.sizes old.held (is_read left) assembled.is_read.leading.sequence past.slots found.config assembled.is_read.is_read

  -- an array of it that can be used is what every view keeps
  pub known : (guid : List ℕ) (v : Volume) → view_of found.config guid (trusted_seats found) ≡ Ok v → IsVolume v
  known guid v view = view_is (trusted_seats found) (fewer_small found.config (seats_in group past floor found.config) (trusted_seats found) (seats_are group floor small past found.config) fewer) found.config guid v few view

  module _ (word : List ℕ) (start count : ℕ) (guid : List ℕ) (array : Array) (is_named : named_array found.config.arrays word ≡ Some (guid, array))
      (allowed : Allowed) (promised : promises guid ≡ Some allowed) where
    by_blocks : (v : Volume) → IsReadable found.config (trusted_seats found) word start count v → (sectors : List (List ℕ)) → AreBlocks (work_of tells old new) v start sectors → MayBe allowed start sectors
    by_blocks v readable sectors blocks k bytes there =
        let entry_is : readable.entry ≡ (guid, array) = some_same readable.is_named is_named in
        let view : view_of found.config guid (trusted_seats found) ≡ Ok v = ap (λ (one : List ℕ × Array). view_of found.config one.0 (trusted_seats found)) (sym entry_is) ∙ readable.is_view in
        let since = seating.since group old left newest long is past admits.same_slots admits.is_kept admits.may_read admits.member named found at own in
        let here = blocks.given told k (slice_get_within sectors k bytes there) in
        subst (λ (one : List ℕ). May (allowed (start + k)) one) (get_or_from_slice_get sectors k bytes [] there)
        (read_since group floor small past since.0 found.config since.1 old.held promises admits.keeps (trusted_seats found) fewer guid allowed v promised view (known guid v view)
        old.failed_reads new.failed_reads (start + k) (slice_index_or sectors k []) here)

    by_outcome : (outcome : Outcome) → IsReadOf (work_of tells old new) found.config (trusted_seats found) word start count outcome → MayBe allowed start (blocks_printed outcome)
    by_outcome (Whole sectors) came = by_blocks came.0 came.1 sectors came.2.1
    by_outcome (NotRead failure) came = λ k bytes there. absurd cc
    by_outcome (Stopped front slot) came = by_blocks came.0 came.1 front came.2.1.blocks
    by_outcome (CutShort front) came = by_blocks came.0 came.1 front came.2.blocks

-- A read prints of each block bytes that the block may have.
pub printed_may : (group : List ℕ) {D : Type 0} (tells : Type 0) → tells → (old new : BayState D) (past : Past (groups group)) (floor : ℕ → ℕ) → ((slot : ℕ) → floor slot < 2 ^ 64)
    → (promises : Promises) (named : Option (List ℕ)) (word : List ℕ) (start count : ℕ) (outcome : Outcome) → (read : HasRead (work_of tells old new) named word start count outcome)
    → Means group read.newest named → AdmitsRead group past floor promises old read.left → (found : GroupValue) → group_of read.newest named ≡ Ok found
    → (guid : List ℕ) (array : Array) (allowed : Allowed) → named_array found.config.arrays word ≡ Some (guid, array) → promises guid ≡ Some allowed → MayBe allowed start (blocks_printed outcome)
printed_may group tells told old new past floor small promises named word start count outcome read means admits found at guid array allowed is_named promised =
    let own = meant_group group old read.left read.newest read.every_slot (read.read told) past floor promises admits named means found at in
    by_outcome group tells told old new past floor small promises read.left admits read.newest read.every_slot (read.read told) named found at own word start count guid array is_named allowed promised
    outcome (subst (λ (answer : Result GroupValue Assembly). IsReadIn (work_of tells old new) word start count answer outcome) at read.gives)

-- ---- a read that was done

module _ (group : List ℕ) {D : Type 0} (tells : Type 0) (told : tells) (old new : BayState D) (past : Past (groups group)) (floor : ℕ → ℕ) (small : (slot : ℕ) → floor slot < 2 ^ 64)
    (promises : Promises) (named : Option (List ℕ)) (word : List ℕ) (start count : ℕ) (answer : Answer) (read : IsReadDone (work_of tells old new) named word start count answer)
    (done : answer.status ≡ 0) (means : Means group read.has.newest named) (admits : AdmitsRead group past floor promises old read.has.left) where
  abbrev Returned : Type 0
  Returned = HasReturned group past promises read.has.newest named word start count answer

  returned_of : (found : GroupValue) → group_of read.has.newest named ≡ Ok found → (outcome : Outcome) → IsReadTold outcome answer → IsReadOf (work_of tells old new) found.config (trusted_seats found) word start count outcome
      → Returned
  returned_of found at (Whole sectors) ends came =
      let own = meant_group group old read.has.left read.has.newest read.has.every_slot (read.has.read told) past floor promises admits named means found at in
      let since = seating.since group old read.has.left read.has.newest read.has.every_slot (read.has.read told) past admits.same_slots admits.is_kept admits.may_read admits.member named found at own in
      record {
        found = found;
        is_found = at;
        number = since.0;
        since = since.1;
        guid = came.1.entry.0;
        array = came.1.entry.1;
        is_named = came.1.is_named;
        sectors = sectors;
        counted = came.2.0;
        printed = ends;
        may_be = λ allowed promised.
            by_blocks group tells told old new past floor small promises read.has.left admits read.has.newest read.has.every_slot (read.has.read told) named found at own word start count
            came.1.entry.0 came.1.entry.1 came.1.is_named allowed promised came.0 came.1 sectors came.2.1;
      }
  returned_of found at (NotRead failure) ends came = absurd (no_failure failure answer ends done)
  returned_of found at (Stopped front slot) ends came = absurd (let three = ends.ends in omega (arith, three, done))
  returned_of found at (CutShort front) ends came = absurd (let six = ends.0 in omega (arith, six, done))

  none_found : (outcome : Outcome) (failure : Failure) → IsReadTold outcome answer → outcome ≡ NotRead failure → ⊥
  none_found outcome failure ends is = no_failure failure answer (subst (λ (one : Outcome). IsReadTold one answer) is ends) done

  -- A read with status 0 returned what it should.
  pub read_returned : Returned
  read_returned = by (group_of read.has.newest named) refl read.has.gives
    where
      by : (found : Result GroupValue Assembly) → group_of read.has.newest named ≡ found → IsReadIn (work_of tells old new) word start count found read.outcome → Returned
      by (Ok found) at gives = returned_of found at read.outcome read.ends gives
      by (Err fault) at gives = absurd (⊎_elim (λ is. none_found read.outcome (failure_of fault) read.ends is) (λ is. none_found read.outcome Memory read.ends is) gives)
