-- How a command ends on a group that it finds, that refuses it nothing, and of whose slots no call fails: it is done, or memory ran out, or its output failed.
use Rattle.std.proofs.Common.{◌≡◌, ◌∙◌, ◌⊎◌, ℕ, zero, suc, ◌+◌, ◌-◌, ◌*◌, ◌<◌, ◌≤◌, ◌==◌, Bool, true, false, List, [], ◌∷◌, ◌++◌, length, min, Option, Some, None, Result, Ok, Err, codes, refl, sym, ap, subst, inl, inr, ⊎_elim, arith, length-append}
use Rattle.std.proofs.lemmas.Fmt.{decimal_digit}
use Rattle.ddf_lemmas.proofs.Options.{none_some as no_refusal}
use Rattle.ddf_bytes.specs.declared.stamp.Stamp.{Stamp}
use Rattle.ddf_bay.specs.ReadsOnly.{SlotRose}
use Rattle.ddf_header.specs.declared.kind.Revision.{Revision}
use Rattle.ddf_update.specs.Group.{HaveFirstCopies, IsOneOf}
use Rattle.ddf_config.specs.declared.refusal.Refusal.{Refusal}
use Rattle.ddf_array.specs.Volume.{Volume}
use Rattle.ddf_read.specs.Reading.{Failed, IsOn}
use Rattle.ddf_read.proofs.SourceSlots.{first_on}
use Rattle.ddf_resync.specs.declared.outcome.Scrub.{Scrub}
use Rattle.ddf_resync.specs.Compared.{FailedOn}
use Rattle.ddf_group.specs.declared.answer.Assembly.{Assembly}
use Rattle.ddf_steps.specs.Committed.{slots_of}
use Rattle.ddf_seats.specs.Group.{GroupValue}
use Rattle.ddf_assembly.specs.Group.{group_of}
use Rattle.ddf_recovery.specs.Recovery.{trusted_seats}
use Rattle.ddf_steps.specs.Steps.{Step}
use Rattle.ddf_text.specs.Done.{sequence_line}
use Rattle.ddf_answer.specs.declared.failure.Failure.{Failure}
use Rattle.ddf_answer.specs.declared.failure.Failure.TheVariants.{Conflict, Disk, Memory, Refused, Split}
use Rattle.ddf_answer.specs.Answers.{IsToldFailure}
use Rattle.ddf_answer.specs.Call.{Answer, Input, Work}
use Rattle.ddf_answer.specs.Tells.{ClosesWith, EndsWith}
use Rattle.ddf_exercise_disks.specs.Ending.{EndsWell}
use Rattle.ddf_disk_commands.specs.Label.{IsLabelled, IsToldLabel, IsTried, label_copy, label_slots}
use Rattle.ddf_disk_commands.specs.LabelRefusal.{label_refusal}
use Rattle.ddf_group_commands.specs.Change.{IsChangeDone, IsChanged, IsChangedIn, IsDoneTo, IsToldChange, Request, last_sequence, steps_of}
use Rattle.ddf_write_commands.specs.Doing.{Doing}
use Rattle.ddf_write_commands.specs.Resync.{IsResyncDone, resync_request, resyncing}
use Rattle.ddf_write_commands.specs.Worked.{IsArrayDone, IsArrayStopped, IsWorkedIn, IsWorkedOf}
use Rattle.ddf_write_commands.specs.Payload.{IsAllTaken, IsPayload, IsShort, Pieces}
use Rattle.ddf_write.specs.Looking.{piece_of}
use Rattle.ddf_pieces.specs.Coming.{AreSectorsOf512}
use Rattle.ddf_pieces.specs.Pieces.{bytes_of as bytes_of_sectors, piece_blocks}
use Rattle.ddf_write_commands.specs.Write.{IsSequenceTold, IsWriteDone, IsWriteIn, IsWriteTold, looking, write_request, writing}
use Rattle.ddf_write_commands.specs.Write.{Outcome as WriteOutcome}
use Rattle.ddf_write_commands.specs.Write.Outcome.{Broken, NotRead as NotGiven, Short, Taken, Unfit}
use Rattle.ddf_read_commands.specs.Read.{AreBlocks, IsReadDone, IsReadIn, IsReadOf, IsReadTold, IsReadable, IsWithoutSource, bytes_of, read_refusal}
use Rattle.ddf_read_commands.specs.Read.{Outcome as ReadOutcome}
use Rattle.ddf_read_commands.specs.Read.Outcome.{CutShort, NotRead, Stopped, Whole}
use Rattle.ddf_read_commands.specs.Scrub.{IsArrayScrubbed, IsScrubDone, IsScrubIn, IsScrubOf, IsScrubTold, scrub_refusal, scrub_text}
use Rattle.ddf_group_commands.specs.Requests.{linux_members}
use Rattle.ddf_rebuild_command.specs.Asked.{rebuild_request}
use Rattle.ddf_rebuild_command.specs.Rounds.{steps_of as steps_in_rounds}
use Rattle.ddf_rebuild_command.specs.Rebuilt.{IsRebuildDone, IsRebuiltIn, IsRebuiltOf, IsArrayRebuilt, IsArrayInSync}
use Rattle.ddf_request.specs.Named.{named_array}

-- the bytes of whole sectors
sectors_long : (sectors : List (List ℕ)) → AreSectorsOf512 sectors → length (bytes_of_sectors sectors) ≡ 512 * length sectors
sectors_long [] whole = refl
sectors_long (sector ∷ sectors) whole =
    let first = whole 0 sector refl in
    let rest = sectors_long sectors (λ j one at. whole (suc j) one at) in
    let both = length-append sector (bytes_of_sectors sectors) in
    omega (arith, both, first, rest)

-- a piece has no more blocks than are left
piece_few : (each ahead at left : ℕ) → piece_of each ahead at left ≤ left
piece_few each ahead at left = omega arith

eqb_same : (n : ℕ) → (n == n) ≡ true
eqb_same n = grind arith

one_line : codes "ok sequence 1\n" ≡ sequence_line 1
one_line = ap (λ (one : List ℕ). codes "ok sequence " ++ one ++ codes "\n") (sym (decimal_digit 1 (omega arith)))

module _ (answer : Answer) (told : answer.tells) {P : Type 0} where
  closes : (text : List ℕ) → P → ClosesWith 0 text answer → EndsWell answer text P
  closes text p ends = ⊎_elim (λ is. inr (inr (is, (ends.tells told).whole (omega (arith, is)), p))) (λ six. inr (inl six)) ends.ends

  ends_zero : (text : List ℕ) → P → EndsWith 0 text answer → EndsWell answer text P
  ends_zero text p ends = ⊎_elim (λ is. inr (inr (is, (ends.tells told).whole (omega (arith, is)), p))) (λ short. ⊎_elim inl (λ six. inr (inl six)) short) ends.ends

  no_memory : (text : List ℕ) → IsToldFailure Memory answer → EndsWell answer text P
  no_memory text ends = inl ends.0

-- ---- label

module _ {D : Type 0} (work : Work D) (tells : work.tells) (revision : Revision) (stamp : Stamp) (answer : Answer) (told : answer.tells)
    (accepted : label_refusal false work.old.sizes work.old.held [] ≡ None) (calm : (slot : ℕ) → slot < length work.old.sizes → SlotRose work.old work.new slot → ⊥) where
  abbrev HasLabelled : Type 0
  HasLabelled = HaveFirstCopies work.old work.new (label_slots work.old.sizes []) (label_copy false revision stamp work.old.sizes []) (length (label_slots work.old.sizes []))

  label_by : (outcome : Result (Unit {0}) Failure) → IsTried work false revision stamp [] outcome → IsToldLabel outcome answer → EndsWell answer (sequence_line 1) HasLabelled
  label_by (Ok done) tried ends = closes answer told (sequence_line 1) (tried tells).1 (subst (λ (text : List ℕ). ClosesWith 0 text answer) one_line ends)
  label_by (Err (Refused refusal)) tried ends = let is = tried.0 tells in absurd (none_some is)
    where
      none_some : label_refusal false work.old.sizes work.old.held [] ≡ Some refusal → ⊥
      none_some is = let bad : ◌≡◌ {A = Option Refusal} None (Some refusal) = sym accepted ∙ is in cc
  label_by (Err (Disk slot)) tried ends = absurd (calm slot tried.0 tried.1)
  label_by (Err (Conflict i j sequence differ)) tried ends = absurd tried
  label_by (Err (Split i j)) tried ends = absurd tried
  label_by (Err Memory) tried ends = no_memory answer told (sequence_line 1) ends

  pub label_ends : IsLabelled work false revision stamp [] answer → EndsWell answer (sequence_line 1) HasLabelled
  label_ends done = label_by done.outcome done.tried done.ends

-- ---- steps that are asked for

pub same_steps : (asked : Result (List Step) Failure) (steps others : List Step) → asked ≡ Ok steps → asked ≡ Ok others → others ≡ steps
same_steps asked steps others are is = let both : ◌≡◌ {A = Result (List Step) Failure} (Ok steps) (Ok others) = sym are ∙ is in cc

not_refused : (asked : Result (List Step) Failure) (steps : List Step) (failure : Failure) → asked ≡ Ok steps → asked ≡ Err failure → ⊥
not_refused asked steps failure are is = let both : ◌≡◌ {A = Result (List Step) Failure} (Ok steps) (Err failure) = sym are ∙ is in cc

module _ {D : Type 0} (work : Work D) (answer : Answer) (told : answer.tells) (found : GroupValue) (timestamp : ℕ) (request : Request) (steps : List Step)
    (are : steps_of found timestamp request ≡ Ok steps) (calm : (slot : ℕ) → IsOneOf (slots_of found.seats) slot → SlotRose work.old work.new slot → ⊥) where
  abbrev text : List ℕ
  text = sequence_line (last_sequence found.config.sequence steps)

  -- ---- a change of the group

  abbrev HasDone : Type 0
  HasDone = IsDoneTo work found (steps_of found timestamp request) (last_sequence found.config.sequence steps)

  done_last : (sequence : ℕ) → (done : IsDoneTo work found (steps_of found timestamp request) sequence) → sequence ≡ last_sequence found.config.sequence steps
  done_last sequence done =
      done.is_last ∙ ap (last_sequence found.config.sequence) (same_steps (steps_of found timestamp request) steps done.steps are done.are_asked)

  change_by : (outcome : Result ℕ Failure) → IsChanged work found (steps_of found timestamp request) outcome → IsToldChange outcome answer → EndsWell answer text HasDone
  change_by (Ok sequence) changed ends =
      let last = done_last sequence changed in
      closes answer told text (subst (IsDoneTo work found (steps_of found timestamp request)) last changed) (subst (λ (number : ℕ). ClosesWith 0 (sequence_line number) answer) last ends)
  change_by (Err (Refused refusal)) changed ends = absurd (not_refused (steps_of found timestamp request) steps (Refused refusal) are changed.0)
  change_by (Err (Disk slot)) changed ends = absurd (calm slot changed.is_seat (inr changed.rose))
  change_by (Err (Conflict i j sequence differ)) changed ends = absurd changed
  change_by (Err (Split i j)) changed ends = absurd changed
  change_by (Err Memory) changed ends = no_memory answer told text ends

  pub change_ends : (named : Option (List ℕ)) (done : IsChangeDone work named timestamp request answer) → group_of done.has.taken.newest named ≡ Ok found → EndsWell answer text HasDone
  change_ends named done is = change_by done.outcome (subst (λ (meaning : Result GroupValue Assembly). IsChangedIn work timestamp request meaning done.outcome) is done.has.gives) done.ends

  -- ---- work on blocks

  module _ (doing : Doing) (word : List ℕ) (none_left : (volume : Volume) (slot : ℕ) → doing.NoneLeft (Failed work.old work.new) volume slot → IsOneOf (slots_of found.seats) slot → ⊥) where
    abbrev HasWorked : Type 0
    HasWorked = IsArrayDone doing work found timestamp word request (last_sequence found.config.sequence steps)

    not_stopped : (slot : ℕ) → IsArrayStopped doing work found timestamp word request slot → ⊥
    not_stopped slot stopped = ⊎_elim (λ rose. calm slot stopped.is_seat (inr rose)) (λ left. none_left stopped.plan.volume slot left.0 stopped.is_seat) stopped.stopped

    worked_last : (sequence : ℕ) → IsArrayDone doing work found timestamp word request sequence → sequence ≡ last_sequence found.config.sequence steps
    worked_last sequence done =
        done.is_last ∙ ap (last_sequence found.config.sequence) (same_steps (steps_of found timestamp request) steps (done.plan.first ++ done.plan.last) are done.plan.are_asked)

    pub failed_by : {P : Type 0} (failure : Failure) → IsWorkedOf doing work found timestamp word request (Err failure) → IsToldFailure failure answer → EndsWell answer text P
    failed_by (Refused refusal) worked ends = absurd (not_refused (steps_of found timestamp request) steps (Refused refusal) are worked.0)
    failed_by (Disk slot) worked ends = absurd (not_stopped slot worked)
    failed_by (Conflict i j sequence differ) worked ends = absurd worked
    failed_by (Split i j) worked ends = absurd worked
    failed_by Memory worked ends = no_memory answer told text ends

    pub work_by : (outcome : Result ℕ Failure) → IsWorkedOf doing work found timestamp word request outcome → IsToldChange outcome answer → EndsWell answer text HasWorked
    work_by (Ok sequence) worked ends =
        let last = worked_last sequence worked in
        closes answer told text (subst (IsArrayDone doing work found timestamp word request) last worked) (subst (λ (number : ℕ). ClosesWith 0 (sequence_line number) answer) last ends)
    work_by (Err failure) worked ends = failed_by failure worked ends

-- ---- resync

resync_left : {D : Type 0} (work : Work D) (found : GroupValue) → ((slot : ℕ) → IsOneOf (slots_of found.seats) slot → SlotRose work.old work.new slot → ⊥)
    → (volume : Volume) (slot : ℕ) → resyncing.NoneLeft (Failed work.old work.new) volume slot → IsOneOf (slots_of found.seats) slot → ⊥
resync_left work found calm volume slot (inl block) seat = calm slot seat (inl block.none_left.this_failed)
resync_left work found calm volume slot (inr row) seat = calm slot seat (inl row.for_sum.none_left.this_failed)

module _ {D : Type 0} (work : Work D) (answer : Answer) (told : answer.tells) (found : GroupValue) (timestamp : ℕ) (word : List ℕ) (steps : List Step)
    (calm : (slot : ℕ) → IsOneOf (slots_of found.seats) slot → SlotRose work.old work.new slot → ⊥) where
  pub resync_ends : steps_of found timestamp (resync_request word) ≡ Ok steps → (named : Option (List ℕ)) (done : IsResyncDone work named timestamp word answer)
      → group_of done.has.taken.newest named ≡ Ok found
      → EndsWell answer (sequence_line (last_sequence found.config.sequence steps)) (IsArrayDone resyncing work found timestamp word (resync_request word) (last_sequence found.config.sequence steps))
  resync_ends are named done is =
      work_by work answer told found timestamp (resync_request word) steps are calm resyncing word (resync_left work found calm) done.outcome
      (subst (λ (meaning : Result GroupValue Assembly). IsWorkedIn resyncing work timestamp word (resync_request word) meaning done.outcome) is done.has.gives) done.ends

  -- ---- write

  module _ (input : Input) (gives : input.tells) (start count : ℕ) (few : count ≤ 2048) (some : 1 ≤ count) (enough : 512 * count ≤ length input.old.left)
      (are : steps_of found timestamp (write_request word start count) ≡ Ok steps) where
    abbrev HasPut : Type 0
    HasPut =
        (sectors : List (List ℕ)) × (left : List ℕ) × ((pieces : Pieces) × IsPayload input pieces count sectors left) × (length sectors ≡ count)
        × IsArrayDone (writing start sectors) work found timestamp word (write_request word start count) (last_sequence found.config.sequence steps)

    abbrev put_text : List ℕ
    put_text = sequence_line (last_sequence found.config.sequence steps)

    write_left : (sectors : List (List ℕ)) (volume : Volume) (slot : ℕ) → (writing start sectors).NoneLeft (Failed work.old work.new) volume slot → IsOneOf (slots_of found.seats) slot → ⊥
    write_left sectors volume slot left seat = absurd left

    look_left : (volume : Volume) (slot : ℕ) → (looking start count).NoneLeft (Failed work.old work.new) volume slot → IsOneOf (slots_of found.seats) slot → ⊥
    look_left volume slot left seat = calm slot seat (inl left.none_left.this_failed)

    abbrev TakenWhole : Pieces → List (List ℕ) → List ℕ → Type 0
    TakenWhole pieces sectors left = IsPayload input pieces count sectors left × IsAllTaken input pieces count sectors left

    -- Blocks of which the input has all bytes come whole.
    whole_of : (pieces : Pieces) (sectors : List (List ℕ)) (left : List ℕ) → TakenWhole pieces sectors left → length sectors ≡ count
    whole_of pieces sectors left (payload, inl all) = all.0
    whole_of pieces sectors left (payload, inr part) =
        let long : length input.old.left ≡ length (bytes_of_sectors sectors) + length left = ap length (payload.bytes gives) ∙ length-append (bytes_of_sectors sectors) left in
        let whole = sectors_long sectors payload.whole in
        let next = piece_few pieces.each pieces.ahead (length sectors) (count - length sectors) in
        absurd (omega (arith, long, whole, next, part.1, (part.2 gives).0, enough))

    not_short : (pieces : Pieces) (least : ℕ) → IsShort input pieces count least → ⊥
    not_short pieces least short =
        let first = piece_few pieces.each pieces.ahead 0 count in
        let fewer = short.fewer in
        let all = (short.all gives).0 in
        omega (arith, first, fewer, all, enough)

    told_whole : (all : Bool) (blocks sequence : ℕ) → all ≡ true → IsSequenceTold all blocks sequence answer → ClosesWith 0 (sequence_line sequence) answer
    told_whole true blocks sequence is ends = ends
    told_whole false blocks sequence is ends = absurd cc

    done_with : (pieces : Pieces) (sectors : List (List ℕ)) (left : List ℕ) (sequence : ℕ) → IsPayload input pieces count sectors left → length sectors ≡ count
        → IsArrayDone (writing start sectors) work found timestamp word (write_request word start count) sequence → ClosesWith 0 (sequence_line sequence) answer → EndsWell answer put_text HasPut
    done_with pieces sectors left sequence payload long worked ends =
        let last = worked_last work answer told found timestamp (write_request word start count) steps are calm (writing start sectors) word (write_left sectors) sequence worked in
        closes answer told put_text
        (sectors, left, (pieces, payload), long, subst (IsArrayDone (writing start sectors) work found timestamp word (write_request word start count)) last worked)
        (subst (λ (number : ℕ). ClosesWith 0 (sequence_line number) answer) last ends)

    write_by : (pieces : Pieces) (outcome : WriteOutcome) → IsWriteIn work input timestamp word start count pieces (Ok found) outcome → IsWriteTold count outcome answer → EndsWell answer put_text HasPut
    write_by pieces (Taken sectors (Ok sequence)) is ends =
        let long = whole_of pieces sectors is.0.0 (is.0.1, is.0.2) in
        done_with pieces sectors is.0.0 sequence is.0.1 long is.2 (told_whole (length sectors == count) (length sectors) sequence (ap (λ (n : ℕ). n == count) long ∙ eqb_same count) ends)
    write_by pieces (Taken sectors (Err failure)) is ends =
        failed_by work answer told found timestamp (write_request word start count) steps are calm (writing start sectors) word (write_left sectors) failure is.2 ends
    write_by pieces (Broken sectors) is ends = inr (inl ends.0)
    write_by pieces (Short least) is ends = absurd (not_short pieces least is.0)
    write_by pieces NotGiven is ends = inr (inl ends.0)
    write_by pieces (Unfit failure) is ends =
        failed_by work answer told found timestamp (write_request word start count) steps are calm (looking start count) word look_left failure is.2 ends

    pub write_ends : (named : Option (List ℕ)) (done : IsWriteDone work input named timestamp word start count answer) → group_of done.has.taken.newest named ≡ Ok found → EndsWell answer put_text HasPut
    write_ends named done is =
        write_by done.has.pieces done.outcome (subst (λ (meaning : Result GroupValue Assembly). IsWriteIn work input timestamp word start count done.has.pieces meaning done.outcome) is done.has.gives) done.ends

  -- ---- rebuild

  abbrev HasFilled : Type 0
  HasFilled =
      IsArrayRebuilt work found timestamp word (last_sequence found.config.sequence steps) ⊎ IsArrayInSync work found timestamp word (last_sequence found.config.sequence steps)

  module _ (are : steps_of found timestamp (rebuild_request word (linux_members found)) ≡ Ok steps) where
    abbrev filled_text : List ℕ
    filled_text = sequence_line (last_sequence found.config.sequence steps)

    filled_last : (sequence : ℕ) → IsArrayRebuilt work found timestamp word sequence ⊎ IsArrayInSync work found timestamp word sequence → sequence ≡ last_sequence found.config.sequence steps
    filled_last sequence (inl rebuilt) =
        rebuilt.is_last
        ∙ ap (last_sequence found.config.sequence) (same_steps (steps_of found timestamp (rebuild_request word (linux_members found))) steps (rebuilt.plan.first ++ steps_in_rounds rebuilt.plan.rounds) are rebuilt.plan.are_asked)
    filled_last sequence (inr idle) = done_last work answer told found timestamp (rebuild_request word (linux_members found)) steps are calm sequence idle.recovered

    rebuild_by : (outcome : Result ℕ Failure) → IsRebuiltOf work found timestamp word outcome → IsToldChange outcome answer → EndsWell answer filled_text HasFilled
    rebuild_by (Ok sequence) rebuilt ends =
        let last = filled_last sequence rebuilt in
        closes answer told filled_text (subst (λ (number : ℕ). IsArrayRebuilt work found timestamp word number ⊎ IsArrayInSync work found timestamp word number) last rebuilt)
        (subst (λ (number : ℕ). ClosesWith 0 (sequence_line number) answer) last ends)
    rebuild_by (Err (Refused refusal)) rebuilt ends = absurd (not_refused (steps_of found timestamp (rebuild_request word (linux_members found))) steps (Refused refusal) are rebuilt.0)
    rebuild_by (Err (Disk slot)) (inl fault) ends = absurd (calm slot fault.is_seat (inr fault.rose))
    rebuild_by (Err (Disk slot)) (inr stopped) ends = absurd (calm slot stopped.is_seat (inl stopped.none_left.none_left.this_failed))
    rebuild_by (Err (Conflict i j sequence differ)) rebuilt ends = absurd rebuilt
    rebuild_by (Err (Split i j)) rebuilt ends = absurd rebuilt
    rebuild_by (Err Memory) rebuilt ends = no_memory answer told filled_text ends

    pub rebuild_ends : (named : Option (List ℕ)) (done : IsRebuildDone work named timestamp word answer) → group_of done.has.taken.newest named ≡ Ok found → EndsWell answer filled_text HasFilled
    rebuild_ends named done is = rebuild_by done.outcome (subst (λ (meaning : Result GroupValue Assembly). IsRebuiltIn work timestamp word meaning done.outcome) is done.has.gives) done.ends

-- ---- scrub

module _ {D : Type 0} (work : Work D) (answer : Answer) (told : answer.tells) (found : GroupValue) (word : List ℕ) where
  module _ (accepted : scrub_refusal found.config (trusted_seats found) (named_array found.config.arrays word) ≡ None)
      (calm : (volume : Volume) (slot : ℕ) → FailedOn volume work.old work.new slot → ⊥) where
    abbrev HasCompared : Scrub → Type 0
    HasCompared result = IsArrayScrubbed work found.config (trusted_seats found) word result

    -- It told what it found, or memory ran out, or its output failed.
    abbrev ScrubEnds : Type 0
    ScrubEnds = (answer.status ≡ 5) ⊎ (answer.status ≡ 6) ⊎ ((result : Scrub) × (answer.status ≡ 0) × (answer.new.taken ≡ answer.old.taken ++ (scrub_text result ++ codes "\n")) × HasCompared result)

    scrub_by : (outcome : Result Scrub Failure) → IsScrubOf work found.config (trusted_seats found) word outcome → IsScrubTold outcome answer → ScrubEnds
    scrub_by (Ok result) is ends =
        ⊎_elim
        (λ zero. inr (inr (result, zero, (ends.tells told).whole (omega (arith, zero)), is)))
        (λ short. ⊎_elim inl (λ six. inr (inl six)) short)
        ends.ends
    scrub_by (Err (Refused refusal)) is ends = absurd (no_refusal (scrub_refusal found.config (trusted_seats found) (named_array found.config.arrays word)) refusal accepted is)
    scrub_by (Err (Disk slot)) is ends = absurd (calm is.used.1 slot is.stopped.1)
    scrub_by (Err (Conflict i j sequence differ)) is ends = absurd is
    scrub_by (Err (Split i j)) is ends = absurd is
    scrub_by (Err Memory) is ends = inl ends.0

    pub scrub_ends : (named : Option (List ℕ)) (done : IsScrubDone work named word answer) → group_of done.has.newest named ≡ Ok found → ScrubEnds
    scrub_ends named done is = scrub_by done.result (subst (λ (meaning : Result GroupValue Assembly). IsScrubIn work word meaning done.result) is done.has.gives) done.ends

  -- ---- read

  module _ (start count : ℕ) (accepted : read_refusal found.config (trusted_seats found) (named_array found.config.arrays word) start count ≡ None)
      (calm : (volume : Volume) (slot : ℕ) → IsReadable found.config (trusted_seats found) word start count volume → IsOn volume slot → Failed work.old work.new slot → ⊥) where
    -- All blocks were read, and told; or memory ran out, or its output failed.
    abbrev ReadEnds : Type 0
    ReadEnds =
        (answer.status ≡ 5) ⊎ (answer.status ≡ 6)
        ⊎ ((sectors : List (List ℕ)) × (volume : Volume) × (answer.status ≡ 0) × (answer.new.taken ≡ answer.old.taken ++ bytes_of sectors) × (length sectors ≡ count)
        × IsReadable found.config (trusted_seats found) word start count volume × AreBlocks work volume start sectors)

    has_source : (volume : Volume) (from many slot : ℕ) → IsReadable found.config (trusted_seats found) word start count volume → IsWithoutSource work volume from many slot → ⊥
    has_source volume from many slot readable without =
        let left = without.none_left in
        let on = first_on volume (λ other. other ≡ slot) (from + left.block) left.none_left.is_of_first in
        calm volume on.0 readable on.1.0 (subst (Failed work.old work.new) (sym on.1.1) left.none_left.this_failed)

    read_by : (outcome : ReadOutcome) → IsReadOf work found.config (trusted_seats found) word start count outcome → IsReadTold outcome answer → ReadEnds
    read_by (Whole sectors) is ends = inr (inr (sectors, is.0, ends.ends, ends.tells told, is.2.0, is.1, is.2.1))
    read_by (NotRead (Refused refusal)) is ends = absurd (no_refusal (read_refusal found.config (trusted_seats found) (named_array found.config.arrays word) start count) refusal accepted is)
    read_by (NotRead (Disk slot)) is ends = absurd (has_source is.0 start (min count piece_blocks) slot is.1 is.2)
    read_by (NotRead (Conflict i j sequence differ)) is ends = absurd is.2
    read_by (NotRead (Split i j)) is ends = absurd is.2
    read_by (NotRead Memory) is ends = inl ends.0
    read_by (Stopped front slot) is ends = absurd (has_source is.0 (start + length front) (min (count - length front) piece_blocks) slot is.1 is.2.2)
    read_by (CutShort front) is ends = inr (inl ends.0)

    pub read_ends : (named : Option (List ℕ)) (done : IsReadDone work named word start count answer) → group_of done.has.newest named ≡ Ok found → ReadEnds
    read_ends named done is = read_by done.outcome (subst (λ (meaning : Result GroupValue Assembly). IsReadIn work word start count meaning done.outcome) is done.has.gives) done.ends
