-- What a command that changes a group comes to.
use Rattle.std.proofs.Common.{◌≡◌, ◌⊎◌, ℕ, suc, ◌+◌, ◌*◌, ◌<◌, ◌≤◌, Bool, true, false, [], ◌∷◌, List, length, Option, Result, Ok, Err, refl, sym, ap, subst, ◌∙◌, inl, inr, ⊎_elim, arith}
use Rattle.std.specs.Prelude.{OnOk, slice_index, slice_index_or}
use Rattle.ddf_bay.specs.State.{BayState}
use Rattle.ddf_bay.specs.Moments.{StopsLeave}
use Rattle.ddf_bay.specs.ReadsOnly.{ReadsOnly}
use Rattle.ddf_bay.proofs.Looks.{reads_then}
use Rattle.ddf_bay.proofs.Steps.{rose_since}
use Rattle.ddf_config.specs.declared.refusal.Refusal.{Refusal}
use Rattle.ddf_config.specs.declared.seat.Seat.{Seat}
use Rattle.ddf_config.specs.Configuration.{Configuration}
use Rattle.ddf_copy.specs.declared.newest_copy.Newest.{Newest}
use Rattle.ddf_group.specs.declared.answer.Assembly.{Assembly}
use Rattle.ddf_plan.specs.declared.change.Change.{Change}
use Rattle.ddf_plan.specs.declared.fault.PlanFault.{PlanFault}
use Rattle.ddf_plan.specs.declared.fault.PlanFault.TheVariants as plans
use Rattle.ddf_request.specs.Request.{IsRequested}
use Rattle.ddf_steps.specs.Committed.{slots_of}
use Rattle.ddf_seats.specs.Group.{GroupValue}
use Rattle.ddf_assembly.specs.Group.{UpToMemory as FoundUpToMemory, group_of}
use Rattle.ddf_assembly.specs.Held.{IsHeldOn, StandsUnder}
use Rattle.ddf_recovery.specs.Ready.{IsReadied, readied}
use Rattle.ddf_recovery.specs.Recovery.{config_recovered}
use Rattle.ddf_assembly.specs.Slots.{newest_from}
use Rattle.ddf_steps.specs.Steps.{Step}
use Rattle.ddf_seats.specs.declared.fault.GroupFault.{GroupFault}
use Rattle.ddf_seats.specs.declared.fault.GroupFault.TheVariants as groups
use Rattle.ddf_answer.specs.declared.failure.Failure.{Failure}
use Rattle.ddf_answer.specs.declared.failure.Failure.TheVariants.{Conflict, Disk, Memory, Refused, Split}
use Rattle.ddf_answer.specs.Answers.{failure_of, failure_of_plan}
use Rattle.ddf_answer.specs.Call.{Work, work_of}
use Rattle.ddf_group_commands.specs.Costs.{CostsOfAsked}
use Rattle.ddf_group_commands.specs.Change.{CostsOfSteps, HasChanged, IsChanged, IsChangedIn, KeepsHistories, Request, TakesGroup, failure_of_group, is_done, steps_asked, steps_of, steps_or}
use Rattle.ddf_group_commands.specs.GroupRead.{IsFoundBy, IsGroupRead, IsReadFrom, group_or}
use Rattle.ddf_group_commands.specs.Requests.{HasWished, at_most_one, linux_found, linux_members}
use Rattle.ddf_group_commands.specs.Others.{LeavesOthers}
use Rattle.ddf_group_commands.specs.Writing.{IsLeftWriting}
use Rattle.ddf_group_commands.proofs.Beside.{beside_since, reads_beside}
use Rattle.ddf_group_commands.proofs.Costs.{asked_since, none_cost}
use Rattle.ddf_group_commands.proofs.Keeping.{reads_keep, since_entry}
use Rattle.ddf_group_commands.proofs.LeftWriting.{leaves_since, reads_leave}
use Rattle.ddf_answer.proofs.Rises.{look_still}

-- ---- which group was read

group_is : (found : Result GroupValue Assembly) (group : GroupValue) → (◌≡◌ {A = Result GroupValue Failure} (Ok group) (group_or found)) ⊎ (◌≡◌ {A = Result GroupValue Failure} (Ok group) (Err Memory)) → found ≡ Ok group
group_is (Ok one) group answer = ⊎_elim (λ is. let same : one ≡ group = cc in ap (λ (each : GroupValue). Ok each) same) (λ none. absurd cc) answer
group_is (Err fault) group answer = absurd (⊎_elim (λ none. cc) (λ none. cc) answer)

-- It is what the newest copies give.
pub group_read : {D : Type 0} (work : Work D) (named : Option (List ℕ)) (group : GroupValue) → (read : IsGroupRead work named (Ok group)) → group_of read.newest named ≡ Ok group
group_read work named group read = group_is (group_of read.newest named) group read.answer

-- what was found is the group that was read, or why there is none
pub group_found : (group : GroupValue) (answer : Result GroupValue Assembly) → FoundUpToMemory (Ok group) answer
    → (◌≡◌ {A = Result GroupValue Failure} (Ok group) (group_or answer)) ⊎ (◌≡◌ {A = Result GroupValue Failure} (Ok group) (Err Memory))
group_found group answer found = ⊎_elim (λ is. inl (ap group_or is)) (λ memory. absurd cc) found

pub none_found : (fault : Assembly) (answer : Result GroupValue Assembly) → FoundUpToMemory (Err fault) answer
    → (◌≡◌ {A = Result GroupValue Failure} (Err (failure_of fault)) (group_or answer)) ⊎ (◌≡◌ {A = Result GroupValue Failure} (Err (failure_of fault)) (Err Memory))
none_found fault answer found = ⊎_elim (λ is. inl (ap group_or is)) (λ memory. inr (ap group_or memory)) found

-- ---- disks that were only read

module _ {D : Type 0} (old middle : BayState D) (same_sizes : middle.sizes ≡ old.sizes) (same_held : middle.held ≡ old.held) where
  held_still : (slot : ℕ) (newest : Newest) → IsHeldOn old slot newest → IsHeldOn middle slot newest
  held_still slot newest held = record { anchor = held.anchor; is_anchored = rw (same_sizes, same_held) held.is_anchored; is_newest = rw (same_sizes, same_held) held.is_newest }

  stands_still : (slot : ℕ) (newest : Newest) → StandsUnder old slot newest → StandsUnder middle slot newest
  stands_still slot newest stands = λ anchor anchored. rw same_sizes (stands anchor (rw (same_sizes, same_held) at anchored))

  -- A group that was read from them was read from what they are now.
  pub read_still : (tells : Type 0) (group : GroupValue) → IsReadFrom tells old group → IsReadFrom tells middle group
  read_still tells group from = record {
    assembled = from.assembled;
    held = λ told slot newest at. held_still slot newest (from.held told slot newest at);
    stand = λ told slot newest at. stands_still slot newest (from.stand told slot newest at);
    under = rw same_sizes from.under;
    seats = rw same_sizes from.seats;
  }

-- The newest copies of disks that were only read are what they were.
pub newest_still : {D : Type 0} (old middle : BayState D) → middle.sizes ≡ old.sizes → middle.held ≡ old.held → (slot : ℕ) (left : List Bool) → newest_from middle slot left ≡ newest_from old slot left
newest_still old middle sizes held slot [] = refl
newest_still old middle sizes held slot (out ∷ left) = rw (sizes, held, newest_still old middle sizes held (suc slot) left) refl

-- One group is found.
pub found_same : (one other : GroupValue) → ◌≡◌ {A = Result GroupValue Assembly} (Ok one) (Ok other) → one ≡ other
found_same one other is = cc

-- The steps that are asked are those that were readied.
pub asked_of : (answer : Result (List Step) GroupFault) (steps : List Step) → steps_or answer ≡ Ok steps → answer ≡ Ok steps
asked_of (Ok all) steps is = let same : all ≡ steps = cc in ap (λ (one : List Step). Ok one) same
asked_of (Err fault) steps is = absurd cc

-- So they are readied for some changes.
pub record AreReadied (found : GroupValue) (timestamp : ℕ) (steps : List Step) : Type 0 where
  pub changes : List Change
  pub is : readied found changes timestamp ≡ Ok steps

pub readied_by : (found : GroupValue) (timestamp : ℕ) (asked : Result (List Change) Refusal) (steps : List Step) → steps_asked found timestamp asked ≡ Ok steps → AreReadied found timestamp steps
readied_by found timestamp (Ok changes) steps is = record { changes = changes; is = asked_of (readied found changes timestamp) steps is }
readied_by found timestamp (Err refusal) steps is = absurd cc

-- Changes that aren't made write nothing.
pub not_readied : {D : Type 0} (work : Work D) (group : GroupValue) (answer : Result (List Step) GroupFault) (fault : GroupFault) → IsReadied (Err fault) answer → ReadsOnly work.old work.new
    → IsChanged work group (steps_or answer) (Err (failure_of_group fault))
not_readied work group answer (groups.Refused refusal) is reads = (ap steps_or is, reads)
not_readied work group answer groups.SequenceSpent is reads = (ap steps_or is, reads)
not_readied work group answer groups.Memory is reads = reads

-- ---- there is no group

none_in : {D : Type 0} (work : Work D) (timestamp : ℕ) (request : Request) (found : Result GroupValue Assembly) (failure : Failure) → ReadsOnly work.old work.new
    → (◌≡◌ {A = Result GroupValue Failure} (Err failure) (group_or found)) ⊎ (◌≡◌ {A = Result GroupValue Failure} (Err failure) (Err Memory))
    → IsChangedIn work timestamp request found (Err failure)
none_in work timestamp request (Ok group) failure reads answer = ⊎_elim
    (λ none. absurd cc)
    (λ memory. let same : Memory ≡ failure = cc in subst (λ (one : Failure). IsChanged work group (steps_of group timestamp request) (Err one)) same reads)
    answer
none_in work timestamp request (Err fault) failure reads answer = (
  ⊎_elim
      (λ none. let same : failure ≡ failure_of fault = cc in inl (ap (λ (one : Failure). Err one) same))
      (λ memory. let same : failure ≡ Memory = cc in inr (ap (λ (one : Failure). Err one) same))
      answer,
  reads,
)

-- No sync of a slot failed that wasn't left out, or has a sector.
pub unsynced_in : {D : Type 0} (work : Work D) (named : Option (List ℕ)) (found : Result GroupValue Failure) (read : IsGroupRead work named found) (slot : ℕ) → slot < length read.left
    → (slice_index_or read.left slot false ≡ false) ⊎ (0 < slice_index work.old.sizes slot) → work.new.failed_writes slot ≡ work.old.failed_writes slot
unsynced_in work named found read slot below kept = ⊎_elim (λ seen. (read.seen slot below seen).1) (λ some. read.unsynced slot below some) kept

-- A call that only reads, and was refused or cut short, took the group that it read, or found none.
pub takes_reading : {D : Type 0} (work : Work D) (named : Option (List ℕ)) (timestamp : ℕ) (request : Request) (found : Result GroupValue Failure) → IsGroupRead work named found
    → ReadsOnly work.old work.new → TakesGroup work named timestamp request false
takes_reading work named timestamp request found read reads = record {
  left = read.left;
  every_slot = read.every_slot;
  failed = read.failed;
  newest = read.newest;
  read = read.read;
  beside = λ told one is. reads_beside work.old work.new (slots_of one.seats) reads;
  keeps = λ told one is steps asked. reads_keep work.old work.new read.left one steps reads;
  unfailed = λ done. absurd cc;
}

pub memory_told : (failure : Failure) → ◌≡◌ {A = Result GroupValue Failure} (Err failure) (Err Memory) → ◌≡◌ {A = Result ℕ Failure} (Err failure) (Err Memory)
memory_told failure spent = let same : failure ≡ Memory = cc in ap (λ (one : Failure). Err one) same

-- where there is none, or memory ran out
pub none_read : {D : Type 0} (work : Work D) (named : Option (List ℕ)) (timestamp : ℕ) (request : Request) (failure : Failure) → IsGroupRead work named (Err failure)
    → ReadsOnly work.old work.new → HasChanged work named timestamp request (Err failure)
unfolding takes_reading
none_read work named timestamp request failure read reads = record {
  taken = takes_reading work named timestamp request (Err failure) read reads;
  seen = λ slot below kept. (read.seen slot below kept).0;
  gone = λ given. read.gone (λ spent. given (memory_told failure spent));
  calls = let most = read.calls in omega (arith, most);
  costs = none_cost work timestamp request (group_of read.newest named) reads;
  gives = none_in work timestamp request (group_of read.newest named) failure reads read.answer;
  leaves = λ told found is steps asked. reads_leave work.old work.new steps reads;
}

-- ---- no change is asked

module _ {D : Type 0} (work : Work D) (named : Option (List ℕ)) (timestamp : ℕ) (request : Request) (group : GroupValue) (read : IsGroupRead work named (Ok group)) (reads : ReadsOnly work.old work.new) where
  -- what a command came to that wrote nothing
  pub unwritten : (failure : Failure) → IsChanged work group (steps_of group timestamp request) (Err failure) → HasChanged work named timestamp request (Err failure)
  unfolding takes_reading
  unwritten failure is = record {
    taken = takes_reading work named timestamp request (Ok group) read reads;
    seen = λ slot below kept. (read.seen slot below kept).0;
    gone = λ given. read.gone (λ spent. absurd cc);
    calls = let most = read.calls in omega (arith, most);
    costs = none_cost work timestamp request (group_of read.newest named) reads;
    gives = subst (λ (one : Result GroupValue Assembly). IsChangedIn work timestamp request one (Err failure)) (sym (group_read work named group read)) is;
    leaves = λ told found is steps asked. reads_leave work.old work.new steps reads;
  }

  -- where memory ran out
  pub memory_spent : HasChanged work named timestamp request (Err Memory)
  memory_spent = unwritten Memory reads

  refused_by : (meaning : Result (Option Change) Refusal) (fault : PlanFault) → request (config_recovered group) group.seats ≡ at_most_one meaning → IsRequested meaning (Err fault)
      → IsChanged work group (steps_of group timestamp request) (Err (failure_of_plan fault))
  refused_by meaning (plans.Refused refusal) same is = (ap (steps_asked group timestamp) (same ∙ ap at_most_one is), reads)
  refused_by meaning plans.Memory same is = reads

  -- where there is nothing that the words ask for, or memory ran out
  pub not_asked : (meaning : Result (Option Change) Refusal) (fault : PlanFault) → request (config_recovered group) group.seats ≡ at_most_one meaning → IsRequested meaning (Err fault)
      → HasChanged work named timestamp request (Err (failure_of_plan fault))
  not_asked meaning fault same is = unwritten (failure_of_plan fault) (refused_by meaning fault same is)

-- ---- changes are asked

-- what holds at Ok holds where all was done
pub where_done : {P : Type 0} (outcome : Result ℕ Failure) → OnOk outcome P → is_done outcome ≡ true → P
where_done (Ok sequence) holds done = holds
where_done (Err failure) holds done = absurd cc

-- what the writing of changes promises
pub record HasWritten {D : Type 0} (tells : Type 0) (middle new : BayState D) (group : GroupValue) (changes : List Change) (timestamp : ℕ) (outcome : Result ℕ Failure) : Type 0 where
  pub changed : IsChanged (work_of tells middle new) group (steps_or (readied group changes timestamp)) outcome
  pub beside : tells → LeavesOthers middle new (slots_of group.seats)
  pub leaves : tells → (steps : List Step) → readied group changes timestamp ≡ Ok steps → StopsLeave middle new (IsLeftWriting middle steps)
  pub keeps : tells → (left : List Bool) (named : Option (List ℕ)) → IsFoundBy middle left named group → (steps : List Step) → readied group changes timestamp ≡ Ok steps
      → KeepsHistories middle new left group steps (is_done outcome)
  pub same_reads : new.failed_reads ≡ middle.failed_reads
  pub calls : new.calls ≤ middle.calls + 51 * length middle.sizes
  pub costs : CostsOfAsked (work_of tells middle new) (steps_or (readied group changes timestamp))
  pub writes_rise : (slot : ℕ) → middle.failed_writes slot ≤ new.failed_writes slot
  pub unfailed : OnOk outcome (new.failed_writes ≡ middle.failed_writes)

module _ {D : Type 0} (tells : Type 0) (old middle new : BayState D) (reads : ReadsOnly old middle)
    (reads_rise : (slot : ℕ) → old.failed_reads slot ≤ middle.failed_reads slot) (writes_rise : (slot : ℕ) → old.failed_writes slot ≤ middle.failed_writes slot) where
  -- what came of a group that was read before
  changed_before : (group : GroupValue) (asked : Result (List Step) Failure) (outcome : Result ℕ Failure) → IsChanged (work_of tells middle new) group asked outcome
      → IsChanged (work_of tells old new) group asked outcome
  changed_before group asked (Ok sequence) done = record {
    steps = done.steps;
    are_asked = done.are_asked;
    is_last = done.is_last;
    are_written = λ told. rw (reads.same_sizes, reads.same_held) at (done.are_written told);
    none_asked = λ none. done.none_asked none ∙ reads.none_asked;
    are_settled = done.are_settled;
  }
  changed_before group asked (Err (Refused refusal)) done = (done.0, reads_then reads done.1)
  changed_before group asked (Err (Disk slot)) done = record {
    steps = done.steps;
    are_asked = done.are_asked;
    is_seat = done.is_seat;
    there = rw reads.same_sizes at done.there;
    rose = rose_since (old.failed_writes slot) (middle.failed_writes slot) (new.failed_writes slot) (writes_rise slot) done.rose;
  }
  changed_before group asked (Err Memory) done = reads_then reads done
  changed_before group asked (Err (Conflict i j sequence differ)) done = absurd done
  changed_before group asked (Err (Split i j)) done = absurd done

  -- what came of the changes that the words ask of the group
  pub has_changed : (named : Option (List ℕ)) (timestamp : ℕ) (request : Request) (group : GroupValue) (changes : List Change) (outcome : Result ℕ Failure)
      → IsGroupRead (work_of tells old middle) named (Ok group) → request (config_recovered group) group.seats ≡ Ok changes → HasWritten tells middle new group changes timestamp outcome
      → HasChanged (work_of tells old new) named timestamp request outcome
  has_changed named timestamp request group changes outcome read is written =
      let steps = ap (steps_asked group timestamp) is in
      let same_reads : (slot : ℕ) → new.failed_reads slot ≡ middle.failed_reads slot = λ slot. ap (λ (counts : ℕ → ℕ). counts slot) written.same_reads in
      record {
        taken = record {
          left = read.left;
          every_slot = read.every_slot;
          failed = λ slot below out. look_still old middle new slot (reads_rise slot) (omega (arith, same_reads slot)) (writes_rise slot) (written.writes_rise slot) (read.failed slot below out);
          newest = read.newest;
          read = read.read;
          beside = λ told found is_found.
              subst (λ (one : GroupValue). LeavesOthers old new (slots_of one.seats)) (found_same group found (sym (group_read (work_of tells old middle) named group read) ∙ is_found))
              (beside_since old middle new (slots_of group.seats) reads (written.beside told));
          keeps = λ told found is_found asked are_asked.
              let same = found_same group found (sym (group_read (work_of tells old middle) named group read) ∙ is_found) in
              subst (λ (one : GroupValue). steps_of one timestamp request ≡ Ok asked → KeepsHistories old new read.left one asked (is_done outcome)) same
              (λ now_asked.
              since_entry old middle new read.left group asked (is_done outcome) reads
              (written.keeps told read.left named
              (record {
                every_slot = rw reads.same_sizes read.every_slot;
                is_found = rw (newest_still old middle reads.same_sizes reads.same_held 0 read.left) (rw (read.read told) at (group_read (work_of tells old middle) named group read));
              })
              asked (asked_of (readied group changes timestamp) asked (sym steps ∙ now_asked))))
              are_asked;
          unfailed = λ done slot below kept. ap (λ (counts : ℕ → ℕ). counts slot) (where_done outcome written.unfailed done) ∙ unsynced_in (work_of tells old middle) named (Ok group) read slot below kept;
        };
        seen = λ slot below kept. same_reads slot ∙ (read.seen slot below kept).0;
        gone = λ given. read.gone (λ spent. absurd cc);
        calls = let first = read.calls in let then = written.calls in let same = ap (λ (sizes : List ℕ). length sizes) reads.same_sizes in omega (arith, first, then, same);
        costs = subst (λ (one : Result GroupValue Assembly). CostsOfSteps (work_of tells old new) timestamp request one) (sym (group_read (work_of tells old middle) named group read))
            (subst (λ (asked : Result (List Step) Failure). CostsOfAsked (work_of tells old new) asked) (sym steps)
            (asked_since tells old middle new reads (steps_or (readied group changes timestamp)) written.costs));
        gives = subst (λ (one : Result GroupValue Assembly). IsChangedIn (work_of tells old new) timestamp request one outcome) (sym (group_read (work_of tells old middle) named group read))
            (subst (λ (asked : Result (List Step) Failure). IsChanged (work_of tells old new) group asked outcome) (sym steps)
            (changed_before group (steps_or (readied group changes timestamp)) outcome written.changed));
        leaves = λ told found is_found asked are_asked.
            let same = found_same group found (sym (group_read (work_of tells old middle) named group read) ∙ is_found) in
            subst (λ (one : GroupValue). steps_of one timestamp request ≡ Ok asked → StopsLeave old new (IsLeftWriting old asked)) same
            (λ now_asked. leaves_since old middle new asked reads (written.leaves told asked (asked_of (readied group changes timestamp) asked (sym steps ∙ now_asked))))
            are_asked;
      }

  -- and of which group
  pub changed_group : (named : Option (List ℕ)) (timestamp : ℕ) (request : Request) (group : GroupValue) (changes : List Change) (outcome : Result ℕ Failure)
      (read : IsGroupRead (work_of tells old middle) named (Ok group)) (is : request (config_recovered group) group.seats ≡ Ok changes) (written : HasWritten tells middle new group changes timestamp outcome)
      → group_of (has_changed named timestamp request group changes outcome read is written).taken.newest named ≡ Ok group
  unfolding has_changed
  changed_group named timestamp request group changes outcome read is written = group_read (work_of tells old middle) named group read

-- ---- what is asked by the disks that Linux reads

-- What is asked of the same slots, configuration, seats and such disks is the same.
pub linux_asked : {slots : ℕ} {old now linux same_linux : List ℕ} {config same_config : Configuration} {seats same_seats : List Seat}
    (ask : (slots : ℕ) → Configuration → List Seat → List ℕ → Result (Option Change) Refusal)
    → slots ≡ length now → now ≡ old → config ≡ same_config → seats ≡ same_seats → linux ≡ same_linux
    → at_most_one (ask (length old) same_config same_seats same_linux) ≡ at_most_one (ask slots config seats linux)
linux_asked ask one sizes two three four = rw (one, sizes, two, three, four) refl

module _ {D : Type 0} (work : Work D) (named : Option (List ℕ)) (timestamp : ℕ) (request : (linux : List ℕ) → Request) (reads : ReadsOnly work.old work.new) where
  -- where there is no group, or memory ran out
  pub none_wished : (failure : Failure) → IsGroupRead work named (Err failure) → HasWished work named timestamp request (Err failure)
  unfolding none_read takes_reading
  none_wished failure read =
      let linux = linux_found (group_of read.newest named) in
      record { linux = linux; has = none_read work named timestamp (request linux) failure read reads; are_its = refl }

  module _ (group : GroupValue) (read : IsGroupRead work named (Ok group)) where
    -- where memory ran out
    pub memory_wished : HasWished work named timestamp request (Err Memory)
    unfolding memory_spent unwritten takes_reading
    memory_wished = record {
      linux = linux_members group;
      has = memory_spent work named timestamp (request (linux_members group)) group read reads;
      are_its = sym (ap linux_found (group_read work named group read));
    }

    -- where there is nothing that the words ask for, or memory ran out
    pub not_wished : (meaning : Result (Option Change) Refusal) (fault : PlanFault) → request (linux_members group) (config_recovered group) group.seats ≡ at_most_one meaning → IsRequested meaning (Err fault)
        → HasWished work named timestamp request (Err (failure_of_plan fault))
    unfolding not_asked unwritten takes_reading
    not_wished meaning fault same is = record {
      linux = linux_members group;
      has = not_asked work named timestamp (request (linux_members group)) group read reads meaning fault same is;
      are_its = sym (ap linux_found (group_read work named group read));
    }

-- what came of the changes that the words ask of the group
pub has_wished : {D : Type 0} (tells : Type 0) (old middle new : BayState D) (reads : ReadsOnly old middle)
    (reads_rise : (slot : ℕ) → old.failed_reads slot ≤ middle.failed_reads slot) (writes_rise : (slot : ℕ) → old.failed_writes slot ≤ middle.failed_writes slot)
    (named : Option (List ℕ)) (timestamp : ℕ) (request : (linux : List ℕ) → Request) (group : GroupValue) (changes : List Change) (outcome : Result ℕ Failure)
    → IsGroupRead (work_of tells old middle) named (Ok group) → request (linux_members group) (config_recovered group) group.seats ≡ Ok changes → HasWritten tells middle new group changes timestamp outcome
    → HasWished (work_of tells old new) named timestamp request outcome
has_wished tells old middle new reads reads_rise writes_rise named timestamp request group changes outcome read is written = record {
  linux = linux_members group;
  has = has_changed tells old middle new reads reads_rise writes_rise named timestamp (request (linux_members group)) group changes outcome read is written;
  are_its = sym (ap linux_found (changed_group tells old middle new reads reads_rise writes_rise named timestamp (request (linux_members group)) group changes outcome read is written));
}
