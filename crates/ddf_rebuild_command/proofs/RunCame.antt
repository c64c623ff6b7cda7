-- What a rebuild comes to since the entry of its call.
use Rattle.std.proofs.Common.{◌≡◌, ◌⊎◌, ℕ, suc, ◌≤◌, Bool, false, List, [], ◌∷◌, Option, Result, Ok, Err, refl, sym, ap, subst, ◌∙◌, inl, inr, ⊎_elim}
use Rattle.std.specs.Prelude.{OnOk}
use Rattle.ddf_bay.specs.Moments.{StopsLeave}
use Rattle.ddf_bay.specs.ReadsOnly.{ReadsOnly}
use Rattle.ddf_bay.specs.State.{BayState}
use Rattle.ddf_bay.proofs.Steps.{stops_weaken}
use Rattle.ddf_cells.specs.Touching.{GoesBetween}
use Rattle.ddf_copy.specs.declared.newest_copy.Newest.{Newest}
use Rattle.ddf_group.specs.declared.answer.Assembly.{Assembly}
use Rattle.ddf_history.specs.Groups.{groups}
use Rattle.ddf_history.specs.Issued.{Past}
use Rattle.ddf_steps.specs.Committed.{slots_of}
use Rattle.ddf_seats.specs.Group.{GroupValue}
use Rattle.ddf_assembly.specs.Group.{group_of}
use Rattle.ddf_recovery.specs.Recovery.{config_recovered}
use Rattle.ddf_seats.specs.declared.fault.GroupFault.{GroupFault}
use Rattle.ddf_assembly.specs.Slots.{newest_from}
use Rattle.ddf_steps.specs.Steps.{Step}
use Rattle.ddf_history_steps.specs.Going.{IsAdmitted}
use Rattle.ddf_history_steps.specs.Kept.{AreAllKept}
use Rattle.ddf_answer.specs.declared.failure.Failure.{Failure}
use Rattle.ddf_answer.specs.declared.failure.Failure.TheVariants.{Conflict, Disk, Memory, Refused, Split}
use Rattle.ddf_answer.specs.Answers.{failure_of}
use Rattle.ddf_answer.specs.Call.{Work, work_of}
use Rattle.ddf_answer.proofs.Rises.{look_still}
use Rattle.ddf_group_commands.specs.Change.{KeepsHistories, is_done, steps_asked as asked_by, steps_of as steps_asked, steps_or}
use Rattle.ddf_group_commands.specs.GroupRead.{IsFoundBy, IsGroupRead, group_or}
use Rattle.ddf_group_commands.specs.Others.{LeavesOthers}
use Rattle.ddf_group_commands.specs.Requests.{linux_found, linux_members}
use Rattle.ddf_group_commands.proofs.Beside.{reads_beside}
use Rattle.ddf_group_commands.proofs.Keeping.{reads_keep}
use Rattle.ddf_group_commands.proofs.Outcomes.{group_read, memory_told, unsynced_in, where_done, found_same}
use Rattle.ddf_write_commands.specs.Plans.{IsNotReadied}
use Rattle.ddf_rebuild_command.specs.Along.{ComesAlong}
use Rattle.ddf_rebuild_command.specs.Asked.{rebuild_request}
use Rattle.ddf_rebuild_command.specs.Costs.{CostsOf}
use Rattle.ddf_rebuild_command.specs.Planned.{IsIdle, IsPlanned}
use Rattle.ddf_rebuild_command.specs.Plans.{MayPlan}
use Rattle.ddf_rebuild_command.specs.Rebuilt.{GoesAlong, HasRebuiltArray, IsRebuiltIn, IsRebuiltOf, LeavesRebuilding, MayBeLeft}
use Rattle.ddf_rebuild_command.proofs.Costs.{none_cost}
use Rattle.ddf_rebuild_command.proofs.BackCame.{steps_same}

-- What came of a group that was read, since the entry.
pub record HasRun {D : Type 0} (tells : Type 0) (entry start new : BayState D) (found : GroupValue) (timestamp : ℕ) (word : List ℕ) (outcome : Result ℕ Failure) : Type 0 where
  pub steps : List Step
  pub are_asked : steps_asked found timestamp (rebuild_request word (linux_members found)) ≡ Ok steps
  pub goes : GoesBetween start new
  pub gives : IsRebuiltOf (work_of tells entry new) found timestamp word outcome
  pub leaves : tells → StopsLeave entry new (MayBeLeft (work_of tells entry new) found timestamp word steps)
  pub beside : tells → LeavesOthers entry new (slots_of found.seats)
  pub keeps : tells → (left : List Bool) (named : Option (List ℕ)) → IsFoundBy start left named found → KeepsHistories entry new left found steps (is_done outcome)
  pub along : tells → (left : List Bool) (named : Option (List ℕ)) → IsFoundBy start left named found → (group : List ℕ) → found.config.group ≡ group → (past : Past (groups group)) → AreAllKept group past entry
      → IsAdmitted group past entry left found → IsIdle found timestamp word ⊎ ((plan : IsPlanned found timestamp word) × ComesAlong group (work_of tells entry new) past left found plan (is_done outcome))

-- ---- nothing was done

module _ {D : Type 0} (work : Work D) (named : Option (List ℕ)) (timestamp : ℕ) (word : List ℕ) (reads : ReadsOnly work.old work.new) where
  nothing_left : (meaning : Result GroupValue Assembly) → LeavesRebuilding work timestamp word meaning
  nothing_left meaning found is steps asked = stops_weaken reads.any_moment (λ image left. inl left)

  none_in : (found : Result GroupValue Assembly) (failure : Failure)
      → (◌≡◌ {A = Result GroupValue Failure} (Err failure) (group_or found)) ⊎ (◌≡◌ {A = Result GroupValue Failure} (Err failure) (Err Memory))
      → IsRebuiltIn work timestamp word found (Err failure)
  none_in (Ok group) failure answer = ⊎_elim
      (λ none. absurd cc)
      (λ memory. let same : Memory ≡ failure = cc in subst (λ (one : Failure). IsRebuiltOf work group timestamp word (Err one)) same reads)
      answer
  none_in (Err fault) failure answer = (
    ⊎_elim
        (λ none. let same : failure ≡ failure_of fault = cc in inl (ap (λ (one : Failure). Err one) same))
        (λ memory. let same : failure ≡ Memory = cc in inr (ap (λ (one : Failure). Err one) same))
        answer,
    reads,
  )

  no_along : (left : List Bool) (meaning : Result GroupValue Assembly) → GoesAlong work timestamp word left meaning false
  no_along left meaning found is steps asked group same past kept admitted = inl (refl, reads)

  -- There is no group, or memory ran out.
  pub none_come : (failure : Failure) → IsGroupRead work named (Err failure) → HasRebuiltArray work named timestamp word (Err failure)
  none_come failure read = record {
    linux = linux_found (group_of read.newest named);
    are_its = refl;
    taken = record {
      left = read.left;
      every_slot = read.every_slot;
      failed = read.failed;
      newest = read.newest;
      read = read.read;
      beside = λ told one is. reads_beside work.old work.new (slots_of one.seats) reads;
      keeps = λ told one is steps asked. reads_keep work.old work.new read.left one steps reads;
      unfailed = λ done. absurd cc;
    };
    gone = λ given. read.gone (λ spent. given (memory_told failure spent));
    gives = none_in (group_of read.newest named) failure read.answer;
    leaves = λ told. nothing_left (group_of read.newest named);
    along = λ told. no_along read.left (group_of read.newest named);
    costs = none_cost work timestamp word reads (group_of read.newest named);
  }

  -- It was refused, or memory ran out.
  pub unwritten_come : (group : GroupValue) (failure : Failure) → IsGroupRead work named (Ok group) → IsRebuiltOf work group timestamp word (Err failure)
      → HasRebuiltArray work named timestamp word (Err failure)
  unwritten_come group failure read is = record {
    linux = linux_found (group_of read.newest named);
    are_its = refl;
    taken = record {
      left = read.left;
      every_slot = read.every_slot;
      failed = read.failed;
      newest = read.newest;
      read = read.read;
      beside = λ told one is. reads_beside work.old work.new (slots_of one.seats) reads;
      keeps = λ told one is steps asked. reads_keep work.old work.new read.left one steps reads;
      unfailed = λ done. absurd cc;
    };
    gone = λ given. read.gone (λ spent. absurd cc);
    gives = subst (λ (one : Result GroupValue Assembly). IsRebuiltIn work timestamp word one (Err failure)) (sym (group_read work named group read)) is;
    leaves = λ told. nothing_left (group_of read.newest named);
    along = λ told. no_along read.left (group_of read.newest named);
    costs = none_cost work timestamp word reads (group_of read.newest named);
  }

  -- what it was refused for
  pub not_planned : (group : GroupValue) (failure : Failure) → MayPlan (config_recovered group) group.seats (linux_members group) word (Err failure) → IsRebuiltOf work group timestamp word (Err failure)
  not_planned group (Refused refusal) is = (ap (asked_by group timestamp) is, reads)
  not_planned group (Disk slot) is = absurd is
  not_planned group (Conflict i j sequence differ) is = absurd is
  not_planned group (Split i j) is = absurd is
  not_planned group Memory is = reads

  pub not_ready : (group : GroupValue) (failure : Failure) (answer : Result (List Step) GroupFault) → steps_asked group timestamp (rebuild_request word (linux_members group)) ≡ steps_or answer → IsNotReadied answer failure
      → IsRebuiltOf work group timestamp word (Err failure)
  not_ready group (Refused refusal) answer same is = (same ∙ is, reads)
  not_ready group (Disk slot) answer same is = absurd is
  not_ready group (Conflict i j sequence differ) answer same is = absurd is
  not_ready group (Split i j) answer same is = absurd is
  not_ready group Memory answer same is = reads

-- ---- a group was read, and the rebuild ran

module _ {D : Type 0} (tells : Type 0) (entry start new : BayState D) (reads : ReadsOnly entry start) (reads_rise : (slot : ℕ) → entry.failed_reads slot ≤ start.failed_reads slot)
    (writes_rise : (slot : ℕ) → entry.failed_writes slot ≤ start.failed_writes slot) (named : Option (List ℕ)) (timestamp : ℕ) (word : List ℕ) (group : GroupValue) (outcome : Result ℕ Failure)
    (read : IsGroupRead (work_of tells entry start) named (Ok group)) (has : HasRun tells entry start new group timestamp word outcome)
    (paid : CostsOf (work_of tells entry new) timestamp word (Ok group)) (unfailed : OnOk outcome (new.failed_writes ≡ start.failed_writes)) where
  abbrev work : Work D
  work = work_of tells entry new

  is_group : group_of read.newest named ≡ Ok group
  is_group = group_read (work_of tells entry start) named group read

  newest_still : (slot : ℕ) (left : List Bool) → newest_from start slot left ≡ newest_from entry slot left
  newest_still slot [] = refl
  newest_still slot (out ∷ left) = rw (reads.same_sizes, reads.same_held, newest_still (suc slot) left) refl

  found_by : tells → IsFoundBy start read.left named group
  found_by told = record {
    every_slot = rw reads.same_sizes read.every_slot;
    is_found = subst (λ (newest : List (Option Newest)). group_of newest named ≡ Ok group) (sym (newest_still 0 read.left))
        (subst (λ (newest : List (Option Newest)). group_of newest named ≡ Ok group) (read.read told) is_group);
  }

  -- what is said of the group that was read is said of any that was found
  of_found : (P : GroupValue → Type 0) → P group → (found : GroupValue) → group_of read.newest named ≡ Ok found → P found
  of_found P is found found_is = subst P (found_same group found (sym is_group ∙ found_is)) is

  asked_same : (steps : List Step) → steps_asked group timestamp (rebuild_request word (linux_members group)) ≡ Ok steps → has.steps ≡ steps
  asked_same steps asked = steps_same has.steps steps (sym has.are_asked ∙ asked)

  pub come : HasRebuiltArray work named timestamp word outcome
  come = record {
    linux = linux_members group;
    are_its = sym (ap linux_found is_group);
    taken = record {
      left = read.left;
      every_slot = read.every_slot;
      failed = λ slot below out. look_still entry start new slot (reads_rise slot) (has.goes.reads_rise slot) (writes_rise slot) (has.goes.writes_rise slot) (read.failed slot below out);
      newest = read.newest;
      read = read.read;
      beside = λ told. of_found (λ found. LeavesOthers entry new (slots_of found.seats)) (has.beside told);
      keeps = λ told. of_found (λ found. (steps : List Step) → steps_asked found timestamp (rebuild_request word (linux_members group)) ≡ Ok steps → KeepsHistories entry new read.left found steps (is_done outcome))
          (λ steps asked. subst (λ (all : List Step). KeepsHistories entry new read.left group all (is_done outcome)) (asked_same steps asked) (has.keeps told read.left named (found_by told)));
      unfailed = λ done slot below kept. ap (λ (counts : ℕ → ℕ). counts slot) (where_done outcome unfailed done) ∙ unsynced_in (work_of tells entry start) named (Ok group) read slot below kept;
    };
    gone = λ given. read.gone (λ spent. absurd cc);
    gives = subst (λ (one : Result GroupValue Assembly). IsRebuiltIn work timestamp word one outcome) (sym is_group) has.gives;
    leaves = λ told. of_found (λ found. (steps : List Step) → steps_asked found timestamp (rebuild_request word (linux_members found)) ≡ Ok steps → StopsLeave entry new (MayBeLeft work found timestamp word steps))
        (λ steps asked. subst (λ (all : List Step). StopsLeave entry new (MayBeLeft work group timestamp word all)) (asked_same steps asked) (has.leaves told));
    along = λ told. of_found (λ found. (steps : List Step) → steps_asked found timestamp (rebuild_request word (linux_members found)) ≡ Ok steps → (own : List ℕ) → found.config.group ≡ own → (past : Past (groups own))
        → AreAllKept own past entry → IsAdmitted own past entry read.left found
        → ((is_done outcome ≡ false) × ReadsOnly entry new) ⊎ IsIdle found timestamp word ⊎ ((plan : IsPlanned found timestamp word) × ComesAlong own work past read.left found plan (is_done outcome)))
        (λ steps asked own same past kept admitted. inr (has.along told read.left named (found_by told) own same past kept admitted));
    costs = subst (λ (meaning : Result GroupValue Assembly). CostsOf work timestamp word meaning) (sym is_group) paid;
  }
