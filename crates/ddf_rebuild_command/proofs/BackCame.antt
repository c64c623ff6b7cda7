-- What a copyback comes to since the entry of its call.
use Rattle.std.proofs.Common.{◌≡◌, ◌⊎◌, ℕ, suc, ◌≤◌, Bool, false, List, [], ◌∷◌, length, Option, Result, Ok, Err, refl, sym, ap, subst, ◌∙◌, inl, inr, ⊎_elim}
use Rattle.std.specs.Prelude.{OnOk}
use Rattle.ddf_bay.specs.Moments.{StopsLeave}
use Rattle.ddf_bay.specs.ReadsOnly.{ReadsOnly}
use Rattle.ddf_bay.specs.Sectors.{IsLeft}
use Rattle.ddf_bay.specs.State.{BayState}
use Rattle.ddf_bay.proofs.Steps.{stops_weaken}
use Rattle.ddf_cells.specs.Touching.{GoesBetween}
use Rattle.ddf_copy.specs.declared.newest_copy.Newest.{Newest}
use Rattle.ddf_group.specs.declared.answer.Assembly.{Assembly}
use Rattle.ddf_history.specs.Groups.{groups}
use Rattle.ddf_history.specs.Issued.{Past}
use Rattle.ddf_steps.specs.Committed.{slots_of}
use Rattle.ddf_seats.specs.Group.{GroupValue}
use Rattle.ddf_assembly.specs.Group.{group_of}
use Rattle.ddf_recovery.specs.Recovery.{config_recovered}
use Rattle.ddf_seats.specs.declared.fault.GroupFault.{GroupFault}
use Rattle.ddf_assembly.specs.Slots.{newest_from}
use Rattle.ddf_steps.specs.Steps.{Step}
use Rattle.ddf_history_steps.specs.Going.{IsAdmitted}
use Rattle.ddf_history_steps.specs.Kept.{AreAllKept}
use Rattle.ddf_answer.specs.declared.failure.Failure.{Failure}
use Rattle.ddf_answer.specs.declared.failure.Failure.TheVariants.{Conflict, Disk, Memory, Refused, Split}
use Rattle.ddf_answer.specs.Answers.{failure_of}
use Rattle.ddf_answer.specs.Call.{Work, work_of}
use Rattle.ddf_answer.proofs.Rises.{look_still}
use Rattle.ddf_group_commands.specs.Change.{KeepsHistories, is_done, steps_asked as asked_by, steps_of as steps_asked, steps_or}
use Rattle.ddf_group_commands.specs.GroupRead.{IsFoundBy, IsGroupRead, group_or}
use Rattle.ddf_group_commands.specs.Others.{LeavesOthers}
use Rattle.ddf_group_commands.specs.Requests.{linux_found, linux_members}
use Rattle.ddf_group_commands.proofs.Beside.{reads_beside}
use Rattle.ddf_group_commands.proofs.Keeping.{reads_keep}
use Rattle.ddf_group_commands.proofs.Outcomes.{group_read, memory_told, unsynced_in, where_done, found_same}
use Rattle.ddf_write_commands.specs.Plans.{IsNotReadied}
use Rattle.ddf_rebuild_command.specs.BackAlong.{ComesAlongBack}
use Rattle.ddf_rebuild_command.specs.GoingBack.{copyback_request}
use Rattle.ddf_rebuild_command.specs.BackPlanned.{IsBackPlanned, IsLeftGoingBack}
use Rattle.ddf_rebuild_command.specs.BackPlans.{MayGoBack}
use Rattle.ddf_rebuild_command.specs.CopiedBack.{CostsOfGoingBack, GoesAlongBack, HasCopiedBack, IsBackIn, IsBackOf, LeavesGoingBack}
use Rattle.ddf_rebuild_command.proofs.BackCosts.{none_cost_back}

-- What came of a group that was read, since the entry.
pub record HasRunBack {D : Type 0} (tells : Type 0) (entry start new : BayState D) (found : GroupValue) (timestamp : ℕ) (word : List ℕ) (slot : ℕ) (outcome : Result ℕ Failure) : Type 0 where
  pub steps : List Step
  pub are_asked : steps_asked found timestamp (copyback_request (length entry.sizes) word slot (linux_members found)) ≡ Ok steps
  pub goes : GoesBetween start new
  pub gives : IsBackOf (work_of tells entry new) found timestamp word slot outcome
  pub leaves : tells → StopsLeave entry new (λ image. IsLeft entry.may_hold image ⊎ IsLeftGoingBack (work_of tells entry new) found timestamp word slot image)
  pub beside : tells → LeavesOthers entry new (slots_of found.seats)
  pub keeps : tells → (left : List Bool) (named : Option (List ℕ)) → IsFoundBy start left named found → KeepsHistories entry new left found steps (is_done outcome)
  pub along : tells → (left : List Bool) (named : Option (List ℕ)) → IsFoundBy start left named found → (group : List ℕ) → found.config.group ≡ group → (past : Past (groups group)) → AreAllKept group past entry
      → IsAdmitted group past entry left found → (plan : IsBackPlanned entry.sizes found timestamp word slot) × ComesAlongBack group (work_of tells entry new) past left found plan (is_done outcome)

pub steps_same : (one other : List Step) → ◌≡◌ {A = Result (List Step) Failure} (Ok one) (Ok other) → one ≡ other
steps_same one other is = cc

-- ---- nothing was done

module _ {D : Type 0} (work : Work D) (named : Option (List ℕ)) (timestamp : ℕ) (word : List ℕ) (slot : ℕ) (reads : ReadsOnly work.old work.new) where
  nothing_left : (meaning : Result GroupValue Assembly) → LeavesGoingBack work timestamp word slot meaning
  nothing_left meaning found is steps asked = stops_weaken reads.any_moment (λ image left. inl left)

  none_in : (found : Result GroupValue Assembly) (failure : Failure)
      → (◌≡◌ {A = Result GroupValue Failure} (Err failure) (group_or found)) ⊎ (◌≡◌ {A = Result GroupValue Failure} (Err failure) (Err Memory))
      → IsBackIn work timestamp word slot found (Err failure)
  none_in (Ok group) failure answer = ⊎_elim
      (λ none. absurd cc)
      (λ memory. let same : Memory ≡ failure = cc in subst (λ (one : Failure). IsBackOf work group timestamp word slot (Err one)) same reads)
      answer
  none_in (Err fault) failure answer = (
    ⊎_elim
        (λ none. let same : failure ≡ failure_of fault = cc in inl (ap (λ (one : Failure). Err one) same))
        (λ memory. let same : failure ≡ Memory = cc in inr (ap (λ (one : Failure). Err one) same))
        answer,
    reads,
  )

  no_along : (left : List Bool) (meaning : Result GroupValue Assembly) → GoesAlongBack work timestamp word slot left meaning false
  no_along left meaning found is steps asked group same past kept admitted = inl (refl, reads)

  -- There is no group, or memory ran out.
  pub none_back : (failure : Failure) → IsGroupRead work named (Err failure) → HasCopiedBack work named timestamp word slot (Err failure)
  none_back failure read = record {
    linux = linux_found (group_of read.newest named);
    are_its = refl;
    taken = record {
      left = read.left;
      every_slot = read.every_slot;
      failed = read.failed;
      newest = read.newest;
      read = read.read;
      beside = λ told one is. reads_beside work.old work.new (slots_of one.seats) reads;
      keeps = λ told one is steps asked. reads_keep work.old work.new read.left one steps reads;
      unfailed = λ done. absurd cc;
    };
    gone = λ given. read.gone (λ spent. given (memory_told failure spent));
    gives = none_in (group_of read.newest named) failure read.answer;
    leaves = λ told. nothing_left (group_of read.newest named);
    along = λ told. no_along read.left (group_of read.newest named);
    costs = none_cost_back work timestamp word slot reads (group_of read.newest named);
  }

  -- It was refused, or memory ran out.
  pub unwritten_back : (group : GroupValue) (failure : Failure) → IsGroupRead work named (Ok group) → IsBackOf work group timestamp word slot (Err failure)
      → HasCopiedBack work named timestamp word slot (Err failure)
  unwritten_back group failure read is = record {
    linux = linux_found (group_of read.newest named);
    are_its = refl;
    taken = record {
      left = read.left;
      every_slot = read.every_slot;
      failed = read.failed;
      newest = read.newest;
      read = read.read;
      beside = λ told one is. reads_beside work.old work.new (slots_of one.seats) reads;
      keeps = λ told one is steps asked. reads_keep work.old work.new read.left one steps reads;
      unfailed = λ done. absurd cc;
    };
    gone = λ given. read.gone (λ spent. absurd cc);
    gives = subst (λ (one : Result GroupValue Assembly). IsBackIn work timestamp word slot one (Err failure)) (sym (group_read work named group read)) is;
    leaves = λ told. nothing_left (group_of read.newest named);
    along = λ told. no_along read.left (group_of read.newest named);
    costs = none_cost_back work timestamp word slot reads (group_of read.newest named);
  }

  -- what it was refused for
  pub not_planned_back : (group : GroupValue) (failure : Failure) → MayGoBack (length work.old.sizes) (config_recovered group) group.seats (linux_members group) word slot (Err failure) → IsBackOf work group timestamp word slot (Err failure)
  not_planned_back group (Refused refusal) is = (ap (asked_by group timestamp) is, reads)
  not_planned_back group (Disk other) is = absurd is
  not_planned_back group (Conflict i j sequence differ) is = absurd is
  not_planned_back group (Split i j) is = absurd is
  not_planned_back group Memory is = reads

  pub not_ready_back : (group : GroupValue) (failure : Failure) (answer : Result (List Step) GroupFault) → steps_asked group timestamp (copyback_request (length work.old.sizes) word slot (linux_members group)) ≡ steps_or answer → IsNotReadied answer failure
      → IsBackOf work group timestamp word slot (Err failure)
  not_ready_back group (Refused refusal) answer same is = (same ∙ is, reads)
  not_ready_back group (Disk other) answer same is = absurd is
  not_ready_back group (Conflict i j sequence differ) answer same is = absurd is
  not_ready_back group (Split i j) answer same is = absurd is
  not_ready_back group Memory answer same is = reads

-- ---- a group was read, and the copyback ran

module _ {D : Type 0} (tells : Type 0) (entry start new : BayState D) (reads : ReadsOnly entry start) (reads_rise : (slot : ℕ) → entry.failed_reads slot ≤ start.failed_reads slot)
    (writes_rise : (slot : ℕ) → entry.failed_writes slot ≤ start.failed_writes slot) (named : Option (List ℕ)) (timestamp : ℕ) (word : List ℕ) (slot : ℕ) (group : GroupValue) (outcome : Result ℕ Failure)
    (read : IsGroupRead (work_of tells entry start) named (Ok group)) (has : HasRunBack tells entry start new group timestamp word slot outcome)
    (paid : CostsOfGoingBack (work_of tells entry new) timestamp word slot (Ok group)) (unfailed : OnOk outcome (new.failed_writes ≡ start.failed_writes)) where
  abbrev work : Work D
  work = work_of tells entry new

  is_group : group_of read.newest named ≡ Ok group
  is_group = group_read (work_of tells entry start) named group read

  newest_still : (s : ℕ) (left : List Bool) → newest_from start s left ≡ newest_from entry s left
  newest_still s [] = refl
  newest_still s (out ∷ left) = rw (reads.same_sizes, reads.same_held, newest_still (suc s) left) refl

  found_by : tells → IsFoundBy start read.left named group
  found_by told = record {
    every_slot = rw reads.same_sizes read.every_slot;
    is_found = subst (λ (newest : List (Option Newest)). group_of newest named ≡ Ok group) (sym (newest_still 0 read.left))
        (subst (λ (newest : List (Option Newest)). group_of newest named ≡ Ok group) (read.read told) is_group);
  }

  -- what is said of the group that was read is said of any that was found
  of_found : (P : GroupValue → Type 0) → P group → (found : GroupValue) → group_of read.newest named ≡ Ok found → P found
  of_found P is found found_is = subst P (found_same group found (sym is_group ∙ found_is)) is

  asked_same : (steps : List Step) → steps_asked group timestamp (copyback_request (length entry.sizes) word slot (linux_members group)) ≡ Ok steps → has.steps ≡ steps
  asked_same steps asked = steps_same has.steps steps (sym has.are_asked ∙ asked)

  pub come_back : HasCopiedBack work named timestamp word slot outcome
  come_back = record {
    linux = linux_members group;
    are_its = sym (ap linux_found is_group);
    taken = record {
      left = read.left;
      every_slot = read.every_slot;
      failed = λ s below out. look_still entry start new s (reads_rise s) (has.goes.reads_rise s) (writes_rise s) (has.goes.writes_rise s) (read.failed s below out);
      newest = read.newest;
      read = read.read;
      beside = λ told. of_found (λ found. LeavesOthers entry new (slots_of found.seats)) (has.beside told);
      keeps = λ told. of_found (λ found. (steps : List Step) → steps_asked found timestamp (copyback_request (length entry.sizes) word slot (linux_members group)) ≡ Ok steps → KeepsHistories entry new read.left found steps (is_done outcome))
          (λ steps asked. subst (λ (all : List Step). KeepsHistories entry new read.left group all (is_done outcome)) (asked_same steps asked) (has.keeps told read.left named (found_by told)));
      unfailed = λ done s below kept. ap (λ (counts : ℕ → ℕ). counts s) (where_done outcome unfailed done) ∙ unsynced_in (work_of tells entry start) named (Ok group) read s below kept;
    };
    gone = λ given. read.gone (λ spent. absurd cc);
    gives = subst (λ (one : Result GroupValue Assembly). IsBackIn work timestamp word slot one outcome) (sym is_group) has.gives;
    leaves = λ told. of_found (λ found. (steps : List Step) → steps_asked found timestamp (copyback_request (length entry.sizes) word slot (linux_members found)) ≡ Ok steps → StopsLeave entry new (λ image. IsLeft entry.may_hold image ⊎ IsLeftGoingBack work found timestamp word slot image))
        (λ steps asked. has.leaves told);
    along = λ told. of_found (λ found. (steps : List Step) → steps_asked found timestamp (copyback_request (length entry.sizes) word slot (linux_members found)) ≡ Ok steps → (own : List ℕ) → found.config.group ≡ own → (past : Past (groups own))
        → AreAllKept own past entry → IsAdmitted own past entry read.left found
        → ((is_done outcome ≡ false) × ReadsOnly entry new) ⊎ ((plan : IsBackPlanned entry.sizes found timestamp word slot) × ComesAlongBack own work past read.left found plan (is_done outcome)))
        (λ steps asked own same past kept admitted. inr (has.along told read.left named (found_by told) own same past kept admitted));
    costs = subst (λ (meaning : Result GroupValue Assembly). CostsOfGoingBack work timestamp word slot meaning) (sym is_group) paid;
  }
