-- What a command over the blocks of an array comes to, since its entry: its group is read before.
use Rattle.std.proofs.Common.{◌≡◌, ◌⊎◌, ℕ, suc, ◌≤◌, Bool, true, false, List, [], ◌∷◌, Option, Result, Ok, Err, refl, sym, ap, subst, ◌∙◌, inl, inr, ⊎_elim}
use Rattle.std.specs.Prelude.{OnOk}
use Rattle.ddf_bay.specs.Moments.{StopsLeave}
use Rattle.ddf_bay.specs.ReadsOnly.{ReadsOnly}
use Rattle.ddf_bay.specs.Sectors.{Image, IsLeft}
use Rattle.ddf_bay.specs.State.{BayState}
use Rattle.ddf_bay.proofs.Looks.{reads_then}
use Rattle.ddf_bay.proofs.Steps.{left_keeps, stops_then, stops_weaken, rose_since}
use Rattle.ddf_plan.specs.declared.change.Change.{Change}
use Rattle.ddf_array.specs.Volume.{Volume}
use Rattle.ddf_read.specs.Reading.{Failed}
use Rattle.ddf_cells.specs.Touching.{GoesBetween}
use Rattle.ddf_copy.specs.declared.newest_copy.Newest.{Newest}
use Rattle.ddf_group.specs.declared.answer.Assembly.{Assembly}
use Rattle.ddf_steps.specs.Committed.{slots_of}
use Rattle.ddf_seats.specs.Group.{GroupValue}
use Rattle.ddf_assembly.specs.Group.{group_of}
use Rattle.ddf_seats.specs.declared.fault.GroupFault.{GroupFault}
use Rattle.ddf_recovery.specs.Recovery.{config_recovered}
use Rattle.ddf_assembly.specs.Slots.{AreOut, newest_from}
use Rattle.ddf_steps.specs.Steps.{Step}
use Rattle.ddf_history.specs.Groups.{groups}
use Rattle.ddf_history.specs.Issued.{Past}
use Rattle.ddf_history.specs.Promise.{IsKept}
use Rattle.ddf_history.specs.Scenes.{scene_of}
use Rattle.ddf_history_steps.specs.Kept.{AreAllKept}
use Rattle.ddf_answer.specs.declared.failure.Failure.{Failure}
use Rattle.ddf_answer.specs.declared.failure.Failure.TheVariants.{Conflict, Disk, Memory, Refused, Split}
use Rattle.ddf_answer.specs.Answers.{failure_of}
use Rattle.ddf_answer.specs.Call.{Work, work_of}
use Rattle.ddf_answer.proofs.Rises.{look_still}
use Rattle.ddf_group_commands.specs.Change.{KeepsHistories, Request, TakesGroup, is_done, steps_asked, steps_of, steps_or}
use Rattle.ddf_group_commands.specs.GroupRead.{IsFoundBy, IsGroupRead, group_or}
use Rattle.ddf_group_commands.specs.Others.{LeavesOthers}
use Rattle.ddf_group_commands.specs.Written.{AreWritten}
use Rattle.ddf_group_commands.proofs.Beside.{beside_since, reads_beside}
use Rattle.ddf_group_commands.proofs.Keeping.{reads_keep, since_entry}
use Rattle.ddf_group_commands.proofs.Outcomes.{group_read, memory_told, unsynced_in, where_done, found_same}
use Rattle.ddf_write_commands.specs.Along.{AllComeAlong, ComesAlong, GoesAlong, HasCome, IsAlong, IsLeftAt, Stage}
use Rattle.ddf_write_commands.specs.Along.Stage.{Closing, Done, Opening, Working}
use Rattle.ddf_write_commands.specs.Costs.{CostsOfDoing, CostsOfPlan}
use Rattle.ddf_write_commands.specs.Doing.{Doing}
use Rattle.ddf_write_commands.specs.Holding.{holding}
use Rattle.ddf_write_commands.specs.Planned.{Entry, IsPlanned, Refusing, request_around}
use Rattle.ddf_write_commands.specs.Plans.{IsNotReadied, MayPlan}
use Rattle.ddf_write_commands.specs.Worked.{HasBegun, IsArrayLeft, IsLeftClosing, IsLeftDoing, IsLeftWorking, IsWorkedIn, IsWorkedOf, LeavesDoing}
use Rattle.ddf_write_commands.proofs.Costs.{unwritten_costs, plan_since}
use Rattle.ddf_write_commands.proofs.Works.{IsSteady}
use Rattle.ddf_history_steps.proofs.Entering.{admitted_still, kept_still}
use Rattle.ddf_group_commands.proofs.LeftWriting.{left_still, writing_more, writing_since}

-- ---- what the command promises of a group that was read

-- What the calls between the steps promise, with the request that they are of.
pub record HasDoneArray {D : Type 0} (doing : Doing) (tells : Type 0) (middle new : BayState D) (group : GroupValue) (timestamp : ℕ) (word : List ℕ) (request : Request) (outcome : Result ℕ Failure) : Type 0 where
  pub worked : IsWorkedOf doing (work_of tells middle new) group timestamp word request outcome
  pub leaves : tells → StopsLeave middle new (IsLeftDoing doing (work_of tells middle new) group timestamp word request)
  pub beside : tells → LeavesOthers middle new (slots_of group.seats)
  pub keeps : tells → (left : List Bool) (named : Option (List ℕ)) → IsFoundBy middle left named group → (steps : List Step) → steps_of group timestamp request ≡ Ok steps
      → KeepsHistories middle new left group steps (is_done outcome)
  pub along : tells → (left : List Bool) (named : Option (List ℕ)) → IsFoundBy middle left named group → AllComeAlong doing (work_of tells middle new) left group timestamp word request (is_done outcome)
  pub unfailed : OnOk outcome (new.failed_writes ≡ middle.failed_writes)
  pub goes : GoesBetween middle new
  pub costs : CostsOfPlan doing (work_of tells middle new) group timestamp word request

-- The same without what came of the work.
pub record HaveBeenMade {D : Type 0} (doing : Doing) (tells : Type 0) (middle new : BayState D) (group : GroupValue) (timestamp : ℕ) (word : List ℕ) (request : Request) (done : Bool) : Type 0 where
  pub leaves : tells → StopsLeave middle new (IsLeftDoing doing (work_of tells middle new) group timestamp word request)
  pub beside : tells → LeavesOthers middle new (slots_of group.seats)
  pub keeps : tells → (left : List Bool) (named : Option (List ℕ)) → IsFoundBy middle left named group → (steps : List Step) → steps_of group timestamp request ≡ Ok steps
      → KeepsHistories middle new left group steps done
  pub along : tells → (left : List Bool) (named : Option (List ℕ)) → IsFoundBy middle left named group → AllComeAlong doing (work_of tells middle new) left group timestamp word request done
  pub unfailed : done ≡ true → new.failed_writes ≡ middle.failed_writes
  pub goes : GoesBetween middle new
  pub costs : CostsOfPlan doing (work_of tells middle new) group timestamp word request

-- What they promise since the entry of the command.
pub record HaveSince {D : Type 0} (doing : Doing) (work : Work D) (named : Option (List ℕ)) (timestamp : ℕ) (word : List ℕ) (request : Request) (group : GroupValue) (done : Bool) : Type 0 where
  pub taken : TakesGroup work named timestamp request done
  pub is_group : group_of taken.newest named ≡ Ok group
  pub gone : AreOut work.old taken.left
  pub leaves : work.tells → LeavesDoing doing work timestamp word request (group_of taken.newest named)
  pub along : work.tells → GoesAlong doing work taken.left timestamp word request done (group_of taken.newest named)
  pub costs : CostsOfDoing doing work timestamp word request (group_of taken.newest named)

-- A command came to this: what it made of the group that it took.
pub record HasComeTo {D : Type 0} (doing : Doing) (work : Work D) (named : Option (List ℕ)) (timestamp : ℕ) (word : List ℕ) (request : Request) (outcome : Result ℕ Failure) : Type 0 where
  pub taken : TakesGroup work named timestamp request (is_done outcome)
  pub gone : (outcome ≡ Err Memory → ⊥) → AreOut work.old taken.left
  pub gives : IsWorkedIn doing work timestamp word request (group_of taken.newest named) outcome
  pub leaves : work.tells → LeavesDoing doing work timestamp word request (group_of taken.newest named)
  pub along : work.tells → GoesAlong doing work taken.left timestamp word request (is_done outcome) (group_of taken.newest named)
  pub costs : CostsOfDoing doing work timestamp word request (group_of taken.newest named)

-- What reads leave is what might have been left before.
reads_left : {D : Type 0} (old new : BayState D) (P : Image → Type 0) → ReadsOnly old new → StopsLeave old new (λ image. IsLeft old.may_hold image ⊎ P image)
reads_left old new P reads = stops_weaken reads.any_moment (λ image left. inl left)

-- ---- nothing was done

module _ {D : Type 0} (doing : Doing) (work : Work D) (named : Option (List ℕ)) (timestamp : ℕ) (word : List ℕ) (request : Request) (reads : ReadsOnly work.old work.new) where
  nothing_left : (meaning : Result GroupValue Assembly) → LeavesDoing doing work timestamp word request meaning
  nothing_left meaning found is steps asked = reads_left work.old work.new (IsLeftDoing doing work found timestamp word request) reads

  -- The histories stay as they are.
  pub none_along : (left : List Bool) (meaning : Result GroupValue Assembly) → GoesAlong doing work left timestamp word request false meaning
  none_along left meaning found is plan group same past kept admitted = record {
    any_moment = stops_weaken reads.any_moment
        (λ image was. record { stage = Opening; now = past; has_come = inl refl; is_left = left_still work.old plan.first image was; is_kept = kept image was });
    ends = λ tells_left. record {
      stage = Opening;
      now = past;
      has_come = inl refl;
      is_over = λ e. absurd cc;
      is_left = λ image left. left_still work.old plan.first image (left_keeps work.old.may_hold work.new.may_hold image reads.keeps left);
      all_kept = λ image left. rw reads.same_sizes (kept image (left_keeps work.old.may_hold work.new.may_hold image reads.keeps left));
    };
  }

  none_in : (found : Result GroupValue Assembly) (failure : Failure)
      → (◌≡◌ {A = Result GroupValue Failure} (Err failure) (group_or found)) ⊎ (◌≡◌ {A = Result GroupValue Failure} (Err failure) (Err Memory))
      → IsWorkedIn doing work timestamp word request found (Err failure)
  none_in (Ok group) failure answer = ⊎_elim
      (λ none. absurd cc)
      (λ memory. let same : Memory ≡ failure = cc in subst (λ (one : Failure). IsWorkedOf doing work group timestamp word request (Err one)) same reads)
      answer
  none_in (Err fault) failure answer = (
    ⊎_elim
        (λ none. let same : failure ≡ failure_of fault = cc in inl (ap (λ (one : Failure). Err one) same))
        (λ memory. let same : failure ≡ Memory = cc in inr (ap (λ (one : Failure). Err one) same))
        answer,
    reads,
  )

  -- There is no group, or memory ran out.
  pub none_come : (failure : Failure) → IsGroupRead work named (Err failure) → HasComeTo doing work named timestamp word request (Err failure)
  none_come failure read = record {
    taken = record {
      left = read.left;
      every_slot = read.every_slot;
      failed = read.failed;
      newest = read.newest;
      read = read.read;
      beside = λ told one is. reads_beside work.old work.new (slots_of one.seats) reads;
      keeps = λ told one is steps asked. reads_keep work.old work.new read.left one steps reads;
      unfailed = λ done. absurd cc;
    };
    gone = λ given. read.gone (λ spent. given (memory_told failure spent));
    gives = none_in (group_of read.newest named) failure read.answer;
    leaves = λ told. nothing_left (group_of read.newest named);
    along = λ told. none_along read.left (group_of read.newest named);
    costs = unwritten_costs doing work timestamp word request reads (group_of read.newest named);
  }

  -- It was refused, or memory ran out.
  pub unwritten_come : (group : GroupValue) (failure : Failure) → IsGroupRead work named (Ok group) → IsWorkedOf doing work group timestamp word request (Err failure)
      → HasComeTo doing work named timestamp word request (Err failure)
  unwritten_come group failure read is = record {
    taken = record {
      left = read.left;
      every_slot = read.every_slot;
      failed = read.failed;
      newest = read.newest;
      read = read.read;
      beside = λ told one is. reads_beside work.old work.new (slots_of one.seats) reads;
      keeps = λ told one is steps asked. reads_keep work.old work.new read.left one steps reads;
      unfailed = λ done. absurd cc;
    };
    gone = λ given. read.gone (λ spent. absurd cc);
    gives = subst (λ (one : Result GroupValue Assembly). IsWorkedIn doing work timestamp word request one (Err failure)) (sym (group_read work named group read)) is;
    leaves = λ told. nothing_left (group_of read.newest named);
    along = λ told. none_along read.left (group_of read.newest named);
    costs = unwritten_costs doing work timestamp word request reads (group_of read.newest named);
  }

  -- what it was refused for
  pub not_planned : (refusing : Refusing) (behind : Entry → List Change) (group : GroupValue) (failure : Failure) → request ≡ request_around refusing behind word
      → MayPlan refusing behind (config_recovered group) group.seats word (Err failure) → IsWorkedOf doing work group timestamp word request (Err failure)
  not_planned refusing behind group (Refused refusal) same is =
      (ap (λ (asks : Request). steps_of group timestamp asks) same ∙ ap (steps_asked group timestamp) is, reads)
  not_planned refusing behind group (Disk slot) same is = absurd is
  not_planned refusing behind group (Conflict i j sequence differ) same is = absurd is
  not_planned refusing behind group (Split i j) same is = absurd is
  not_planned refusing behind group Memory same is = reads

  pub not_ready : (group : GroupValue) (failure : Failure) (answer : Result (List Step) GroupFault) → steps_of group timestamp request ≡ steps_or answer → IsNotReadied answer failure
      → IsWorkedOf doing work group timestamp word request (Err failure)
  not_ready group (Refused refusal) answer same is = (same ∙ is, reads)
  not_ready group (Disk slot) answer same is = absurd is
  not_ready group (Conflict i j sequence differ) answer same is = absurd is
  not_ready group (Split i j) answer same is = absurd is
  not_ready group Memory answer same is = reads

-- ---- since the entry

module _ {D : Type 0} (tells : Type 0) (doing : Doing) (steady : IsSteady doing) (old middle new : BayState D) (reads : ReadsOnly old middle)
    (reads_rise : (slot : ℕ) → old.failed_reads slot ≤ middle.failed_reads slot) (writes_rise : (slot : ℕ) → old.failed_writes slot ≤ middle.failed_writes slot) where
  more : (slot : ℕ) → Failed middle new slot → Failed old new slot
  more slot failed = rose_since (old.failed_reads slot) (middle.failed_reads slot) (new.failed_reads slot) (reads_rise slot) failed

  held_more : (slots : List ℕ) (image : Image) (s l : ℕ) (bytes : List ℕ) → (holding middle slots image).may_hold s l bytes → (holding old slots image).may_hold s l bytes
  held_more slots image s l bytes left = ⊎_elim inl (λ other. inr (other.0, reads.keeps s l bytes other.1)) left

  written_since : (steps : List Step) (image : Image) → AreWritten middle.sizes middle.held steps image → AreWritten old.sizes old.held steps image
  written_since steps image written = rw (reads.same_sizes, reads.same_held) at written

  begun_since : (first : List Step) (volume : Volume) → ReadsOnly middle new ⊎ (tells → HasBegun doing (work_of tells middle new) first volume) → ReadsOnly old new ⊎ (tells → HasBegun doing (work_of tells old new) first volume)
  begun_since first volume (inl only) = inl (reads_then reads only)
  begun_since first volume (inr begun) = inr (λ told. let all = begun told in (all.0, written_since first all.0 all.1, all.2))

  -- what came of a group that was read before
  pub worked_since : (group : GroupValue) (timestamp : ℕ) (word : List ℕ) (request : Request) (outcome : Result ℕ Failure) → IsWorkedOf doing (work_of tells middle new) group timestamp word request outcome
      → IsWorkedOf doing (work_of tells old new) group timestamp word request outcome
  worked_since group timestamp word request (Ok sequence) is = record {
    plan = is.plan;
    is_last = is.is_last;
    done = λ told. let all = is.done told in record {
      before = all.before;
      behind = all.behind;
      first_written = written_since is.plan.first all.before all.first_written;
      has_done = steady.more_done (Failed middle new) (Failed old new) more is.plan.volume all.before all.behind all.has_done;
      is_left = all.is_left;
      last_written = rw reads.same_sizes at all.last_written;
      are_sectors = all.are_sectors;
      are_settled = all.are_settled;
    };
  }
  worked_since group timestamp word request (Err (Refused refusal)) is = (is.0, reads_then reads is.1)
  worked_since group timestamp word request (Err (Disk slot)) is = record {
    plan = is.plan;
    is_seat = is.is_seat;
    there = rw reads.same_sizes at is.there;
    stopped = ⊎_elim (λ rose. inl (rose_since (old.failed_writes slot) (middle.failed_writes slot) (new.failed_writes slot) (writes_rise slot) rose))
        (λ none. inr (steady.more_left (Failed middle new) (Failed old new) more is.plan.volume slot none.0, begun_since is.plan.first is.plan.volume none.1)) is.stopped;
  }
  worked_since group timestamp word request (Err Memory) is = reads_then reads is
  worked_since group timestamp word request (Err (Conflict i j sequence differ)) is = absurd is
  worked_since group timestamp word request (Err (Split i j)) is = absurd is

  pub array_left_since : (group : GroupValue) (timestamp : ℕ) (word : List ℕ) (request : Request) → IsArrayLeft doing (work_of tells middle new) group timestamp word request
      → IsArrayLeft doing (work_of tells old new) group timestamp word request
  array_left_since group timestamp word request is = record {
    plan = is.plan;
    left = λ told. let all = is.left told in (
      all.0,
      written_since is.plan.first all.0 all.1,
      steady.more_done (Failed middle new) (Failed old new) more is.plan.volume all.0 new.held all.2,
      all.3,
    );
  }

  module _ (group : GroupValue) (first : List Step) (volume : Volume) (image : Image) where
    working_since : IsLeftWorking doing (work_of tells middle new) group first volume image → IsLeftWorking doing (work_of tells old new) group first volume image
    working_since way = record {
      before = way.before;
      first_written = written_since first way.before way.first_written;
      is_among = steady.among_more volume way.before (holding middle (slots_of group.seats) way.before).may_hold (holding old (slots_of group.seats) way.before).may_hold
          (held_more (slots_of group.seats) way.before) image way.is_among;
    }

    closing_since : (last : List Step) → IsLeftClosing doing (work_of tells middle new) group first last volume image → IsLeftClosing doing (work_of tells old new) group first last volume image
    closing_since last way = record {
      before = way.before;
      behind = way.behind;
      first_written = written_since first way.before way.first_written;
      has_done = steady.more_done (Failed middle new) (Failed old new) more volume way.before way.behind way.has_done;
      is_left = way.is_left;
      are_sectors = way.are_sectors;
      is_writing = writing_more (holding middle (slots_of group.seats) way.behind) (holding old (slots_of group.seats) way.behind) reads.same_sizes (held_more (slots_of group.seats) way.behind) last image way.is_writing;
    }

  -- and what a stop left
  pub left_since : (group : GroupValue) (timestamp : ℕ) (word : List ℕ) (request : Request) (image : Image) → IsLeftDoing doing (work_of tells middle new) group timestamp word request image
      → IsLeftDoing doing (work_of tells old new) group timestamp word request image
  left_since group timestamp word request image is = record {
    plan = is.plan;
    is_left = elim is.is_left [
      | inl first ↦ inl (writing_since old middle reads is.plan.first image first)
      | inr (inl way) ↦ inr (inl (working_since group is.plan.first is.plan.volume image way))
      | inr (inr last) ↦ inr (inr (closing_since group is.plan.first is.plan.volume image is.plan.last last))
    ];
  }

  -- and how far its history came
  module _ (guid : List ℕ) (past : Past (groups guid)) (left : List Bool) (group : GroupValue) (timestamp : ℕ) (word : List ℕ) (request : Request) (plan : IsPlanned group timestamp word request) where
    come_still : (stage : Stage) (now : Past (groups guid)) → HasCome guid doing (work_of tells middle new) past left group plan stage now → HasCome guid doing (work_of tells old new) past left group plan stage now
    come_still Opening now come = come
    come_still Working now come = come
    come_still Closing now come = come
    come_still Done now come = come

    stage_since : (stage : Stage) (image : Image) → IsLeftAt guid doing (work_of tells middle new) past left group plan stage image → IsLeftAt guid doing (work_of tells old new) past left group plan stage image
    stage_since Opening image is = writing_since old middle reads plan.first image is
    stage_since Working image is = working_since group plan.first plan.volume image is
    stage_since Closing image is = closing_since group plan.first plan.volume image plan.last is
    stage_since Done image is = closing_since group plan.first plan.volume image plan.last is

    first_along : AreAllKept guid past old → (image : Image) → IsLeft old.may_hold image → IsAlong guid doing (work_of tells old new) past left group plan image
    first_along kept image was = record { stage = Opening; now = past; has_come = inl refl; is_left = left_still old plan.first image was; is_kept = kept image was }

    pub along_since : (done : Bool) → AreAllKept guid past old → ComesAlong guid doing (work_of tells middle new) past left group plan done → ComesAlong guid doing (work_of tells old new) past left group plan done
    along_since done kept along = record {
      any_moment = stops_then (stops_weaken reads.any_moment (first_along kept)) along.any_moment (λ image is. record {
        stage = is.stage;
        now = is.now;
        has_come = come_still is.stage is.now is.has_come;
        is_left = stage_since is.stage image is.is_left;
        is_kept = subst (λ (sizes : List ℕ). IsKept is.now (scene_of sizes image)) reads.same_sizes is.is_kept;
      });
      ends = λ tells_left. let end = along.ends tells_left in record {
        stage = end.stage;
        now = end.now;
        has_come = come_still end.stage end.now end.has_come;
        is_over = end.is_over;
        is_left = λ image is_left. stage_since end.stage image (end.is_left image is_left);
        all_kept = end.all_kept;
      };
    }

  module _ (named : Option (List ℕ)) (timestamp : ℕ) (word : List ℕ) (request : Request) (group : GroupValue) (read : IsGroupRead (work_of tells old middle) named (Ok group)) where
    is_group : group_of read.newest named ≡ Ok group
    is_group = group_read (work_of tells old middle) named group read

    newest_still : (slot : ℕ) (left : List Bool) → newest_from middle slot left ≡ newest_from old slot left
    newest_still slot [] = refl
    newest_still slot (out ∷ left) = rw (reads.same_sizes, reads.same_held, newest_still (suc slot) left) refl

    found_still : tells → group_of (newest_from middle 0 read.left) named ≡ Ok group
    found_still told =
        subst (λ (newest : List (Option Newest)). group_of newest named ≡ Ok group) (sym (newest_still 0 read.left))
        (subst (λ (newest : List (Option Newest)). group_of newest named ≡ Ok group) (read.read told) is_group)

    found_by : tells → IsFoundBy middle read.left named group
    found_by told = record { every_slot = rw reads.same_sizes read.every_slot; is_found = found_still told }

    -- What the calls promise holds since its entry.
    pub made_since : (done : Bool) → HaveBeenMade doing tells middle new group timestamp word request done → HaveSince doing (work_of tells old new) named timestamp word request group done
    made_since done has = record {
      taken = record {
        left = read.left;
        every_slot = read.every_slot;
        failed = λ slot below out. look_still old middle new slot (reads_rise slot) (has.goes.reads_rise slot) (writes_rise slot) (has.goes.writes_rise slot) (read.failed slot below out);
        newest = read.newest;
        read = read.read;
        beside = λ told found is_found.
            subst (λ (one : GroupValue). LeavesOthers old new (slots_of one.seats)) (found_same group found (sym is_group ∙ is_found)) (beside_since old middle new (slots_of group.seats) reads (has.beside told));
        keeps = λ told found is_found steps asked.
            let same = found_same group found (sym is_group ∙ is_found) in
            subst (λ (one : GroupValue). steps_of one timestamp request ≡ Ok steps → KeepsHistories old new read.left one steps done) same
            (λ now_asked. since_entry old middle new read.left group steps done reads (has.keeps told read.left named (found_by told) steps now_asked))
            asked;
        unfailed = λ is slot below kept. ap (λ (counts : ℕ → ℕ). counts slot) (has.unfailed is) ∙ unsynced_in (work_of tells old middle) named (Ok group) read slot below kept;
      };
      is_group = is_group;
      gone = read.gone (λ spent. absurd cc);
      leaves = λ told found is_found steps asked.
          subst (λ (one : GroupValue). StopsLeave old new (λ image. IsLeft old.may_hold image ⊎ IsLeftDoing doing (work_of tells old new) one timestamp word request image))
          (found_same group found (sym is_group ∙ is_found))
          (stops_then (reads_left old middle (IsLeftDoing doing (work_of tells old new) group timestamp word request) reads) (has.leaves told)
          (λ image left. inr (left_since group timestamp word request image left)));
      along = λ told found is_found.
          subst (λ (one : GroupValue). AllComeAlong doing (work_of tells old new) read.left one timestamp word request done) (found_same group found (sym is_group ∙ is_found))
          (λ plan guid same past kept admitted.
          along_since guid past read.left group timestamp word request plan done kept
          (has.along told read.left named (found_by told) plan guid same past (kept_still guid past old middle reads kept)
          (admitted_still guid past old middle reads read.left group admitted)));
      costs = subst (λ (one : Result GroupValue Assembly). CostsOfDoing doing (work_of tells old new) timestamp word request one) (sym is_group)
          (inr (plan_since doing tells old middle new group timestamp word request reads has.costs));
    }

    module _ (outcome : Result ℕ Failure) (has : HasDoneArray doing tells middle new group timestamp word request outcome) where
      since : HaveSince doing (work_of tells old new) named timestamp word request group (is_done outcome)
      since = made_since (is_done outcome) (record { leaves = has.leaves; beside = has.beside; keeps = has.keeps; along = has.along; unfailed = where_done outcome has.unfailed; goes = has.goes; costs = has.costs })

      -- It came to this since its entry.
      pub come_since : HasComeTo doing (work_of tells old new) named timestamp word request outcome
      come_since = record {
        taken = since.taken;
        gone = λ given. since.gone;
        gives = subst (λ (one : Result GroupValue Assembly). IsWorkedIn doing (work_of tells old new) timestamp word request one outcome) (sym since.is_group)
            (worked_since group timestamp word request outcome has.worked);
        leaves = since.leaves;
        along = since.along;
        costs = since.costs;
      }

      -- and of which group
      pub found_since : group_of come_since.taken.newest named ≡ Ok group
      unfolding come_since
      found_since = since.is_group
