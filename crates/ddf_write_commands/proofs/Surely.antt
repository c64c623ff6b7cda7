-- A write between the steps of a group whose parity is right where what was kept of what lies beside it are its values: these are, where they are sure.
use Rattle.std.proofs.Common.{inl, inr, ⊎_elim, ℕ, Bool, List, Result, Ok, Err}
use Rattle.ddf_bay.specs.Sectors.{Image}
use Rattle.ddf_bay.specs.State.{BayState}
use Rattle.ddf_bay.proofs.Steps.{stops_weaken}
use Rattle.ddf_read.specs.Reading.{Failed}
use Rattle.ddf_write.specs.Keeping.{AreTheirValues, Keeping}
use Rattle.ddf_write.specs.RowWrites.{IsSure}
use Rattle.ddf_history.specs.Groups.{groups}
use Rattle.ddf_history.specs.Issued.{Past}
use Rattle.ddf_seats.specs.Group.{GroupValue}
use Rattle.ddf_answer.specs.declared.failure.Failure.{Failure}
use Rattle.ddf_answer.specs.declared.failure.Failure.TheVariants.{Conflict, Disk, Memory, Refused, Split}
use Rattle.ddf_answer.specs.Call.{Work, work_of}
use Rattle.ddf_group_commands.specs.Change.{Request}
use Rattle.ddf_group_commands.specs.Written.{AreWritten}
use Rattle.ddf_write_commands.specs.Along.{AllComeAlong, HasCome, IsLeftAt, Stage}
use Rattle.ddf_write_commands.specs.Along.Stage.{Closing, Done, Opening, Working}
use Rattle.ddf_write_commands.specs.Costs.{CostsOfPlan}
use Rattle.ddf_write_commands.specs.Doing.{Doing}
use Rattle.ddf_write_commands.specs.Planned.{IsPlanned}
use Rattle.ddf_write_commands.specs.Worked.{IsArrayLeft, IsLeftClosing, IsLeftDoing, IsLeftWorking, IsWorkedOf}
use Rattle.ddf_write_commands.specs.Write.{writing, writing_beside}
use Rattle.ddf_write_commands.proofs.Since.{HaveBeenMade}

module _ {D : Type 0} (work : Work D) (found : GroupValue) (timestamp : ℕ) (word : List ℕ) (request : Request) (kept : Keeping) (start : ℕ) (sectors : List (List ℕ))
    (values : work.tells → (plan : IsPlanned found timestamp word request) (before : Image) → AreWritten work.old.sizes work.old.held plan.first before
    → IsSure (Failed work.old work.new) plan.volume before → AreTheirValues plan.volume before kept) where
  abbrev inner : Doing
  inner = writing_beside kept start sectors

  abbrev outer : Doing
  outer = writing start sectors

  done_surely : work.tells → (plan : IsPlanned found timestamp word request) (before behind : Image) → AreWritten work.old.sizes work.old.held plan.first before
      → inner.HasDone (Failed work.old work.new) plan.volume before behind → outer.HasDone (Failed work.old work.new) plan.volume before behind
  done_surely told plan before behind written has = record { cells = has.cells; parity = λ sure. has.parity (values told plan before written sure) }

  -- what came of it
  pub worked_surely : (outcome : Result ℕ Failure) → IsWorkedOf inner work found timestamp word request outcome → IsWorkedOf outer work found timestamp word request outcome
  worked_surely (Ok sequence) is = record {
    plan = is.plan;
    is_last = is.is_last;
    done = λ told. let all = is.done told in record {
      before = all.before;
      behind = all.behind;
      first_written = all.first_written;
      has_done = done_surely told is.plan all.before all.behind all.first_written all.has_done;
      is_left = all.is_left;
      last_written = all.last_written;
      are_sectors = all.are_sectors;
      are_settled = all.are_settled;
    };
  }
  worked_surely (Err (Refused refusal)) is = is
  worked_surely (Err (Disk slot)) is = record { plan = is.plan; is_seat = is.is_seat; there = is.there; stopped = ⊎_elim inl (λ none. absurd none.0) is.stopped }
  worked_surely (Err Memory) is = is
  worked_surely (Err (Conflict i j sequence differ)) is = absurd is
  worked_surely (Err (Split i j)) is = absurd is

  pub left_surely : IsArrayLeft inner work found timestamp word request → IsArrayLeft outer work found timestamp word request
  left_surely is = record { plan = is.plan; left = λ told. let all = is.left told in (all.0, all.1, done_surely told is.plan all.0 work.new.held all.1 all.2, all.3) }

  -- what a stop leaves
  module _ (told : work.tells) (plan : IsPlanned found timestamp word request) (image : Image) where
    working_surely : IsLeftWorking inner work found plan.first plan.volume image → IsLeftWorking outer work found plan.first plan.volume image
    working_surely way = record { before = way.before; first_written = way.first_written; is_among = way.is_among }

    closing_surely : IsLeftClosing inner work found plan.first plan.last plan.volume image → IsLeftClosing outer work found plan.first plan.last plan.volume image
    closing_surely way = record {
      before = way.before;
      behind = way.behind;
      first_written = way.first_written;
      has_done = done_surely told plan way.before way.behind way.first_written way.has_done;
      is_left = way.is_left;
      are_sectors = way.are_sectors;
      is_writing = way.is_writing;
    }

  pub way_surely : work.tells → (image : Image) → IsLeftDoing inner work found timestamp word request image → IsLeftDoing outer work found timestamp word request image
  way_surely told image is = record {
    plan = is.plan;
    is_left = elim is.is_left [
      | inl first ↦ inl first
      | inr (inl way) ↦ inr (inl (working_surely told is.plan image way))
      | inr (inr last) ↦ inr (inr (closing_surely told is.plan image last))
    ];
  }

  -- and how far its histories come
  module _ (told : work.tells) (group : List ℕ) (past : Past (groups group)) (left : List Bool) (plan : IsPlanned found timestamp word request) where
    come_surely : (stage : Stage) (now : Past (groups group)) → HasCome group inner work past left found plan stage now → HasCome group outer work past left found plan stage now
    come_surely Opening now come = come
    come_surely Working now come = come
    come_surely Closing now come = come
    come_surely Done now come = come

    stage_surely : (stage : Stage) (image : Image) → IsLeftAt group inner work past left found plan stage image → IsLeftAt group outer work past left found plan stage image
    stage_surely Opening image is = is
    stage_surely Working image is = working_surely told plan image is
    stage_surely Closing image is = closing_surely told plan image is
    stage_surely Done image is = closing_surely told plan image is

  pub along_surely : work.tells → (left : List Bool) (done : Bool) → AllComeAlong inner work left found timestamp word request done → AllComeAlong outer work left found timestamp word request done
  along_surely told left done all plan group same past kept_all admitted =
      let along = all plan group same past kept_all admitted in
      record {
        any_moment = stops_weaken along.any_moment (λ image is. record {
          stage = is.stage;
          now = is.now;
          has_come = come_surely told group past left plan is.stage is.now is.has_come;
          is_left = stage_surely told group past left plan is.stage image is.is_left;
          is_kept = is.is_kept;
        });
        ends = λ tells_left. let end = along.ends tells_left in record {
          stage = end.stage;
          now = end.now;
          has_come = come_surely told group past left plan end.stage end.now end.has_come;
          is_over = end.is_over;
          is_left = λ image is_left. stage_surely told group past left plan end.stage image (end.is_left image is_left);
          all_kept = end.all_kept;
        };
      }

  pub costs_surely : CostsOfPlan inner work found timestamp word request → CostsOfPlan outer work found timestamp word request
  costs_surely costs = record { plan = costs.plan; most = costs.most }

-- So with what the calls promise.
module _ {D : Type 0} (tells : Type 0) (old new : BayState D) (found : GroupValue) (timestamp : ℕ) (word : List ℕ) (request : Request) (kept : Keeping) (start : ℕ) (sectors : List (List ℕ))
    (values : tells → (plan : IsPlanned found timestamp word request) (before : Image) → AreWritten old.sizes old.held plan.first before → IsSure (Failed old new) plan.volume before
    → AreTheirValues plan.volume before kept) where
  pub made_surely : (done : Bool) → HaveBeenMade (writing_beside kept start sectors) tells old new found timestamp word request done → HaveBeenMade (writing start sectors) tells old new found timestamp word request done
  made_surely done made = record {
    leaves = λ told. stops_weaken (made.leaves told) (way_surely (work_of tells old new) found timestamp word request kept start sectors values told);
    beside = made.beside;
    keeps = made.keeps;
    along = λ told left named by. along_surely (work_of tells old new) found timestamp word request kept start sectors values told left done (made.along told left named by);
    unfailed = made.unfailed;
    goes = made.goes;
    costs = costs_surely (work_of tells old new) found timestamp word request kept start sectors values made.costs;
  }
