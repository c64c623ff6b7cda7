-- What the calls of a command promise behind a look at the disks, since before this.
use Rattle.std.proofs.Common.{◌∙◌, ℕ, ◌≤◌, Bool, List, inl}
use Rattle.ddf_bay.specs.Sectors.{Image, IsLeft}
use Rattle.ddf_bay.specs.State.{BayState}
use Rattle.ddf_bay.proofs.Steps.{stops_then, stops_weaken}
use Rattle.ddf_read.specs.Reading.{OnlyReads}
use Rattle.ddf_steps.specs.Committed.{slots_of}
use Rattle.ddf_seats.specs.Group.{GroupValue}
use Rattle.ddf_history_steps.proofs.Entering.{admitted_still, kept_still}
use Rattle.ddf_answer.specs.Call.{work_of}
use Rattle.ddf_group_commands.specs.Change.{Request}
use Rattle.ddf_group_commands.proofs.Beside.{beside_since}
use Rattle.ddf_group_commands.proofs.Keeping.{since_entry}
use Rattle.ddf_group_commands.proofs.LeftWriting.{left_still}
use Rattle.ddf_write_commands.specs.Doing.{Doing}
use Rattle.ddf_write_commands.specs.Planned.{IsPlanned}
use Rattle.ddf_write_commands.specs.Worked.{IsLeftDoing}
use Rattle.ddf_write_commands.proofs.Arrays.{goes_then}
use Rattle.ddf_write_commands.proofs.Costs.{plan_since}
use Rattle.ddf_write_commands.proofs.Looked.{found_still, goes_looked}
use Rattle.ddf_write_commands.proofs.Since.{HaveBeenMade, along_since, left_since}
use Rattle.ddf_write_commands.proofs.Works.{IsSteady}

module _ {D : Type 0} (tells : Type 0) (doing : Doing) (steady : IsSteady doing) (old looked new : BayState D) (looks : OnlyReads old looked) (group : GroupValue) (timestamp : ℕ) (word : List ℕ) (request : Request)
    (plan : IsPlanned group timestamp word request) where
  writes_rise : (slot : ℕ) → old.failed_writes slot ≤ looked.failed_writes slot
  writes_rise = (goes_looked old looked looks).writes_rise

  -- what a stop might have left before is left before the first steps
  left_first : (image : Image) → IsLeft old.may_hold image → IsLeftDoing doing (work_of tells old new) group timestamp word request image
  left_first image left = record { plan = plan; is_left = inl (left_still old plan.first image left) }

  pub made_behind : (done : Bool) → HaveBeenMade doing tells looked new group timestamp word request done → HaveBeenMade doing tells old new group timestamp word request done
  made_behind done made = record {
    leaves = λ told.
        stops_then (stops_weaken looks.reads.any_moment left_first) (made.leaves told)
        (λ image left. left_since tells doing steady old looked new looks.reads looks.never_falls writes_rise group timestamp word request image left);
    beside = λ told. beside_since old looked new (slots_of group.seats) looks.reads (made.beside told);
    keeps = λ told left named by steps are.
        since_entry old looked new left group steps done looks.reads (made.keeps told left named (found_still old looked looks group left named by) steps are);
    along = λ told left named by any_plan guid same past kept admitted.
        along_since tells doing steady old looked new looks.reads looks.never_falls writes_rise guid past left group timestamp word request any_plan done kept
        (made.along told left named (found_still old looked looks group left named by) any_plan guid same past (kept_still guid past old looked looks.reads kept)
        (admitted_still guid past old looked looks.reads left group admitted));
    unfailed = λ is. made.unfailed is ∙ looks.same_writes;
    goes = goes_then old looked new (goes_looked old looked looks) made.goes;
    costs = plan_since doing tells old looked new group timestamp word request looks.reads made.costs;
  }
