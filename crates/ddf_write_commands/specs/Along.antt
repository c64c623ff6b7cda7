-- How far a call on the blocks of an array has come, and the history of its group with it.
use Rattle.std.specs.Prelude.{◌≡◌, ℕ, ◌+◌, Bool, true, List, length, Result, Ok}
use Rattle.ddf_bay.specs.Moments.{StopsLeave}
use Rattle.ddf_bay.specs.Sectors.{Image, IsLeft}
use Rattle.ddf_history.specs.Groups.{groups}
use Rattle.ddf_history.specs.Issued.{Past, acknowledge}
use Rattle.ddf_history.specs.Promise.{IsKept}
use Rattle.ddf_history.specs.Scenes.{scene_of}
use Rattle.ddf_group.specs.declared.answer.Assembly.{Assembly}
use Rattle.ddf_seats.specs.Group.{GroupValue}
use Rattle.ddf_history_steps.specs.Going.{Goes, IsAdmitted, IsOver, changes_in, issue_all}
use Rattle.ddf_history_steps.specs.Kept.{AreAllKept, is_read}
use Rattle.ddf_answer.specs.Call.{Work}
use Rattle.ddf_group_commands.specs.Change.{Request}
use Rattle.ddf_group_commands.specs.Writing.{IsLeftWriting}
use Rattle.ddf_write_commands.specs.Doing.{Doing}
use Rattle.ddf_write_commands.specs.Planned.{IsPlanned}
use Rattle.ddf_write_commands.specs.Worked.{IsLeftClosing, IsLeftWorking}

-- The steps before the blocks are under way; the work on these is; the last step is; or all of it is done.
pub data Stage : Type 0 where
  Opening : Stage
  Working : Stage
  Closing : Stage
  Done : Stage

module _ (group : List ℕ) {D : Type 0} (doing : Doing) (work : Work D) (past : Past (groups group)) (left : List Bool) (found : GroupValue) {timestamp : ℕ} {word : List ℕ} {request : Request}
    (plan : IsPlanned found timestamp word request) where
  -- How far the changes of the call have come by then: some of those before the blocks are issued; all of them are acknowledged, and none behind the
  -- blocks is issued, before these are done; the last one is issued, or acknowledged too.
  abbrev pub HasCome : Stage → Past (groups group) → Type 0
  HasCome Opening now = Goes group past (is_read left) found (changes_in found plan.first) now
  HasCome Working now = IsOver group past (is_read left) found (changes_in found plan.first) now
  HasCome Closing now =
      (before : Past (groups group)) × IsOver group past (is_read left) found (changes_in found plan.first) before × (now ≡ issue_all group before (changes_in found plan.last))
  HasCome Done now =
      (before : Past (groups group)) × IsOver group past (is_read left) found (changes_in found plan.first) before
      × (now ≡ acknowledge (issue_all group before (changes_in found plan.last)) (before.changes.acked + length (changes_in found plan.last)))

  -- what a stop leaves then
  abbrev pub IsLeftAt : Stage → Image → Type 0
  IsLeftAt Opening image = IsLeftWriting work.old plan.first image
  IsLeftAt Working image = IsLeftWorking doing work found plan.first plan.volume image
  IsLeftAt Closing image = IsLeftClosing doing work found plan.first plan.last plan.volume image
  IsLeftAt Done image = IsLeftClosing doing work found plan.first plan.last plan.volume image

  -- What a stop left shows what it should, for the changes as far as they have come at the stage at which it was left.
  pub record IsAlong (image : Image) : Type 0 where
    pub stage : Stage
    pub now : Past (groups group)
    pub has_come : HasCome stage now
    pub is_left : IsLeftAt stage image
    pub is_kept : IsKept now (scene_of work.old.sizes image)

  -- So does, at the end, whatever a stop may leave then. Where the call is done all of it is.
  pub record EndsAlong (done : Bool) : Type 0 where
    pub stage : Stage
    pub now : Past (groups group)
    pub has_come : HasCome stage now
    pub is_over : done ≡ true → stage ≡ Done
    pub is_left : (image : Image) → IsLeft work.new.may_hold image → IsLeftAt stage image
    pub all_kept : AreAllKept group now work.new

  -- At every moment of the call, and at its end where the bay still tells of it, the history has come as far as the call.
  pub record ComesAlong (done : Bool) : Type 0 where
    pub any_moment : StopsLeave work.old work.new IsAlong
    pub ends : work.new.tells_left → EndsAlong done

-- So comes, where nothing is refused, each history of the group that the disks keep at the call's entry and that admits the call,
abbrev pub AllComeAlong : {D : Type 0} → Doing → Work D → (left : List Bool) → GroupValue → (timestamp : ℕ) → (word : List ℕ) → Request → (done : Bool) → Type 0
AllComeAlong doing work left found timestamp word request done =
    (plan : IsPlanned found timestamp word request) (group : List ℕ) → found.config.group ≡ group → (past : Past (groups group)) → AreAllKept group past work.old
    → IsAdmitted group past work.old left found → ComesAlong group doing work past left found plan done

-- of the group that was found, if there is one.
abbrev pub GoesAlong : {D : Type 0} → Doing → Work D → (left : List Bool) → (timestamp : ℕ) → (word : List ℕ) → Request → (done : Bool) → Result GroupValue Assembly → Type 0
GoesAlong doing work left timestamp word request done meaning =
    (found : GroupValue) → meaning ≡ Ok found → AllComeAlong doing work left found timestamp word request done
