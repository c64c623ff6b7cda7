-- How far a copyback has come, and the history of its group with it.
use Rattle.std.specs.Prelude.{◌≡◌, ℕ, Bool, true, List, [], ◌∷◌, ◌++◌}
use Rattle.ddf_bay.specs.Moments.{StopsLeave}
use Rattle.ddf_bay.specs.Sectors.{Image, IsLeft}
use Rattle.ddf_history.specs.Groups.{groups}
use Rattle.ddf_history.specs.Issued.{Past}
use Rattle.ddf_history.specs.Promise.{IsKept}
use Rattle.ddf_history.specs.Scenes.{scene_of}
use Rattle.ddf_seats.specs.Group.{GroupValue}
use Rattle.ddf_history_steps.specs.Going.{Goes, IsOver, changes_in}
use Rattle.ddf_history_steps.specs.Kept.{AreAllKept, is_read}
use Rattle.ddf_answer.specs.Call.{Work}
use Rattle.ddf_rebuild_command.specs.Along.{AreIssued}
use Rattle.ddf_rebuild_command.specs.BackPlanned.{BackStage, IsBackLeftAt, IsBackPlanned}
use Rattle.ddf_rebuild_command.specs.BackPlanned.BackStage.{Copying, Opening, Returning}

module _ (group : List ℕ) {D : Type 0} (work : Work D) (past : Past (groups group)) (left : List Bool) (found : GroupValue) {timestamp : ℕ} {word : List ℕ} {slot : ℕ}
    (plan : IsBackPlanned work.old.sizes found timestamp word slot) where
  -- the changes of the first steps are acknowledged, and then all of them are
  abbrev pub IsOverFirst : Past (groups group) → Type 0
  IsOverFirst now = IsOver group past (is_read left) found (changes_in found plan.first) now

  abbrev pub IsOverAll : Past (groups group) → Type 0
  IsOverAll now = IsOver group past (is_read left) found (changes_in found (plan.first ++ plan.last ∷ [])) now

  -- How far the changes of the call have come by then: some of the first are issued; they are acknowledged, and the last isn't issued before the room is filled; or the last
  -- is issued, or acknowledged too.
  abbrev pub HasGone : BackStage → Past (groups group) → Type 0
  HasGone Opening now = Goes group past (is_read left) found (changes_in found plan.first) now
  HasGone Copying now = IsOverFirst now
  HasGone Returning now = (before : Past (groups group)) × IsOverFirst before × AreIssued group before (changes_in found (plan.last ∷ [])) now

  -- What a stop left shows what it should, for the changes as far as they have come at the stage at which it was left.
  pub record IsAlongBack (image : Image) : Type 0 where
    pub stage : BackStage
    pub now : Past (groups group)
    pub has_gone : HasGone stage now
    pub is_left : IsBackLeftAt work found plan stage image
    pub is_kept : IsKept now (scene_of work.old.sizes image)

  -- So does, at the end, whatever a stop may leave then. Where the call is done all of its changes are acknowledged.
  pub record EndsAlongBack (done : Bool) : Type 0 where
    pub stage : BackStage
    pub now : Past (groups group)
    pub has_gone : HasGone stage now
    pub is_over : done ≡ true → IsOverAll now
    pub is_left : (image : Image) → IsLeft work.new.may_hold image → IsBackLeftAt work found plan stage image
    pub all_kept : AreAllKept group now work.new

  -- At every moment of the call, and at its end where the bay still tells of it, the history has come as far as the call.
  pub record ComesAlongBack (done : Bool) : Type 0 where
    pub any_moment : StopsLeave work.old work.new IsAlongBack
    pub ends : work.new.tells_left → EndsAlongBack done
