-- How far a rebuild has come, and the history of its group with it.
use Rattle.std.specs.Prelude.{◌≡◌, ◌⊎◌, ℕ, ◌+◌, Bool, true, List, [], ◌∷◌, ◌++◌, length, Some, slice_get, take}
use Rattle.ddf_bay.specs.Moments.{StopsLeave}
use Rattle.ddf_bay.specs.Sectors.{Image, IsLeft}
use Rattle.ddf_config.specs.Configuration.{Configuration}
use Rattle.ddf_history.specs.Groups.{groups}
use Rattle.ddf_history.specs.Issued.{Past, acknowledge}
use Rattle.ddf_history.specs.Promise.{IsKept}
use Rattle.ddf_history.specs.Scenes.{scene_of}
use Rattle.ddf_seats.specs.Group.{GroupValue}
use Rattle.ddf_history_steps.specs.Going.{Goes, IsOver, changes_in, issue_all}
use Rattle.ddf_history_steps.specs.Kept.{AreAllKept, is_read}
use Rattle.ddf_answer.specs.Call.{Work}
use Rattle.ddf_rebuild_command.specs.Planned.{IsPlanned}
use Rattle.ddf_rebuild_command.specs.Rounds.{Round, steps_of}
use Rattle.ddf_rebuild_command.specs.Stages.{IsLeftAt, Stage}
use Rattle.ddf_rebuild_command.specs.Stages.Stage.{Filling, Noting, Opening}

module _ (group : List ℕ) where
  -- behind a history these changes are issued, or acknowledged too
  abbrev pub AreIssued : Past (groups group) → List Configuration → Past (groups group) → Type 0
  AreIssued before changes now =
      (now ≡ issue_all group before changes) ⊎ (now ≡ acknowledge (issue_all group before changes) (before.changes.acked + length changes))

  module _ {D : Type 0} (work : Work D) (past : Past (groups group)) (left : List Bool) (found : GroupValue) {timestamp : ℕ} {word : List ℕ} (plan : IsPlanned found timestamp word) where
    -- the changes of the first steps and of so many rounds are acknowledged
    abbrev pub IsOverRounds : (number : ℕ) → Past (groups group) → Type 0
    IsOverRounds number now = IsOver group past (is_read left) found (changes_in found (plan.first ++ steps_of (take number plan.rounds))) now

    -- How far the changes of the call have come by then: some of the first are issued; those of the rounds before are acknowledged, and none behind these is issued before
    -- the round's rows are filled; or the round's is issued, or acknowledged too.
    abbrev pub HasCome : Stage → Past (groups group) → Type 0
    HasCome Opening now = Goes group past (is_read left) found (changes_in found plan.first) now
    HasCome (Filling number) now = IsOverRounds number now
    HasCome (Noting number) now =
        (before : Past (groups group)) × IsOverRounds number before
        × (round : Round) × (slice_get plan.rounds number ≡ Some round) × AreIssued before (changes_in found (round.step ∷ [])) now

    -- What a stop left shows what it should, for the changes as far as they have come at the stage at which it was left.
    pub record IsAlong (image : Image) : Type 0 where
      pub stage : Stage
      pub now : Past (groups group)
      pub has_come : HasCome stage now
      pub is_left : IsLeftAt work found plan stage image
      pub is_kept : IsKept now (scene_of work.old.sizes image)

    -- So does, at the end, whatever a stop may leave then. Where the call is done all of its changes are acknowledged.
    pub record EndsAlong (done : Bool) : Type 0 where
      pub stage : Stage
      pub now : Past (groups group)
      pub has_come : HasCome stage now
      pub is_over : done ≡ true → IsOverRounds (length plan.rounds) now
      pub is_left : (image : Image) → IsLeft work.new.may_hold image → IsLeftAt work found plan stage image
      pub all_kept : AreAllKept group now work.new

    -- At every moment of the call, and at its end where the bay still tells of it, the history has come as far as the call.
    pub record ComesAlong (done : Bool) : Type 0 where
      pub any_moment : StopsLeave work.old work.new IsAlong
      pub ends : work.new.tells_left → EndsAlong done
