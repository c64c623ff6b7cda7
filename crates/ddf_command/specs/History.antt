-- Histories of a group: their calls are those that the program makes.
use Rattle.std.specs.Prelude.{◌≡◌, ◌⊎◌, ℕ, ◌≤◌, Bool, true, List, [], ◌∷◌, ◌++◌, Option, Some, Result, Ok}
use Rattle.std.proofs.Common.{inl, inr}
use Rattle.ddf_bay.specs.State.{BayState}
use Rattle.ddf_bay.specs.Sectors.{Image, IsLeft}
use Rattle.ddf_config.specs.Configuration.{Configuration}
use Rattle.ddf_view.specs.View.{View}
use Rattle.ddf_seats.specs.Group.{GroupValue}
use Rattle.ddf_assembly.specs.Group.{group_of}
use Rattle.ddf_joining.specs.Joining.{Joining}
use Rattle.ddf_steps.specs.Steps.{Step}
use Rattle.ddf_history.specs.Reading.{Scene}
use Rattle.ddf_history.specs.Issued.{Past}
use Rattle.ddf_history.specs.Calls.{IsAside}
use Rattle.ddf_history.specs.Groups.{groups}
use Rattle.ddf_history.specs.Promise.{IsKept}
use Rattle.ddf_history.specs.Scenes.{scene_of}
use Rattle.ddf_history.specs.History.{Moment}
use Rattle.ddf_history_steps.specs.Kept.{AreAllKept, is_read, is_slot}
use Rattle.ddf_history_steps.specs.Going.{Goes, IsAdmitted, KeepsHistory, changes_in}
use Rattle.ddf_history_joins.specs.Joins.{AdmitsCall}
use Rattle.ddf_history_steps.specs.Steps.{recovery_changes}
use Rattle.ddf_answer.specs.Call.{work_of}
use Rattle.ddf_answer.specs.declared.failure.Failure.{Failure}
use Rattle.ddf_group_commands.specs.Change.{Request, TakesGroup, is_done, steps_of}
use Rattle.ddf_group_commands.specs.Others.{LeavesOthers}
use Rattle.ddf_import_command.specs.Import.{HasImported, import_asked}

-- `disks` is what a bay of type B tells, and `told` that it tells what they hold.
module _ {B : Type 0} {tells : Type 0} (told : tells) (disks : B → BayState B) (guid : List ℕ) where
  -- what the slots show where a stop leaves one of the images of a bay
  pub record Leaves (bay : B) (scene : Scene View) : Type 0 where
    pub image : Image
    pub is_left : IsLeft (disks bay).may_hold image
    pub is_shown : scene ≡ scene_of (disks bay).sizes image

  -- ---- calls on the group

  -- A call of a command that takes the group, as the program's call promises it: the group that it found is this one, it wasn't refused, and
  -- the history admits it.
  pub record GroupCall (old : Moment (groups guid) B) : Type 0 where
    pub exit : B
    pub named : Option (List ℕ)
    pub timestamp : ℕ
    pub request : Request
    pub done : Bool
    pub taken : TakesGroup (work_of tells (disks old.bay) (disks exit)) named timestamp request done
    pub group : GroupValue
    pub is_group : group_of taken.newest named ≡ Ok group
    pub same_group : group.config.group ≡ guid
    pub steps : List Step
    pub are_asked : steps_of group timestamp request ≡ Ok steps
    pub admitted : IsAdmitted guid old.past (disks old.bay) taken.left group

  -- what it promises of the history
  abbrev pub kept_by : (old : Moment (groups guid) B) (call : GroupCall old) → AreAllKept guid old.past (disks old.bay)
      → KeepsHistory guid (disks old.bay) (disks call.exit) old.past call.taken.left call.group (changes_in call.group call.steps) call.done
  kept_by old call kept = call.taken.keeps told call.group call.is_group call.steps call.are_asked guid call.same_group old.past kept call.admitted

  -- The call came to its end, where the bay still tells what a stop may leave.
  pub record IsEnd (old new : Moment (groups guid) B) : Type 0 where
    pub call : GroupCall old
    pub kept : AreAllKept guid old.past (disks old.bay)
    pub tells_left : (disks call.exit).tells_left
    pub is_left : (scene : Scene View) → Leaves new.bay scene → Leaves call.exit scene
    pub is_past : new.past ≡ ((kept_by old call kept).ends tells_left).0

  -- how far a call came at a moment: as at its entry, or this far
  abbrev pub past_at : {A : Type 0} {P Q : Past (groups guid) → Type 0} → Past (groups guid) → A ⊎ ((now : Past (groups guid)) × P now × Q now) → Past (groups guid)
  past_at past (inl before) = past
  past_at past (inr now) = now.0

  -- A stop within the call left this image.
  pub record IsCut (old new : Moment (groups guid) B) : Type 0 where
    pub call : GroupCall old
    pub kept : AreAllKept guid old.past (disks old.bay)
    pub image : Image
    pub since : (disks old.bay).moment ≤ (disks old.bay).moment
    pub was_left : (disks call.exit).left_since (disks old.bay).moment image
    pub is_left : (scene : Scene View) → Leaves new.bay scene → scene ≡ scene_of (disks old.bay).sizes image
    pub is_past :
        new.past ≡ past_at {P = Goes guid old.past (is_read call.taken.left) call.group (changes_in call.group call.steps)} {Q = λ now. IsKept now (scene_of (disks old.bay).sizes image)}
        old.past ((kept_by old call kept).any_moment.since (disks old.bay).moment image since was_left)

  -- ---- calls by which another group joins

  -- A call by which another group joins this one, as the program's call promises it: the groups that it found are this one and the other, it
  -- wasn't refused, and the history admits the call and the join.
  pub record JoinCall (old : Moment (groups guid) B) : Type 0 where
    pub exit : B
    pub named : Option (List ℕ)
    pub other : List ℕ
    pub timestamp : ℕ
    pub outcome : Result ℕ Failure
    pub imported : HasImported (work_of tells (disks old.bay) (disks exit)) named other timestamp outcome
    pub group : GroupValue
    pub is_group : group_of imported.first.newest named ≡ Ok group
    pub same_group : group.config.group ≡ guid
    pub joining : GroupValue
    pub is_joining : group_of imported.second.newest (Some other) ≡ Ok joining
    pub made : Joining
    pub are_asked : import_asked timestamp imported.first.left group joining ≡ Ok made
    pub admitted : IsAdmitted guid old.past (disks old.bay) imported.first.left group
    pub admits_join : AdmitsCall guid old.past (disks old.bay) group joining

  -- the changes that it issues
  abbrev pub joins_of : (old : Moment (groups guid) B) → JoinCall old → List Configuration
  joins_of old call = recovery_changes call.timestamp call.group ++ call.made.step.config ∷ []

  -- what it promises of the history
  abbrev pub kept_by_join : (old : Moment (groups guid) B) (call : JoinCall old) → AreAllKept guid old.past (disks old.bay)
      → KeepsHistory guid (disks old.bay) (disks call.exit) old.past call.imported.first.left call.group (joins_of old call) (is_done call.outcome)
  kept_by_join old call kept =
      call.imported.keeps told call.group call.joining call.is_group call.is_joining call.made call.are_asked guid call.same_group old.past kept call.admitted call.admits_join

  -- It came to its end, where the bay still tells what a stop may leave.
  pub record IsJoinEnd (old new : Moment (groups guid) B) : Type 0 where
    pub call : JoinCall old
    pub kept : AreAllKept guid old.past (disks old.bay)
    pub tells_left : (disks call.exit).tells_left
    pub is_left : (scene : Scene View) → Leaves new.bay scene → Leaves call.exit scene
    pub is_past : new.past ≡ ((kept_by_join old call kept).ends tells_left).0

  -- A stop within it left this image.
  pub record IsJoinCut (old new : Moment (groups guid) B) : Type 0 where
    pub call : JoinCall old
    pub kept : AreAllKept guid old.past (disks old.bay)
    pub image : Image
    pub since : (disks old.bay).moment ≤ (disks old.bay).moment
    pub was_left : (disks call.exit).left_since (disks old.bay).moment image
    pub is_left : (scene : Scene View) → Leaves new.bay scene → scene ≡ scene_of (disks old.bay).sizes image
    pub is_past :
        new.past ≡ past_at {P = Goes guid old.past (is_read call.imported.first.left) call.group (joins_of old call)} {Q = λ now. IsKept now (scene_of (disks old.bay).sizes image)}
        old.past ((kept_by_join old call kept).any_moment.since (disks old.bay).moment image since was_left)

  -- ---- other calls

  -- A call that doesn't take the group: it may write these slots alone. A command that changes another group leaves those that are no seats'
  -- of that group as before, `label` those that it doesn't label, and a call that only reads, or is refused, leaves all. It belongs to the
  -- history where each of them is as it was, or its disk is no current member since the last acknowledged change and it doesn't show the group
  -- then, nor names such a member.
  pub record OtherCall (old : Moment (groups guid) B) : Type 0 where
    pub exit : B
    pub written : List ℕ
    pub leaves_others : LeavesOthers (disks old.bay) (disks exit) written
    pub is_held : IsLeft (disks old.bay).may_hold (disks old.bay).held
    pub are_aside : (image : Image) → (disks exit).left_since (disks old.bay).moment image → (slot : ℕ) → is_slot written slot ≡ true
        → (scene_of (disks old.bay).sizes image slot ≡ scene_of (disks old.bay).sizes (disks old.bay).held slot) ⊎ IsAside old.past slot (scene_of (disks old.bay).sizes image slot)

  -- Such a call, at its end or cut by a stop: what may be left is an image that a stop left since its entry.
  pub record IsOther (old new : Moment (groups guid) B) : Type 0 where
    pub call : OtherCall old
    pub same_past : new.past ≡ old.past
    pub was_left : (scene : Scene View) → Leaves new.bay scene
        → (image : Image) × (disks call.exit).left_since (disks old.bay).moment image × (scene ≡ scene_of (disks old.bay).sizes image)

  -- a call, at its end or within it
  abbrev pub IsCall : Moment (groups guid) B → Moment (groups guid) B → Type 0
  IsCall old new = IsEnd old new ⊎ IsCut old new ⊎ IsOther old new ⊎ IsJoinEnd old new ⊎ IsJoinCut old new
