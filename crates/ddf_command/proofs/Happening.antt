-- Calls on a group are events of its histories.
use Rattle.std.proofs.Common.{◌≡◌, List, refl, ℕ, ◌≤◌, arith}
use Rattle.ddf_bay.specs.State.{BayState}
use Rattle.ddf_bay.specs.Sectors.{Image}
use Rattle.ddf_view.specs.View.{View}
use Rattle.ddf_history.specs.Reading.{Scene}
use Rattle.ddf_history.specs.Groups.{groups}
use Rattle.ddf_history.specs.History.{Moment}
use Rattle.ddf_history.specs.Promise.{IsKept}
use Rattle.ddf_history.specs.Scenes.{scene_of}
use Rattle.ddf_history_steps.specs.Kept.{AreAllKept, is_read}
use Rattle.ddf_history_steps.specs.Going.{Goes, changes_in}
use Rattle.ddf_command.specs.History.{GroupCall, IsCut, IsEnd, IsJoinCut, IsJoinEnd, JoinCall, Leaves, joins_of, kept_by, kept_by_join, past_at}

module _ {B : Type 0} {tells : Type 0} (told : tells) (disks : B → BayState B) (group : List ℕ) (old : Moment (groups group) B) (call : GroupCall told disks group old)
    (kept : AreAllKept group old.past (disks old.bay)) where
  -- at its end
  pub ends : (disks call.exit).tells_left → (new : Moment (groups group) B) × (new.bay ≡ call.exit) × IsEnd told disks group old new
  ends tells_left = (
    record { past = ((kept_by told disks group old call kept).ends tells_left).0; bay = call.exit },
    refl,
    record { call = call; kept = kept; tells_left = tells_left; is_left = λ scene leaves. leaves; is_past = refl },
  )

  -- and where a stop cuts it short
  pub cuts : (cut : B) (image : Image) → (disks call.exit).left_since (disks old.bay).moment image
      → ((scene : Scene View) → Leaves told disks group cut scene → scene ≡ scene_of (disks old.bay).sizes image)
      → (new : Moment (groups group) B) × (new.bay ≡ cut) × IsCut told disks group old new
  cuts cut image was_left is_left =
      let since : (disks old.bay).moment ≤ (disks old.bay).moment = omega arith in (
        record {
          past = past_at told disks group {P = Goes group old.past (is_read call.taken.left) call.group (changes_in call.group call.steps)} {Q = λ now. IsKept now (scene_of (disks old.bay).sizes image)}
              old.past ((kept_by told disks group old call kept).any_moment.since (disks old.bay).moment image since was_left);
          bay = cut;
        },
        refl,
        record { call = call; kept = kept; image = image; since = since; was_left = was_left; is_left = is_left; is_past = refl },
      )

-- So are calls by which another group joins.
module _ {B : Type 0} {tells : Type 0} (told : tells) (disks : B → BayState B) (group : List ℕ) (old : Moment (groups group) B) (call : JoinCall told disks group old)
    (kept : AreAllKept group old.past (disks old.bay)) where
  pub join_ends : (disks call.exit).tells_left → (new : Moment (groups group) B) × (new.bay ≡ call.exit) × IsJoinEnd told disks group old new
  join_ends tells_left = (
    record { past = ((kept_by_join told disks group old call kept).ends tells_left).0; bay = call.exit },
    refl,
    record { call = call; kept = kept; tells_left = tells_left; is_left = λ scene leaves. leaves; is_past = refl },
  )

  pub join_cuts : (cut : B) (image : Image) → (disks call.exit).left_since (disks old.bay).moment image
      → ((scene : Scene View) → Leaves told disks group cut scene → scene ≡ scene_of (disks old.bay).sizes image)
      → (new : Moment (groups group) B) × (new.bay ≡ cut) × IsJoinCut told disks group old new
  join_cuts cut image was_left is_left =
      let since : (disks old.bay).moment ≤ (disks old.bay).moment = omega arith in (
        record {
          past = past_at told disks group {P = Goes group old.past (is_read call.imported.first.left) call.group (joins_of told disks group old call)} {Q = λ now. IsKept now (scene_of (disks old.bay).sizes image)}
              old.past ((kept_by_join told disks group old call kept).any_moment.since (disks old.bay).moment image since was_left);
          bay = cut;
        },
        refl,
        record { call = call; kept = kept; image = image; since = since; was_left = was_left; is_left = is_left; is_past = refl },
      )
