-- What each event of a history keeps.
use Rattle.std.proofs.Common.{◌≡◌, ◌⊎◌, ◌∙◌, if◌then◌else◌, ℕ, Bool, true, false, List, ◌∷◌, [], inl, inr, refl, sym, ap, arith}
use Rattle.std.proofs.Math.Path.{fun_ext}
use Rattle.ddf_bay.specs.State.{BayState}
use Rattle.ddf_bay.specs.Sectors.{Image, IsLeft}
use Rattle.ddf_config.specs.Configuration.{Configuration}
use Rattle.ddf_view.specs.View.{View}
use Rattle.ddf_seats.specs.Group.{GroupValue}
use Rattle.ddf_history.specs.Reading.{Each, Scene}
use Rattle.ddf_history.specs.Issued.{Past}
use Rattle.ddf_history.specs.Groups.{groups}
use Rattle.ddf_history.specs.Calls.{AreAside, IsAside}
use Rattle.ddf_history.specs.Promise.{IsKept}
use Rattle.ddf_history.specs.Scenes.{scene_of}
use Rattle.ddf_history.specs.History.{AllKept, Answers, DoCallsKeep, IsHistory, KeepsAcked, Moment}
use Rattle.ddf_history.proofs.Aside.{aside_kept}
use Rattle.ddf_history.proofs.Histories.{a_history_answers_at_every_moment, a_history_keeps_what_was_acknowledged, step_kept}
use Rattle.ddf_history.proofs.Sound.{groups_are_sound}
use Rattle.ddf_history_steps.specs.Kept.{AreAllKept, is_read, is_slot}
use Rattle.ddf_history_steps.specs.Going.{Goes, changes_in}
use Rattle.ddf_history_steps.proofs.Acked.{ends_keeps, goes_keeps}
use Rattle.ddf_history_steps.proofs.Stops.{same_scene}
use Rattle.ddf_group_commands.specs.Change.{is_done}
use Rattle.ddf_command.specs.History.{IsCall, IsCut, IsEnd, IsJoinCut, IsJoinEnd, IsOther, Leaves, OtherCall, joins_of, kept_by, kept_by_join, past_at}

module _ {B : Type 0} {tells : Type 0} (told : tells) (disks : B → BayState B) (group : List ℕ)
    (only_now : (bay : B) (image : Image) → (disks bay).left_since (disks bay).moment image → IsLeft (disks bay).may_hold image) where
  -- By its images a bay shows what it should.
  images_kept : (moment : Moment (groups group) B) → AllKept (Leaves told disks group) moment → AreAllKept group moment.past (disks moment.bay)
  images_kept moment kept image is_left = kept (scene_of (disks moment.bay).sizes image) (record { image = image; is_left = is_left; is_shown = refl })

  -- A call that came to its end.
  end_kept : (old new : Moment (groups group) B) → IsEnd told disks group old new → AllKept (Leaves told disks group) old → AllKept (Leaves told disks group) new × KeepsAcked old.past new.past
  end_kept old new end kept =
      let keeps = (kept_by told disks group old end.call end.kept).ends end.tells_left in (
        λ scene leaves.
            let last = end.is_left scene leaves in
            rw (end.is_past, last.is_shown) (keeps.2 last.image last.is_left),
        rw end.is_past
            (ends_keeps group old.past keeps.0 (is_read end.call.taken.left) end.call.group (changes_in end.call.group end.call.steps) end.call.done keeps.1),
      )

  abbrev past_in : {A : Type 0} (past : Past (groups group)) (readable : ℕ → Bool) (found : GroupValue) (changes : List Configuration) (scene : Scene View)
      → A ⊎ ((now : Past (groups group)) × Goes group past readable found changes now × IsKept now scene) → Past (groups group)
  past_in past readable found changes scene at = past_at told disks group {P = Goes group past readable found changes} {Q = λ now. IsKept now scene} past at

  -- What a moment within a call shows, and what was acknowledged.
  at_moment : {A : Type 0} (past : Past (groups group)) (readable : ℕ → Bool) (found : GroupValue) (changes : List Configuration) (scene : Scene View)
      → (A → IsKept past scene) → (at : A ⊎ ((now : Past (groups group)) × Goes group past readable found changes now × IsKept now scene))
      → IsKept (past_in past readable found changes scene at) scene × KeepsAcked past (past_in past readable found changes scene at)
  at_moment past readable found changes scene before (inl first) = (before first, record { later = omega arith; same = λ i config le at. at })
  at_moment past readable found changes scene before (inr now) = (now.2, goes_keeps group past now.0 readable found changes now.1)

  -- A call that was cut by a stop.
  cut_kept : (old new : Moment (groups group) B) → IsCut told disks group old new → AllKept (Leaves told disks group) old → AllKept (Leaves told disks group) new × KeepsAcked old.past new.past
  cut_kept old new cut kept =
      let at = (kept_by told disks group old cut.call cut.kept).any_moment.since (disks old.bay).moment cut.image cut.since cut.was_left in
      let both = at_moment old.past (is_read cut.call.taken.left) cut.call.group (changes_in cut.call.group cut.call.steps) (scene_of (disks old.bay).sizes cut.image)
      (λ first. cut.kept cut.image (only_now old.bay cut.image first)) at in (
        λ scene leaves. rw (cut.is_past, cut.is_left scene leaves) both.0,
        rw cut.is_past both.1,
      )

  -- A call by which another group joined, at its end
  join_end_kept : (old new : Moment (groups group) B) → IsJoinEnd told disks group old new → AllKept (Leaves told disks group) old
      → AllKept (Leaves told disks group) new × KeepsAcked old.past new.past
  join_end_kept old new end kept =
      let keeps = (kept_by_join told disks group old end.call end.kept).ends end.tells_left in (
        λ scene leaves.
            let last = end.is_left scene leaves in
            rw (end.is_past, last.is_shown) (keeps.2 last.image last.is_left),
        rw end.is_past
            (ends_keeps group old.past keeps.0 (is_read end.call.imported.first.left) end.call.group (joins_of told disks group old end.call) (is_done end.call.outcome) keeps.1),
      )

  -- and cut by a stop.
  join_cut_kept : (old new : Moment (groups group) B) → IsJoinCut told disks group old new → AllKept (Leaves told disks group) old
      → AllKept (Leaves told disks group) new × KeepsAcked old.past new.past
  join_cut_kept old new cut kept =
      let at = (kept_by_join told disks group old cut.call cut.kept).any_moment.since (disks old.bay).moment cut.image cut.since cut.was_left in
      let both = at_moment old.past (is_read cut.call.imported.first.left) cut.call.group (joins_of told disks group old cut.call) (scene_of (disks old.bay).sizes cut.image)
      (λ first. cut.kept cut.image (only_now old.bay cut.image first)) at in (
        λ scene leaves. rw (cut.is_past, cut.is_left scene leaves) both.0,
        rw cut.is_past both.1,
      )

  -- A call that doesn't take the group.
  module _ (old : Moment (groups group) B) (shown : AllKept (Leaves told disks group) old) (call : OtherCall told disks group old) (image : Image)
      (was_left : (disks call.exit).left_since (disks old.bay).moment image) where
    abbrev entry : BayState B
    entry = disks old.bay

    -- what stands in the other slots then, with what the written ones held
    before : Image
    before s l = if is_slot call.written s then entry.held s l else image s l

    -- It might have been left before.
    before_left : IsLeft entry.may_hold before
    unfolding before
    before_left s l = by (is_slot call.written s) refl
      where
        by : (b : Bool) → is_slot call.written s ≡ b → entry.may_hold s l (if b then entry.held s l else image s l)
        by true here = call.is_held s l
        by false other = elim (call.leaves_others.since entry.moment image (omega arith) was_left) [
          | inl first ↦ only_now old.bay image first s l
          | inr others ↦ others s l other
        ]

    -- Each slot is as then, or aside.
    aside : AreAside old.past (scene_of entry.sizes before) (scene_of entry.sizes image)
    unfolding before
    aside slot = by (is_slot call.written slot) refl
      where
        by : (b : Bool) → is_slot call.written slot ≡ b
            → (scene_of entry.sizes image slot ≡ scene_of entry.sizes before slot) ⊎ IsAside old.past slot (scene_of entry.sizes image slot)
        by true here = elim (call.are_aside image was_left slot here) [
          | inl same ↦ inl (same ∙ same_scene entry.sizes entry.held before slot (fun_ext (λ l. sym (ap (λ (b : Bool). if b then entry.held slot l else image slot l) here))))
          | inr out ↦ inr out
        ]
        by false other = inl (same_scene entry.sizes image before slot (fun_ext (λ l. sym (ap (λ (b : Bool). if b then entry.held slot l else image slot l) other))))

    other_shows : IsKept old.past (scene_of entry.sizes image)
    other_shows =
        aside_kept (groups group) (groups_are_sound group) old.past (scene_of entry.sizes before) (scene_of entry.sizes image)
        (images_kept old shown before before_left) aside

  other_kept : (old new : Moment (groups group) B) → IsOther told disks group old new → AllKept (Leaves told disks group) old → AllKept (Leaves told disks group) new × KeepsAcked old.past new.past
  other_kept old new other kept = (
    λ scene leaves.
        let left = other.was_left scene leaves in
        rw (other.same_past, left.2) (other_shows old kept other.call left.0 left.1),
    rw other.same_past (record { later = omega arith; same = λ i config le at. at }),
  )

  -- Each call keeps what it should.
  calls_keep : DoCallsKeep (Leaves told disks group) (IsCall told disks group)
  calls_keep old new (inl end) kept = end_kept old new end kept
  calls_keep old new (inr (inl cut)) kept = cut_kept old new cut kept
  calls_keep old new (inr (inr (inl other))) kept = other_kept old new other kept
  calls_keep old new (inr (inr (inr (inl end)))) kept = join_end_kept old new end kept
  calls_keep old new (inr (inr (inr (inr cut)))) kept = join_cut_kept old new cut kept

  -- So each moment of a history is answered as promised.
  pub history_answers : (start : Moment (groups group) B) (history : List (Moment (groups group) B)) → AllKept (Leaves told disks group) start
      → IsHistory (Leaves told disks group) (IsCall told disks group) start history → Each (Answers (Leaves told disks group)) (start ∷ history)
  history_answers = a_history_answers_at_every_moment (groups group) (groups_are_sound group) B (Leaves told disks group) (IsCall told disks group) calls_keep

  -- And what was acknowledged stays.
  pub history_keeps : (start : Moment (groups group) B) (history : List (Moment (groups group) B)) → AllKept (Leaves told disks group) start
      → IsHistory (Leaves told disks group) (IsCall told disks group) start history → Each (λ (moment : Moment (groups group) B). KeepsAcked start.past moment.past) history
  history_keeps = a_history_keeps_what_was_acknowledged (groups group) (groups_are_sound group) B (Leaves told disks group) (IsCall told disks group) calls_keep

  -- And each slot shows what it should at every moment.
  pub history_kept : (start : Moment (groups group) B) (history : List (Moment (groups group) B)) → AllKept (Leaves told disks group) start
      → IsHistory (Leaves told disks group) (IsCall told disks group) start history → Each (AllKept (Leaves told disks group)) history
  history_kept start [] kept is = tt
  history_kept start (next ∷ rest) kept is =
      let then_kept = step_kept (groups group) (groups_are_sound group) B (Leaves told disks group) (IsCall told disks group) calls_keep start next is.0 kept in
      (then_kept, history_kept next rest then_kept is.1)
