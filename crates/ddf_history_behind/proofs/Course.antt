-- A call that recovers a group, and writes steps of it and blocks, leaves no disk further behind than one change and what is lost.
use Rattle.std.proofs.Common.{◌≡◌, ◌⊎◌, ℕ, ◌+◌, ◌≤◌, Bool, true, false, List, [], ◌∷◌, ◌++◌, length, map, inl, inr, sym, ap, subst, ◌∙◌, arith, append_assoc, append-nil, length-append}
use Rattle.std.proofs.lemmas.List.{take-append-le}
use Rattle.std.proofs.Math.Seq.{take-append_seam}
use Rattle.ddf_bay.specs.Moments.{StopsLeave}
use Rattle.ddf_bay.specs.Sectors.{Image}
use Rattle.ddf_bay.specs.State.{BayState}
use Rattle.ddf_config.specs.Configuration.{Configuration}
use Rattle.ddf_history.specs.Groups.{groups}
use Rattle.ddf_history.specs.Issued.{Past, acknowledge, issue}
use Rattle.ddf_history.specs.Promise.{IsKept}
use Rattle.ddf_history.specs.Scenes.{scene_of}
use Rattle.ddf_history.specs.Steps.{IsLast}
use Rattle.ddf_recovery.specs.Committed.{group_next, left_behind}
use Rattle.ddf_seats.specs.Group.{GroupValue}
use Rattle.ddf_seats.specs.Leading.{some}
use Rattle.ddf_steps.specs.Ready.{ReadyStep}
use Rattle.ddf_recovery.specs.Ready.{ReadyValue}
use Rattle.ddf_history_steps.specs.Course.{HasCome, IsUnderWay}
use Rattle.ddf_history_steps.specs.Going.{Goes, IsOver, IsUnderway, KeepsHistory, begun, issue_all}
use Rattle.ddf_history_steps.specs.Kept.{AreAllKept, is_read}
use Rattle.ddf_history_steps.specs.Steps.{KeepsStep, with_next}
use Rattle.ddf_history_steps.proofs.CommittingGoes.{change_goes}
use Rattle.ddf_history_steps.proofs.Course.{configs_of}
use Rattle.ddf_history_behind.specs.Behind.{AreNear, AreNearSteps, IsNearWay, KeepsNear, most_between}
use Rattle.ddf_history_behind.proofs.Near.{near_issued, near_last, only_last}

-- ---- how far a call came

module _ (group : List ℕ) (past : Past (groups group)) (readable : ℕ → Bool) (found : GroupValue) where
  -- A call of more changes came as far.
  pub goes_more : (first later : List Configuration) (now : Past (groups group)) → Goes group past readable found first now → Goes group past readable found (first ++ later) now
  goes_more first later now (inl before) = inl before
  goes_more first later now (inr way) =
      let few = way.few in
      let long = length-append first later in
      inr (record {
        number = way.number;
        since = way.since;
        issued = way.issued;
        few = omega (arith, few, long);
        loses = way.loses;
        acked = way.acked;
        stands = way.stands;
        most = way.most;
        in_turn = way.in_turn;
        is_now = way.is_now
            ∙ ap (λ (changes : List Configuration). acknowledge (issue_all group (begun group past readable found way.number) changes) way.acked)
            (sym (take-append-le way.issued first later few));
      })

  module _ (first : List Configuration) (now : Past (groups group)) (over : IsOver group past readable found first now) (loses : some found.absent ≡ true → 1 ≤ length first) where
    -- All of its first changes are acknowledged,
    over_goes : (later : List Configuration) → Goes group past readable found (first ++ later) now
    over_goes later =
        let long = length-append first later in
        inr (record {
          number = over.number;
          since = over.since;
          issued = length first;
          few = omega (arith, long);
          loses = loses;
          acked = over.number + length first;
          stands = inr (omega arith);
          most = omega arith;
          in_turn = inr (inl (omega arith));
          is_now = over.is_now
              ∙ ap (λ (changes : List Configuration). acknowledge (issue_all group (begun group past readable found over.number) changes) (over.number + length first))
              (sym (take-append_seam first later));
        })

    -- and the next one is issued behind them.
    issue_goes : (next : Configuration) (later : List Configuration) → Goes group past readable found (first ++ next ∷ later) (issue now next)
    issue_goes next later =
        subst (λ (changes : List Configuration). Goes group past readable found changes (issue now next)) (append_assoc first (next ∷ []) later)
        (goes_more (first ++ next ∷ []) later (issue now next)
        (inr (subst (λ (before : Past (groups group)). IsUnderway group past readable found (first ++ next ∷ []) (issue before next)) (sym over.is_now)
        (change_goes group past readable found over.number over.since first next (over.number + length first) (inr (omega arith)) (omega arith)))))

-- ---- the course

module _ (group : List ℕ) {D : Type 0} (old middle : BayState D) (past : Past (groups group)) (left : List Bool) (found : GroupValue) (changes : List Configuration)
    (now_found : GroupValue) (ready : ReadyValue) (near_way : IsNearWay group old middle past left found changes now_found ready) where
  abbrev way : IsUnderWay group old middle past left found changes now_found ready
  way = near_way.way

  abbrev Shows : Image → Type 0
  Shows image = (now : Past (groups group)) × Goes group past (is_read left) found changes now × AreNear group now.changes × IsKept now (scene_of old.sizes image)

  -- the history as it is then: all is acknowledged
  now_goes : (come : HasCome group past left found changes middle now_found ready) → Goes group past (is_read left) found changes come.now
  now_goes come =
      subst (λ (all : List Configuration). Goes group past (is_read left) found all come.now) (sym come.parts)
      (over_goes group past (is_read left) found come.first come.now come.is_over come.loses (configs_of ready.steps))

  now_near : (come : HasCome group past left found changes middle now_found ready) → AreNear group come.now.changes
  now_near come = near_last group come.now.changes now_found.config come.stands.at_end.is_last

  -- with the next step issued
  with_goes : (steps : List ReadyStep) → (come : HasCome group past left found changes middle now_found (record ready { steps = steps }))
      → Goes group past (is_read left) found changes (with_next group come.now (record ready { steps = steps }))
  with_goes [] come =
      subst (λ (all : List Configuration). Goes group past (is_read left) found all come.now) (sym come.parts)
      (over_goes group past (is_read left) found come.first come.now come.is_over come.loses [])
  with_goes (one ∷ others) come =
      subst (λ (all : List Configuration). Goes group past (is_read left) found all (issue come.now one.step.config)) (sym come.parts)
      (issue_goes group past (is_read left) found come.first come.now come.is_over come.loses one.step.config (configs_of others))

  next_near : (next : Configuration) (now : Past (groups group)) → IsLast now.changes now.changes.acked now_found.config → next.sequence ≤ now_found.config.sequence + most_between now_found.config next
      → AreNear group (issue now next).changes
  next_near next now last near =
      near_issued group now.changes next (near_last group now.changes now_found.config last)
      (λ i earlier at. subst (λ (config : Configuration). next.sequence ≤ config.sequence + most_between config next) (sym (only_last group now.changes now_found.config last i earlier at)) near)

  with_near : (steps : List ReadyStep) → (come : HasCome group past left found changes middle now_found (record ready { steps = steps }))
      → AreNearSteps now_found.config (map (λ (one : ReadyStep). one.step) steps) → AreNear group (with_next group come.now (record ready { steps = steps })).changes
  with_near [] come near = near_last group come.now.changes now_found.config come.stands.at_end.is_last
  with_near (one ∷ others) come near = next_near one.step.config come.now come.stands.at_end.is_last near.0

  -- Where each image that a further call may leave shows what it should, all that a stop left since the entry does so.
  goes_on : (new : BayState D) → middle.moment ≤ new.moment
      → ((t : ℕ) (image : Image) → t ≤ middle.moment → new.left_since t image → middle.left_since t image ⊎ Shows image)
      → StopsLeave old new Shows
  goes_on new later shows = record {
    later = let first = near_way.any_moment.later in omega (arith, first, later);
    since = λ t image le was_left. elim (shows t image (let first = near_way.any_moment.later in omega (arith, le, first)) was_left) [
      | inl before ↦ near_way.any_moment.since t image le before
      | inr now ↦ inr now
    ];
  }

  module _ (new : BayState D) (told_since : (t : ℕ) (image : Image) → new.left_since t image → new.tells_left) (told : new.tells_left → middle.tells_left) where
    -- ---- a step

    pub step_moments : (keeps : (come : HasCome group past left found changes middle now_found ready) → StopsLeave middle new (λ image. IsKept (with_next group come.now ready) (scene_of middle.sizes image)))
        → middle.moment ≤ new.moment → StopsLeave old new Shows
    step_moments keeps later =
        goes_on new later (λ t image at was_left.
        let come = way.has_come (told (told_since t image was_left)) in
        elim ((keeps come).since t image at was_left) [
          | inl before ↦ inl before
          | inr kept ↦ inr (
            with_next group come.now ready,
            with_goes ready.steps come,
            with_near ready.steps come near_way.steps,
            subst (λ (sizes : List ℕ). IsKept (with_next group come.now ready) (scene_of sizes image)) way.same_sizes kept,
          )
        ])

    -- A step that failed,
    pub step_failed : (keeps : (come : HasCome group past left found changes middle now_found ready) → KeepsStep group middle new come.now ready false)
        → middle.moment ≤ new.moment → KeepsNear group old new past left found changes false
    step_failed keeps later = record {
      any_moment = step_moments (λ come. (keeps come).any_moment) later;
      ends = λ tells.
          let come = way.has_come (told tells) in
          (with_next group come.now ready, with_goes ready.steps come, with_near ready.steps come near_way.steps, (keeps come).ends tells);
    }

    -- ---- blocks

    pub blocks_moments : (kept : (come : HasCome group past left found changes middle now_found ready) → StopsLeave middle new (λ image. IsKept come.now (scene_of middle.sizes image)))
        → middle.moment ≤ new.moment → StopsLeave old new Shows
    blocks_moments kept later =
        goes_on new later (λ t image at was_left.
        let come = way.has_come (told (told_since t image was_left)) in
        elim ((kept come).since t image at was_left) [
          | inl before ↦ inl before
          | inr is ↦ inr (come.now, now_goes come, now_near come, subst (λ (sizes : List ℕ). IsKept come.now (scene_of sizes image)) way.same_sizes is)
        ])

    -- and blocks that weren't written to their end.
    pub blocks_failed : (kept : (come : HasCome group past left found changes middle now_found ready) → StopsLeave middle new (λ image. IsKept come.now (scene_of middle.sizes image)))
        → (all : (come : HasCome group past left found changes middle now_found ready) → AreAllKept group come.now new)
        → middle.moment ≤ new.moment → KeepsNear group old new past left found changes false
    blocks_failed kept all later = record {
      any_moment = blocks_moments kept later;
      ends = λ tells. let come = way.has_come (told tells) in (come.now, now_goes come, now_near come, all come);
    }

  -- ---- the end

  -- Where no step is left the call is over.
  pub course_ends : ready.steps ≡ [] → KeepsNear group old middle past left found changes true
  course_ends none = record {
    any_moment = near_way.any_moment;
    ends = λ tells.
        let come = way.has_come tells in
        let all : changes ≡ come.first = come.parts ∙ ap (λ (steps : List ReadyStep). come.first ++ configs_of steps) none ∙ append-nil come.first in
        (come.now, subst (λ (all : List Configuration). IsOver group past (is_read left) found all come.now) (sym all) come.is_over, now_near come, come.stands.at_end.all_kept);
  }

-- The steps that are left behind the next one are near too.
pub steps_behind : (now_found : GroupValue) (ready : ReadyValue) (steps : List ReadyStep) → AreNearSteps now_found.config (map (λ (one : ReadyStep). one.step) steps)
    → AreNearSteps (group_next now_found (record ready { steps = steps })).config (map (λ (one : ReadyStep). one.step) (left_behind (record ready { steps = steps })).steps)
steps_behind now_found ready [] near = near
steps_behind now_found ready (one ∷ others) near = near.1

-- ---- the recovery

module _ (group : List ℕ) {D : Type 0} (old new : BayState D) (past : Past (groups group)) (left : List Bool) (found : GroupValue) (first later : List Configuration)
    (near : (now : Past (groups group)) → Goes group past (is_read left) found first now → AreNear group now.changes) where
  -- A recovery that keeps the history by its own change keeps it near by those behind it too.
  pub recovery_moments : StopsLeave old new (λ image. (now : Past (groups group)) × Goes group past (is_read left) found first now × IsKept now (scene_of old.sizes image))
      → StopsLeave old new (λ image. (now : Past (groups group)) × Goes group past (is_read left) found (first ++ later) now × AreNear group now.changes × IsKept now (scene_of old.sizes image))
  recovery_moments moments = record {
    later = moments.later;
    since = λ t image le was_left. elim (moments.since t image le was_left) [
      | inl before ↦ inl before
      | inr now ↦ inr (now.0, goes_more group past (is_read left) found first later now.0 now.1, near now.0 now.1, now.2)
    ];
  }

  pub recovery_failed : KeepsHistory group old new past left found first false → KeepsNear group old new past left found (first ++ later) false
  recovery_failed keeps = record {
    any_moment = recovery_moments keeps.any_moment;
    ends = λ tells. let now = keeps.ends tells in (now.0, goes_more group past (is_read left) found first later now.0 now.1, near now.0 now.1, now.2);
  }
