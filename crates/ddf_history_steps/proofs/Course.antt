-- A call that recovers a group, and writes steps of it and blocks, keeps its history at every moment of its course.
use Rattle.std.proofs.Common.{◌≡◌, ◌⊎◌, ℕ, ◌+◌, ◌<◌, ◌≤◌, ◌==◌, not, Bool, true, false, List, [], ◌∷◌, ◌++◌, length, map, Option, Some, None, if◌then◌else◌, cond, inl, inr, refl, sym, ap, subst, ◌∙◌, arith, append_assoc, append-nil, length-append}
use Rattle.std.proofs.lemmas.Bool.{eqb-true}
use Rattle.std.proofs.lemmas.List.{take-append-le}
use Rattle.std.proofs.Math.Seq.{take-append_seam}
use Rattle.std.specs.Prelude.{filter, option_map, option_to_list}
use Rattle.ddf_bay.specs.Moments.{StopsLeave}
use Rattle.ddf_bay.specs.Sectors.{Image, IsLeft, IsWhole}
use Rattle.ddf_bay.specs.State.{BayState}
use Rattle.ddf_config.specs.Configuration.{Configuration}
use Rattle.ddf_plan.specs.declared.change.Change.{Change}
use Rattle.ddf_history.specs.Groups.{groups}
use Rattle.ddf_history.specs.Issued.{Past, acknowledge, issue}
use Rattle.ddf_history.specs.Promise.{IsKept}
use Rattle.ddf_history.specs.Scenes.{scene_of}
use Rattle.ddf_steps.specs.Committed.{DoRise}
use Rattle.ddf_recovery.specs.Committed.{WasReadied, group_next, left_behind}
use Rattle.ddf_seats.specs.Group.{GroupValue}
use Rattle.ddf_steps.specs.Ready.{ReadyStep}
use Rattle.ddf_recovery.specs.Ready.{ReadyValue}
use Rattle.ddf_recovery.specs.Recovery.{config_lost, lost_step, mending_step, recovery_of}
use Rattle.ddf_seats.specs.Leading.{some}
use Rattle.ddf_steps.specs.Steps.{Step}
use Rattle.ddf_recovery.proofs.ReadiedParts.{loss_rises}
use Rattle.ddf_recovery.proofs.RecoveredGroup.{is_recovered, recovered_ready}
use Rattle.ddf_history_steps.specs.Going.{Goes, IsOver, IsUnderway, KeepsHistory, begun, changes_in, issue_all}
use Rattle.ddf_history_steps.specs.AtEnd.{IsAtEnd}
use Rattle.ddf_history_steps.specs.Kept.{AreAllKept, ReadsTrue, is_read}
use Rattle.ddf_history_steps.specs.Steps.{KeepsStep, StandsReady, behind_next, recovery_changes, with_next}
use Rattle.ddf_history_steps.proofs.CommittingGoes.{change_goes, change_over, changes_are, no_lower}
use Rattle.ddf_history_steps.specs.Course.{HasCome, IsUnderWay, changes_ready}

-- ---- how far a call came

module _ (group : List ℕ) (past : Past (groups group)) (readable : ℕ → Bool) (found : GroupValue) where
  -- A call of more changes came as far.
  goes_more : (first later : List Configuration) (now : Past (groups group)) → Goes group past readable found first now → Goes group past readable found (first ++ later) now
  goes_more first later now (inl before) = inl before
  goes_more first later now (inr way) =
      let few = way.few in
      let long = length-append first later in
      inr (record {
        number = way.number;
        since = way.since;
        issued = way.issued;
        few = omega (arith, few, long);
        loses = way.loses;
        acked = way.acked;
        stands = way.stands;
        most = way.most;
        in_turn = way.in_turn;
        is_now = way.is_now
            ∙ ap (λ (changes : List Configuration). acknowledge (issue_all group (begun group past readable found way.number) changes) way.acked)
            (sym (take-append-le way.issued first later few));
      })

  module _ (first : List Configuration) (now : Past (groups group)) (over : IsOver group past readable found first now) (loses : some found.absent ≡ true → 1 ≤ length first) where
    -- All of its first changes are acknowledged.
    over_goes : (later : List Configuration) → Goes group past readable found (first ++ later) now
    over_goes later =
        let long = length-append first later in
        inr (record {
          number = over.number;
          since = over.since;
          issued = length first;
          few = omega (arith, long);
          loses = loses;
          acked = over.number + length first;
          stands = inr (omega arith);
          most = omega arith;
          in_turn = inr (inl (omega arith));
          is_now = over.is_now
              ∙ ap (λ (changes : List Configuration). acknowledge (issue_all group (begun group past readable found over.number) changes) (over.number + length first))
              (sym (take-append_seam first later));
        })

    -- The next one is issued behind them,
    issue_goes : (next : Configuration) (later : List Configuration) → Goes group past readable found (first ++ next ∷ later) (issue now next)
    issue_goes next later =
        subst (λ (changes : List Configuration). Goes group past readable found changes (issue now next)) (append_assoc first (next ∷ []) later)
        (goes_more (first ++ next ∷ []) later (issue now next)
        (inr (subst (λ (before : Past (groups group)). IsUnderway group past readable found (first ++ next ∷ []) (issue before next)) (sym over.is_now)
        (change_goes group past readable found over.number over.since first next (over.number + length first) (inr (omega arith)) (omega arith)))))

    -- and acknowledged.
    next_over : (next : Configuration) → IsOver group past readable found (first ++ next ∷ []) (acknowledge (issue now next) (length now.changes.issued))
    next_over next =
        subst (λ (before : Past (groups group)). IsOver group past readable found (first ++ next ∷ []) (acknowledge (issue before next) (length before.changes.issued))) (sym over.is_now)
        (change_over group past readable found over.number over.since first next (over.number + length first))

-- ---- what a call issues

abbrev raises_over : (sequence : ℕ) → Step → Bool
raises_over sequence step = not (step.config.sequence == sequence)

abbrev pub configs_of : List ReadyStep → List Configuration
configs_of steps = map (λ (one : ReadyStep). one.step.config) steps

kept_all : (sequence number : ℕ) (steps : List ReadyStep) → sequence ≤ number → DoRise number steps
    → map (λ (step : Step). step.config) (filter (raises_over sequence) (map (λ (one : ReadyStep). one.step) steps)) ≡ configs_of steps
kept_all sequence number [] le rise = refl
kept_all sequence number (one ∷ others) le rise =
    by (one.step.config.sequence == sequence) refl (kept_all sequence one.step.config.sequence others (let first = rise.0 in omega (arith, le, first)) rise.1)
  where
    by : (same : Bool) → (one.step.config.sequence == sequence) ≡ same
        → map (λ (step : Step). step.config) (filter (raises_over sequence) (map (λ (one : ReadyStep). one.step) others)) ≡ configs_of others
        → map (λ (step : Step). step.config) (cond (not (one.step.config.sequence == sequence)) (one.step ∷ filter (raises_over sequence) (map (λ (one : ReadyStep). one.step) others)) (filter (raises_over sequence) (map (λ (one : ReadyStep). one.step) others)))
        ≡ one.step.config ∷ configs_of others
    by true is rest = let first = rise.0 in absurd (omega (arith, le, first, eqb-true one.step.config.sequence sequence is))
    by false is rest = rw is (ap (λ (configs : List Configuration). one.step.config ∷ configs) rest)

module _ (found : GroupValue) (asked : List Change) (timestamp : ℕ) (ready : ReadyValue) (was : WasReadied found asked timestamp ready) where
  -- The recovery's change, and that of each step.
  pub changes_parts : changes_ready found ready ≡ recovery_changes timestamp found ++ configs_of ready.steps
  changes_parts =
      let is = is_recovered found asked timestamp ready was in
      let le = no_lower found asked timestamp ready was in
      let rises = subst (λ (config : Configuration). DoRise config.sequence ready.steps) is.config_is (recovered_ready found asked timestamp ready was).rises in
      changes_are found asked timestamp ready was
      ∙ ap (λ (changes : List Configuration). recovery_changes timestamp found ++ changes) (kept_all found.config.sequence _ ready.steps le rises)

  -- Where members are absent the recovery issues their loss.
  pub recovery_loses : some found.absent ≡ true → 1 ≤ length (recovery_changes timestamp found)
  unfolding recovery_of
  recovery_loses absent = by ready.recovery refl
    where
      lost : recovery_of timestamp found ≡ Some (lost_step timestamp found)
      lost = ap (λ (b : Bool). if b then Some (lost_step timestamp found) else if some found.lagging then Some (mending_step timestamp found) else None) absent

      one_issued : found.config.sequence < (config_lost found).sequence → (same : Bool) → ((config_lost found).sequence == found.config.sequence) ≡ same
          → 1 ≤ length (changes_in found (lost_step timestamp found ∷ []))
      one_issued rises true is = absurd (omega (arith, rises, eqb-true (config_lost found).sequence found.config.sequence is))
      one_issued rises false is =
          subst (λ (same : Bool). 1 ≤ length (map (λ (step : Step). step.config) (cond (not same) (lost_step timestamp found ∷ []) []))) (sym is) (omega arith)

      by : (next : Option ReadyStep) → ready.recovery ≡ next → 1 ≤ length (recovery_changes timestamp found)
      by None e = let none : None ≡ Some (lost_step timestamp found) = sym (ap (option_map (λ (one : ReadyStep). one.step)) e) ∙ was.is_recovery ∙ lost in absurd cc
      by (Some one) e =
          subst (λ (step : Option Step). 1 ≤ length (changes_in found (option_to_list step))) (sym lost)
          (one_issued (loss_rises found asked timestamp ready was one e absent) ((config_lost found).sequence == found.config.sequence) refl)

-- ---- the course

-- The disks as they read are one of the images that a stop may leave, of whole sectors, where the bay tells so.
pub reads_true : {D : Type 0} (state : BayState D) → IsLeft state.may_hold state.held → ((s l : ℕ) (bytes : List ℕ) → state.may_hold s l bytes → IsWhole bytes) → ReadsTrue state
reads_true state is_left whole = record { is_left = is_left; holds_bytes = λ slot l. whole slot l (state.held slot l) (is_left slot l) }

-- A group that still stands at the end has the same steps ready.
pub ready_still : (group : List ℕ) {D : Type 0} (past : Past (groups group)) (old new : BayState D) (found : GroupValue) (ready : ReadyValue) → StandsReady group past old found ready
    → IsAtEnd group past new found → StandsReady group past new found ready
ready_still group past old new found ready stands end = record {
  at_end = end;
  is_ready = stands.is_ready;
  asked = stands.asked;
  can_be_asked = stands.can_be_asked;
  timestamp = stands.timestamp;
  time = stands.time;
  are_steps = stands.are_steps;
}

module _ (group : List ℕ) {D : Type 0} (old middle : BayState D) (past : Past (groups group)) (left : List Bool) (found : GroupValue) (changes : List Configuration)
    (now_found : GroupValue) (ready : ReadyValue) (way : IsUnderWay group old middle past left found changes now_found ready) where
  abbrev Shows : Image → Type 0
  Shows image = (now : Past (groups group)) × Goes group past (is_read left) found changes now × IsKept now (scene_of old.sizes image)

  -- the history as it is then
  now_goes : (come : HasCome group past left found changes middle now_found ready) → Goes group past (is_read left) found changes come.now
  now_goes come =
      subst (λ (all : List Configuration). Goes group past (is_read left) found all come.now) (sym come.parts)
      (over_goes group past (is_read left) found come.first come.now come.is_over come.loses (configs_of ready.steps))

  -- Where each image that a further call may leave shows what it should, all that a stop left since the entry does so.
  goes_on : (new : BayState D) → middle.moment ≤ new.moment
      → ((t : ℕ) (image : Image) → middle.moment ≤ middle.moment → t ≤ middle.moment → new.left_since t image → middle.left_since t image ⊎ Shows image)
      → StopsLeave old new Shows
  goes_on new later shows = record {
    later = let first = way.any_moment.later in omega (arith, first, later);
    since = λ t image le was_left. elim (shows t image (omega arith) (let first = way.any_moment.later in omega (arith, le, first)) was_left) [
      | inl before ↦ way.any_moment.since t image le before
      | inr now ↦ inr now
    ];
  }

  -- ---- a step

  with_goes : (steps : List ReadyStep) → (come : HasCome group past left found changes middle now_found (record ready { steps = steps }))
      → Goes group past (is_read left) found changes (with_next group come.now (record ready { steps = steps }))
  with_goes [] come =
      subst (λ (all : List Configuration). Goes group past (is_read left) found all come.now) (sym come.parts)
      (over_goes group past (is_read left) found come.first come.now come.is_over come.loses [])
  with_goes (one ∷ others) come =
      subst (λ (all : List Configuration). Goes group past (is_read left) found all (issue come.now one.step.config)) (sym come.parts)
      (issue_goes group past (is_read left) found come.first come.now come.is_over come.loses one.step.config (configs_of others))

  module _ (new : BayState D) (same_sizes : new.sizes ≡ middle.sizes) (told_since : (t : ℕ) (image : Image) → new.left_since t image → new.tells_left)
      (told : new.tells_left → middle.tells_left) where
    sizes_same : new.sizes ≡ old.sizes
    sizes_same = same_sizes ∙ way.same_sizes

    step_moments : (keeps : (come : HasCome group past left found changes middle now_found ready) → StopsLeave middle new (λ image. IsKept (with_next group come.now ready) (scene_of middle.sizes image)))
        → middle.moment ≤ new.moment → StopsLeave old new Shows
    step_moments keeps later =
        goes_on new later (λ t image le at was_left.
        let come = way.has_come (told (told_since t image was_left)) in
        elim ((keeps come).since t image at was_left) [
          | inl before ↦ inl before
          | inr kept ↦ inr (with_next group come.now ready, with_goes ready.steps come, subst (λ (sizes : List ℕ). IsKept (with_next group come.now ready) (scene_of sizes image)) way.same_sizes kept)
        ])

    -- A step that failed keeps the history.
    pub step_failed : (keeps : (come : HasCome group past left found changes middle now_found ready) → KeepsStep group middle new come.now ready false)
        → middle.moment ≤ new.moment → KeepsHistory group old new past left found changes false
    step_failed keeps later = record {
      any_moment = step_moments (λ come. (keeps come).any_moment) later;
      ends = λ tells.
          let come = way.has_come (told tells) in
          (with_next group come.now ready, with_goes ready.steps come, (keeps come).ends tells);
    }

    come_behind : (steps : List ReadyStep) (come : HasCome group past left found changes middle now_found (record ready { steps = steps }))
        → StandsReady group (behind_next group come.now (record ready { steps = steps })) new (group_next now_found (record ready { steps = steps })) (left_behind (record ready { steps = steps }))
        → HasCome group past left found changes new (group_next now_found (record ready { steps = steps })) (left_behind (record ready { steps = steps }))
    come_behind [] come stands = record {
      first = come.first;
      now = come.now;
      is_over = come.is_over;
      loses = come.loses;
      parts = come.parts;
      stands = stands;
    }
    come_behind (one ∷ others) come stands = record {
      first = come.first ++ one.step.config ∷ [];
      now = acknowledge (issue come.now one.step.config) (length come.now.changes.issued);
      is_over = next_over group past (is_read left) found come.first come.now come.is_over come.loses one.step.config;
      loses = λ absent. let some = come.loses absent in let long = length-append come.first (one.step.config ∷ []) in omega (arith, some, long);
      parts = come.parts ∙ sym (append_assoc come.first (one.step.config ∷ []) (configs_of others));
      stands = stands;
    }

    -- One that was written brings the call further.
    pub step_written : (keeps : (come : HasCome group past left found changes middle now_found ready) → KeepsStep group middle new come.now ready true)
        → (stands : (come : HasCome group past left found changes middle now_found ready) → new.tells_left → StandsReady group (behind_next group come.now ready) new (group_next now_found ready) (left_behind ready))
        → middle.moment ≤ new.moment → IsUnderWay group old new past left found changes (group_next now_found ready) (left_behind ready)
    step_written keeps stands later = record {
      same_sizes = sizes_same;
      any_moment = step_moments (λ come. (keeps come).any_moment) later;
      has_come = λ tells. let come = way.has_come (told tells) in come_behind ready.steps come (stands come tells);
    }

    -- ---- blocks

    blocks_moments : (kept : (come : HasCome group past left found changes middle now_found ready) → StopsLeave middle new (λ image. IsKept come.now (scene_of middle.sizes image)))
        → middle.moment ≤ new.moment → StopsLeave old new Shows
    blocks_moments kept later =
        goes_on new later (λ t image le at was_left.
        let come = way.has_come (told (told_since t image was_left)) in
        elim ((kept come).since t image at was_left) [
          | inl before ↦ inl before
          | inr is ↦ inr (come.now, now_goes come, subst (λ (sizes : List ℕ). IsKept come.now (scene_of sizes image)) way.same_sizes is)
        ])

    -- Blocks that were written, or not to their end, keep the history,
    pub blocks_failed : (kept : (come : HasCome group past left found changes middle now_found ready) → StopsLeave middle new (λ image. IsKept come.now (scene_of middle.sizes image)))
        → (all : (come : HasCome group past left found changes middle now_found ready) → AreAllKept group come.now new)
        → middle.moment ≤ new.moment → KeepsHistory group old new past left found changes false
    blocks_failed kept all later = record {
      any_moment = blocks_moments kept later;
      ends = λ tells. let come = way.has_come (told tells) in (come.now, now_goes come, all come);
    }

    -- and where the group stands there still, the call goes on from there.
    pub blocks_written : (kept : (come : HasCome group past left found changes middle now_found ready) → StopsLeave middle new (λ image. IsKept come.now (scene_of middle.sizes image)))
        → (stands : (come : HasCome group past left found changes middle now_found ready) → new.tells_left → StandsReady group come.now new now_found ready)
        → middle.moment ≤ new.moment → IsUnderWay group old new past left found changes now_found ready
    blocks_written kept stands later = record {
      same_sizes = sizes_same;
      any_moment = blocks_moments kept later;
      has_come = λ tells. let come = way.has_come (told tells) in record {
        first = come.first;
        now = come.now;
        is_over = come.is_over;
        loses = come.loses;
        parts = come.parts;
        stands = stands come tells;
      };
    }

  -- ---- the end

  -- Where no step is left the call is over.
  pub course_ends : ready.steps ≡ [] → KeepsHistory group old middle past left found changes true
  course_ends none = record {
    any_moment = way.any_moment;
    ends = λ tells.
        let come = way.has_come tells in
        let all : changes ≡ come.first = come.parts ∙ ap (λ (steps : List ReadyStep). come.first ++ configs_of steps) none ∙ append-nil come.first in
        (come.now, subst (λ (all : List Configuration). IsOver group past (is_read left) found all come.now) (sym all) come.is_over, come.stands.at_end.all_kept);
  }

-- ---- the recovery

module _ (group : List ℕ) {D : Type 0} (old new : BayState D) (past : Past (groups group)) (left : List Bool) (found : GroupValue) (first later : List Configuration) where
  -- A recovery that keeps the history by its own change keeps it by those behind it too.
  pub recovery_moments : StopsLeave old new (λ image. (now : Past (groups group)) × Goes group past (is_read left) found first now × IsKept now (scene_of old.sizes image))
      → StopsLeave old new (λ image. (now : Past (groups group)) × Goes group past (is_read left) found (first ++ later) now × IsKept now (scene_of old.sizes image))
  recovery_moments moments = record {
    later = moments.later;
    since = λ t image le was_left. elim (moments.since t image le was_left) [
      | inl before ↦ inl before
      | inr now ↦ inr (now.0, goes_more group past (is_read left) found first later now.0 now.1, now.2)
    ];
  }

  pub recovery_failed : KeepsHistory group old new past left found first false → KeepsHistory group old new past left found (first ++ later) false
  recovery_failed keeps = record {
    any_moment = recovery_moments keeps.any_moment;
    ends = λ tells. let now = keeps.ends tells in (now.0, goes_more group past (is_read left) found first later now.0 now.1, now.2);
  }
