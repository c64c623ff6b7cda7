-- A call on the blocks of an array is made of three parts: its first steps, its work, and its last step. By what histories tell of each its history comes as far as the call.
use Rattle.std.proofs.Common.{◌≡◌, ◌∙◌, inl, inr, ⊎_elim, ℕ, ◌+◌, ◌≤◌, Bool, true, false, List, [], ◌∷◌, ◌++◌, length, refl, sym, ap, subst, arith}
use Rattle.std.proofs.lemmas.List.{append_cancel_right}
use Rattle.ddf_bay.specs.Moments.{StopsLeave}
use Rattle.ddf_bay.specs.Sectors.{Image, IsLeft}
use Rattle.ddf_bay.specs.State.{BayState}
use Rattle.ddf_bay.proofs.Steps.{stops_then}
use Rattle.ddf_config.specs.Configuration.{Configuration}
use Rattle.ddf_history.specs.Groups.{groups}
use Rattle.ddf_history.specs.Issued.{Past, acknowledge, issue}
use Rattle.ddf_history.specs.Promise.{IsKept}
use Rattle.ddf_history.specs.Scenes.{scene_of}
use Rattle.ddf_seats.specs.Group.{GroupValue}
use Rattle.ddf_steps.specs.Ready.{ReadyStep}
use Rattle.ddf_recovery.specs.Ready.{ReadyValue}
use Rattle.ddf_seats.specs.Seated.{seated}
use Rattle.ddf_history_steps.specs.Going.{Goes, IsOver, KeepsHistory, changes_in, issue_all}
use Rattle.ddf_history_steps.specs.Kept.{AreAllKept, is_read}
use Rattle.ddf_history_steps.specs.Steps.{IsCommit, KeepsStep, behind_next, with_next}
use Rattle.ddf_history_steps.proofs.CommittingKeeps.{commit_keeps}
use Rattle.ddf_history_steps.proofs.LastIssued.{over_length}
use Rattle.ddf_history_steps.specs.Course.{HasCome as Come, IsUnderWay}
use Rattle.ddf_history_steps.specs.BlockFloors.{AreFloored, StaySettled, WritesBelow, floor_in}
use Rattle.ddf_history_steps.proofs.Below.{all_kept, moments_kept}
use Rattle.ddf_history_steps.proofs.Floored.{seats_have_floors}
use Rattle.ddf_answer.specs.Call.{work_of}
use Rattle.ddf_group_commands.specs.Change.{Request}
use Rattle.ddf_group_commands.specs.Writing.{IsLeftWriting}
use Rattle.ddf_write_commands.specs.Along.{ComesAlong, EndsAlong, HasCome, IsAlong}
use Rattle.ddf_write_commands.specs.Along.Stage.{Closing, Done, Opening, Working}
use Rattle.ddf_write_commands.specs.Doing.{Doing}
use Rattle.ddf_write_commands.specs.Planned.{IsPlanned}
use Rattle.ddf_write_commands.specs.Worked.{IsLeftClosing, IsLeftWorking}
use Rattle.ddf_write_commands.proofs.Courses.{writes}
use Rattle.ddf_bay.specs.Told.{IsTold}
use Rattle.ddf_history_steps.proofs.CommittingGoes.{changes_of_both}
use Rattle.ddf_history_steps.proofs.Course.{configs_of}
use Rattle.ddf_group_commands.proofs.LeftWriting.{left_still}

-- the next step, issued and acknowledged, where at most one is left
module _ (group : List ℕ) (past : Past (groups group)) where
  next_is : (ready : ReadyValue) → length ready.steps ≤ 1 → with_next group past ready ≡ issue_all group past (configs_of ready.steps)
  next_is ready few = by ready.steps few
    where
      by : (steps : List ReadyStep) → length steps ≤ 1 → with_next group past (record ready { steps = steps }) ≡ issue_all group past (configs_of steps)
      by [] few = refl
      by (one ∷ []) few = refl
      by (one ∷ next ∷ others) few = absurd (omega (arith, few))

  behind_is : (ready : ReadyValue) → length ready.steps ≤ 1 → length past.changes.issued ≡ past.changes.acked + 1
      → behind_next group past ready ≡ acknowledge (issue_all group past (configs_of ready.steps)) (past.changes.acked + length (configs_of ready.steps))
  behind_is ready few long = by ready.steps few
    where
      by : (steps : List ReadyStep) → length steps ≤ 1
          → behind_next group past (record ready { steps = steps }) ≡ acknowledge (issue_all group past (configs_of steps)) (past.changes.acked + length (configs_of steps))
      by [] few = let same : past.changes.acked ≡ past.changes.acked + 0 = omega arith in ap (acknowledge past) same
      by (one ∷ []) few = let same : length past.changes.issued ≡ past.changes.acked + 1 = long in ap (acknowledge (issue past one.step.config)) same
      by (one ∷ next ∷ others) few = absurd (omega (arith, few))

module _ {D : Type 0} (tells : Type 0) (group : List ℕ) (past : Past (groups group)) (left : List Bool) (found : GroupValue) (timestamp : ℕ) (word : List ℕ) (request : Request)
    (plan : IsPlanned found timestamp word request) (doing : Doing) (old : BayState D) where
  -- Where the first steps fail it ends before its work.
  pub opening_fails : (new : BayState D) → IsTold old → IsTold new → KeepsHistory group old new past left found (changes_in found plan.first) false → StopsLeave old new (IsLeftWriting old plan.first)
      → ComesAlong group doing (work_of tells old new) past left found plan false
  opening_fails new tells_old tells_new keeps first = record {
    any_moment = record {
      later = first.later;
      since = λ t image le was_left. ⊎_elim inl
          (λ writing. ⊎_elim inl (λ shown. inr (record { stage = Opening; now = shown.0; has_come = shown.1; is_left = writing; is_kept = shown.2 })) (keeps.any_moment.since t image le was_left))
          (first.since t image le was_left);
    };
    ends = λ tells_left.
        let last = keeps.ends tells_left in
        record {
          stage = Opening;
          now = last.0;
          has_come = last.1;
          is_over = λ e. absurd cc;
          is_left = λ image is_left. ⊎_elim
              (λ was. left_still old plan.first image (tells_old.only_now image was))
              (λ writing. writing)
              (first.since old.moment image (omega arith) (tells_new.counts old.moment image first.later is_left));
          all_kept = last.2;
        };
  }

  module _ (opened worked new : BayState D) (tells_opened : IsTold opened) (tells_worked : IsTold worked) (now_found : GroupValue) (ready : ReadyValue) (few : length ready.steps ≤ 1)
      (issues : changes_in found plan.last ≡ configs_of ready.steps)
      (way : IsUnderWay group old opened past left found (changes_in found (plan.first ++ plan.last)) now_found ready)
      (begun : StopsLeave old opened (λ image. (now : Past (groups group)) × Goes group past (is_read left) found (changes_in found plan.first) now × IsKept now (scene_of old.sizes image)))
      (first : StopsLeave old opened (IsLeftWriting old plan.first))
      (floored : AreFloored (seated now_found)) (below : WritesBelow (floor_in now_found.seats) opened worked)
      (working : StopsLeave opened worked (IsLeftWorking doing (work_of tells old new) found plan.first plan.volume)) where
    -- The first changes are those of the first steps.
    first_over : {disks : BayState D} (come : Come group past left found (changes_in found (plan.first ++ plan.last)) disks now_found ready) → IsOver group past (is_read left) found (changes_in found plan.first) come.now
    first_over come =
        let parts : changes_in found plan.first ++ configs_of ready.steps ≡ come.first ++ configs_of ready.steps =
        ap (λ (last : List Configuration). changes_in found plan.first ++ last) (sym issues) ∙ sym (changes_of_both found plan.first plan.last) ∙ come.parts in
        subst (λ (all : List Configuration). IsOver group past (is_read left) found all come.now) (sym (append_cancel_right (changes_in found plan.first) come.first (configs_of ready.steps) parts)) come.is_over

    opening_stops : StopsLeave old opened (IsAlong group doing (work_of tells old new) past left found plan)
    opening_stops = record {
      later = first.later;
      since = λ t image le was_left. ⊎_elim inl
          (λ writing. ⊎_elim inl (λ shown. inr (record { stage = Opening; now = shown.0; has_come = shown.1; is_left = writing; is_kept = shown.2 })) (begun.since t image le was_left))
          (first.since t image le was_left);
    }

    working_stops : StopsLeave opened worked (IsAlong group doing (work_of tells old new) past left found plan)
    working_stops = record {
      later = working.later;
      since = λ t image le was_left.
          let come = way.has_come (below.told (tells_worked.since t image was_left)) in
          let kept = moments_kept (floor_in now_found.seats) opened worked (seats_have_floors group come.now opened now_found come.stands.at_end floored) below group come.now now_found come.stands.at_end in
          ⊎_elim inl
          (λ at_work. ⊎_elim inl
          (λ is. inr (record {
            stage = Working;
            now = come.now;
            has_come = first_over come;
            is_left = at_work;
            is_kept = subst (λ (sizes : List ℕ). IsKept come.now (scene_of sizes image)) way.same_sizes is;
          }))
          (kept.since t image le was_left))
          (working.since t image le was_left);
    }

    -- Where the work fails the call ends there.
    pub work_fails : new ≡ worked → ((image : Image) → IsLeft opened.may_hold image → IsLeftWorking doing (work_of tells old new) found plan.first plan.volume image)
        → ComesAlong group doing (work_of tells old new) past left found plan false
    work_fails same begins = record {
      any_moment = subst (λ (last : BayState D). StopsLeave old last (IsAlong group doing (work_of tells old new) past left found plan)) (sym same) (stops_then opening_stops working_stops (λ image is. is));
      ends = λ tells_left.
          let come = way.has_come (below.told (subst (λ (last : BayState D). last.tells_left) same tells_left)) in
          let all = all_kept (floor_in now_found.seats) opened worked (seats_have_floors group come.now opened now_found come.stands.at_end floored) below group come.now now_found come.stands.at_end in
          record {
            stage = Working;
            now = come.now;
            has_come = first_over come;
            is_over = λ e. absurd cc;
            is_left = λ image is_left. ⊎_elim (λ was. begins image (tells_opened.only_now image was)) (λ at_work. at_work)
                (working.since opened.moment image (omega arith)
                (tells_worked.counts opened.moment image working.later (subst (λ (last : BayState D). IsLeft last.may_hold image) same is_left)));
            all_kept = subst (AreAllKept group come.now) (sym same) all;
          };
    }

    module _ (stay : StaySettled opened worked) (tells_new : IsTold new) (done : Bool) (commit : IsCommit worked new ready done)
        (closing : StopsLeave worked new (IsLeftClosing doing (work_of tells old new) found plan.first plan.last plan.volume))
        (begins : new.tells_left → (image : Image) → IsLeft worked.may_hold image → IsLeftClosing doing (work_of tells old new) found plan.first plan.last plan.volume image) where
      -- the course behind the work
      behind_work : IsUnderWay group old worked past left found (changes_in found (plan.first ++ plan.last)) now_found ready
      behind_work = writes group past old opened worked tells_opened tells_worked left found (changes_in found (plan.first ++ plan.last)) now_found ready way floored below stay

      keeps : (come : Come group past left found (changes_in found (plan.first ++ plan.last)) worked now_found ready) → KeepsStep group worked new come.now ready done
      keeps come =
          commit_keeps group come.now worked now_found ready.recovery new commit.spends.same_sizes tells_new.counts tells_worked.only_now ready.steps come.stands done commit tells_new.held

      next_come : (come : Come group past left found (changes_in found (plan.first ++ plan.last)) worked now_found ready)
          → HasCome group doing (work_of tells old new) past left found plan Closing (with_next group come.now ready)
      next_come come = (
        come.now,
        first_over come,
        next_is group come.now ready few ∙ ap (issue_all group come.now) (sym issues),
      )

      closing_stops : StopsLeave worked new (IsAlong group doing (work_of tells old new) past left found plan)
      closing_stops = record {
        later = closing.later;
        since = λ t image le was_left.
            let come = (behind_work).has_come (commit.spends.told (tells_new.since t image was_left)) in
            ⊎_elim inl
            (λ at_end. ⊎_elim inl
            (λ is. inr (record {
              stage = Closing;
              now = with_next group come.now ready;
              has_come = next_come come;
              is_left = at_end;
              is_kept = subst (λ (sizes : List ℕ). IsKept (with_next group come.now ready) (scene_of sizes image)) (below.same_sizes ∙ way.same_sizes) is;
            }))
            ((keeps come).any_moment.since t image le was_left))
            (closing.since t image le was_left);
      }

      left_last : new.tells_left → (image : Image) → IsLeft new.may_hold image → IsLeftClosing doing (work_of tells old new) found plan.first plan.last plan.volume image
      left_last tells_left image is_left =
          ⊎_elim (λ was. begins tells_left image (tells_worked.only_now image was)) (λ last. last)
          (closing.since worked.moment image (omega arith) (tells_new.counts worked.moment image closing.later is_left))

      ended : (is : Bool) → new.tells_left → (come : Come group past left found (changes_in found (plan.first ++ plan.last)) worked now_found ready) → KeepsStep group worked new come.now ready is
          → EndsAlong group doing (work_of tells old new) past left found plan is
      ended true tells_left come kept =
          let over = first_over come in
          record {
            stage = Done;
            now = behind_next group come.now ready;
            has_come = (
              come.now,
              over,
              behind_is group come.now ready few (over_length group past (is_read left) found (changes_in found plan.first) come.now over)
                  ∙ ap (λ (last : List Configuration). acknowledge (issue_all group come.now last) (come.now.changes.acked + length last)) (sym issues),
            );
            is_over = λ e. refl;
            is_left = left_last tells_left;
            all_kept = kept.ends tells_left;
          }
      ended false tells_left come kept = record {
        stage = Closing;
        now = with_next group come.now ready;
        has_come = next_come come;
        is_over = λ e. absurd cc;
        is_left = left_last tells_left;
        all_kept = kept.ends tells_left;
      }

      -- So the history comes as far as the call.
      pub comes_along : ComesAlong group doing (work_of tells old new) past left found plan done
      comes_along = record {
        any_moment = stops_then (stops_then opening_stops working_stops (λ image is. is)) closing_stops (λ image is. is);
        ends = λ tells_left. let come = (behind_work).has_come (commit.spends.told tells_left) in ended done tells_left come (keeps come);
      }
