-- What a call that works on blocks keeps of each history of its group, on its way: by what the calls that it makes promise.
use Rattle.std.proofs.Common.{◌≡◌, ℕ, ◌≤◌, Bool, true, false, List, Option, refl}
use Rattle.ddf_bay.specs.State.{BayState}
use Rattle.ddf_bay.specs.Told.{IsTold}
use Rattle.ddf_config.specs.Configuration.{Configuration}
use Rattle.ddf_plan.specs.declared.change.Change.{Change}
use Rattle.ddf_history.specs.Groups.{groups}
use Rattle.ddf_history.specs.Issued.{Past}
use Rattle.ddf_recovery.specs.Committed.{group_next, group_recovered, left_behind}
use Rattle.ddf_seats.specs.Group.{GroupValue}
use Rattle.ddf_recovery.specs.Ready.{ReadyValue}
use Rattle.ddf_seats.specs.Seated.{seated}
use Rattle.ddf_history_steps.specs.Going.{IsAdmitted, KeepsHistory}
use Rattle.ddf_history_steps.specs.Kept.{AreAllKept}
use Rattle.ddf_history_steps.specs.Steps.{IsCommit, IsRecovery, WasTaken, behind_recovery, recovery_changes}
use Rattle.ddf_history_steps.proofs.CommittingKeeps.{commit_keeps, may, stands_behind}
use Rattle.ddf_history_steps.proofs.Entering.{keeps_where_told}
use Rattle.ddf_history_steps.proofs.RecoveringKeeps as recovering
use Rattle.ddf_history_steps.specs.Course.{IsUnderWay, changes_ready}
use Rattle.ddf_history_steps.specs.BlockFloors.{AreFloored, StaySettled, WritesBelow, floor_in}
use Rattle.ddf_history_steps.proofs.Below.{all_kept, moments_kept, stands_still}
use Rattle.ddf_history_steps.proofs.Course as course
use Rattle.ddf_history_steps.proofs.Course.{blocks_failed, blocks_written, changes_parts, ready_still, recovery_loses, recovery_moments, reads_true, step_failed, step_written}
use Rattle.ddf_history_steps.proofs.Floored.{seats_have_floors}

module _ (group : List ℕ) {D : Type 0} (past : Past (groups group)) (old new : BayState D) (tells_old : IsTold old) (tells_new : IsTold new) (left : List Bool) (named : Option (List ℕ)) (found : GroupValue)
    (asked : List Change) (timestamp : ℕ) (ready : ReadyValue) (taken : WasTaken old left named found asked timestamp ready) (same_group : found.config.group ≡ group) (kept : AreAllKept group past old)
    (admitted : IsAdmitted group past old left found) where
  -- A recovery,
  pub recovers : IsRecovery old new found ready true → IsUnderWay group old new past left found (changes_ready found ready) (group_recovered found ready.recovery) (behind_recovery ready)
  recovers is =
      let can = recovering.may past old left named found asked timestamp ready taken same_group kept admitted in
      let keeps = keeps_where_told group past left found (recovery_changes timestamp found) true old new (is.any_moment can.seat can.may_change).later tells_new.since
      (λ tells. reads_true old (tells_old.held (is.spends.told tells)) tells_old.whole)
      (λ reads. recovering.recovery_keeps past old left named found asked timestamp ready taken same_group kept admitted reads new true is tells_new.held) in
      let parts = changes_parts found asked timestamp ready taken.was_readied in
      let moments = recovery_moments group old new past left found (recovery_changes timestamp found) _ keeps.any_moment in
      record {
        same_sizes = is.spends.same_sizes;
        any_moment = rw parts moments;
        has_come = λ tells.
            let stands = recovering.recovery_stands past old left named found asked timestamp ready taken same_group kept admitted (reads_true old (tells_old.held (is.spends.told tells)) tells_old.whole) new is (tells_new.held tells) in
            record {
              first = recovery_changes timestamp found;
              now = stands.0;
              is_over = stands.1;
              loses = recovery_loses found asked timestamp ready taken.was_readied;
              parts = parts;
              stands = stands.2;
            };
      }

  -- or one that failed,
  pub recovery_fails : IsRecovery old new found ready false → KeepsHistory group old new past left found (changes_ready found ready) false
  recovery_fails is =
      let can = recovering.may past old left named found asked timestamp ready taken same_group kept admitted in
      let keeps = keeps_where_told group past left found (recovery_changes timestamp found) false old new (is.any_moment can.seat can.may_change).later tells_new.since
      (λ tells. reads_true old (tells_old.held (is.spends.told tells)) tells_old.whole)
      (λ reads. recovering.recovery_keeps past old left named found asked timestamp ready taken same_group kept admitted reads new false is tells_new.held) in
      rw (changes_parts found asked timestamp ready taken.was_readied) (course.recovery_failed group old new past left found (recovery_changes timestamp found) _ keeps)

module _ (group : List ℕ) {D : Type 0} (past : Past (groups group)) (old middle new : BayState D) (tells_middle : IsTold middle) (tells_new : IsTold new) (left : List Bool) (found : GroupValue)
    (changes : List Configuration) (now_found : GroupValue) (ready : ReadyValue) (way : IsUnderWay group old middle past left found changes now_found ready) where
  -- a step,
  pub commits : middle.moment ≤ new.moment → IsCommit middle new ready true → IsUnderWay group old new past left found changes (group_next now_found ready) (left_behind ready)
  commits later is =
      step_written group old middle past left found changes now_found ready way new is.spends.same_sizes tells_new.since is.spends.told
      (λ come. commit_keeps group come.now middle now_found ready.recovery new is.spends.same_sizes tells_new.counts tells_middle.only_now ready.steps come.stands true is tells_new.held)
      (λ come tells.
      let can = may group come.now middle now_found ready.recovery ready.steps come.stands in
      stands_behind group come.now middle now_found ready.recovery new is.spends.same_sizes ready.steps come.stands (is.changed refl can.seat can.may_change) (tells_new.held tells))
      later

  -- or one that failed,
  pub commit_fails : middle.moment ≤ new.moment → IsCommit middle new ready false → KeepsHistory group old new past left found changes false
  commit_fails later is =
      step_failed group old middle past left found changes now_found ready way new is.spends.same_sizes tells_new.since is.spends.told
      (λ come. commit_keeps group come.now middle now_found ready.recovery new is.spends.same_sizes tells_new.counts tells_middle.only_now ready.steps come.stands false is tells_new.held)
      later

  module _ (floored : AreFloored (seated now_found)) (below : WritesBelow (floor_in now_found.seats) middle new) where
    -- and blocks,
    pub writes : StaySettled middle new → IsUnderWay group old new past left found changes now_found ready
    writes stay =
        blocks_written group old middle past left found changes now_found ready way new below.same_sizes tells_new.since below.told
        (λ come. moments_kept _ middle new (seats_have_floors group come.now middle now_found come.stands.at_end floored) below group come.now now_found come.stands.at_end)
        (λ come tells.
        ready_still group come.now middle new now_found ready come.stands
        (stands_still _ middle new (seats_have_floors group come.now middle now_found come.stands.at_end floored) below group come.now now_found come.stands.at_end stay (tells_new.held tells)))
        below.any_moment.later

    -- also where they weren't written to the end, keep the history.
    pub write_fails : KeepsHistory group old new past left found changes false
    write_fails =
        blocks_failed group old middle past left found changes now_found ready way new below.same_sizes tells_new.since below.told
        (λ come. moments_kept _ middle new (seats_have_floors group come.now middle now_found come.stands.at_end floored) below group come.now now_found come.stands.at_end)
        (λ come. all_kept _ middle new (seats_have_floors group come.now middle now_found come.stands.at_end floored) below group come.now now_found come.stands.at_end)
        below.any_moment.later
