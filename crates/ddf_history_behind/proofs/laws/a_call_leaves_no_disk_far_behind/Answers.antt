use Rattle.std.proofs.Common.{true, false, refl}
use Rattle.ddf_history_steps.specs.Steps.{recovery_changes}
use Rattle.ddf_history_steps.proofs.Below.{all_kept, moments_kept, stands_still}
use Rattle.ddf_history_steps.proofs.CommittingFirst.{tried_on}
use Rattle.ddf_history_steps.proofs.CommittingKeeps.{commit_keeps, may, stands_behind}
use Rattle.ddf_history_steps.proofs.Course as course
use Rattle.ddf_history_steps.proofs.Entering.{keeps_where_told}
use Rattle.ddf_history_steps.proofs.Floored.{seats_have_floors}
use Rattle.ddf_history_steps.proofs.RecoveringKeeps as recovering
use Rattle.ddf_history_behind.proofs.Course.{blocks_failed, blocks_moments, course_ends, recovery_failed, recovery_moments, step_failed, step_moments, steps_behind}
use Rattle.ddf_history_behind.proofs.Recovering.{few_issued, goes_near}
use Rattle.ddf_history_behind.proofs.Steps.{steps_near}
use Rattle.ddf_history_behind.proofs.laws.a_call_leaves_no_disk_far_behind.Goals as goal

pub returns-clause-recovers : goal.returns-clause-recovers
returns-clause-recovers g c = λ group past old new left named found asked timestamp ready taken same_group kept admitted near lose is.
    let bay = g.met.B.Bay in
    let before = g.B.Bay.disks old in
    let after = g.B.Bay.disks new in
    let can = recovering.may past before left named found asked timestamp ready taken same_group kept admitted in
    let keeps = keeps_where_told group past left found (recovery_changes timestamp found) true before after (is.any_moment can.seat can.may_change).later ((bay.told new).since)
    (λ tells. course.reads_true before ((bay.told old).held (is.spends.told tells)) ((bay.told old).whole))
    (λ reads. recovering.recovery_keeps past before left named found asked timestamp ready taken same_group kept admitted reads after true is ((bay.told new).held)) in
    let parts = course.changes_parts found asked timestamp ready taken.was_readied in
    let moments = recovery_moments group before after past left found (recovery_changes timestamp found) _
    (goes_near group past admitted.is_kept.chain found taken.was_readied.assembled.are_current near _ (recovery_changes timestamp found) (few_issued timestamp found)) keeps.any_moment in
    let plain = course.recovery_moments group before after past left found (recovery_changes timestamp found) _ keeps.any_moment in
    record {
      way = record {
        same_sizes = is.spends.same_sizes;
        any_moment = rw parts plain;
        has_come = λ tells.
            let stands = recovering.recovery_stands past before left named found asked timestamp ready taken same_group kept admitted (course.reads_true before ((bay.told old).held (is.spends.told tells)) ((bay.told old).whole)) after is ((bay.told new).held tells) in
            record {
              first = recovery_changes timestamp found;
              now = stands.0;
              is_over = stands.1;
              loses = course.recovery_loses found asked timestamp ready taken.was_readied;
              parts = parts;
              stands = stands.2;
            };
      };
      any_moment = rw parts moments;
      steps = steps_near timestamp asked lose _ _ _ (tried_on found timestamp ready asked taken.was_readied);
    }

pub returns-clause-recovery_fails : goal.returns-clause-recovery_fails
returns-clause-recovery_fails g c = λ group past old new left named found asked timestamp ready taken same_group kept admitted near is.
    let bay = g.met.B.Bay in
    let before = g.B.Bay.disks old in
    let after = g.B.Bay.disks new in
    let can = recovering.may past before left named found asked timestamp ready taken same_group kept admitted in
    let keeps = keeps_where_told group past left found (recovery_changes timestamp found) false before after (is.any_moment can.seat can.may_change).later ((bay.told new).since)
    (λ tells. course.reads_true before ((bay.told old).held (is.spends.told tells)) ((bay.told old).whole))
    (λ reads. recovering.recovery_keeps past before left named found asked timestamp ready taken same_group kept admitted reads after false is ((bay.told new).held)) in
    rw (course.changes_parts found asked timestamp ready taken.was_readied)
    (recovery_failed group before after past left found (recovery_changes timestamp found) _
    (goes_near group past admitted.is_kept.chain found taken.was_readied.assembled.are_current near _ (recovery_changes timestamp found) (few_issued timestamp found)) keeps)

pub returns-clause-commits : goal.returns-clause-commits
returns-clause-commits g c = λ group past old middle new left found changes now_found ready near later is.
    let bay = g.met.B.Bay in
    let before = g.B.Bay.disks middle in
    let after = g.B.Bay.disks new in
    let way = near.way in
    record {
      way = course.step_written group (g.B.Bay.disks old) before past left found changes now_found ready way after is.spends.same_sizes ((bay.told new).since) is.spends.told
          (λ come. commit_keeps group come.now before now_found ready.recovery after is.spends.same_sizes ((bay.told new).counts) ((bay.told middle).only_now) ready.steps come.stands true is ((bay.told new).held))
          (λ come tells.
          let can = may group come.now before now_found ready.recovery ready.steps come.stands in
          stands_behind group come.now before now_found ready.recovery after is.spends.same_sizes ready.steps come.stands (is.changed refl can.seat can.may_change) ((bay.told new).held tells))
          later;
      any_moment = step_moments group (g.B.Bay.disks old) before past left found changes now_found ready near after ((bay.told new).since) is.spends.told
          (λ come. (commit_keeps group come.now before now_found ready.recovery after is.spends.same_sizes ((bay.told new).counts) ((bay.told middle).only_now) ready.steps come.stands true is ((bay.told new).held)).any_moment)
          later;
      steps = steps_behind now_found ready ready.steps near.steps;
    }

pub returns-clause-commit_fails : goal.returns-clause-commit_fails
returns-clause-commit_fails g c = λ group past old middle new left found changes now_found ready near later is.
    let bay = g.met.B.Bay in
    let before = g.B.Bay.disks middle in
    let after = g.B.Bay.disks new in
    step_failed group (g.B.Bay.disks old) before past left found changes now_found ready near after ((bay.told new).since) is.spends.told
    (λ come. commit_keeps group come.now before now_found ready.recovery after is.spends.same_sizes ((bay.told new).counts) ((bay.told middle).only_now) ready.steps come.stands false is ((bay.told new).held))
    later

pub returns-clause-writes : goal.returns-clause-writes
returns-clause-writes g c = λ group past old middle new left found changes now_found ready near floored below stay.
    let bay = g.met.B.Bay in
    let before = g.B.Bay.disks middle in
    let after = g.B.Bay.disks new in
    record {
      way = course.blocks_written group (g.B.Bay.disks old) before past left found changes now_found ready near.way after below.same_sizes ((bay.told new).since) below.told
          (λ come. moments_kept _ before after (seats_have_floors group come.now before now_found come.stands.at_end floored) below group come.now now_found come.stands.at_end)
          (λ come tells. course.ready_still group come.now before after now_found ready come.stands
          (stands_still _ before after (seats_have_floors group come.now before now_found come.stands.at_end floored) below group come.now now_found come.stands.at_end stay ((bay.told new).held tells)))
          below.any_moment.later;
      any_moment = blocks_moments group (g.B.Bay.disks old) before past left found changes now_found ready near after ((bay.told new).since) below.told
          (λ come. moments_kept _ before after (seats_have_floors group come.now before now_found come.stands.at_end floored) below group come.now now_found come.stands.at_end)
          below.any_moment.later;
      steps = near.steps;
    }

pub returns-clause-write_fails : goal.returns-clause-write_fails
returns-clause-write_fails g c = λ group past old middle new left found changes now_found ready near floored below.
    let bay = g.met.B.Bay in
    let before = g.B.Bay.disks middle in
    let after = g.B.Bay.disks new in
    blocks_failed group (g.B.Bay.disks old) before past left found changes now_found ready near after ((bay.told new).since) below.told
    (λ come. moments_kept _ before after (seats_have_floors group come.now before now_found come.stands.at_end floored) below group come.now now_found come.stands.at_end)
    (λ come. all_kept _ before after (seats_have_floors group come.now before now_found come.stands.at_end floored) below group come.now now_found come.stands.at_end)
    below.any_moment.later

pub returns-clause-ends : goal.returns-clause-ends
returns-clause-ends g c = λ group past old new left found changes now_found ready near none.
    course_ends group (g.B.Bay.disks old) (g.B.Bay.disks new) past left found changes now_found ready near none
