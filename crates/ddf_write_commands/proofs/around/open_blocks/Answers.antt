use Rattle.std.proofs.Common.{◌∙◌, true, false, subst, sym}
use Rattle.std.proofs.lemmas.Result.{err_from_is_err_and}
use Rattle.ddf_update.specs.Group.{IsOneOf, LieOnSlots}
use Rattle.ddf_recovery.specs.Committed.{next_slots, next_updates}
use Rattle.ddf_recovery.specs.Ready.{ReadyValue}
use Rattle.ddf_history_steps.specs.Steps.{IsCommit, IsRecovery}
use Rattle.ddf_group_commands.proofs.FewCalls.{committed_few, recovered_few}
use Rattle.ddf_group_commands.proofs.Recovering.{commit_failed, first_lies, recover_failed, rest_lies, slots_there}
use Rattle.ddf_write_commands.proofs.Costs.{alone_costs, behind_costs, left_marked, left_unmarked}
use Rattle.ddf_bay.specs.Told.{IsTold}
use Rattle.ddf_write_commands.proofs.Opening.{commit_aside, commit_leaves_first, is_step_after, mark_keeps, no_step_after, opened_marked, opened_unmarked, recovery_aside, recovery_keeps, recovery_leaves}
use Rattle.ddf_write_commands.proofs.around.open_blocks.Goals as goal
use Rattle.ddf_write_commands.proofs.around.open_blocks.Goals.{then-plan+in_ok-commit, else-plan}

pub recover-requires-clause-slots : goal.recover-requires-clause-slots
recover-requires-clause-slots g c =
    let was = c.requires.was in
    slots_there g.B.Bay.tells (g.B.Bay.disks c.args.bay.now) c.args.group.now c.args.plan.now.changes c.args.timestamp c.args.ready.now c.requires.from was

pub recover-requires-clause-lies : goal.recover-requires-clause-lies
recover-requires-clause-lies g c =
    let was = c.requires.was in
    first_lies g.B.Bay.tells (g.B.Bay.disks c.args.bay.now) c.args.group.now c.args.plan.now.changes c.args.timestamp c.args.ready.now c.requires.from was

pub returns-in_err-recover-clause-failed : goal.returns-in_err-recover-clause-failed
returns-in_err-recover-clause-failed g c =
    let failed = err_from_is_err_and c.from_residual.result c.from_residual.ensures.1 in
    let was = c.requires.was in
    let fault = c.in_err-recover.ensures.failed in
    rw (failed.1, failed.2) (recover_failed g.B.Bay.tells (g.B.Bay.disks c.args.bay.now) c.args.group.now c.args.plan.now.changes c.args.timestamp c.args.ready.now c.requires.from was (g.B.Bay.disks c.recover.new.bay) c.in_err-recover.field-0.0.0 fault.0 fault.1)

pub returns-in_err-recover-clause-beside : goal.returns-in_err-recover-clause-beside
returns-in_err-recover-clause-beside g c = λ told.
    let old = g.B.Bay.disks c.args.bay.now in
    let middle = g.B.Bay.disks c.recover.new.bay in
    let was = c.requires.was in
    let tells_old : IsTold old = g.met.B.Bay.told c.args.bay.now in
    let tells_middle : IsTold middle = g.met.B.Bay.told c.recover.new.bay in
    let recovers : IsRecovery old middle c.args.group.now c.args.ready.now false = record {
      any_moment = c.recover.ensures.any_moment told;
      changed = λ done. absurd cc;
      settled = λ done. absurd cc;
      ends = λ done. c.in_err-recover.ensures.ends told;
      spends = c.recover.ensures.spends;
    } in
    recovery_aside g.B.Bay.tells old c.args.group.now c.args.plan.now.changes c.args.timestamp c.args.ready.now c.requires.from was c.args.plan.now.redundant c.args.plan.now.marks c.requires.steps c.requires.mark c.requires.few c.requires.asked tells_old middle tells_middle told recovers

pub returns-in_err-recover-clause-keeps : goal.returns-in_err-recover-clause-keeps
returns-in_err-recover-clause-keeps g c = λ told left named by steps asked.
    let old = g.B.Bay.disks c.args.bay.now in
    let middle = g.B.Bay.disks c.recover.new.bay in
    let failed = err_from_is_err_and c.from_residual.result c.from_residual.ensures.1 in
    let was = c.requires.was in
    let tells_old : IsTold old = g.met.B.Bay.told c.args.bay.now in
    let tells_middle : IsTold middle = g.met.B.Bay.told c.recover.new.bay in
    let recovers : IsRecovery old middle c.args.group.now c.args.ready.now false = record {
      any_moment = c.recover.ensures.any_moment told;
      changed = λ done. absurd cc;
      settled = λ done. absurd cc;
      ends = λ done. c.in_err-recover.ensures.ends told;
      spends = c.recover.ensures.spends;
    } in
    rw failed.1 (recovery_keeps g.B.Bay.tells old c.args.group.now c.args.plan.now.changes c.args.timestamp c.args.ready.now c.requires.from was c.args.plan.now.redundant c.args.plan.now.marks c.requires.steps c.requires.mark c.requires.few c.requires.asked tells_old middle tells_middle told recovers left named by steps asked)

pub returns-in_err-recover-clause-leaves : goal.returns-in_err-recover-clause-leaves
returns-in_err-recover-clause-leaves g c = λ told steps asked.
    let old = g.B.Bay.disks c.args.bay.now in
    let middle = g.B.Bay.disks c.recover.new.bay in
    let was = c.requires.was in
    let tells_old : IsTold old = g.met.B.Bay.told c.args.bay.now in
    let tells_middle : IsTold middle = g.met.B.Bay.told c.recover.new.bay in
    let recovers : IsRecovery old middle c.args.group.now c.args.ready.now false = record {
      any_moment = c.recover.ensures.any_moment told;
      changed = λ done. absurd cc;
      settled = λ done. absurd cc;
      ends = λ done. c.in_err-recover.ensures.ends told;
      spends = c.recover.ensures.spends;
    } in
    recovery_leaves g.B.Bay.tells old c.args.group.now c.args.plan.now.changes c.args.timestamp c.args.ready.now c.requires.from was c.args.plan.now.redundant c.args.plan.now.marks c.requires.steps c.requires.mark c.requires.few c.requires.asked tells_old middle tells_middle told recovers steps asked

pub commit-requires : goal.commit-requires
commit-requires g c =
    let was = c.requires.was in
    let lies = rest_lies g.B.Bay.tells (g.B.Bay.disks c.args.bay.now) c.args.group.now c.args.plan.now.changes c.args.timestamp c.args.ready.now c.requires.from was in
    subst (λ (one : ReadyValue). LieOnSlots (g.B.Bay.disks c.recover.new.bay).sizes (next_slots one) (next_updates one)) (sym c.recover.ensures.left) (rw c.recover.ensures.spends.same_sizes lies)

pub returns-in_err-commit-clause-failed : goal.returns-in_err-commit-clause-failed
returns-in_err-commit-clause-failed g c =
    let failed = err_from_is_err_and c.from_residual-in_err-commit.result c.from_residual-in_err-commit.ensures.1 in
    let was = c.requires.was in
    let fault = c.in_err-commit.ensures.failed in
    let one = subst (λ (left : ReadyValue). IsOneOf (next_slots left) c.in_err-commit.field-0.0.0) c.recover.ensures.left fault.0 in
    rw (failed.1, failed.2) (commit_failed g.B.Bay.tells (g.B.Bay.disks c.args.bay.now) c.args.group.now c.args.plan.now.changes c.args.timestamp c.args.ready.now c.requires.from was (g.B.Bay.disks c.recover.new.bay) (g.B.Bay.disks c.commit.new.bay) c.in_err-commit.field-0.0.0 one c.in_ok-recover.ensures.ok fault.1)

pub returns-in_err-commit-clause-beside : goal.returns-in_err-commit-clause-beside
returns-in_err-commit-clause-beside g c = λ told.
    let old = g.B.Bay.disks c.args.bay.now in
    let middle = g.B.Bay.disks c.recover.new.bay in
    let new = g.B.Bay.disks c.commit.new.bay in
    let was = c.requires.was in
    let tells_old : IsTold old = g.met.B.Bay.told c.args.bay.now in
    let tells_middle : IsTold middle = g.met.B.Bay.told c.recover.new.bay in
    let tells_new : IsTold new = g.met.B.Bay.told c.commit.new.bay in
    let recovers : (told : g.B.Bay.tells) → IsRecovery old middle c.args.group.now c.args.ready.now true = λ told. record {
      any_moment = c.recover.ensures.any_moment told;
      changed = λ done. c.in_ok-recover.ensures.changed told;
      settled = λ done. c.in_ok-recover.ensures.settled told;
      ends = λ done. absurd cc;
      spends = c.recover.ensures.spends;
    } in
    let commits : (told : g.B.Bay.tells) → IsCommit middle new c.recover.new.ready false = λ told. record {
      any_moment = c.commit.ensures.any_moment told;
      changed = λ done. absurd cc;
      spends = c.commit.ensures.spends;
    } in
    let after = λ (told : g.B.Bay.tells). is_step_after g.B.Bay.tells old c.args.group.now c.args.plan.now.changes c.args.timestamp c.args.ready.now c.requires.from was c.args.plan.now.redundant c.args.plan.now.marks c.requires.steps c.requires.mark c.requires.few c.requires.asked tells_old middle tells_middle recovers c.recover.ensures.spends.same_sizes c.recover.new.ready c.recover.ensures.left c.if-plan.true new false (commits told) in
    commit_aside g.B.Bay.tells old c.args.group.now c.args.plan.now.changes c.args.timestamp c.args.ready.now c.requires.from was c.args.plan.now.redundant c.args.plan.now.marks c.requires.steps c.requires.mark c.requires.few c.requires.asked tells_old middle tells_middle recovers c.recover.ensures.spends.same_sizes new tells_new false after told

pub returns-in_err-commit-clause-leaves : goal.returns-in_err-commit-clause-leaves
returns-in_err-commit-clause-leaves g c = λ told steps asked.
    let old = g.B.Bay.disks c.args.bay.now in
    let middle = g.B.Bay.disks c.recover.new.bay in
    let new = g.B.Bay.disks c.commit.new.bay in
    let was = c.requires.was in
    let tells_old : IsTold old = g.met.B.Bay.told c.args.bay.now in
    let tells_middle : IsTold middle = g.met.B.Bay.told c.recover.new.bay in
    let tells_new : IsTold new = g.met.B.Bay.told c.commit.new.bay in
    let recovers : (told : g.B.Bay.tells) → IsRecovery old middle c.args.group.now c.args.ready.now true = λ told. record {
      any_moment = c.recover.ensures.any_moment told;
      changed = λ done. c.in_ok-recover.ensures.changed told;
      settled = λ done. c.in_ok-recover.ensures.settled told;
      ends = λ done. absurd cc;
      spends = c.recover.ensures.spends;
    } in
    let commits : (told : g.B.Bay.tells) → IsCommit middle new c.recover.new.ready false = λ told. record {
      any_moment = c.commit.ensures.any_moment told;
      changed = λ done. absurd cc;
      spends = c.commit.ensures.spends;
    } in
    let after = λ (told : g.B.Bay.tells). is_step_after g.B.Bay.tells old c.args.group.now c.args.plan.now.changes c.args.timestamp c.args.ready.now c.requires.from was c.args.plan.now.redundant c.args.plan.now.marks c.requires.steps c.requires.mark c.requires.few c.requires.asked tells_old middle tells_middle recovers c.recover.ensures.spends.same_sizes c.recover.new.ready c.recover.ensures.left c.if-plan.true new false (commits told) in
    commit_leaves_first g.B.Bay.tells old c.args.group.now c.args.plan.now.changes c.args.timestamp c.args.ready.now c.requires.from was c.args.plan.now.redundant c.args.plan.now.marks c.requires.steps c.requires.mark c.requires.few c.requires.asked tells_old middle tells_middle recovers c.recover.ensures.spends.same_sizes new tells_new false after told steps asked

pub returns-in_err-commit-clause-keeps : goal.returns-in_err-commit-clause-keeps
returns-in_err-commit-clause-keeps g c = λ told left named by steps asked.
    let old = g.B.Bay.disks c.args.bay.now in
    let middle = g.B.Bay.disks c.recover.new.bay in
    let new = g.B.Bay.disks c.commit.new.bay in
    let was = c.requires.was in
    let tells_old : IsTold old = g.met.B.Bay.told c.args.bay.now in
    let tells_middle : IsTold middle = g.met.B.Bay.told c.recover.new.bay in
    let tells_new : IsTold new = g.met.B.Bay.told c.commit.new.bay in
    let recovers : (told : g.B.Bay.tells) → IsRecovery old middle c.args.group.now c.args.ready.now true = λ told. record {
      any_moment = c.recover.ensures.any_moment told;
      changed = λ done. c.in_ok-recover.ensures.changed told;
      settled = λ done. c.in_ok-recover.ensures.settled told;
      ends = λ done. absurd cc;
      spends = c.recover.ensures.spends;
    } in
    let commits : (told : g.B.Bay.tells) → IsCommit middle new c.recover.new.ready false = λ told. record {
      any_moment = c.commit.ensures.any_moment told;
      changed = λ done. absurd cc;
      spends = c.commit.ensures.spends;
    } in
    let failed = err_from_is_err_and c.from_residual-in_err-commit.result c.from_residual-in_err-commit.ensures.1 in
    let after = λ (told : g.B.Bay.tells). is_step_after g.B.Bay.tells old c.args.group.now c.args.plan.now.changes c.args.timestamp c.args.ready.now c.requires.from was c.args.plan.now.redundant c.args.plan.now.marks c.requires.steps c.requires.mark c.requires.few c.requires.asked tells_old middle tells_middle recovers c.recover.ensures.spends.same_sizes c.recover.new.ready c.recover.ensures.left c.if-plan.true new false (commits told) in
    rw failed.1 (mark_keeps g.B.Bay.tells old c.args.group.now c.args.plan.now.changes c.args.timestamp c.args.ready.now c.requires.from was c.args.plan.now.redundant c.args.plan.now.marks c.requires.steps c.requires.mark c.requires.few c.requires.asked tells_old middle tells_middle recovers c.recover.ensures.spends.same_sizes new tells_new told after left named by steps asked)

pub returns-clause-opened : goal.returns-clause-opened
returns-clause-opened g c =
    let old = g.B.Bay.disks c.args.bay.now in
    let middle = g.B.Bay.disks c.recover.new.bay in
    let was = c.requires.was in
    let tells_old : IsTold old = g.met.B.Bay.told c.args.bay.now in
    let tells_middle : IsTold middle = g.met.B.Bay.told c.recover.new.bay in
    let recovers : (told : g.B.Bay.tells) → IsRecovery old middle c.args.group.now c.args.ready.now true = λ told. record {
      any_moment = c.recover.ensures.any_moment told;
      changed = λ done. c.in_ok-recover.ensures.changed told;
      settled = λ done. c.in_ok-recover.ensures.settled told;
      ends = λ done. absurd cc;
      spends = c.recover.ensures.spends;
    } in
    elim c.if-plan.branch [
      | then-plan+in_ok-commit w ↦
          let new = g.B.Bay.disks w.commit.new.bay in
          let tells_new : IsTold new = g.met.B.Bay.told w.commit.new.bay in
          let commits : (told : g.B.Bay.tells) → IsCommit middle new c.recover.new.ready true = λ told. record {
            any_moment = w.commit.ensures.any_moment told;
            changed = λ done. w.in_ok-commit.ensures.changed told;
            spends = w.commit.ensures.spends;
          } in
          rw (w.group-is, w.bay-is, w.ready-is)
          (opened_marked g.B.Bay.tells old c.args.group.now c.args.plan.now.changes c.args.timestamp c.args.ready.now c.requires.from was c.args.plan.now.redundant c.args.plan.now.marks c.requires.steps c.requires.mark c.requires.few c.requires.asked tells_old middle tells_middle recovers c.recover.ensures.spends.same_sizes c.recover.new.ready c.recover.ensures.left w.if-plan.true c.requires.members c.recover.ensures.spends new tells_new commits w.commit.ensures.spends
          c.recover.new.group c.in_ok-recover.ensures.group w.commit.new.group w.in_ok-commit.ensures.group w.commit.new.ready w.commit.ensures.left)
      | else-plan w ↦
          rw (w.group-is, w.bay-is, w.ready-is)
          (opened_unmarked g.B.Bay.tells old c.args.group.now c.args.plan.now.changes c.args.timestamp c.args.ready.now c.requires.from was c.args.plan.now.redundant c.args.plan.now.marks c.requires.steps c.requires.mark c.requires.few c.requires.asked tells_old middle tells_middle recovers c.recover.ensures.spends.same_sizes c.recover.new.ready c.recover.ensures.left w.if-plan.false c.requires.members c.recover.ensures.spends c.recover.new.group c.in_ok-recover.ensures.group)
    ]

pub returns-clause-beside : goal.returns-clause-beside
returns-clause-beside g c = λ told.
    let old = g.B.Bay.disks c.args.bay.now in
    let middle = g.B.Bay.disks c.recover.new.bay in
    let was = c.requires.was in
    let tells_old : IsTold old = g.met.B.Bay.told c.args.bay.now in
    let tells_middle : IsTold middle = g.met.B.Bay.told c.recover.new.bay in
    let recovers : (told : g.B.Bay.tells) → IsRecovery old middle c.args.group.now c.args.ready.now true = λ told. record {
      any_moment = c.recover.ensures.any_moment told;
      changed = λ done. c.in_ok-recover.ensures.changed told;
      settled = λ done. c.in_ok-recover.ensures.settled told;
      ends = λ done. absurd cc;
      spends = c.recover.ensures.spends;
    } in
    elim c.if-plan.branch [
      | then-plan+in_ok-commit w ↦
          let new = g.B.Bay.disks w.commit.new.bay in
          let tells_new : IsTold new = g.met.B.Bay.told w.commit.new.bay in
          let commits : (told : g.B.Bay.tells) → IsCommit middle new c.recover.new.ready true = λ told. record {
            any_moment = w.commit.ensures.any_moment told;
            changed = λ done. w.in_ok-commit.ensures.changed told;
            spends = w.commit.ensures.spends;
          } in
          let after = λ (told : g.B.Bay.tells). is_step_after g.B.Bay.tells old c.args.group.now c.args.plan.now.changes c.args.timestamp c.args.ready.now c.requires.from was c.args.plan.now.redundant c.args.plan.now.marks c.requires.steps c.requires.mark c.requires.few c.requires.asked tells_old middle tells_middle recovers c.recover.ensures.spends.same_sizes c.recover.new.ready c.recover.ensures.left w.if-plan.true new true (commits told) in
          rw w.bay-is (commit_aside g.B.Bay.tells old c.args.group.now c.args.plan.now.changes c.args.timestamp c.args.ready.now c.requires.from was c.args.plan.now.redundant c.args.plan.now.marks c.requires.steps c.requires.mark c.requires.few c.requires.asked tells_old middle tells_middle recovers c.recover.ensures.spends.same_sizes new tells_new true after told)
      | else-plan w ↦
          let after = λ (told : g.B.Bay.tells). no_step_after g.B.Bay.tells old c.args.group.now c.args.plan.now.changes c.args.timestamp c.args.ready.now c.requires.from was c.args.plan.now.redundant c.args.plan.now.marks c.requires.steps c.requires.mark c.requires.few c.requires.asked tells_old middle tells_middle recovers c.recover.ensures.spends.same_sizes c.recover.new.ready c.recover.ensures.left w.if-plan.false in
          rw w.bay-is (commit_aside g.B.Bay.tells old c.args.group.now c.args.plan.now.changes c.args.timestamp c.args.ready.now c.requires.from was c.args.plan.now.redundant c.args.plan.now.marks c.requires.steps c.requires.mark c.requires.few c.requires.asked tells_old middle tells_middle recovers c.recover.ensures.spends.same_sizes middle tells_middle true after told)
    ]

pub returns-clause-leaves : goal.returns-clause-leaves
returns-clause-leaves g c = λ told steps asked.
    let old = g.B.Bay.disks c.args.bay.now in
    let middle = g.B.Bay.disks c.recover.new.bay in
    let was = c.requires.was in
    let tells_old : IsTold old = g.met.B.Bay.told c.args.bay.now in
    let tells_middle : IsTold middle = g.met.B.Bay.told c.recover.new.bay in
    let recovers : (told : g.B.Bay.tells) → IsRecovery old middle c.args.group.now c.args.ready.now true = λ told. record {
      any_moment = c.recover.ensures.any_moment told;
      changed = λ done. c.in_ok-recover.ensures.changed told;
      settled = λ done. c.in_ok-recover.ensures.settled told;
      ends = λ done. absurd cc;
      spends = c.recover.ensures.spends;
    } in
    elim c.if-plan.branch [
      | then-plan+in_ok-commit w ↦
          let new = g.B.Bay.disks w.commit.new.bay in
          let tells_new : IsTold new = g.met.B.Bay.told w.commit.new.bay in
          let commits : (told : g.B.Bay.tells) → IsCommit middle new c.recover.new.ready true = λ told. record {
            any_moment = w.commit.ensures.any_moment told;
            changed = λ done. w.in_ok-commit.ensures.changed told;
            spends = w.commit.ensures.spends;
          } in
          let after = λ (told : g.B.Bay.tells). is_step_after g.B.Bay.tells old c.args.group.now c.args.plan.now.changes c.args.timestamp c.args.ready.now c.requires.from was c.args.plan.now.redundant c.args.plan.now.marks c.requires.steps c.requires.mark c.requires.few c.requires.asked tells_old middle tells_middle recovers c.recover.ensures.spends.same_sizes c.recover.new.ready c.recover.ensures.left w.if-plan.true new true (commits told) in
          rw w.bay-is (commit_leaves_first g.B.Bay.tells old c.args.group.now c.args.plan.now.changes c.args.timestamp c.args.ready.now c.requires.from was c.args.plan.now.redundant c.args.plan.now.marks c.requires.steps c.requires.mark c.requires.few c.requires.asked tells_old middle tells_middle recovers c.recover.ensures.spends.same_sizes new tells_new true after told steps asked)
      | else-plan w ↦
          let after = λ (told : g.B.Bay.tells). no_step_after g.B.Bay.tells old c.args.group.now c.args.plan.now.changes c.args.timestamp c.args.ready.now c.requires.from was c.args.plan.now.redundant c.args.plan.now.marks c.requires.steps c.requires.mark c.requires.few c.requires.asked tells_old middle tells_middle recovers c.recover.ensures.spends.same_sizes c.recover.new.ready c.recover.ensures.left w.if-plan.false in
          rw w.bay-is (commit_leaves_first g.B.Bay.tells old c.args.group.now c.args.plan.now.changes c.args.timestamp c.args.ready.now c.requires.from was c.args.plan.now.redundant c.args.plan.now.marks c.requires.steps c.requires.mark c.requires.few c.requires.asked tells_old middle tells_middle recovers c.recover.ensures.spends.same_sizes middle tells_middle true after told steps asked)
    ]

pub returns-in_err-recover-clause-costs : goal.returns-in_err-recover-clause-costs
returns-in_err-recover-clause-costs g c = alone_costs g.B.Bay.tells c.args.plan.now.marks c.args.ready.now c.recover.ensures.spends.costs

pub returns-in_err-commit-clause-costs : goal.returns-in_err-commit-clause-costs
returns-in_err-commit-clause-costs g c =
    behind_costs g.B.Bay.tells c.args.plan.now.marks c.args.ready.now c.recover.ensures.spends.costs c.if-plan.true c.recover.new.ready c.recover.ensures.left c.commit.ensures.spends.costs

pub returns-clause-costs : goal.returns-clause-costs
returns-clause-costs g c = elim c.if-plan.branch [
  | then-plan+in_ok-commit w ↦
      rw w.bay-is
      (behind_costs g.B.Bay.tells c.args.plan.now.marks c.args.ready.now c.recover.ensures.spends.costs w.if-plan.true c.recover.new.ready c.recover.ensures.left w.commit.ensures.spends.costs)
  | else-plan w ↦ rw w.bay-is (alone_costs g.B.Bay.tells c.args.plan.now.marks c.args.ready.now c.recover.ensures.spends.costs)
]

pub returns-clause-left : goal.returns-clause-left
returns-clause-left g c = elim c.if-plan.branch [
  | then-plan+in_ok-commit w ↦
      rw w.ready-is (left_marked c.args.plan.now.marks w.if-plan.true c.args.ready.now c.recover.new.ready w.commit.new.ready c.recover.ensures.left w.commit.ensures.left)
  | else-plan w ↦ rw w.ready-is (left_unmarked c.args.plan.now.marks w.if-plan.false c.args.ready.now c.recover.new.ready c.recover.ensures.left)
]

pub returns-clause-unfailed : goal.returns-clause-unfailed
returns-clause-unfailed g c = elim c.if-plan.branch [
  | then-plan+in_ok-commit w ↦ rw w.bay-is (w.in_ok-commit.ensures.ok ∙ c.in_ok-recover.ensures.ok)
  | else-plan w ↦ rw w.bay-is c.in_ok-recover.ensures.ok
]

pub returns-in_err-recover-clause-calls : goal.returns-in_err-recover-clause-calls
returns-in_err-recover-clause-calls g c =
    recovered_few g.B.Bay.tells (g.B.Bay.disks c.args.bay.now) c.args.group.now c.args.plan.now.changes c.args.timestamp c.args.ready.now c.requires.from c.requires.was (g.B.Bay.disks c.recover.new.bay)
    c.recover.ensures.spends.costs

pub returns-in_err-commit-clause-calls : goal.returns-in_err-commit-clause-calls
returns-in_err-commit-clause-calls g c =
    committed_few g.B.Bay.tells (g.B.Bay.disks c.args.bay.now) c.args.group.now c.args.plan.now.changes c.args.timestamp c.args.ready.now c.requires.from c.requires.was (g.B.Bay.disks c.recover.new.bay)
    (g.B.Bay.disks c.commit.new.bay) c.recover.ensures.spends.costs (rw c.recover.ensures.left at c.commit.ensures.spends.costs)

pub returns-clause-calls : goal.returns-clause-calls
returns-clause-calls g c = elim c.if-plan.branch [
  | then-plan+in_ok-commit w ↦
      rw w.bay-is
      (committed_few g.B.Bay.tells (g.B.Bay.disks c.args.bay.now) c.args.group.now c.args.plan.now.changes c.args.timestamp c.args.ready.now c.requires.from c.requires.was (g.B.Bay.disks c.recover.new.bay)
      (g.B.Bay.disks w.commit.new.bay) c.recover.ensures.spends.costs (rw c.recover.ensures.left at w.commit.ensures.spends.costs))
  | else-plan w ↦
      rw w.bay-is
      (recovered_few g.B.Bay.tells (g.B.Bay.disks c.args.bay.now) c.args.group.now c.args.plan.now.changes c.args.timestamp c.args.ready.now c.requires.from c.requires.was (g.B.Bay.disks c.recover.new.bay)
      c.recover.ensures.spends.costs)
]
