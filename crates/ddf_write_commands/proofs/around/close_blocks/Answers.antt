use Rattle.std.proofs.Common.{◌∙◌, ℕ, true, false, ap, subst, sym}
use Rattle.std.proofs.lemmas.Result.{err_from_is_err_and}
use Rattle.ddf_config.specs.Configuration.{Configuration}
use Rattle.ddf_seats.specs.Group.{GroupValue}
use Rattle.ddf_history_steps.specs.Steps.{IsCommit}
use Rattle.ddf_answer.proofs.Costs.{costs_writes}
use Rattle.ddf_write_commands.specs.Closed.{IsLastWritten}
use Rattle.ddf_write_commands.proofs.Closing.{closed_few, last_aside, last_leaves, last_written, lies_next, on_seats}
use Rattle.ddf_bay.specs.Told.{IsTold}
use Rattle.ddf_write_commands.proofs.around.close_blocks.Goals as goal

pub commit-requires : goal.commit-requires
commit-requires g c =
    lies_next g.B.Bay.tells (g.B.Bay.disks c.args.bay.now) c.args.group.now c.args.ready.now c.requires

pub returns-in_err-commit-clause-closed : goal.returns-in_err-commit-clause-closed
returns-in_err-commit-clause-closed g c =
    let failed = err_from_is_err_and c.from_residual.result c.from_residual.ensures.1 in
    let fault = c.in_err-commit.ensures.failed in
    rw (failed.1, failed.2) (
      on_seats g.B.Bay.tells (g.B.Bay.disks c.args.bay.now) c.args.group.now c.args.ready.now c.requires c.in_err-commit.field-0.0.0 fault.0,
      fault.1,
    )

pub returns-in_err-commit-clause-beside : goal.returns-in_err-commit-clause-beside
returns-in_err-commit-clause-beside g c = λ told.
    let old = g.B.Bay.disks c.args.bay.now in
    let new = g.B.Bay.disks c.commit.new.bay in
    let is : IsCommit old new c.args.ready.now false = record {
      any_moment = c.commit.ensures.any_moment told;
      changed = λ done. absurd cc;
      spends = c.commit.ensures.spends;
    } in
    let tells_old : IsTold old = g.met.B.Bay.told c.args.bay.now in
    let tells_new : IsTold new = g.met.B.Bay.told c.commit.new.bay in
    last_aside g.B.Bay.tells old c.args.group.now c.args.ready.now c.requires tells_old new tells_new false told is

pub returns-in_err-commit-clause-leaves : goal.returns-in_err-commit-clause-leaves
returns-in_err-commit-clause-leaves g c = λ told.
    let old = g.B.Bay.disks c.args.bay.now in
    let new = g.B.Bay.disks c.commit.new.bay in
    let is : IsCommit old new c.args.ready.now false = record {
      any_moment = c.commit.ensures.any_moment told;
      changed = λ done. absurd cc;
      spends = c.commit.ensures.spends;
    } in
    let tells_old : IsTold old = g.met.B.Bay.told c.args.bay.now in
    let tells_new : IsTold new = g.met.B.Bay.told c.commit.new.bay in
    last_leaves g.B.Bay.tells old c.args.group.now c.args.ready.now c.requires tells_old new tells_new false told is

pub returns-in_err-commit-clause-commits : goal.returns-in_err-commit-clause-commits
returns-in_err-commit-clause-commits g c = λ told.
    let failed = err_from_is_err_and c.from_residual.result c.from_residual.ensures.1 in
    let is : IsCommit (g.B.Bay.disks c.args.bay.now) (g.B.Bay.disks c.commit.new.bay) c.args.ready.now false = record {
      any_moment = c.commit.ensures.any_moment told;
      changed = λ done. absurd cc;
      spends = c.commit.ensures.spends;
    } in
    rw failed.1 is

pub returns-clause-closed : goal.returns-clause-closed
returns-clause-closed g c =
    let old = g.B.Bay.disks c.args.bay.now in
    let new = g.B.Bay.disks c.commit.new.bay in
    let is : (told : g.B.Bay.tells) → IsCommit old new c.args.ready.now true = λ told. record {
      any_moment = c.commit.ensures.any_moment told;
      changed = λ done. c.in_ok-commit.ensures.changed told;
      spends = c.commit.ensures.spends;
    } in
    let same = ap (λ (config : Configuration). config.sequence) (c.behind-group.view_is ∙ c.config.ensures) ∙ ap (λ (one : GroupValue). one.config.sequence) c.in_ok-commit.ensures.group in
    subst (λ (sequence : ℕ). IsLastWritten g.B.Bay.tells old new c.args.group.now c.args.ready.now sequence) (sym same)
    (last_written g.B.Bay.tells old c.args.group.now c.args.ready.now c.requires new _ is c.commit.ensures.spends.costs)

pub returns-clause-beside : goal.returns-clause-beside
returns-clause-beside g c = λ told.
    let old = g.B.Bay.disks c.args.bay.now in
    let new = g.B.Bay.disks c.commit.new.bay in
    let is : IsCommit old new c.args.ready.now true = record {
      any_moment = c.commit.ensures.any_moment told;
      changed = λ done. c.in_ok-commit.ensures.changed told;
      spends = c.commit.ensures.spends;
    } in
    let tells_old : IsTold old = g.met.B.Bay.told c.args.bay.now in
    let tells_new : IsTold new = g.met.B.Bay.told c.commit.new.bay in
    last_aside g.B.Bay.tells old c.args.group.now c.args.ready.now c.requires tells_old new tells_new true told is

pub returns-clause-leaves : goal.returns-clause-leaves
returns-clause-leaves g c = λ told.
    let old = g.B.Bay.disks c.args.bay.now in
    let new = g.B.Bay.disks c.commit.new.bay in
    let is : IsCommit old new c.args.ready.now true = record {
      any_moment = c.commit.ensures.any_moment told;
      changed = λ done. c.in_ok-commit.ensures.changed told;
      spends = c.commit.ensures.spends;
    } in
    let tells_old : IsTold old = g.met.B.Bay.told c.args.bay.now in
    let tells_new : IsTold new = g.met.B.Bay.told c.commit.new.bay in
    last_leaves g.B.Bay.tells old c.args.group.now c.args.ready.now c.requires tells_old new tells_new true told is

pub returns-clause-commits : goal.returns-clause-commits
returns-clause-commits g c = λ told. record {
  any_moment = c.commit.ensures.any_moment told;
  changed = λ done. c.in_ok-commit.ensures.changed told;
  spends = c.commit.ensures.spends;
}

pub returns-in_err-commit-clause-costs : goal.returns-in_err-commit-clause-costs
returns-in_err-commit-clause-costs g c = costs_writes g.B.Bay.tells c.commit.ensures.spends.costs

pub returns-clause-costs : goal.returns-clause-costs
returns-clause-costs g c = costs_writes g.B.Bay.tells c.commit.ensures.spends.costs

pub returns-in_err-commit-clause-calls : goal.returns-in_err-commit-clause-calls
returns-in_err-commit-clause-calls g c =
    closed_few g.B.Bay.tells (g.B.Bay.disks c.args.bay.now) c.args.group.now c.args.ready.now c.requires (g.B.Bay.disks c.commit.new.bay) c.commit.ensures.spends.costs

pub returns-clause-calls : goal.returns-clause-calls
returns-clause-calls g c =
    closed_few g.B.Bay.tells (g.B.Bay.disks c.args.bay.now) c.args.group.now c.args.ready.now c.requires (g.B.Bay.disks c.commit.new.bay) c.commit.ensures.spends.costs
