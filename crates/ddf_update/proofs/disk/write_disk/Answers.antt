use Rattle.std.proofs.Common.{arith}
use Rattle.ddf_update.proofs.Lies.{few_runs}
use Rattle.ddf_update.proofs.disk.write_disk.Goals as goal

pub returns-in-Change-clause-calls : goal.returns-in-Change-clause-calls
returns-in-Change-clause-calls g c = λ copy last mode is.
    let few = few_runs copy c.args.prepared.now.runs is.runs_are in
    omega (arith, few, c.change.ensures.spends.costs.calls_most)

pub returns-in-Found-clause-calls : goal.returns-in-Found-clause-calls
returns-in-Found-clause-calls g c = λ copy last mode is.
    let few = few_runs copy c.args.prepared.now.runs is.runs_are in
    omega (arith, few, c.found.ensures.spends.costs.calls_most)

pub returns-in-Adopt-clause-calls : goal.returns-in-Adopt-clause-calls
returns-in-Adopt-clause-calls g c = λ copy last mode is.
    let few = few_runs copy c.args.prepared.now.runs is.runs_are in
    omega (arith, few, c.adopt.ensures.spends.costs.calls_most)

pub returns-in-Move-clause-calls : goal.returns-in-Move-clause-calls
returns-in-Move-clause-calls g c = λ copy last mode is.
    let few = few_runs copy c.args.prepared.now.runs is.runs_are in
    omega (arith, few, c.relocate.ensures.spends.costs.calls_most)
