use Rattle.std.proofs.Common.{◌≡◌, ◌∙◌, ◌+◌, ◌-◌, ◌<◌, ◌≤◌, ⊎_elim, length, refl, arith}
use Rattle.std.proofs.lemmas.Bool.{cases_lt}
use Rattle.std.proofs.lemmas.Result.{err_from_is_err_and}
use Rattle.ddf_bay.proofs.Steps.{costs_start, costs_then, costs_most, rose_since}
use Rattle.ddf_cells.specs.CellsOn.{GivesCells}
use Rattle.ddf_cells.proofs.WriteSteps.{writes_start, writes_then, set_stays, given_cell}
use Rattle.ddf_cells.proofs.cell_writes.write_position.Goals as goal

pub write_first-requires-clause-fits : goal.write_first-requires-clause-fits
write_first-requires-clause-fits g c = rw c.loop-at.invariant.writes.same_sizes c.requires.fits

pub returns-in_err-at-clause-writes : goal.returns-in_err-at-clause-writes
returns-in_err-at-clause-writes g c = writes_then (GivesCells c.args.view.now c.args.start c.args.from.now) g.B.Bay.tells c.loop-at.invariant.writes c.in_err-at.ensures.writes

pub returns-in_err-at-clause-failed : goal.returns-in_err-at-clause-failed
returns-in_err-at-clause-failed g c =
    let p = err_from_is_err_and c.from_residual.result c.from_residual.ensures.1 in
    rw (p.1, p.2) (rose_since _ _ _ (c.loop-at.invariant.writes.writes_rise _) c.in_err-at.ensures.failed)

pub returns-in_err-at-clause-costs : goal.returns-in_err-at-clause-costs
returns-in_err-at-clause-costs g c =
    costs_most _ _ (costs_then c.loop-at.invariant.costs c.in_err-at.ensures.costs) (omega (arith, c.loop-at.invariant.cells)) (omega (arith, c.loop-at.invariant.stretches))

pub returns-clause-costs : goal.returns-clause-costs
returns-clause-costs g c = costs_most _ _ c.loop-at.invariant.costs (omega arith) (omega arith)

pub returns-clause-set : goal.returns-clause-set
returns-clause-set g c = λ tells k one from below cell. c.loop-at.invariant.set tells k one from (omega (arith, below, c.loop-at-test.false)) cell

pub loop-at-init : goal.loop-at-init
loop-at-init g c = record {
  inside = omega arith;
  set = λ tells k one from below cell. absurd (omega (arith, below));
  writes = writes_start (GivesCells c.args.view.now c.args.start c.args.from.now) g.B.Bay.tells (g.B.Bay.disks c.args.bay.now) c.args.touched.now;
  reads = refl;
  unfailed = refl;
  cells = let same : c.args.start + 0 ≡ c.args.start = omega arith in let rest : length c.args.from.now - 0 ≡ length c.args.from.now = omega arith in rw (same, rest) (omega arith);
  stretches = let same : c.args.start + 0 ≡ c.args.start = omega arith in let rest : length c.args.from.now - 0 ≡ length c.args.from.now = omega arith in rw (same, rest) (omega arith);
  costs = costs_most _ _ (costs_start (g.B.Bay.disks c.args.bay.now)) (omega arith) (omega arith);
}

pub loop-at-preserved : goal.loop-at-preserved
loop-at-preserved g c =
    let so_far = c.loop-at.invariant in
    let next = c.in_ok-at.ensures in
    let at = c.loop-at.at in
    let n = c.in_ok-at.field-0 in
    record {
      inside = omega (arith, next.within);
      set = λ tells k one from below cell.
          ⊎_elim
          (λ (before : k < at). set_stays c.args.view.now c.requires.known c.args.start c.args.from.now (GivesCells c.args.view.now c.args.start c.args.from.now) (given_cell c.args.view.now c.requires.known c.args.start c.args.from.now c.requires.apart) g.B.Bay.tells c.args.element c.args.position 0 at tells next.writes (so_far.set tells) k one from before cell)
          (λ (here : at ≤ k). next.set tells k one here below cell)
          (cases_lt k at);
      writes = writes_then (GivesCells c.args.view.now c.args.start c.args.from.now) g.B.Bay.tells so_far.writes next.writes;
      reads = next.reads ∙ so_far.reads;
      unfailed = next.unfailed ∙ so_far.unfailed;
      cells = omega (arith, next.rest_cells, so_far.cells);
      stretches = omega (arith, next.rest_stretches, so_far.stretches);
      costs =
          costs_most _ _ (costs_then so_far.costs next.rest_costs)
          (omega (arith, next.rest_cells, so_far.cells)) (omega (arith, next.rest_stretches, so_far.stretches));
    }

pub returns-in_err-at-clause-touched : goal.returns-in_err-at-clause-touched
returns-in_err-at-clause-touched g c =
    let p = err_from_is_err_and c.from_residual.result c.from_residual.ensures.1 in
    rw (p.1, p.2) c.in_err-at.ensures.touched
