use Rattle.std.proofs.Common.{ℕ, ◌≡◌, ◌∙◌, ◌+◌, ◌<◌, ◌≤◌, ⊎_elim, length, refl, arith, subst}
use Rattle.std.proofs.lemmas.Bool.{cases_lt}
use Rattle.std.proofs.lemmas.Result.{err_from_is_err_and}
use Rattle.ddf_bay.proofs.Steps.{costs_start, costs_then, costs_most, rose_since}
use Rattle.ddf_cells.specs.CellsOn.{GivesCells, cells_on, how_many, stretches_on}
use Rattle.ddf_cells.specs.Touching.{AreSet}
use Rattle.ddf_cells.proofs.RunsOn.{sum_more, sum_below}
use Rattle.ddf_cells.proofs.WriteSteps.{writes_start, writes_then, set_stays, given_cell}
use Rattle.ddf_cells.proofs.cell_writes.write_element.Goals as goal

pub write_position-requires-clause-fits : goal.write_position-requires-clause-fits
write_position-requires-clause-fits g c = rw c.loop-position.invariant.writes.same_sizes c.requires.fits

pub returns-in_err-write_position-clause-writes : goal.returns-in_err-write_position-clause-writes
returns-in_err-write_position-clause-writes g c = writes_then (GivesCells c.args.view.now c.args.start c.args.from.now) g.B.Bay.tells c.loop-position.invariant.writes c.in_err-write_position.ensures.writes

pub returns-in_err-write_position-clause-failed : goal.returns-in_err-write_position-clause-failed
returns-in_err-write_position-clause-failed g c =
    let p = err_from_is_err_and c.from_residual.result c.from_residual.ensures.1 in
    rw (p.1, p.2) (rose_since _ _ _ (c.loop-position.invariant.writes.writes_rise _) c.in_err-write_position.ensures.failed)

pub returns-in_err-write_position-clause-costs : goal.returns-in_err-write_position-clause-costs
returns-in_err-write_position-clause-costs g c =
    let p = c.loop-position.position in
    let cells = λ (position : ℕ). how_many (cells_on c.args.view.now c.args.element position c.args.start (length c.args.from.now)) in
    let stretches = λ (position : ℕ). stretches_on (cells_on c.args.view.now c.args.element position c.args.start (length c.args.from.now)) in
    costs_most _ _ (costs_then c.loop-position.invariant.costs c.in_err-write_position.ensures.costs)
    (omega (arith, sum_more cells p, sum_below cells (p + 1) c.args.places (omega (arith, c.loop-position-test.true))))
    (omega (arith, sum_more stretches p, sum_below stretches (p + 1) c.args.places (omega (arith, c.loop-position-test.true))))

pub loop-position-init : goal.loop-position-init
loop-position-init g c = record {
  set = λ tells position below. absurd (omega (arith, below));
  writes = writes_start (GivesCells c.args.view.now c.args.start c.args.from.now) g.B.Bay.tells (g.B.Bay.disks c.args.bay.now) c.args.touched.now;
  reads = refl;
  unfailed = refl;
  costs = costs_start (g.B.Bay.disks c.args.bay.now);
}

pub loop-position-preserved : goal.loop-position-preserved
loop-position-preserved g c =
    let so_far = c.loop-position.invariant in
    let next = c.in_ok-write_position.ensures in
    let p = c.loop-position.position in
    let cells = λ (position : ℕ). how_many (cells_on c.args.view.now c.args.element position c.args.start (length c.args.from.now)) in
    let stretches = λ (position : ℕ). stretches_on (cells_on c.args.view.now c.args.element position c.args.start (length c.args.from.now)) in
    record {
      set = λ tells position below.
          ⊎_elim
          (λ (before : position < p). set_stays c.args.view.now c.requires.known c.args.start c.args.from.now (GivesCells c.args.view.now c.args.start c.args.from.now) (given_cell c.args.view.now c.requires.known c.args.start c.args.from.now c.requires.apart) g.B.Bay.tells c.args.element position 0 (length c.args.from.now) tells next.writes (so_far.set tells position before))
          (λ (here : p ≤ position).
          let same : p ≡ position = omega (arith, here, below) in
          subst (λ q. AreSet c.args.view.now c.args.element q c.args.start 0 (length c.args.from.now) c.args.from.now (g.B.Bay.disks c.write_position.new.bay).held c.write_position.new.touched) same (next.set tells))
          (cases_lt position p);
      writes = writes_then (GivesCells c.args.view.now c.args.start c.args.from.now) g.B.Bay.tells so_far.writes next.writes;
      reads = next.reads ∙ so_far.reads;
      unfailed = next.unfailed ∙ so_far.unfailed;
      costs = costs_most _ _ (costs_then so_far.costs next.costs) (omega (arith, sum_more cells p)) (omega (arith, sum_more stretches p));
    }

pub returns-in_err-write_position-clause-touched : goal.returns-in_err-write_position-clause-touched
returns-in_err-write_position-clause-touched g c =
    let p = err_from_is_err_and c.from_residual.result c.from_residual.ensures.1 in
    rw (p.1, p.2) c.in_err-write_position.ensures.touched
