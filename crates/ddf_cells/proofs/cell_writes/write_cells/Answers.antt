use Rattle.std.proofs.Common.{ℕ, ◌≡◌, ◌∙◌, ◌+◌, ◌<◌, ◌≤◌, ⊎_elim, length, refl, ap, arith, subst, Some}
use Rattle.std.proofs.lemmas.Bool.{cases_lt}
use Rattle.std.proofs.lemmas.Result.{err_from_is_err_and}
use Rattle.ddf_bay.proofs.Steps.{costs_start, costs_then, costs_most, rose_since}
use Rattle.ddf_cells.specs.CellsOn.{GivesCells, cell_on, cells_on, how_many, over_element, places_at, stretches_on}
use Rattle.ddf_cells.proofs.OnCells.{cell_places}
use Rattle.ddf_cells.proofs.RunsOn.{sum_more, sum_below}
use Rattle.ddf_cells.proofs.WriteSteps.{writes_start, writes_then, set_stays, given_cell}
use Rattle.ddf_cells.proofs.cell_writes.write_cells.Goals as goal

pub write_element-requires-clause-fits : goal.write_element-requires-clause-fits
write_element-requires-clause-fits g c = rw c.loop-element.invariant.writes.same_sizes c.requires.fits

pub returns-in_err-write_element-clause-writes : goal.returns-in_err-write_element-clause-writes
returns-in_err-write_element-clause-writes g c = writes_then (GivesCells c.args.view.now c.args.start c.args.from.now) g.B.Bay.tells c.loop-element.invariant.writes c.in_err-write_element.ensures.writes

pub returns-in_err-write_element-clause-failed : goal.returns-in_err-write_element-clause-failed
returns-in_err-write_element-clause-failed g c =
    let p = err_from_is_err_and c.from_residual.result c.from_residual.ensures.1 in
    rw (p.1, p.2) (rose_since _ _ _ (c.loop-element.invariant.writes.writes_rise _) c.in_err-write_element.ensures.failed)

pub returns-in_err-write_element-clause-costs : goal.returns-in_err-write_element-clause-costs
returns-in_err-write_element-clause-costs g c =
    let v = c.args.view.now in
    let e = c.loop-element.element in
    let cells = over_element (λ (element position : ℕ). how_many (cells_on v element position c.args.start (length c.args.from.now))) v.parts in
    let stretches = over_element (λ (element position : ℕ). stretches_on (cells_on v element position c.args.start (length c.args.from.now))) v.parts in
    let n = ap length c.parts-element-end.ensures.parts in
    let below : e + 1 ≤ length v.parts = omega (arith, n, c.loop-element-test.true) in
    costs_most _ _ (costs_then c.loop-element.invariant.costs (rw c.count_places-places.ensures at c.in_err-write_element.ensures.costs))
    (omega (arith, sum_more cells e, sum_below cells (e + 1) (length v.parts) below))
    (omega (arith, sum_more stretches e, sum_below stretches (e + 1) (length v.parts) below))

pub returns-clause-set : goal.returns-clause-set
returns-clause-set g c = λ tells element position k one from below cell.
    let n = ap length c.parts-element-end.ensures.parts in
    let there = cell_places c.args.view.now c.requires.known element position (c.args.start + k) one cell in
    c.loop-element.invariant.set tells element position (omega (arith, there.0, n, c.loop-element-test.false)) k one from below cell

pub returns-clause-costs : goal.returns-clause-costs
returns-clause-costs g c =
    let v = c.args.view.now in
    let cells = over_element (λ (element position : ℕ). how_many (cells_on v element position c.args.start (length c.args.from.now))) v.parts in
    let stretches = over_element (λ (element position : ℕ). stretches_on (cells_on v element position c.args.start (length c.args.from.now))) v.parts in
    let n = ap length c.parts-element-end.ensures.parts in
    let below : c.loop-element.element ≤ length v.parts = omega (arith, n, c.loop-element.auto) in
    costs_most _ _ c.loop-element.invariant.costs (sum_below cells c.loop-element.element (length v.parts) below) (sum_below stretches c.loop-element.element (length v.parts) below)

pub loop-element-init : goal.loop-element-init
loop-element-init g c = record {
  set = λ tells element position below. absurd (omega (arith, below));
  writes = writes_start (GivesCells c.args.view.now c.args.start c.args.from.now) g.B.Bay.tells (g.B.Bay.disks c.args.bay.now) c.args.touched.now;
  reads = refl;
  unfailed = refl;
  costs = costs_start (g.B.Bay.disks c.args.bay.now);
}

pub loop-element-preserved : goal.loop-element-preserved
loop-element-preserved g c =
    let so_far = c.loop-element.invariant in
    let next = c.in_ok-write_element.ensures in
    let v = c.args.view.now in
    let e = c.loop-element.element in
    let cells = over_element (λ (element position : ℕ). how_many (cells_on v element position c.args.start (length c.args.from.now))) v.parts in
    let stretches = over_element (λ (element position : ℕ). stretches_on (cells_on v element position c.args.start (length c.args.from.now))) v.parts in
    record {
      set = λ tells element position below.
          ⊎_elim
          (λ (before : element < e). set_stays v c.requires.known c.args.start c.args.from.now (GivesCells v c.args.start c.args.from.now) (given_cell v c.requires.known c.args.start c.args.from.now c.requires.apart) g.B.Bay.tells element position 0 (length c.args.from.now) tells next.writes (so_far.set tells element position before))
          (λ (here : e ≤ element) k one from under cell.
          let same : element ≡ e = omega (arith, here, below) in
          let there = cell_places v c.requires.known element position (c.args.start + k) one cell in
          let within : position < c.count_places-places.result = rw c.count_places-places.ensures (subst (λ n. position < places_at v.parts n) same there.1) in
          next.set tells position within k one from under (subst (λ n. cell_on v n position (c.args.start + k) ≡ Some one) same cell))
          (cases_lt element e);
      writes = writes_then (GivesCells v c.args.start c.args.from.now) g.B.Bay.tells so_far.writes next.writes;
      reads = next.reads ∙ so_far.reads;
      unfailed = next.unfailed ∙ so_far.unfailed;
      costs = costs_most _ _ (costs_then so_far.costs (rw c.count_places-places.ensures at next.costs)) (omega (arith, sum_more cells e)) (omega (arith, sum_more stretches e));
    }

pub returns-in_err-write_element-clause-touched : goal.returns-in_err-write_element-clause-touched
returns-in_err-write_element-clause-touched g c =
    let p = err_from_is_err_and c.from_residual.result c.from_residual.ensures.1 in
    rw (p.1, p.2) c.in_err-write_element.ensures.touched
