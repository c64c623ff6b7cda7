use Rattle.std.proofs.Common.{◌≡◌, ◌∙◌, ◌+◌, ◌-◌, ◌<◌, ◌≤◌, Some, None, ap, sym, subst, arith, length, take, drop}
use Rattle.ddf_bay.proofs.Runs.{put_mixes}
use Rattle.ddf_bay.proofs.Steps.{costs_most}
use Rattle.ddf_bay.specs.Sectors.{Image}
use Rattle.ddf_bay.specs.Moments.{Mixes}
use Rattle.ddf_array.specs.declared.site.Site.{Site}
use Rattle.ddf_cells.specs.CellsOn.{GivesCells, cell_on, cells_on, how_many, stretches_on}
use Rattle.ddf_cells.proofs.AlongStrips.{none_lie}
use Rattle.ddf_cells.proofs.RunsOn.{passed}
use Rattle.ddf_cells.proofs.RunGiven.{run_slot, run_end, run_gives, run_set, piece_long, piece_some, left_cells, left_stretches}
use Rattle.ddf_cells.proofs.WriteSteps.{writes_run, touch_here}
use Rattle.ddf_cells.proofs.cell_writes.write_first.Goals as goal

pub touch-requires : goal.touch-requires
touch-requires g c =
    omega (
      arith,
      run_slot c.args.view.now c.requires.known c.args.element c.args.position c.args.start c.args.at c.run_on-count.result (length c.args.from.now - c.args.at) c.in-Some.first c.run_on-count.ensures (g.B.Bay.disks c.args.bay.now).sizes c.requires.fits,
      g.met.B.Bay.few c.args.bay.now,
    )

pub write_run-requires-clause-slot : goal.write_run-requires-clause-slot
write_run-requires-clause-slot g c =
    run_slot c.args.view.now c.requires.known c.args.element c.args.position c.args.start c.args.at c.run_on-count.result (length c.args.from.now - c.args.at) c.in-Some.first c.run_on-count.ensures (g.B.Bay.disks c.args.bay.now).sizes c.requires.fits

pub write_run-requires-clause-sectors : goal.write_run-requires-clause-sectors
write_run-requires-clause-sectors g c =
    let n = c.run_on-count.result in
    let run = c.run_on-count.ensures in
    let inside : c.args.at + n ≤ length c.args.from.now = omega (arith, run.within, c.requires.here) in
    omega (
      arith,
      run_end c.args.view.now c.requires.known c.args.element c.args.position c.args.start c.args.at n (length c.args.from.now - c.args.at) c.in-Some.first run (g.B.Bay.disks c.args.bay.now).sizes c.requires.fits,
      piece_long c.args.view.now c.requires.known c.args.element c.args.position c.args.start c.args.at n (length c.args.from.now - c.args.at) c.in-Some.first run c.args.from.now inside,
    )

pub returns-in-Ok-clause-set : goal.returns-in-Ok-clause-set
returns-in-Ok-clause-set g c = λ tells.
    let n = c.run_on-count.result in
    let run = c.run_on-count.ensures in
    let inside : c.args.at + n ≤ length c.args.from.now = omega (arith, run.within, c.requires.here) in
    let slot = run_slot c.args.view.now c.requires.known c.args.element c.args.position c.args.start c.args.at n (length c.args.from.now - c.args.at) c.in-Some.first run (g.B.Bay.disks c.args.bay.now).sizes c.requires.fits in
    let few : c.in-Some.first.slot < length c.args.touched.now = omega (arith, slot, g.met.B.Bay.few c.args.bay.now, c.told-touched) in
    run_set c.args.view.now c.requires.known c.args.element c.args.position c.args.start c.args.at n (length c.args.from.now - c.args.at) c.in-Some.first run c.args.from.now inside
    (g.B.Bay.disks c.args.bay.now).held (g.B.Bay.disks c.write_run.new.self).held c.touch.new.touched (c.in-Ok.ensures.held tells)
    (rw c.touch.ensures (touch_here c.args.touched.now c.in-Some.first.slot few))

pub returns-in-Ok-clause-writes : goal.returns-in-Ok-clause-writes
returns-in-Ok-clause-writes g c =
    let n = c.run_on-count.result in
    let run = c.run_on-count.ensures in
    let old = g.B.Bay.disks c.args.bay.now in
    let inside : c.args.at + n ≤ length c.args.from.now = omega (arith, run.within, c.requires.here) in
    let slot = run_slot c.args.view.now c.requires.known c.args.element c.args.position c.args.start c.args.at n (length c.args.from.now - c.args.at) c.in-Some.first run old.sizes c.requires.fits in
    let few : c.in-Some.first.slot < length c.args.touched.now = omega (arith, slot, g.met.B.Bay.few c.args.bay.now, c.told-touched) in
    let some = piece_some c.args.view.now c.requires.known c.args.element c.args.position c.args.start c.args.at n (length c.args.from.now - c.args.at) c.in-Some.first run c.args.from.now inside in
    rw c.touch.ensures
    (writes_run (GivesCells c.args.view.now c.args.start c.args.from.now) g.B.Bay.tells c.in-Some.first.slot c.in-Some.first.lba (take (c.args.at + n - c.args.at) (drop c.args.at c.args.from.now)) c.args.touched.now _ _ few some
    (run_gives c.args.view.now c.requires.known c.args.element c.args.position c.args.start c.args.at n (length c.args.from.now - c.args.at) c.in-Some.first run c.args.from.now inside)
    (λ tells. subst (λ (f : Image). Mixes old.held f c.in-Some.first.slot c.in-Some.first.lba (take (c.args.at + n - c.args.at) (drop c.args.at c.args.from.now))) (sym (c.in-Ok.ensures.held tells)) (put_mixes old.held c.in-Some.first.slot c.in-Some.first.lba (take (c.args.at + n - c.args.at) (drop c.args.at c.args.from.now))))
    c.write_run.ensures.left c.write_run.ensures.any_moment c.write_run.ensures.spends)

pub returns-in-Err-clause-writes : goal.returns-in-Err-clause-writes
returns-in-Err-clause-writes g c =
    let n = c.run_on-count.result in
    let run = c.run_on-count.ensures in
    let old = g.B.Bay.disks c.args.bay.now in
    let inside : c.args.at + n ≤ length c.args.from.now = omega (arith, run.within, c.requires.here) in
    let slot = run_slot c.args.view.now c.requires.known c.args.element c.args.position c.args.start c.args.at n (length c.args.from.now - c.args.at) c.in-Some.first run old.sizes c.requires.fits in
    let few : c.in-Some.first.slot < length c.args.touched.now = omega (arith, slot, g.met.B.Bay.few c.args.bay.now, c.told-touched) in
    let some = piece_some c.args.view.now c.requires.known c.args.element c.args.position c.args.start c.args.at n (length c.args.from.now - c.args.at) c.in-Some.first run c.args.from.now inside in
    rw c.touch.ensures
    (writes_run (GivesCells c.args.view.now c.args.start c.args.from.now) g.B.Bay.tells c.in-Some.first.slot c.in-Some.first.lba (take (c.args.at + n - c.args.at) (drop c.args.at c.args.from.now)) c.args.touched.now _ _ few some
    (run_gives c.args.view.now c.requires.known c.args.element c.args.position c.args.start c.args.at n (length c.args.from.now - c.args.at) c.in-Some.first run c.args.from.now inside)
    (λ tells. c.in-Err.ensures.held_failed tells)
    c.write_run.ensures.left c.write_run.ensures.any_moment c.write_run.ensures.spends)

pub returns-in-Ok-clause-costs : goal.returns-in-Ok-clause-costs
returns-in-Ok-clause-costs g c =
    let n = c.run_on-count.result in
    let run = c.run_on-count.ensures in
    let most = length c.args.from.now - c.args.at in
    let inside : c.args.at + n ≤ length c.args.from.now = omega (arith, run.within, c.requires.here) in
    let cells = left_cells c.args.view.now c.requires.known c.args.element c.args.position c.args.start c.args.at n most c.in-Some.first run in
    let stretches = left_stretches c.args.view.now c.requires.known c.args.element c.args.position c.args.start c.args.at n most c.in-Some.first run in
    let long = piece_long c.args.view.now c.requires.known c.args.element c.args.position c.args.start c.args.at n most c.in-Some.first run c.args.from.now inside in
    costs_most _ _ c.write_run.ensures.spends.costs (omega (arith, cells, long)) (omega (arith, stretches))

pub returns-in-Err-clause-costs : goal.returns-in-Err-clause-costs
returns-in-Err-clause-costs g c =
    let n = c.run_on-count.result in
    let run = c.run_on-count.ensures in
    let most = length c.args.from.now - c.args.at in
    let inside : c.args.at + n ≤ length c.args.from.now = omega (arith, run.within, c.requires.here) in
    let cells = left_cells c.args.view.now c.requires.known c.args.element c.args.position c.args.start c.args.at n most c.in-Some.first run in
    let stretches = left_stretches c.args.view.now c.requires.known c.args.element c.args.position c.args.start c.args.at n most c.in-Some.first run in
    let long = piece_long c.args.view.now c.requires.known c.args.element c.args.position c.args.start c.args.at n most c.in-Some.first run c.args.from.now inside in
    costs_most _ _ c.write_run.ensures.spends.costs (omega (arith, cells, long)) (omega (arith, stretches))

pub returns-in-Ok-clause-rest_cells : goal.returns-in-Ok-clause-rest_cells
returns-in-Ok-clause-rest_cells g c =
    let n = c.run_on-count.result in
    let most = length c.args.from.now - c.args.at in
    let cells = left_cells c.args.view.now c.requires.known c.args.element c.args.position c.args.start c.args.at n most c.in-Some.first c.run_on-count.ensures in
    let rest : most - n ≡ length c.args.from.now - (c.args.at + n) = omega arith in
    let block = c.args.start + (c.args.at + n) in
    let same : how_many (cells_on c.args.view.now c.args.element c.args.position block (most - n)) ≡ how_many (cells_on c.args.view.now c.args.element c.args.position block (length c.args.from.now - (c.args.at + n))) =
    ap (λ m. how_many (cells_on c.args.view.now c.args.element c.args.position block m)) rest in
    omega (arith, cells, same)

pub returns-in-Ok-clause-rest_stretches : goal.returns-in-Ok-clause-rest_stretches
returns-in-Ok-clause-rest_stretches g c =
    let n = c.run_on-count.result in
    let most = length c.args.from.now - c.args.at in
    let stretches = left_stretches c.args.view.now c.requires.known c.args.element c.args.position c.args.start c.args.at n most c.in-Some.first c.run_on-count.ensures in
    let rest : most - n ≡ length c.args.from.now - (c.args.at + n) = omega arith in
    let block = c.args.start + (c.args.at + n) in
    let same : stretches_on (cells_on c.args.view.now c.args.element c.args.position block (most - n)) ≡ stretches_on (cells_on c.args.view.now c.args.element c.args.position block (length c.args.from.now - (c.args.at + n))) =
    ap (λ m. stretches_on (cells_on c.args.view.now c.args.element c.args.position block m)) rest in
    omega (arith, stretches, same)

pub returns-in-Ok-clause-rest_costs : goal.returns-in-Ok-clause-rest_costs
returns-in-Ok-clause-rest_costs g c =
    let n = c.run_on-count.result in
    let run = c.run_on-count.ensures in
    let v = c.args.view.now in
    let e = c.args.element in
    let p = c.args.position in
    let most = length c.args.from.now - c.args.at in
    let inside : c.args.at + n ≤ length c.args.from.now = omega (arith, run.within, c.requires.here) in
    let rest : most - n ≡ length c.args.from.now - (c.args.at + n) = omega arith in
    let block = c.args.start + (c.args.at + n) in
    let same_cells : how_many (cells_on v e p block (most - n)) ≡ how_many (cells_on v e p block (length c.args.from.now - (c.args.at + n))) = ap (λ m. how_many (cells_on v e p block m)) rest in
    let same_stretches : stretches_on (cells_on v e p block (most - n)) ≡ stretches_on (cells_on v e p block (length c.args.from.now - (c.args.at + n))) = ap (λ m. stretches_on (cells_on v e p block m)) rest in
    let cells = left_cells v c.requires.known e p c.args.start c.args.at n most c.in-Some.first run in
    let stretches = left_stretches v c.requires.known e p c.args.start c.args.at n most c.in-Some.first run in
    let long = piece_long v c.requires.known e p c.args.start c.args.at n most c.in-Some.first run c.args.from.now inside in
    costs_most _ _ c.write_run.ensures.spends.costs (omega (arith, cells, same_cells, long)) (omega (arith, stretches, same_stretches))

pub returns-in_default-clause-set : goal.returns-in_default-clause-set
returns-in_default-clause-set g c = λ tells k one from below cell.
    let v = c.args.view.now in
    let none = none_lie v (c.args.start + c.args.at) c.left_in_strip.result c.left_in_strip.ensures.along (omega (arith, c.requires.here, c.requires.blocks)) c.args.element c.args.position (sym c.in_default.ensures) (k - c.args.at) (omega (arith, from, below)) in
    let block : c.args.start + c.args.at + (k - c.args.at) ≡ c.args.start + k = omega (arith, from) in
    absurd (never one (sym none ∙ ap (cell_on v c.args.element c.args.position) block ∙ cell))
  where
    never : (one : Site) → None ≡ Some one → ⊥
    never one e = cc

pub returns-in_default-clause-rest_cells : goal.returns-in_default-clause-rest_cells
returns-in_default-clause-rest_cells g c =
    let v = c.args.view.now in
    let n = c.left_in_strip.result in
    let most = length c.args.from.now - c.args.at in
    let rest = passed v c.args.element c.args.position n (c.args.start + c.args.at) most (omega (arith, c.left_in_strip.ensures.within))
    (none_lie v (c.args.start + c.args.at) n c.left_in_strip.ensures.along (omega (arith, c.requires.here, c.requires.blocks)) c.args.element c.args.position (sym c.in_default.ensures)) in
    let block : c.args.start + c.args.at + n ≡ c.args.start + (c.args.at + n) = omega arith in
    let left : most - n ≡ length c.args.from.now - (c.args.at + n) = omega arith in
    let same : how_many (cells_on v c.args.element c.args.position (c.args.start + c.args.at + n) (most - n)) ≡ how_many (cells_on v c.args.element c.args.position (c.args.start + (c.args.at + n)) (length c.args.from.now - (c.args.at + n))) =
    ap (λ b. how_many (cells_on v c.args.element c.args.position b (most - n))) block ∙ ap (λ m. how_many (cells_on v c.args.element c.args.position (c.args.start + (c.args.at + n)) m)) left in
    omega (arith, rest.0, same)

pub returns-in_default-clause-rest_stretches : goal.returns-in_default-clause-rest_stretches
returns-in_default-clause-rest_stretches g c =
    let v = c.args.view.now in
    let n = c.left_in_strip.result in
    let most = length c.args.from.now - c.args.at in
    let rest = passed v c.args.element c.args.position n (c.args.start + c.args.at) most (omega (arith, c.left_in_strip.ensures.within))
    (none_lie v (c.args.start + c.args.at) n c.left_in_strip.ensures.along (omega (arith, c.requires.here, c.requires.blocks)) c.args.element c.args.position (sym c.in_default.ensures)) in
    let block : c.args.start + c.args.at + n ≡ c.args.start + (c.args.at + n) = omega arith in
    let left : most - n ≡ length c.args.from.now - (c.args.at + n) = omega arith in
    let same : stretches_on (cells_on v c.args.element c.args.position (c.args.start + c.args.at + n) (most - n)) ≡ stretches_on (cells_on v c.args.element c.args.position (c.args.start + (c.args.at + n)) (length c.args.from.now - (c.args.at + n))) =
    ap (λ b. stretches_on (cells_on v c.args.element c.args.position b (most - n))) block ∙ ap (λ m. stretches_on (cells_on v c.args.element c.args.position (c.args.start + (c.args.at + n)) m)) left in
    omega (arith, rest.1, same)

pub returns-in-Err-clause-touched : goal.returns-in-Err-clause-touched
returns-in-Err-clause-touched g c =
    let slot = run_slot c.args.view.now c.requires.known c.args.element c.args.position c.args.start c.args.at c.run_on-count.result (length c.args.from.now - c.args.at) c.in-Some.first c.run_on-count.ensures (g.B.Bay.disks c.args.bay.now).sizes c.requires.fits in
    let few : c.in-Some.first.slot < length c.args.touched.now = omega (arith, slot, g.met.B.Bay.few c.args.bay.now, c.told-touched) in
    rw c.touch.ensures (touch_here c.args.touched.now c.in-Some.first.slot few)
