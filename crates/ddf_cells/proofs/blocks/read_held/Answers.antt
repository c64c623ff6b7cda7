use Rattle.std.proofs.Common.{◌∙◌, ◌+◌, sym, subst, arith}
use Rattle.std.proofs.lemmas.List.{get_or_append_left, length-take-le}
use Rattle.std.proofs.lemmas.Result.{err_from_is_err_and}
use Rattle.ddf_read.specs.Reading.{Failed}
use Rattle.ddf_cells.specs.GivenCells.{IsCellGiven}
use Rattle.ddf_cells.proofs.CellSteps.{left_held}
use Rattle.ddf_cells.proofs.GivenSteps.{cell_held}
use Rattle.ddf_cells.proofs.Surely.{cell_of_block}
use Rattle.ddf_cells.proofs.blocks.read_held.Goals as goal

pub read_run-requires-clause-blocks : goal.read_run-requires-clause-blocks
read_run-requires-clause-blocks g c =
    let count = c.blocks_along-count.result in
    omega (arith, c.blocks_along-count.ensures.inside, length-take-le count c.args.out.now c.blocks_along-count.ensures.within)

pub returns-in_err-read_run-clause-left : goal.returns-in_err-read_run-clause-left
returns-in_err-read_run-clause-left g c =
    let p = err_from_is_err_and c.from_residual.result c.from_residual.ensures.1 in
    let count = c.blocks_along-count.result in
    rw (p.1, p.2)
    (λ element position sector part at.
    left_held _ c.args.view.now element part position sector _ _ c.args.block count c.blocks_along-count.ensures.within (λ k below. c.blocks_along-count.ensures.follow element position sector k at below)
    (rw (length-take-le count c.args.out.now c.blocks_along-count.ensures.within) at c.in_err-read_run.ensures.left))

pub returns-clause-cells : goal.returns-clause-cells
returns-clause-cells g c = λ tells sure element position sector at part part_at k below.
    let count = c.blocks_along-count.result in
    let long = length-take-le count c.args.out.now c.blocks_along-count.ensures.within in
    get_or_append_left c.read_run.new.out _ _ k (omega (arith, long, c.read_run.auto.out, below))
    ∙ cell_of_block c.args.view.now (g.B.Bay.disks c.args.bay.now) (g.B.Bay.disks c.read_run.new.bay) element part position (sector + k) sure (c.args.block + k) _
    (c.blocks_along-count.ensures.follow element position sector k at below) (c.in_ok-read_run.ensures.given tells k (omega (arith, long, below)))

pub returns-clause-given : goal.returns-clause-given
returns-clause-given g c = λ tells element position sector at part part_at k below.
    let old = g.B.Bay.disks c.args.bay.now in
    let new = g.B.Bay.disks c.read_run.new.bay in
    let count = c.blocks_along-count.result in
    let long = length-take-le count c.args.out.now c.blocks_along-count.ensures.within in
    subst (λ bytes. IsCellGiven (Failed old new) c.args.view.now old.held element part (sector + k) position bytes)
    (sym (get_or_append_left c.read_run.new.out _ _ k (omega (arith, long, c.read_run.auto.out, below))))
    (cell_held (Failed old new) c.args.view.now old.held element part (sector + k) position _ (c.args.block + k)
    (c.blocks_along-count.ensures.follow element position sector k at below) (c.in_ok-read_run.ensures.given tells k (omega (arith, long, below))))
