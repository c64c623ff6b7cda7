use Rattle.std.proofs.Common.{◌+◌, ◌≤◌, length, sym, arith}
use Rattle.std.proofs.lemmas.Result.{err_from_is_err_and}
use Rattle.ddf_primary.specs.Cells.{depth_of}
use Rattle.ddf_primary.proofs.ShapeFacts.{depth_le}
use Rattle.ddf_cells.proofs.BlockOf.{block_within}
use Rattle.ddf_cells.proofs.GivenSteps.{cell_empty}
use Rattle.ddf_cells.proofs.Surely.{cell_without}
use Rattle.ddf_cells.proofs.cells.read_first.Goals as goal

pub read_empty-requires-clause-sectors : goal.read_empty-requires-clause-sectors
read_empty-requires-clause-sectors g c = λ part part_at.
    let le = depth_le part.shape.layout part.shape.strip part.shape.blocks in
    let inside : c.args.sector + length c.args.out.now ≤ depth_of part.shape = c.requires.sectors part part_at in
    omega (arith, le, inside)

pub returns-in_ok-count-in-None-clause-cells : goal.returns-in_ok-count-in-None-clause-cells
returns-in_ok-count-in-None-clause-cells g c = λ tells sure part part_at k below.
    let le = depth_le part.shape.layout part.shape.strip part.shape.blocks in
    let inside : c.args.sector + length c.args.out.now ≤ depth_of part.shape = c.requires.sectors part part_at in
    cell_without c.args.view.now (g.B.Bay.disks c.args.bay.now) (g.B.Bay.disks c.read_empty.new.bay) c.args.element part c.args.position (c.args.sector + k) part_at
    (omega (arith, inside, below, c.in_ok-count-in-None.ensures.within)) (omega (arith, le, inside, below, c.in_ok-count-in-None.ensures.within)) _ sure (c.in_ok-count-in-None.ensures.empty k below) (c.in_ok-count-in-None.ensures.given tells part part_at k below)

pub read_held-requires-clause-block : goal.read_held-requires-clause-block
read_held-requires-clause-block g c = block_within c.args.view.now c.args.element c.args.position c.args.sector c.in-Some.block (sym c.in-Some.ensures)

pub returns-in_ok-count-in-Some-clause-cells : goal.returns-in_ok-count-in-Some-clause-cells
returns-in_ok-count-in-Some-clause-cells g c = λ tells sure. c.in_ok-count-in-Some.ensures.cells tells sure c.args.element c.args.position c.args.sector (sym c.in-Some.ensures)

pub returns-in_err-count-in-Some-clause-left : goal.returns-in_err-count-in-Some-clause-left
returns-in_err-count-in-Some-clause-left g c =
    let p = err_from_is_err_and c.from_residual.result c.from_residual.ensures.1 in
    rw (p.1, p.2) (λ part part_at. c.in_err-count-in-Some.ensures.left c.args.element c.args.position c.args.sector part (sym c.in-Some.ensures))

pub returns-in_ok-count-in-None-clause-given : goal.returns-in_ok-count-in-None-clause-given
returns-in_ok-count-in-None-clause-given g c = λ tells part part_at k below.
    cell_empty _ c.args.view.now _ c.args.element part (c.args.sector + k) c.args.position _ (c.in_ok-count-in-None.ensures.empty k below) (c.in_ok-count-in-None.ensures.given tells part part_at k below)

pub returns-in_ok-count-in-Some-clause-given : goal.returns-in_ok-count-in-Some-clause-given
returns-in_ok-count-in-Some-clause-given g c = λ tells. c.in_ok-count-in-Some.ensures.given tells c.args.element c.args.position c.args.sector (sym c.in-Some.ensures)
