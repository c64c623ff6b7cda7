use Rattle.std.proofs.Common.{length, sym, ap, arith}
use Rattle.ddf_cells.proofs.OnCells.{no_cell}
use Rattle.ddf_cells.proofs.cell.cell_in.Goals as goal

pub returns-then-position-items : goal.returns-then-position-items
returns-then-position-items c =
    let n = ap length c.items.ensures in
    sym (no_cell c.args.part.now c.args.position c.args.block (omega (arith, c.if-position-items.true, n)))
