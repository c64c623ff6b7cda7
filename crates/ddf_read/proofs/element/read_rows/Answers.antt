use Rattle.std.proofs.Common.{◌≡◌, ◌∙◌, true, sym, ap}
use Rattle.ddf_array.specs.Levels.{keeps_parity}
use Rattle.ddf_read.proofs.MissingCells.{row_alone}
use Rattle.ddf_read.proofs.element.read_rows.Goals as goal

pub returns-clause-tried : goal.returns-clause-tried
returns-clause-tried g c =
    let part = c.args.part.now in
    let parity : keeps_parity part.shape.layout ≡ true = ap keeps_parity (sym c.layout.ensures) ∙ sym c.keeps_parity.ensures ∙ c.if-not-keeps_parity.false in
    rw (row_alone part c.args.block c.place-cell.result.member c.place-cell.result.sector c.place-cell.ensures.cell c.requires.part.shape_is parity) (rw c.from.ensures at c.read_row.ensures.tried)
