use Rattle.std.proofs.Common.{◌≡◌, ◌∙◌, true, false, refl, sym, ap}
use Rattle.ddf_array.specs.Levels.{keeps_parity}
use Rattle.ddf_array.specs.Sources.{row_without}
use Rattle.std.specs.Prelude.{is_some}
use Rattle.ddf_read.proofs.MissingCells.{is_missing, no_row}
use Rattle.ddf_read.proofs.missing.missing_in.Goals as goal

pub returns-clause-missing : goal.returns-clause-missing
returns-clause-missing c =
    let part = c.args.part.now in
    let cell = c.place-cell.result in
    let parity : keeps_parity part.shape.layout ≡ true = ap keeps_parity (sym c.layout.ensures) ∙ sym c.keeps_parity.ensures ∙ c.if-not-keeps_parity.false in
    let has : is_some (row_without part.places cell.member cell.sector) ≡ true =
    ap (λ position. is_some (row_without part.places position cell.sector)) (sym c.from-position.ensures) ∙ sym c.has_row.ensures ∙ c.if-not-has_row.false in
    is_missing part c.args.block cell.member cell.sector c.place-cell.ensures.cell c.requires.part parity has _ c.from-position.ensures refl c.left_in_part.ensures.some c.left_in_part.ensures.along

pub returns-then-not-has_row-clause-missing : goal.returns-then-not-has_row-clause-missing
returns-then-not-has_row-clause-missing c =
    let part = c.args.part.now in
    let cell = c.place-cell.result in
    let parity : keeps_parity part.shape.layout ≡ true = ap keeps_parity (sym c.layout.ensures) ∙ sym c.keeps_parity.ensures ∙ c.if-not-keeps_parity.false in
    let none : is_some (row_without part.places cell.member cell.sector) ≡ false =
    ap (λ position. is_some (row_without part.places position cell.sector)) (sym c.from-position.ensures) ∙ sym c.has_row.ensures ∙ c.if-not-has_row.true in
    no_row part c.args.block cell.member cell.sector c.place-cell.ensures.cell c.requires.part.shape_is parity none
