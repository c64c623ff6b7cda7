use Rattle.std.proofs.Common.{◌≡◌, ◌∙◌, ◌+◌, ◌/◌, ◌<◌, ℕ, Some, sym, ap, arith}
use Rattle.ddf_primary.specs.Cells.{parity_member}
use Rattle.ddf_array.specs.Rows.{block_at}
use Rattle.ddf_cells.proofs.ParityCells.{parity_holds}
use Rattle.ddf_write.specs.Gathering.{RowIsKnown}
use Rattle.ddf_write.proofs.Gathered.{gathers_start, row_grows, rows_deep}
use Rattle.ddf_write.proofs.RowLoops.{rows_are_touched, rows_no_cell, rows_passed, rows_set}
use Rattle.ddf_write.proofs.look.keep_rows_from.Goals as goal

pub returns-in_default-clause-known : goal.returns-in_default-clause-known
returns-in_default-clause-known g c = λ so_far.
    rows_no_cell c.args.view.now c.requires.known c.args.piece.first c.args.k c.args.element (RowIsKnown c.args.view.now c.args.piece.first c.args.piece.blocks c.args.kept.now) c.in_default.ensures.cell so_far

pub returns-in_default-clause-gathers : goal.returns-in_default-clause-gathers
returns-in_default-clause-gathers g c = gathers_start g.B.Bay.tells (g.B.Bay.disks c.args.bay.now) c.args.view.now c.args.piece.start c.args.piece.count c.args.kept.now

pub returns-then-passed-gt0-clause-known : goal.returns-then-passed-gt0-clause-known
returns-then-passed-gt0-clause-known g c = λ so_far.
    let cell = c.in-Some.cell in
    let only = c.in-Some.ensures.cell in
    rows_passed c.args.view.now c.requires.known c.args.piece.first c.args.k c.args.element c.args.part.now c.requires.is_part c.requires.keeps cell c.min.result
    (λ j below. c.blocks_along-along.ensures.follow c.args.element cell.member cell.sector j only.holds_it (omega (arith, below, c.min.ensures)))
    (RowIsKnown c.args.view.now c.args.piece.first c.args.piece.blocks c.args.kept.now) (λ j below. c.touched_from-passed.ensures j (omega (arith, below, c.min.ensures))) so_far

pub returns-then-passed-gt0-clause-gathers : goal.returns-then-passed-gt0-clause-gathers
returns-then-passed-gt0-clause-gathers g c = gathers_start g.B.Bay.tells (g.B.Bay.disks c.args.bay.now) c.args.view.now c.args.piece.start c.args.piece.count c.args.kept.now

pub piece_at-most-requires-clause-part : goal.piece_at-most-requires-clause-part
piece_at-most-requires-clause-part g c = c.requires.known.are_parts c.args.element c.args.part.now c.requires.is_part

pub keep_run_of_rows-requires-clause-is_parity : goal.keep_run_of_rows-requires-clause-is_parity
keep_run_of_rows-requires-clause-is_parity g c =
    let part = c.args.part.now in
    let is_parity : parity_member part.shape (c.in-Some.cell.sector / part.shape.strip) ≡ Some c.from.result =
    ap (parity_member part.shape) (sym c.in-Some.ensures.cell.row_is) ∙ sym c.in-Some-parity_of.ensures ∙ ap Some (sym c.from.ensures) in
    parity_holds part c.in-Some.cell.sector c.untouched_from-rows.result c.piece_at-most.result c.from.result c.requires.keeps c.piece_at-most.ensures.row c.untouched_from-rows.ensures.within is_parity

pub keep_run_of_rows-requires-clause-sectors : goal.keep_run_of_rows-requires-clause-sectors
keep_run_of_rows-requires-clause-sectors g c =
    let cell = c.in-Some.cell in
    rows_deep c.args.view.now c.requires.known c.args.element c.args.part.now c.requires.is_part cell (c.args.piece.first + c.args.k) c.untouched_from-rows.result
    (λ j below. c.blocks_along-along.ensures.follow c.args.element cell.member cell.sector j c.in-Some.ensures.cell.holds_it (omega (arith, below, c.untouched_from-rows.ensures.within, c.piece_at-most.ensures.within)))
    c.untouched_from-rows.ensures.some

pub keep_run_of_rows-requires-clause-touched : goal.keep_run_of_rows-requires-clause-touched
keep_run_of_rows-requires-clause-touched g c =
    let cell = c.in-Some.cell in
    rows_are_touched c.args.view.now c.requires.known c.args.piece.first c.args.k c.args.element c.args.part.now c.requires.is_part c.requires.keeps cell c.untouched_from-rows.result
    (λ j below. c.blocks_along-along.ensures.follow c.args.element cell.member cell.sector j c.in-Some.ensures.cell.holds_it (omega (arith, below, c.untouched_from-rows.ensures.within, c.piece_at-most.ensures.within)))
    c.args.piece.blocks (omega (arith, c.untouched_from-rows.ensures.within, c.piece_at-most.ensures.within, c.blocks_along-along.ensures.within, c.requires.here))

pub returns-clause-known : goal.returns-clause-known
returns-clause-known g c = λ so_far.
    let v = c.args.view.now in
    let cell = c.in-Some.cell in
    let part = c.args.part.now in
    let n = c.untouched_from-rows.result in
    let follow : (j : ℕ) → j < n → block_at v c.args.element cell.member (cell.sector + j) ≡ Some (c.args.piece.first + c.args.k + j) =
    λ j below. c.blocks_along-along.ensures.follow c.args.element cell.member cell.sector j c.in-Some.ensures.cell.holds_it (omega (arith, below, c.untouched_from-rows.ensures.within, c.piece_at-most.ensures.within)) in
    let is_parity : parity_member part.shape (cell.sector / part.shape.strip) ≡ Some c.from.result =
    ap (parity_member part.shape) (sym c.in-Some.ensures.cell.row_is) ∙ sym c.in-Some-parity_of.ensures ∙ ap Some (sym c.from.ensures) in
    let holds = parity_holds part cell.sector n c.piece_at-most.result c.from.result c.requires.keeps c.piece_at-most.ensures.row c.untouched_from-rows.ensures.within is_parity in
    rows_set v c.requires.known c.args.piece.first c.args.k c.args.element part c.requires.is_part c.requires.keeps cell n follow (RowIsKnown v c.args.piece.first c.args.piece.blocks c.args.kept.now)
    (RowIsKnown v c.args.piece.first c.args.piece.blocks c.keep_run_of_rows.new.kept) c.from.result holds
    (λ sector q one is was. row_grows v c.args.piece.first c.args.piece.blocks c.args.kept.now c.keep_run_of_rows.new.kept c.in_ok-keep_run_of_rows.ensures.gathers.grows c.args.element sector q one was)
    (λ j one below there position inside other. c.in_ok-keep_run_of_rows.ensures.known j position below inside (λ same. other (holds j below ∙ ap Some (sym same)))) so_far
