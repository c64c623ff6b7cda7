use Rattle.std.proofs.Common.{◌≡◌, ◌∙◌, ◌+◌, ◌/◌, ◌<◌, ◌≤◌, ℕ, Some, length, sym, ap, arith}
use Rattle.ddf_primary.specs.Cells.{parity_member}
use Rattle.ddf_primary.proofs.Needs.{parity_below}
use Rattle.ddf_array.specs.Rows.{block_at}
use Rattle.ddf_cells.proofs.Depths.{blocks_small}
use Rattle.ddf_write.specs.RowWrites.{IsNoted, IsSummed}
use Rattle.ddf_cells.proofs.ParityCells.{parity_holds}
use Rattle.ddf_write.proofs.RowLoops.{has_members, parity_within, rows_are_touched, rows_inside, rows_no_cell, rows_passed, rows_set, sums_keep}
use Rattle.ddf_write.proofs.rows.set_rows_from.Goals as goal

pub returns-in_default-clause-summed : goal.returns-in_default-clause-summed
returns-in_default-clause-summed g c = λ tells entry filled values so_far.
    rows_no_cell c.args.view.now c.requires.known c.args.start c.args.k c.args.element (IsSummed c.args.view.now (g.B.Bay.disks c.args.bay.now).held) c.in_default.ensures.cell so_far

pub returns-in_default-clause-noted : goal.returns-in_default-clause-noted
returns-in_default-clause-noted g c = λ so_far.
    rows_no_cell c.args.view.now c.requires.known c.args.start c.args.k c.args.element (IsNoted c.args.touched.now) c.in_default.ensures.cell so_far

pub returns-then-passed-gt0-clause-summed : goal.returns-then-passed-gt0-clause-summed
returns-then-passed-gt0-clause-summed g c = λ tells entry filled values so_far.
    let cell = c.in-Some.cell in
    let only = c.in-Some.ensures.cell in
    rows_passed c.args.view.now c.requires.known c.args.start c.args.k c.args.element c.args.part.now c.requires.is_part c.requires.keeps cell c.min.result
    (λ j below. c.blocks_along-along.ensures.follow c.args.element cell.member cell.sector j only.holds_it (omega (arith, below, c.min.ensures)))
    (IsSummed c.args.view.now (g.B.Bay.disks c.args.bay.now).held) (λ j below. c.touched_from-passed.ensures j (omega (arith, below, c.min.ensures))) so_far

pub returns-then-passed-gt0-clause-noted : goal.returns-then-passed-gt0-clause-noted
returns-then-passed-gt0-clause-noted g c = λ so_far.
    let cell = c.in-Some.cell in
    let only = c.in-Some.ensures.cell in
    rows_passed c.args.view.now c.requires.known c.args.start c.args.k c.args.element c.args.part.now c.requires.is_part c.requires.keeps cell c.min.result
    (λ j below. c.blocks_along-along.ensures.follow c.args.element cell.member cell.sector j only.holds_it (omega (arith, below, c.min.ensures)))
    (IsNoted c.args.touched.now) (λ j below. c.touched_from-passed.ensures j (omega (arith, below, c.min.ensures))) so_far

pub piece_at-piece-requires-clause-part : goal.piece_at-piece-requires-clause-part
piece_at-piece-requires-clause-part g c = c.requires.known.are_parts c.args.element c.args.part.now c.requires.is_part

pub set_run-requires-clause-is_parity : goal.set_run-requires-clause-is_parity
set_run-requires-clause-is_parity g c =
    let part = c.args.part.now in
    let is_parity : parity_member part.shape (c.in-Some.cell.sector / part.shape.strip) ≡ Some c.from.result =
    ap (parity_member part.shape) (sym c.in-Some.ensures.cell.row_is) ∙ sym c.in-Some-parity_of.ensures ∙ ap Some (sym c.from.ensures) in
    parity_holds part c.in-Some.cell.sector c.untouched_from-count.result c.piece_at-piece.result c.from.result c.requires.keeps c.piece_at-piece.ensures.row c.untouched_from-count.ensures.within is_parity

pub set_run-requires-clause-inside : goal.set_run-requires-clause-inside
set_run-requires-clause-inside g c =
    let part = c.args.part.now in
    let some = has_members c.args.view.now c.requires.known c.args.element part c.requires.is_part (c.args.start + c.args.k) c.in-Some.cell c.in-Some.ensures.cell in
    let below = parity_below part.shape.layout part.shape.members c.in-Some.cell.row c.in-Some-parity_of.parity some (sym c.in-Some-parity_of.ensures) in
    omega (arith, below, (c.requires.known.are_parts c.args.element part c.requires.is_part).has_places, c.from.ensures)

pub set_run-requires-clause-sectors : goal.set_run-requires-clause-sectors
set_run-requires-clause-sectors g c =
    let cell = c.in-Some.cell in
    rows_inside c.args.view.now c.requires.known c.args.start c.args.k c.args.element c.args.part.now c.requires.is_part c.requires.keeps cell c.untouched_from-count.result
    (λ j below. c.blocks_along-along.ensures.follow c.args.element cell.member cell.sector j c.in-Some.ensures.cell.holds_it (omega (arith, below, c.untouched_from-count.ensures.within, c.piece_at-piece.ensures.within)))
    c.untouched_from-count.ensures.some

pub set_run-requires-clause-small : goal.set_run-requires-clause-small
set_run-requires-clause-small g c =
    let cell = c.in-Some.cell in
    let inside = rows_inside c.args.view.now c.requires.known c.args.start c.args.k c.args.element c.args.part.now c.requires.is_part c.requires.keeps cell c.untouched_from-count.result
    (λ j below. c.blocks_along-along.ensures.follow c.args.element cell.member cell.sector j c.in-Some.ensures.cell.holds_it (omega (arith, below, c.untouched_from-count.ensures.within, c.piece_at-piece.ensures.within)))
    c.untouched_from-count.ensures.some in
    omega (arith, inside, blocks_small c.args.part.now.shape (c.requires.known.are_parts c.args.element c.args.part.now c.requires.is_part).shape_is)

pub set_run-requires-clause-rows_touched : goal.set_run-requires-clause-rows_touched
set_run-requires-clause-rows_touched g c =
    let cell = c.in-Some.cell in
    rows_are_touched c.args.view.now c.requires.known c.args.start c.args.k c.args.element c.args.part.now c.requires.is_part c.requires.keeps cell c.untouched_from-count.result
    (λ j below. c.blocks_along-along.ensures.follow c.args.element cell.member cell.sector j c.in-Some.ensures.cell.holds_it (omega (arith, below, c.untouched_from-count.ensures.within, c.piece_at-piece.ensures.within)))
    (length c.args.from.now) (omega (arith, c.untouched_from-count.ensures.within, c.piece_at-piece.ensures.within, c.blocks_along-along.ensures.within, c.requires.here))

pub returns-clause-kept : goal.returns-clause-kept
returns-clause-kept g c = λ tells entry filled values.
    let v = c.args.view.now in
    let cell = c.in-Some.cell in
    let part = c.args.part.now in
    let n = c.untouched_from-count.result in
    let follow : (j : ℕ) → j < n → block_at v c.args.element cell.member (cell.sector + j) ≡ Some (c.args.start + c.args.k + j) =
    λ j below. c.blocks_along-along.ensures.follow c.args.element cell.member cell.sector j c.in-Some.ensures.cell.holds_it (omega (arith, below, c.untouched_from-count.ensures.within, c.piece_at-piece.ensures.within)) in
    let is_parity : parity_member part.shape (cell.sector / part.shape.strip) ≡ Some c.from.result =
    ap (parity_member part.shape) (sym c.in-Some.ensures.cell.row_is) ∙ sym c.in-Some-parity_of.ensures ∙ ap Some (sym c.from.ensures) in
    let holds = parity_holds part cell.sector n c.piece_at-piece.result c.from.result c.requires.keeps c.piece_at-piece.ensures.row c.untouched_from-count.ensures.within is_parity in
    let within : c.args.k + n ≤ length c.args.from.now = omega (arith, c.untouched_from-count.ensures.within, c.piece_at-piece.ensures.within, c.blocks_along-along.ensures.within, c.requires.here) in
    let inside = rows_inside v c.requires.known c.args.start c.args.k c.args.element part c.requires.is_part c.requires.keeps cell n follow c.untouched_from-count.ensures.some in
    let touched = rows_are_touched v c.requires.known c.args.start c.args.k c.args.element part c.requires.is_part c.requires.keeps cell n follow (length c.args.from.now) within in
    sums_keep v c.requires.known c.requires.apart c.args.start c.args.from.now c.requires.whole (g.B.Bay.disks c.args.bay.now).held (g.B.Bay.disks c.set_run.new.bay).held c.args.element cell.sector n c.from.result part c.requires.is_part
    holds inside touched (c.in_ok-set_run.ensures.only tells) (c.in_ok-set_run.ensures.summed tells entry filled values)

pub returns-clause-summed : goal.returns-clause-summed
returns-clause-summed g c = λ tells entry filled values so_far.
    let v = c.args.view.now in
    let old = g.B.Bay.disks c.args.bay.now in
    let new = g.B.Bay.disks c.set_run.new.bay in
    let cell = c.in-Some.cell in
    let part = c.args.part.now in
    let n = c.untouched_from-count.result in
    let follow : (j : ℕ) → j < n → block_at v c.args.element cell.member (cell.sector + j) ≡ Some (c.args.start + c.args.k + j) =
    λ j below. c.blocks_along-along.ensures.follow c.args.element cell.member cell.sector j c.in-Some.ensures.cell.holds_it (omega (arith, below, c.untouched_from-count.ensures.within, c.piece_at-piece.ensures.within)) in
    let is_parity : parity_member part.shape (cell.sector / part.shape.strip) ≡ Some c.from.result =
    ap (parity_member part.shape) (sym c.in-Some.ensures.cell.row_is) ∙ sym c.in-Some-parity_of.ensures ∙ ap Some (sym c.from.ensures) in
    let holds = parity_holds part cell.sector n c.piece_at-piece.result c.from.result c.requires.keeps c.piece_at-piece.ensures.row c.untouched_from-count.ensures.within is_parity in
    let within : c.args.k + n ≤ length c.args.from.now = omega (arith, c.untouched_from-count.ensures.within, c.piece_at-piece.ensures.within, c.blocks_along-along.ensures.within, c.requires.here) in
    let inside = rows_inside v c.requires.known c.args.start c.args.k c.args.element part c.requires.is_part c.requires.keeps cell n follow c.untouched_from-count.ensures.some in
    let touched = rows_are_touched v c.requires.known c.args.start c.args.k c.args.element part c.requires.is_part c.requires.keeps cell n follow (length c.args.from.now) within in
    let set = c.in_ok-set_run.ensures.summed tells entry filled values in
    rows_set v c.requires.known c.args.start c.args.k c.args.element part c.requires.is_part c.requires.keeps cell n follow (IsSummed v old.held) (IsSummed v new.held) c.from.result holds
    (λ sector q one is was.
    sums_keep v c.requires.known c.requires.apart c.args.start c.args.from.now c.requires.whole old.held new.held c.args.element cell.sector n c.from.result part c.requires.is_part
    holds inside touched (c.in_ok-set_run.ensures.only tells) set c.args.element sector q one
    (parity_within v c.args.start c.args.k (length c.args.from.now) c.args.element sector q one (omega (arith, c.requires.here)) is) was)
    set so_far

pub returns-clause-noted : goal.returns-clause-noted
returns-clause-noted g c = λ so_far.
    let v = c.args.view.now in
    let cell = c.in-Some.cell in
    let part = c.args.part.now in
    let n = c.untouched_from-count.result in
    let follow : (j : ℕ) → j < n → block_at v c.args.element cell.member (cell.sector + j) ≡ Some (c.args.start + c.args.k + j) =
    λ j below. c.blocks_along-along.ensures.follow c.args.element cell.member cell.sector j c.in-Some.ensures.cell.holds_it (omega (arith, below, c.untouched_from-count.ensures.within, c.piece_at-piece.ensures.within)) in
    let is_parity : parity_member part.shape (cell.sector / part.shape.strip) ≡ Some c.from.result =
    ap (parity_member part.shape) (sym c.in-Some.ensures.cell.row_is) ∙ sym c.in-Some-parity_of.ensures ∙ ap Some (sym c.from.ensures) in
    let holds = parity_holds part cell.sector n c.piece_at-piece.result c.from.result c.requires.keeps c.piece_at-piece.ensures.row c.untouched_from-count.ensures.within is_parity in
    rows_set v c.requires.known c.args.start c.args.k c.args.element part c.requires.is_part c.requires.keeps cell n follow (IsNoted c.args.touched.now) (IsNoted c.set_run.new.touched) c.from.result holds
    (λ sector q one is was. c.in_ok-set_run.ensures.writes.touched_up one.slot was)
    c.in_ok-set_run.ensures.noted so_far
