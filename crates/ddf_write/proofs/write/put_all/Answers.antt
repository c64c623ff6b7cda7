use Rattle.std.proofs.Common.{◌∙◌, length, refl, arith}
use Rattle.std.proofs.lemmas.Result.{err_from_is_err_and}
use Rattle.ddf_write.specs.Keeping.{AreTheirValues}
use Rattle.ddf_write.specs.RowWrites.{AllSet}
use Rattle.ddf_write.proofs.CellsCount.{cells_are_copies}
use Rattle.ddf_write.proofs.RowLoops.{filled_then, stopped_since}
use Rattle.ddf_write.proofs.WriteEnds.{filled_by, noted_written, written_end, written_noted}
use Rattle.ddf_write.specs.Writing.{MayGive}
use Rattle.ddf_write.proofs.Gives.{both_written, cells_written, may_cell}
use Rattle.ddf_cells.proofs.Ends.{goes_by, held_by, left_by}
use Rattle.ddf_cells.proofs.WriteSteps.{none_touched, set_stays, writes_then}
use Rattle.ddf_write.proofs.write.put_all.Goals as goal

pub set_rows-requires-clause-fits : goal.set_rows-requires-clause-fits
set_rows-requires-clause-fits g c = rw (cells_written c.args.view.now c.args.start c.args.from.now g.B.Bay.tells c.in_ok-write_cells.ensures.writes).same_sizes c.requires.fits

-- the cells couldn't be written
pub returns-in_err-write_cells-clause-held : goal.returns-in_err-write_cells-clause-held
returns-in_err-write_cells-clause-held g c = λ tells. held_by (MayGive c.args.view.now c.args.start c.args.from.now) g.B.Bay.tells (cells_written c.args.view.now c.args.start c.args.from.now g.B.Bay.tells c.in_err-write_cells.ensures.writes) tells

pub returns-in_err-write_cells-clause-left : goal.returns-in_err-write_cells-clause-left
returns-in_err-write_cells-clause-left g c = left_by (MayGive c.args.view.now c.args.start c.args.from.now) g.B.Bay.tells (cells_written c.args.view.now c.args.start c.args.from.now g.B.Bay.tells c.in_err-write_cells.ensures.writes)

pub returns-in_err-write_cells-clause-goes : goal.returns-in_err-write_cells-clause-goes
returns-in_err-write_cells-clause-goes g c = goes_by (MayGive c.args.view.now c.args.start c.args.from.now) g.B.Bay.tells (cells_written c.args.view.now c.args.start c.args.from.now g.B.Bay.tells c.in_err-write_cells.ensures.writes)

pub returns-in_err-write_cells-clause-cause : goal.returns-in_err-write_cells-clause-cause
returns-in_err-write_cells-clause-cause g c =
    let p = err_from_is_err_and c.from_residual.result c.from_residual.ensures.1 in
    let v = c.args.view.now in
    let w = cells_written v c.args.start c.args.from.now g.B.Bay.tells c.in_err-write_cells.ensures.writes in
    rw (p.1, p.2) (noted_written v c.requires.known c.args.start c.args.from.now g.B.Bay.tells w (none_touched 64) _ c.in_err-write_cells.ensures.touched, c.in_err-write_cells.ensures.failed)

-- the parity couldn't
pub returns-in_err-set_rows-clause-any_moment : goal.returns-in_err-set_rows-clause-any_moment
returns-in_err-set_rows-clause-any_moment g c = (both_written c.args.view.now c.args.start c.args.from.now g.B.Bay.tells c.in_ok-write_cells.ensures.writes c.in_err-set_rows.ensures.writes).any_moment

pub returns-in_err-set_rows-clause-held : goal.returns-in_err-set_rows-clause-held
returns-in_err-set_rows-clause-held g c = λ tells.
    held_by (MayGive c.args.view.now c.args.start c.args.from.now) g.B.Bay.tells (both_written c.args.view.now c.args.start c.args.from.now g.B.Bay.tells c.in_ok-write_cells.ensures.writes c.in_err-set_rows.ensures.writes) tells

pub returns-in_err-set_rows-clause-left : goal.returns-in_err-set_rows-clause-left
returns-in_err-set_rows-clause-left g c =
    left_by (MayGive c.args.view.now c.args.start c.args.from.now) g.B.Bay.tells (both_written c.args.view.now c.args.start c.args.from.now g.B.Bay.tells c.in_ok-write_cells.ensures.writes c.in_err-set_rows.ensures.writes)

pub returns-in_err-set_rows-clause-goes : goal.returns-in_err-set_rows-clause-goes
returns-in_err-set_rows-clause-goes g c =
    goes_by (MayGive c.args.view.now c.args.start c.args.from.now) g.B.Bay.tells (both_written c.args.view.now c.args.start c.args.from.now g.B.Bay.tells c.in_ok-write_cells.ensures.writes c.in_err-set_rows.ensures.writes)

pub returns-in_err-set_rows-clause-cause : goal.returns-in_err-set_rows-clause-cause
returns-in_err-set_rows-clause-cause g c =
    let p = err_from_is_err_and c.from_residual-in_err-set_rows.result c.from_residual-in_err-set_rows.ensures.1 in
    rw (p.1, p.2) (stopped_since c.args.view.now c.args.start c.args.from.now g.B.Bay.tells (cells_written c.args.view.now c.args.start c.args.from.now g.B.Bay.tells c.in_ok-write_cells.ensures.writes) c.in_err-set_rows.ensures.writes (length c.args.from.now) _ c.in_err-set_rows.ensures.cause)

pub returns-in_err-set_rows-clause-asked : goal.returns-in_err-set_rows-clause-asked
returns-in_err-set_rows-clause-asked g c = omega (arith, cells_are_copies c.args.view.now c.requires.known c.args.start (length c.args.from.now), c.in_ok-write_cells.ensures.costs.asked, c.in_err-set_rows.ensures.asked)

pub returns-in_err-set_rows-clause-sectors : goal.returns-in_err-set_rows-clause-sectors
returns-in_err-set_rows-clause-sectors g c = omega (arith, cells_are_copies c.args.view.now c.requires.known c.args.start (length c.args.from.now), c.in_ok-write_cells.ensures.costs.written, c.in_err-set_rows.ensures.written)

pub returns-in_err-set_rows-clause-calls : goal.returns-in_err-set_rows-clause-calls
returns-in_err-set_rows-clause-calls g c = λ none. omega (arith, c.in_ok-write_cells.ensures.costs.calls_most, c.in_err-set_rows.ensures.calls none)

pub returns-in_err-write_cells-clause-asked : goal.returns-in_err-write_cells-clause-asked
returns-in_err-write_cells-clause-asked g c = omega (arith, cells_are_copies c.args.view.now c.requires.known c.args.start (length c.args.from.now), c.in_err-write_cells.ensures.costs.asked)

pub returns-in_err-write_cells-clause-sectors : goal.returns-in_err-write_cells-clause-sectors
returns-in_err-write_cells-clause-sectors g c = omega (arith, cells_are_copies c.args.view.now c.requires.known c.args.start (length c.args.from.now), c.in_err-write_cells.ensures.costs.written)

pub returns-in_err-write_cells-clause-any_moment : goal.returns-in_err-write_cells-clause-any_moment
returns-in_err-write_cells-clause-any_moment g c = (cells_written c.args.view.now c.args.start c.args.from.now g.B.Bay.tells c.in_err-write_cells.ensures.writes).any_moment

pub returns-in_err-set_rows-clause-reads : goal.returns-in_err-set_rows-clause-reads
returns-in_err-set_rows-clause-reads g c = c.in_err-set_rows.ensures.reads ∙ c.in_ok-write_cells.ensures.reads

-- all was written
pub returns-clause-any_moment : goal.returns-clause-any_moment
returns-clause-any_moment g c = (both_written c.args.view.now c.args.start c.args.from.now g.B.Bay.tells c.in_ok-write_cells.ensures.writes c.in_ok-set_rows.ensures.writes).any_moment

pub returns-clause-held : goal.returns-clause-held
returns-clause-held g c = λ tells. held_by (MayGive c.args.view.now c.args.start c.args.from.now) g.B.Bay.tells (both_written c.args.view.now c.args.start c.args.from.now g.B.Bay.tells c.in_ok-write_cells.ensures.writes c.in_ok-set_rows.ensures.writes) tells

pub returns-clause-left : goal.returns-clause-left
returns-clause-left g c = left_by (MayGive c.args.view.now c.args.start c.args.from.now) g.B.Bay.tells (both_written c.args.view.now c.args.start c.args.from.now g.B.Bay.tells c.in_ok-write_cells.ensures.writes c.in_ok-set_rows.ensures.writes)

pub returns-clause-writes : goal.returns-clause-writes
returns-clause-writes g c = both_written c.args.view.now c.args.start c.args.from.now g.B.Bay.tells c.in_ok-write_cells.ensures.writes c.in_ok-set_rows.ensures.writes

pub returns-clause-goes : goal.returns-clause-goes
returns-clause-goes g c = goes_by (MayGive c.args.view.now c.args.start c.args.from.now) g.B.Bay.tells (both_written c.args.view.now c.args.start c.args.from.now g.B.Bay.tells c.in_ok-write_cells.ensures.writes c.in_ok-set_rows.ensures.writes)

pub returns-clause-written : goal.returns-clause-written
returns-clause-written g c = λ tells.
    let v = c.args.view.now in
    let old = g.B.Bay.disks c.args.bay.now in
    let a = g.B.Bay.disks c.write_cells.new.bay in
    let first = cells_written v c.args.start c.args.from.now g.B.Bay.tells c.in_ok-write_cells.ensures.writes in
    let next = c.in_ok-set_rows.ensures.writes in
    let w = writes_then (MayGive v c.args.start c.args.from.now) g.B.Bay.tells first next in
    let set : AllSet v c.args.start c.args.from.now a.held = λ element position k one below cell. (c.in_ok-write_cells.ensures.set tells element position k one (omega arith) below cell).0 in
    let filled = filled_by v c.requires.known c.args.start c.args.from.now g.B.Bay.tells first tells set in
    let all = filled_then v c.requires.known c.requires.apart c.args.start c.args.from.now g.B.Bay.tells old.held tells filled next in
    written_end v c.requires.known c.args.start c.args.from.now g.B.Bay.tells w (g.B.Bay.disks c.set_rows.new.bay) refl (AreTheirValues v old.held c.args.kept.now) tells all.cells
    (λ values. c.in_ok-set_rows.ensures.summed tells old.held filled values)

pub returns-clause-noted : goal.returns-clause-noted
returns-clause-noted g c = λ tells slot written.
    let v = c.args.view.now in
    written_noted v c.requires.known c.args.start c.args.from.now (g.B.Bay.disks c.set_rows.new.bay).held c.set_rows.new.touched
    (λ element position. set_stays v c.requires.known c.args.start c.args.from.now (MayGive v c.args.start c.args.from.now) (may_cell v c.requires.known c.requires.apart c.args.start c.args.from.now) g.B.Bay.tells element position 0 (length c.args.from.now) tells c.in_ok-set_rows.ensures.writes (c.in_ok-write_cells.ensures.set tells element position))
    c.in_ok-set_rows.ensures.noted slot written

pub returns-clause-asked : goal.returns-clause-asked
returns-clause-asked g c = omega (arith, cells_are_copies c.args.view.now c.requires.known c.args.start (length c.args.from.now), c.in_ok-write_cells.ensures.costs.asked, c.in_ok-set_rows.ensures.asked)

pub returns-clause-sectors : goal.returns-clause-sectors
returns-clause-sectors g c = omega (arith, cells_are_copies c.args.view.now c.requires.known c.args.start (length c.args.from.now), c.in_ok-write_cells.ensures.costs.written, c.in_ok-set_rows.ensures.written)

pub returns-clause-calls : goal.returns-clause-calls
returns-clause-calls g c = λ none. omega (arith, c.in_ok-write_cells.ensures.costs.calls_most, c.in_ok-set_rows.ensures.calls none)

pub returns-clause-unfailed : goal.returns-clause-unfailed
returns-clause-unfailed g c = c.in_ok-set_rows.ensures.unfailed ∙ c.in_ok-write_cells.ensures.unfailed

pub returns-clause-reads : goal.returns-clause-reads
returns-clause-reads g c = c.in_ok-set_rows.ensures.reads ∙ c.in_ok-write_cells.ensures.reads
