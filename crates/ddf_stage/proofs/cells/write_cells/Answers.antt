use Rattle.std.proofs.Common.{◌≡◌, ◌+◌, [], ◌∷◌, Some, refl, arith}
use Rattle.std.specs.Prelude.{slice_get, slice_index_or}
use Rattle.std.proofs.lemmas.Grind.{common_steps}
use Rattle.std.proofs.lemmas.Option.{slice_get-get_or, slice_get_within}
use Rattle.ddf_bay.specs.Sectors.{put_run}
use Rattle.ddf_bay.specs.Moments.{IsAmong, Mixes}
use Rattle.ddf_bay.proofs.Runs.{put_mixes}
use Rattle.ddf_bay.proofs.Steps.{over_most, over_then, over_writes, stops_then}
use Rattle.ddf_stage.specs.declared.desk.StageCell.{StageCell}
use Rattle.ddf_stage.specs.Staging.{HasCell}
use Rattle.ddf_stage.proofs.Giving.{cell_adds, cell_among, cell_mixes, cells_all, cells_more}
use Rattle.ddf_stage.proofs.cells.write_cells.Goals as goal

pub sector_for-requires : goal.sector_for-requires
sector_for-requires g c =
    let cell : StageCell = slice_index_or c.args.cells.now c.loop-cell.cell-index (record { slot = 0; lba = 0; from = 0 }) in
    let at : slice_get c.args.cells.now c.loop-cell.cell-index ≡ Some cell = slice_get-get_or c.args.cells.now c.loop-cell.cell-index (record { slot = 0; lba = 0; from = 0 }) c.loop-cell-test.true in
    (c.requires.on c.loop-cell.cell-index cell at).2

pub write-requires-clause-slot : goal.write-requires-clause-slot
write-requires-clause-slot g c =
    let cell : StageCell = slice_index_or c.args.cells.now c.loop-cell.cell-index (record { slot = 0; lba = 0; from = 0 }) in
    let at : slice_get c.args.cells.now c.loop-cell.cell-index ≡ Some cell = slice_get-get_or c.args.cells.now c.loop-cell.cell-index (record { slot = 0; lba = 0; from = 0 }) c.loop-cell-test.true in
    rw c.loop-cell.invariant.spends.same_sizes (c.requires.on c.loop-cell.cell-index cell at).0

pub write-requires-clause-sector : goal.write-requires-clause-sector
write-requires-clause-sector g c =
    let cell : StageCell = slice_index_or c.args.cells.now c.loop-cell.cell-index (record { slot = 0; lba = 0; from = 0 }) in
    let at : slice_get c.args.cells.now c.loop-cell.cell-index ≡ Some cell = slice_get-get_or c.args.cells.now c.loop-cell.cell-index (record { slot = 0; lba = 0; from = 0 }) c.loop-cell-test.true in
    rw c.loop-cell.invariant.spends.same_sizes (c.requires.on c.loop-cell.cell-index cell at).1

pub returns-in_err-map_err-clause-held : goal.returns-in_err-map_err-clause-held
returns-in_err-map_err-clause-held g c = λ tells.
    let cell : StageCell = slice_index_or c.args.cells.now c.loop-cell.cell-index (record { slot = 0; lba = 0; from = 0 }) in
    let at : slice_get c.args.cells.now c.loop-cell.cell-index ≡ Some cell = slice_get-get_or c.args.cells.now c.loop-cell.cell-index (record { slot = 0; lba = 0; from = 0 }) c.loop-cell-test.true in
    let mixes : Mixes (g.B.Bay.disks c.loop-cell.bay).held (g.B.Bay.disks c.write.new.self).held cell.slot cell.lba (c.sector_for.result.now ∷ []) = grind (arith, common_steps, c.write.ensures.held_failed tells) in
    cell_mixes c.args.cells.now c.args.staged.now c.loop-cell.cell-index cell at (g.B.Bay.disks c.args.bay.now).held (g.B.Bay.disks c.loop-cell.bay).held (g.B.Bay.disks c.write.new.self).held (c.loop-cell.invariant.held tells) (rw c.sector_for.ensures at mixes)

pub returns-in_err-map_err-clause-left : goal.returns-in_err-map_err-clause-left
returns-in_err-map_err-clause-left g c =
    let cell : StageCell = slice_index_or c.args.cells.now c.loop-cell.cell-index (record { slot = 0; lba = 0; from = 0 }) in
    let at : slice_get c.args.cells.now c.loop-cell.cell-index ≡ Some cell = slice_get-get_or c.args.cells.now c.loop-cell.cell-index (record { slot = 0; lba = 0; from = 0 }) c.loop-cell-test.true in
    cell_adds c.args.cells.now c.args.staged.now c.loop-cell.cell-index cell at (g.B.Bay.disks c.args.bay.now).may_hold (g.B.Bay.disks c.loop-cell.bay).may_hold (g.B.Bay.disks c.write.new.self).may_hold c.loop-cell.invariant.left (rw c.sector_for.ensures at c.write.ensures.left)

pub returns-in_err-map_err-clause-any_moment : goal.returns-in_err-map_err-clause-any_moment
returns-in_err-map_err-clause-any_moment g c =
    let cell : StageCell = slice_index_or c.args.cells.now c.loop-cell.cell-index (record { slot = 0; lba = 0; from = 0 }) in
    let at : slice_get c.args.cells.now c.loop-cell.cell-index ≡ Some cell = slice_get-get_or c.args.cells.now c.loop-cell.cell-index (record { slot = 0; lba = 0; from = 0 }) c.loop-cell-test.true in
    stops_then {Q = IsAmong (g.B.Bay.disks c.loop-cell.bay).may_hold cell.slot cell.lba (c.sector_for.result.now ∷ [])} c.loop-cell.invariant.any_moment c.write.ensures.any_moment
    (λ image among. cell_among c.args.cells.now c.args.staged.now c.loop-cell.cell-index cell at (g.B.Bay.disks c.args.bay.now).may_hold (g.B.Bay.disks c.loop-cell.bay).may_hold c.loop-cell.invariant.left image (rw c.sector_for.ensures at among))

pub returns-in_err-map_err-clause-failed : goal.returns-in_err-map_err-clause-failed
returns-in_err-map_err-clause-failed g c =
    let cell : StageCell = slice_index_or c.args.cells.now c.loop-cell.cell-index (record { slot = 0; lba = 0; from = 0 }) in
    let at : slice_get c.args.cells.now c.loop-cell.cell-index ≡ Some cell = slice_get-get_or c.args.cells.now c.loop-cell.cell-index (record { slot = 0; lba = 0; from = 0 }) c.loop-cell-test.true in
    let has : HasCell c.args.cells.now cell.slot = record { number = c.loop-cell.cell-index; cell = cell; is_cell = at; on_slot = refl } in
    grind (arith, common_steps, has)

pub loop-cell-preserved : goal.loop-cell-preserved
loop-cell-preserved g c =
    let cell : StageCell = slice_index_or c.args.cells.now c.loop-cell.cell-index (record { slot = 0; lba = 0; from = 0 }) in
    let at : slice_get c.args.cells.now c.loop-cell.cell-index ≡ Some cell = slice_get-get_or c.args.cells.now c.loop-cell.cell-index (record { slot = 0; lba = 0; from = 0 }) c.loop-cell-test.true in
    record {
      there = λ tells.
          let done : (g.B.Bay.disks c.write.new.self).held ≡ put_run (g.B.Bay.disks c.loop-cell.bay).held cell.slot cell.lba (c.sector_for.result.now ∷ []) = grind (arith, common_steps, c.write.ensures.held tells) in
          cells_more c.args.cells.now c.requires.own c.args.staged.now c.loop-cell.cell-index cell at (g.B.Bay.disks c.loop-cell.bay).held (g.B.Bay.disks c.write.new.self).held (rw c.sector_for.ensures at done) (c.loop-cell.invariant.there tells);
      held = λ tells.
          let done : (g.B.Bay.disks c.write.new.self).held ≡ put_run (g.B.Bay.disks c.loop-cell.bay).held cell.slot cell.lba (c.sector_for.result.now ∷ []) = grind (arith, common_steps, c.write.ensures.held tells) in
          let mixes : Mixes (g.B.Bay.disks c.loop-cell.bay).held (g.B.Bay.disks c.write.new.self).held cell.slot cell.lba (c.sector_for.result.now ∷ []) =
          rw done (put_mixes (g.B.Bay.disks c.loop-cell.bay).held cell.slot cell.lba (c.sector_for.result.now ∷ [])) in
          cell_mixes c.args.cells.now c.args.staged.now c.loop-cell.cell-index cell at (g.B.Bay.disks c.args.bay.now).held (g.B.Bay.disks c.loop-cell.bay).held (g.B.Bay.disks c.write.new.self).held (c.loop-cell.invariant.held tells) (rw c.sector_for.ensures at mixes);
      left = cell_adds c.args.cells.now c.args.staged.now c.loop-cell.cell-index cell at (g.B.Bay.disks c.args.bay.now).may_hold (g.B.Bay.disks c.loop-cell.bay).may_hold (g.B.Bay.disks c.write.new.self).may_hold c.loop-cell.invariant.left (rw c.sector_for.ensures at c.write.ensures.left);
      any_moment = stops_then {Q = IsAmong (g.B.Bay.disks c.loop-cell.bay).may_hold cell.slot cell.lba (c.sector_for.result.now ∷ [])} c.loop-cell.invariant.any_moment c.write.ensures.any_moment
          (λ image among. cell_among c.args.cells.now c.args.staged.now c.loop-cell.cell-index cell at (g.B.Bay.disks c.args.bay.now).may_hold (g.B.Bay.disks c.loop-cell.bay).may_hold c.loop-cell.invariant.left image (rw c.sector_for.ensures at among));
      reads = grind (arith, common_steps);
      spends = over_most (c.loop-cell.cell-index + 1) (c.loop-cell.cell-index + 1) (over_then c.loop-cell.invariant.spends (over_writes c.write.ensures.spends)) (omega arith) (omega arith);
      writes = grind (arith, common_steps);
    }

pub returns-clause-there : goal.returns-clause-there
returns-clause-there g c = λ tells.
    cells_all c.args.cells.now c.args.staged.now (g.B.Bay.disks c.loop-cell.bay).held (λ k cell at. slice_get_within c.args.cells.now k cell at)
    (λ k cell below at. c.loop-cell.invariant.there tells k cell (omega (arith, slice_get_within c.args.cells.now k cell at, c.loop-cell-test.false)) at)
