use Rattle.std.proofs.Common.{ℕ, List}
use Rattle.std.specs.Prelude.{false}
use Rattle.ddf_bay.specs.Moments.{IsSettled}
use Rattle.ddf_stage.specs.Gate.{gate_bytes}
use Rattle.ddf_stage.specs.Staging.{Adds, AreAside, ClosedGates, IsCell, IsThere, Mixes}
use Rattle.ddf_stage.proofs.Between.{cell_slot, cells_aside, first_done, then_sure, then_written}
use Rattle.ddf_stage.proofs.Giving.{adds_keeps, there_stays}
use Rattle.ddf_stage.proofs.staging.replay.Goals as goal

pub sync_cells-requires : goal.sync_cells-requires
sync_cells-requires g c = rw c.write_cells.ensures.spends.same_sizes c.requires.cells_on

pub write_each-requires-clause-on : goal.write_each-requires-clause-on
write_each-requires-clause-on g c = rw (c.sync_cells.ensures.spends.same_sizes, c.write_cells.ensures.spends.same_sizes) c.requires.on

pub sync_each-requires : goal.sync_each-requires
sync_each-requires g c = rw (c.write_each.ensures.spends.same_sizes, c.sync_cells.ensures.spends.same_sizes, c.write_cells.ensures.spends.same_sizes) c.requires.on

pub returns-in_err-write_each-clause-any_moment : goal.returns-in_err-write_each-clause-any_moment
returns-in_err-write_each-clause-any_moment g c = λ tells.
    let first = IsCell c.args.cells.now c.args.staged.now in
    let then = ClosedGates c.args.desks.now c.args.staged.now in
    let a = g.B.Bay.disks c.args.bay.now in
    let b = g.B.Bay.disks c.write_cells.new.bay in
    let m = g.B.Bay.disks c.sync_cells.new.bay in
    let d = g.B.Bay.disks c.write_each.new.bay in
    then_written first then a m d
    (first_done first then a b m c.write_cells.ensures.any_moment c.write_cells.ensures.left c.sync_cells.ensures.any_moment)
    (cells_aside c.args.desks.now c.args.cells.now c.requires.off c.args.staged.now (gate_bytes false c.args.staged.now.gate))
    (λ s l bytes on. c.in_ok-sync_cells.ensures.settled s (cell_slot c.args.cells.now c.args.staged.now s l bytes on))
    (rw c.sync_cells.ensures.held (c.in_ok-write_cells.ensures.there tells))
    (adds_keeps first a.may_hold b.may_hold m.may_hold c.write_cells.ensures.left c.sync_cells.ensures.left)
    (rw c.gate_sector-gate.ensures.exact at c.write_each.ensures.any_moment)

pub returns-in_err-sync_each-clause-any_moment : goal.returns-in_err-sync_each-clause-any_moment
returns-in_err-sync_each-clause-any_moment g c = λ tells.
    let first = IsCell c.args.cells.now c.args.staged.now in
    let then = ClosedGates c.args.desks.now c.args.staged.now in
    let a = g.B.Bay.disks c.args.bay.now in
    let b = g.B.Bay.disks c.write_cells.new.bay in
    let m = g.B.Bay.disks c.sync_cells.new.bay in
    let d = g.B.Bay.disks c.write_each.new.bay in
    let e = g.B.Bay.disks c.sync_each.new.bay in
    let aside : AreAside first then = cells_aside c.args.desks.now c.args.cells.now c.requires.off c.args.staged.now (gate_bytes false c.args.staged.now.gate) in
    let settled : (s l : ℕ) (bytes : List ℕ) → first s l bytes → IsSettled m.may_hold m.held s =
    λ s l bytes on. c.in_ok-sync_cells.ensures.settled s (cell_slot c.args.cells.now c.args.staged.now s l bytes on) in
    let there : IsThere first m.held = rw c.sync_cells.ensures.held (c.in_ok-write_cells.ensures.there tells) in
    let adds : Adds first a.may_hold m.may_hold = adds_keeps first a.may_hold b.may_hold m.may_hold c.write_cells.ensures.left c.sync_cells.ensures.left in
    then_sure first then a m d e
    (then_written first then a m d
    (first_done first then a b m c.write_cells.ensures.any_moment c.write_cells.ensures.left c.sync_cells.ensures.any_moment)
    aside settled there adds (rw c.gate_sector-gate.ensures.exact at c.write_each.ensures.any_moment))
    aside settled there adds (rw c.gate_sector-gate.ensures.exact at c.write_each.ensures.left) c.sync_each.ensures.any_moment

pub returns-clause-any_moment : goal.returns-clause-any_moment
returns-clause-any_moment g c = λ tells.
    let first = IsCell c.args.cells.now c.args.staged.now in
    let then = ClosedGates c.args.desks.now c.args.staged.now in
    let a = g.B.Bay.disks c.args.bay.now in
    let b = g.B.Bay.disks c.write_cells.new.bay in
    let m = g.B.Bay.disks c.sync_cells.new.bay in
    let d = g.B.Bay.disks c.write_each.new.bay in
    let e = g.B.Bay.disks c.sync_each.new.bay in
    let aside : AreAside first then = cells_aside c.args.desks.now c.args.cells.now c.requires.off c.args.staged.now (gate_bytes false c.args.staged.now.gate) in
    let settled : (s l : ℕ) (bytes : List ℕ) → first s l bytes → IsSettled m.may_hold m.held s =
    λ s l bytes on. c.in_ok-sync_cells.ensures.settled s (cell_slot c.args.cells.now c.args.staged.now s l bytes on) in
    let there : IsThere first m.held = rw c.sync_cells.ensures.held (c.in_ok-write_cells.ensures.there tells) in
    let adds : Adds first a.may_hold m.may_hold = adds_keeps first a.may_hold b.may_hold m.may_hold c.write_cells.ensures.left c.sync_cells.ensures.left in
    then_sure first then a m d e
    (then_written first then a m d
    (first_done first then a b m c.write_cells.ensures.any_moment c.write_cells.ensures.left c.sync_cells.ensures.any_moment)
    aside settled there adds (rw c.gate_sector-gate.ensures.exact at c.write_each.ensures.any_moment))
    aside settled there adds (rw c.gate_sector-gate.ensures.exact at c.write_each.ensures.left) c.sync_each.ensures.any_moment

pub returns-clause-cells : goal.returns-clause-cells
returns-clause-cells g c = λ tells.
    let first = IsCell c.args.cells.now c.args.staged.now in
    let then = ClosedGates c.args.desks.now c.args.staged.now in
    let m = g.B.Bay.disks c.sync_cells.new.bay in
    let d = g.B.Bay.disks c.write_each.new.bay in
    let there : IsThere first m.held = rw c.sync_cells.ensures.held (c.in_ok-write_cells.ensures.there tells) in
    let mixes : Mixes then m.held d.held = rw c.gate_sector-gate.ensures.exact at (c.write_each.ensures.held tells) in
    let stays : IsThere first d.held =
    there_stays first then m.held d.held (cells_aside c.args.desks.now c.args.cells.now c.requires.off c.args.staged.now (gate_bytes false c.args.staged.now.gate)) there mixes in
    rw c.sync_each.ensures.held stays

pub returns-clause-gates : goal.returns-clause-gates
returns-clause-gates g c = λ tells.
    let then = ClosedGates c.args.desks.now c.args.staged.now in
    let d = g.B.Bay.disks c.write_each.new.bay in
    let closed : IsThere then d.held = rw c.gate_sector-gate.ensures.exact at (c.in_ok-write_each.ensures.there tells) in
    rw c.sync_each.ensures.held closed
