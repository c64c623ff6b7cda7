use Rattle.std.proofs.Common.{◌≡◌}
use Rattle.ddf_bay.specs.Moments.{SpendsOver, StopsLeave}
use Rattle.ddf_stage.specs.Staging.{Adds, IsAmong, IsCell, Mixes}
use Rattle.ddf_stage.proofs.Giving.{CellsUpTo}
use Rattle.ddf_stage.proofs.cells.write_cells.Given as goal

abbrev pub invariant-loop-cell : goal.invariant-loop-cell
invariant-loop-cell g l =
    let old = g.B.Bay.disks l.initial.bay in
    let now = g.B.Bay.disks l.bay in
    record {
      there : g.B.Bay.tells → CellsUpTo l.cells l.staged l.cell-index now.held;
      held : g.B.Bay.tells → Mixes (IsCell l.cells l.staged) old.held now.held;
      left : Adds (IsCell l.cells l.staged) old.may_hold now.may_hold;
      any_moment : StopsLeave old now (IsAmong (IsCell l.cells l.staged) old.may_hold);
      reads : now.failed_reads ≡ old.failed_reads;
      spends : SpendsOver old now l.cell-index l.cell-index;
      writes : now.failed_writes ≡ old.failed_writes;
    }
