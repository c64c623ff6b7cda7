use Rattle.std.proofs.Common.{◌-◌, ◌≤◌}
use Rattle.ddf_write.specs.Gathering.{Gathers, RowIsKnown}
use Rattle.ddf_write.specs.RowWrites.{RowsIn}
use Rattle.ddf_write.proofs.look.keep_rows_in.Given as goal

abbrev pub invariant-loop-k : goal.invariant-loop-k
invariant-loop-k g l =
    let B = g.B.Bay in
    record {
      within : l.k ≤ l.piece.blocks;
      known : RowsIn l.view l.piece.first l.k l.element (RowIsKnown l.view l.piece.first l.piece.blocks l.kept);
      gathers : Gathers B.tells (B.disks l.fn.bay) (B.disks l.bay) l.view l.piece.start l.piece.count l.fn.kept l.kept;
    }

abbrev pub decreases-loop-k : goal.decreases-loop-k
decreases-loop-k g l = l.piece.blocks - l.k
