use Rattle.ddf_write.specs.Gathering.{Gathers, RowIsKnown}
use Rattle.ddf_write.specs.RowWrites.{RowsOf}
use Rattle.ddf_write.proofs.look.keep_piece.Given as goal

abbrev pub invariant-loop-element : goal.invariant-loop-element
invariant-loop-element g l =
    let B = g.B.Bay in
    record {
      known : RowsOf l.view l.piece.first l.piece.blocks l.element (RowIsKnown l.view l.piece.first l.piece.blocks l.kept);
      gathers : Gathers B.tells (B.disks l.fn.bay) (B.disks l.bay) l.view l.piece.start l.piece.count l.fn.kept l.kept;
    }
