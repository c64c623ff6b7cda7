use Rattle.std.proofs.Common.{◌-◌, ◌≤◌}
use Rattle.ddf_write.specs.Gathering.{AreKnownAlong, Gathers}
use Rattle.ddf_write.proofs.looking.keep_cells.Given as goal

abbrev pub invariant-loop-at : goal.invariant-loop-at
invariant-loop-at g l =
    let B = g.B.Bay in
    record {
      inside : l.at ≤ l.count;
      known : AreKnownAlong l.view l.piece.first l.piece.blocks l.kept l.element l.position l.sector l.at;
      gathers : Gathers B.tells (B.disks l.fn.bay) (B.disks l.bay) l.view l.piece.start l.piece.count l.fn.kept l.kept;
    }

abbrev pub decreases-loop-at : goal.decreases-loop-at
decreases-loop-at g l = l.count - l.at
