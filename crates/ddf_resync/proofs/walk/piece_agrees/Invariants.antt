use Rattle.std.proofs.Common.{ℕ, ◌+◌, ◌<◌}
use Rattle.ddf_read.specs.Reading.{OnlyReads}
use Rattle.ddf_resync.specs.Agreeing.{PositionAgrees}
use Rattle.ddf_resync.proofs.walk.piece_agrees.Given as goal

abbrev pub invariant-loop-position : goal.invariant-loop-position
invariant-loop-position g l =
    let B = g.B.Bay in
    record {
      reads : OnlyReads (B.disks l.fn.bay) (B.disks l.bay);
      agree : B.tells → (position k : ℕ) → position < l.position → k < l.count → PositionAgrees l.view (B.disks l.fn.bay).held l.element l.part position (l.sector + k);
    }
