use Rattle.std.proofs.Common.{◌≡◌, ◌+◌, ◌-◌, ◌%◌, ◌<◌, ◌≤◌, []}
use Rattle.ddf_write.specs.Gathering.{Gathers, Grows}
use Rattle.ddf_write.specs.Keeping.{Keeping}
use Rattle.ddf_write.specs.Looking.{ArePiecesKept}
use Rattle.ddf_write.proofs.beside.keep_pieces.Given as goal

abbrev pub invariant-loop-at : goal.invariant-loop-at
invariant-loop-at g l =
    let B = g.B.Bay in
    record {
      inside : l.at ≤ l.count;
      starts : 0 < l.at → l.at < l.count → (l.ahead + l.at) % l.each ≡ 0;
      pieces : (kept : Keeping) → Grows l.kept kept → ArePiecesKept l.view l.start l.count l.each l.ahead kept l.at → ArePiecesKept l.view l.start l.count l.each l.ahead kept 0;
      gathers : Gathers B.tells (B.disks l.fn.bay) (B.disks l.bay) l.view l.start l.count [] l.kept;
    }

abbrev pub decreases-loop-at : goal.decreases-loop-at
decreases-loop-at g l = l.count - l.at
