use Rattle.std.proofs.Common.{◌≡◌, ◌-◌, ◌*◌, take}
use Rattle.ddf_write.specs.Looking.{ArePiecesKept, piece_of}
use Rattle.ddf_pieces.proofs.PieceWrites.{HaveBeenWritten}
use Rattle.ddf_pieces.proofs.writing.write_each.Given as goal

abbrev pub invariant-loop-at : goal.invariant-loop-at
invariant-loop-at g l =
    let old = g.B.Bay.disks l.fn.bay in
    let now = g.B.Bay.disks l.bay in
    record {
      so_far : HaveBeenWritten g.B.Bay.tells old now l.view l.start l.count l.beside.each l.beside.ahead l.beside.kept l.fn.touched l.touched g.S.Source.tells (g.S.Source.input l.fn.source) (g.S.Source.input l.source)
          (take (512 * piece_of l.beside.each l.beside.ahead 0 l.count) l.fn.work) l.at;
      pieces : ArePiecesKept l.view l.start l.count l.beside.each l.beside.ahead l.beside.kept l.at;
      reads : now.failed_reads ≡ old.failed_reads;
      room : l.at ≡ 0 → l.work ≡ l.fn.work;
    }

abbrev pub decreases-loop-at : goal.decreases-loop-at
decreases-loop-at g l = l.count - l.at
