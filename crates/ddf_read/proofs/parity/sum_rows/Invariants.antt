use Rattle.std.specs.List.{flat_map, range_with_len}
use Rattle.ddf_read.specs.Reading.{OnlyReads}
use Rattle.ddf_read.specs.Sums.{AreSums}
use Rattle.ddf_read.proofs.OtherCells.{sites_at}
use Rattle.ddf_read.proofs.parity.sum_rows.Given as goal

abbrev pub invariant-loop-other : goal.invariant-loop-other
invariant-loop-other g l =
    let B = g.B.Bay in
    record {
      reads : OnlyReads (B.disks l.fn.bay) (B.disks l.bay);
      sums : B.tells → AreSums (B.disks l.fn.bay).held (flat_map (sites_at l.part.places l.position l.sector) (range_with_len 0 l.other)) l.into;
    }
