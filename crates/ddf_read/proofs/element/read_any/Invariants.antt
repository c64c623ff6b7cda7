use Rattle.std.specs.List.{flat_map, range_with_len}
use Rattle.ddf_array.proofs.ElementCells.{copies_on}
use Rattle.ddf_read.specs.Reading.{OnlyReads, Failed, NotRead}
use Rattle.ddf_read.proofs.element.read_any.Given as goal

abbrev pub invariant-loop-position : goal.invariant-loop-position
invariant-loop-position g l =
    let disks = g.B.Bay.disks in
    record {
      reads : OnlyReads (disks l.fn.bay) (disks l.bay);
      not_read : NotRead (Failed (disks l.fn.bay) (disks l.bay)) (flat_map (copies_on l.part.places l.sector) (range_with_len 0 l.position)) l.failed;
    }
