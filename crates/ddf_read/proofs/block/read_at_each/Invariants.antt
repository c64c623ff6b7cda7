use Rattle.std.specs.List.{flat_map, range_with_len}
use Rattle.ddf_array.specs.Sources.{at_element}
use Rattle.ddf_read.specs.Kinds.{sources_in}
use Rattle.ddf_read.specs.Reading.{OnlyReads, Failed, NotRead}
use Rattle.ddf_read.proofs.block.read_at_each.Given as goal

abbrev pub invariant-loop-element : goal.invariant-loop-element
invariant-loop-element g l =
    let disks = g.B.Bay.disks in
    record {
      reads : OnlyReads (disks l.fn.bay) (disks l.bay);
      not_read : NotRead (Failed (disks l.fn.bay) (disks l.bay)) (flat_map (at_element l.view.parts (sources_in l.kind) l.block) (range_with_len 0 l.element)) l.failed;
    }
