use Rattle.std.proofs.Common.{◌≡◌, ◌+◌, ◌-◌, ◌≤◌, length}
use Rattle.ddf_bay.specs.Moments.{Costs}
use Rattle.ddf_cells.specs.CellsOn.{GivesCells, cells_on, how_many, stretches_on}
use Rattle.ddf_cells.specs.Touching.{Writes, AreSet}
use Rattle.ddf_cells.proofs.cell_writes.write_position.Given as goal

abbrev pub invariant-loop-at : goal.invariant-loop-at
invariant-loop-at g l =
    let B = g.B.Bay in
    let old = B.disks l.fn.bay in
    let now = B.disks l.bay in
    record {
      inside : l.at ≤ length l.from;
      set : B.tells → AreSet l.view l.element l.position l.start 0 l.at l.from now.held l.touched;
      writes : Writes (GivesCells l.view l.start l.from) B.tells old now l.fn.touched l.touched;
      reads : now.failed_reads ≡ old.failed_reads;
      unfailed : now.failed_writes ≡ old.failed_writes;
      cells : how_many (cells_on l.view l.element l.position (l.start + l.at) (length l.from - l.at)) ≤ how_many (cells_on l.view l.element l.position l.start (length l.from));
      stretches : stretches_on (cells_on l.view l.element l.position (l.start + l.at) (length l.from - l.at)) ≤ stretches_on (cells_on l.view l.element l.position l.start (length l.from));
      costs : Costs old now
          (how_many (cells_on l.view l.element l.position l.start (length l.from)) - how_many (cells_on l.view l.element l.position (l.start + l.at) (length l.from - l.at)))
          (stretches_on (cells_on l.view l.element l.position l.start (length l.from)) - stretches_on (cells_on l.view l.element l.position (l.start + l.at) (length l.from - l.at)));
    }

abbrev pub decreases-loop-at : goal.decreases-loop-at
decreases-loop-at g l = length l.from - l.at
