use Rattle.std.proofs.Common.{◌≡◌, ℕ, ◌<◌, length}
use Rattle.std.specs.List.{range_with_len, sum_by}
use Rattle.ddf_bay.specs.Moments.{Costs}
use Rattle.ddf_cells.specs.CellsOn.{GivesCells, cells_on, how_many, stretches_on}
use Rattle.ddf_cells.specs.Touching.{Writes, AreSet}
use Rattle.ddf_cells.proofs.cell_writes.write_element.Given as goal

abbrev pub invariant-loop-position : goal.invariant-loop-position
invariant-loop-position g l =
    let B = g.B.Bay in
    let old = B.disks l.fn.bay in
    let now = B.disks l.bay in
    record {
      set : B.tells → (position : ℕ) → position < l.position → AreSet l.view l.element position l.start 0 (length l.from) l.from now.held l.touched;
      writes : Writes (GivesCells l.view l.start l.from) B.tells old now l.fn.touched l.touched;
      reads : now.failed_reads ≡ old.failed_reads;
      unfailed : now.failed_writes ≡ old.failed_writes;
      costs : Costs old now
          (sum_by (λ position. how_many (cells_on l.view l.element position l.start (length l.from))) (range_with_len 0 l.position))
          (sum_by (λ position. stretches_on (cells_on l.view l.element position l.start (length l.from))) (range_with_len 0 l.position));
    }
