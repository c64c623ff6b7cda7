use Rattle.std.proofs.Common.{◌≡◌, ℕ, ◌+◌, ◌≤◌, List, false, length}
use Rattle.std.specs.List.{range_with_len, sum_by}
use Rattle.ddf_cells.specs.Touching.{Writes}
use Rattle.ddf_write.specs.Keeping.{AreTheirValues}
use Rattle.ddf_write.specs.RowWrites.{IsFilled, IsNoted, IsSummed, RowsOf, keeps_parity_anywhere, parity_cells}
use Rattle.ddf_write.specs.Writing.{MayGive}
use Rattle.ddf_write.proofs.rows.set_rows.Given as goal

abbrev pub invariant-loop-element : goal.invariant-loop-element
invariant-loop-element g l =
    let B = g.B.Bay in
    let old = B.disks l.fn.bay in
    let now = B.disks l.bay in
    record {
      writes : Writes (MayGive l.view l.start l.from) B.tells old now l.fn.touched l.touched;
      summed : B.tells → (entry : ℕ → ℕ → List ℕ) → IsFilled l.view l.start l.from entry old.held → AreTheirValues l.view entry l.kept
          → RowsOf l.view l.start (length l.from) l.element (IsSummed l.view now.held);
      noted : RowsOf l.view l.start (length l.from) l.element (IsNoted l.touched);
      unfailed : now.failed_writes ≡ old.failed_writes;
      reads : now.failed_reads ≡ old.failed_reads;
      asked : now.sectors_asked ≤ old.sectors_asked + sum_by (parity_cells l.view.parts (length l.from)) (range_with_len 0 l.element);
      written : now.sectors_written ≤ old.sectors_written + sum_by (parity_cells l.view.parts (length l.from)) (range_with_len 0 l.element);
      calls : keeps_parity_anywhere l.view ≡ false → now.calls ≤ old.calls;
    }
