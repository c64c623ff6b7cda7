use Rattle.std.proofs.Common.{◌≡◌, ℕ, ◌+◌, ◌-◌, ◌≤◌, List, length}
use Rattle.ddf_cells.specs.Touching.{Writes}
use Rattle.ddf_write.specs.Keeping.{AreTheirValues}
use Rattle.ddf_write.specs.RowWrites.{IsFilled, IsNoted, IsSummed, KeepsSums, RowsIn}
use Rattle.ddf_write.specs.Writing.{MayGive}
use Rattle.ddf_write.proofs.rows.set_rows_in.Given as goal

abbrev pub invariant-loop-k : goal.invariant-loop-k
invariant-loop-k g l =
    let B = g.B.Bay in
    let old = B.disks l.fn.bay in
    let now = B.disks l.bay in
    record {
      within : l.k ≤ length l.from;
      writes : Writes (MayGive l.view l.start l.from) B.tells old now l.fn.touched l.touched;
      kept : B.tells → (entry : ℕ → ℕ → List ℕ) → IsFilled l.view l.start l.from entry old.held → AreTheirValues l.view entry l.kept
          → KeepsSums l.view l.start (length l.from) old.held now.held;
      summed : B.tells → (entry : ℕ → ℕ → List ℕ) → IsFilled l.view l.start l.from entry old.held → AreTheirValues l.view entry l.kept
          → RowsIn l.view l.start l.k l.element (IsSummed l.view now.held);
      noted : RowsIn l.view l.start l.k l.element (IsNoted l.touched);
      unfailed : now.failed_writes ≡ old.failed_writes;
      reads : now.failed_reads ≡ old.failed_reads;
      asked : now.sectors_asked ≤ old.sectors_asked + l.k;
      written : now.sectors_written ≤ old.sectors_written + l.k;
    }

abbrev pub decreases-loop-k : goal.decreases-loop-k
decreases-loop-k g l = length l.from - l.k
