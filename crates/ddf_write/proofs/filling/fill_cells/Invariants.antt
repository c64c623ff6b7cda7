use Rattle.std.proofs.Common.{ℕ, ◌-◌, ◌≤◌, List, length}
use Rattle.ddf_cells.specs.CellSources.{AreCells}
use Rattle.ddf_write.specs.Keeping.{AreTheirValues}
use Rattle.ddf_write.specs.RowWrites.{IsFilled}
use Rattle.ddf_write.proofs.filling.fill_cells.Given as goal

abbrev pub invariant-loop-at : goal.invariant-loop-at
invariant-loop-at l = record {
  inside : l.at ≤ length l.fn.out;
  values : (entry image : ℕ → ℕ → List ℕ) → IsFilled l.view l.start l.from entry image → AreTheirValues l.view entry l.kept
      → AreCells l.view image l.element l.part l.sector l.position l.out l.at;
}

abbrev pub decreases-loop-at : goal.decreases-loop-at
decreases-loop-at l = length l.out - l.at
