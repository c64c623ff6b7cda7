use Rattle.std.proofs.Common.{◌≡◌, ℕ, ◌+◌, ◌<◌, List, [], map, length}
use Rattle.std.specs.Prelude.{slice_index_or}
use Rattle.ddf_parity.specs.Xor.{xor_all}
use Rattle.ddf_array.specs.Rows.{cell_value}
use Rattle.ddf_cells.specs.RowSums.{others_among}
use Rattle.ddf_write.specs.Keeping.{AreTheirValues}
use Rattle.ddf_write.specs.RowWrites.{IsFilled}
use Rattle.ddf_write.proofs.row.sum_rows.Given as goal

abbrev pub invariant-loop-other : goal.invariant-loop-other
invariant-loop-other l = record {
  sums : (entry image : ℕ → ℕ → List ℕ) → IsFilled l.view l.start l.from entry image → AreTheirValues l.view entry l.kept → (k : ℕ) → k < length l.fn.out
      → slice_index_or l.out k [] ≡ xor_all (map (cell_value l.view image l.element l.part (l.sector + k)) (others_among l.parity l.other));
}
