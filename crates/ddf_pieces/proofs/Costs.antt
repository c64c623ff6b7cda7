-- The costs of writes of neighbouring ranges of blocks.
use Rattle.std.proofs.Common.{◌≡◌, ◌∙◌, ℕ, ◌+◌, Bool, true, false, Option, Some, None, refl, ap, length, slice_get}
use Rattle.std.specs.Prelude.{if◌then◌else◌}
use Rattle.std.specs.List.{range_with_len, sum_by}
use Rattle.std.proofs.lemmas.List.Sums.{sum_by-append}
use Rattle.ddf_lemmas.proofs.Lists.{range-append}
use Rattle.ddf_array.specs.declared.part.Part.{Part}
use Rattle.ddf_array.specs.Levels.{keeps_parity}
use Rattle.ddf_array.specs.Sources.{copies}
use Rattle.ddf_array.specs.Volume.{Volume}
use Rattle.ddf_cells.specs.CellsOn.{copy_cells}
use Rattle.ddf_write.specs.RowWrites.{parity_cells, parity_cells_of, row_cells}
use Rattle.ddf_write.proofs.CellsCount.{sum_plus, sum_same}

pub copy_cells_joined : (v : Volume) (start a b : ℕ) → copy_cells v start (a + b) ≡ copy_cells v start a + copy_cells v (start + a) b
copy_cells_joined v start a b =
    ap (sum_by (λ block. length (copies v block))) (range-append start a b)
    ∙ sum_by-append (λ block. length (copies v block)) (range_with_len start a) (range_with_len (start + a) b)

by_parity : (a b : ℕ) (keeps : Bool) → (if keeps then a + b else 0) ≡ (if keeps then a else 0) + (if keeps then b else 0)
by_parity a b true = refl
by_parity a b false = refl

by_part : (a b : ℕ) (found : Option Part) → parity_cells_of (a + b) found ≡ parity_cells_of a found + parity_cells_of b found
by_part a b None = refl
by_part a b (Some part) = by_parity a b (keeps_parity part.shape.layout)

pub row_cells_joined : (v : Volume) (a b : ℕ) → row_cells v (a + b) ≡ row_cells v a + row_cells v b
row_cells_joined v a b =
    sum_same (parity_cells v.parts (a + b)) (λ element. parity_cells v.parts a element + parity_cells v.parts b element) (range_with_len 0 (length v.parts))
    (λ element. by_part a b (slice_get v.parts element))
    ∙ sum_plus (parity_cells v.parts a) (parity_cells v.parts b) (range_with_len 0 (length v.parts))
