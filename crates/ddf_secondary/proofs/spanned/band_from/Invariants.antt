use Rattle.std.proofs.Common.{◌≡◌, ◌⊎◌, ℕ, ◌<◌, ◌≤◌, ◌^◌, ◌-◌, Some, slice_get, length, take}
use Rattle.ddf_secondary.specs.declared.element.ElementSize.{ElementSize}
use Rattle.ddf_secondary.specs.Spots.{longer_from}
use Rattle.ddf_secondary.proofs.spanned.band_from.Given as goal

abbrev pub invariant-loop-size : goal.invariant-loop-size
invariant-loop-size l = record {
  elements : l.elements ≡ length (longer_from 0 (take l.size-index l.sizes) l.row);
  few : l.elements ≤ l.size-index;
  end : l.row < 2 ^ 64 - 1 → l.row < l.end;
  apart : (k : ℕ) (size : ElementSize) → k < l.size-index → slice_get l.sizes k ≡ Some size → (size.rows ≤ l.row) ⊎ (l.end ≤ size.rows);
}
