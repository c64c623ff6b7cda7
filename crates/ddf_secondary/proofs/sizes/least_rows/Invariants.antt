use Rattle.std.proofs.Common.{◌≡◌, ℕ, ◌<◌, ◌≤◌, Some, slice_get}
use Rattle.ddf_secondary.specs.declared.element.ElementSize.{ElementSize}
use Rattle.ddf_secondary.proofs.SizeFacts.{Reached}
use Rattle.ddf_secondary.proofs.sizes.least_rows.Given as goal

abbrev pub invariant-loop-size : goal.invariant-loop-size
invariant-loop-size l = record {
  reached : Reached (λ size. size.rows) l.sizes l.least;
  least : (k : ℕ) (size : ElementSize) → k < l.size-index → slice_get l.sizes k ≡ Some size → l.least ≤ size.rows;
}
