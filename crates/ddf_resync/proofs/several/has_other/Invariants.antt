use Rattle.std.proofs.Common.{◌≡◌, ℕ, ◌<◌, Some, length, slice_get}
use Rattle.ddf_array.specs.declared.part.Part.{Part}
use Rattle.ddf_resync.specs.Copying.{AreThisOn}
use Rattle.ddf_resync.proofs.several.has_other.Given as goal

abbrev pub invariant-loop-element : goal.invariant-loop-element
invariant-loop-element l = (element : ℕ) (part : Part) → element < l.element → slice_get l.view.parts element ≡ Some part → AreThisOn l.view element (length part.places) l.block l.first
