-- A slot that is none of an array's.
use Rattle.std.specs.Prelude.{◌≡◌, ℕ, Some, slice_get}
use Rattle.ddf_array.specs.declared.part.Part.{Part}
use Rattle.ddf_array.specs.declared.place.Place.{Place}
use Rattle.ddf_array.specs.Volume.{Volume}

-- no place of the array lies on it
abbrev pub IsBeside : Volume → (slot : ℕ) → Type 0
IsBeside volume slot =
    (element position : ℕ) (part : Part) (place : Place) → slice_get volume.parts element ≡ Some part → slice_get part.places position ≡ Some place → place.slot ≡ Some slot → ⊥
