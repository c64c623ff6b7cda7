-- Arrays that lack no place, or one alone.
use Rattle.std.specs.Prelude.{◌≡◌, ◌⊎◌, ℕ, true, Some, slice_get}
use Rattle.ddf_array.specs.declared.part.Part.{Part}
use Rattle.ddf_array.specs.declared.place.Place.{Place}
use Rattle.ddf_array.specs.Places.{is_available}
use Rattle.ddf_array.specs.Volume.{Volume}

-- each place of the array is in sync, and its disk is there
abbrev pub IsWhole : Volume → Type 0
IsWhole volume =
    (element position : ℕ) (part : Part) (place : Place) → slice_get volume.parts element ≡ Some part → slice_get part.places position ≡ Some place
    → is_available place ≡ true

-- so is each but one
abbrev pub IsWholeBut : (element position : ℕ) → Volume → Type 0
IsWholeBut element position volume =
    (other_element other : ℕ) (part : Part) (place : Place) → slice_get volume.parts other_element ≡ Some part → slice_get part.places other ≡ Some place
    → ((other_element ≡ element) × (other ≡ position)) ⊎ (is_available place ≡ true)
