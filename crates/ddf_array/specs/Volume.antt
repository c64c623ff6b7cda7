-- What contracts see of a view: one array, with its secondary level over its elements, and of each element the
-- places of its positions.
use Rattle.std.specs.Prelude.{◌≡◌, ℕ, ◌<◌, Bool, List, map, Some, slice_get, length}
use Rattle.ddf_primary.specs.Levels.{IsShape}
use Rattle.ddf_primary.specs.Cells.{cells}
use Rattle.ddf_secondary.specs.Arrangement.{Arrangement, IsArray}
use Rattle.ddf_secondary.specs.Spots.{spots}
use Rattle.ddf_secondary.specs.declared.element.ElementSize.{ElementSize}
use Rattle.ddf_config.specs.Shapes.{shape_size}
use Rattle.ddf_array.specs.declared.place.Place.{Place}
use Rattle.ddf_array.specs.declared.part.Part.{Part}
use Rattle.ddf_array.specs.Places.{Ends, LiesOn}

pub record Volume : Type 0 where
  -- not consistent
  pub marked : Bool
  pub tiers : Arrangement
  pub parts : List Part

abbrev pub volume : Bool → Arrangement → List Part → Volume
volume marked tiers parts = record { marked = marked; tiers = tiers; parts = parts }

-- how many blocks the array holds
abbrev pub capacity : Volume → ℕ
capacity volume = length (spots volume.tiers)

-- what every element of a view keeps
pub record IsPart (part : Part) : Type 0 where
  pub shape_is : IsShape part.shape
  pub has_places : length part.places ≡ part.shape.members
  pub ends : (position : ℕ) (place : Place) → slice_get part.places position ≡ Some place → Ends place part.shape.blocks

abbrev pub size_of : Part → ElementSize
size_of part = shape_size part.shape

-- what every view keeps
pub record IsVolume (volume : Volume) : Type 0 where
  pub array_is : IsArray volume.tiers.level volume.tiers.sizes
  pub has_sizes : volume.tiers.sizes ≡ map size_of volume.parts
  pub are_parts : (element : ℕ) (part : Part) → slice_get volume.parts element ≡ Some part → IsPart part

-- every extent of an element lies on its slot, of these sizes
abbrev pub PartFits : List ℕ → Part → Type 0
PartFits sizes part = (position : ℕ) (place : Place) → slice_get part.places position ≡ Some place → LiesOn sizes part.shape.blocks place

abbrev pub Fits : List ℕ → Volume → Type 0
Fits sizes volume = (element : ℕ) (part : Part) → slice_get volume.parts element ≡ Some part → PartFits sizes part

-- an element, if it is there, has a block of this number
abbrev pub HasBlock : Volume → (element block : ℕ) → Type 0
HasBlock volume element block = (part : Part) → slice_get volume.parts element ≡ Some part → block < length (cells part.shape)
