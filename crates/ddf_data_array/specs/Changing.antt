-- Changes of a group that give an array more to read from: its mark is cleared, or a position is in sync again. And one that counts rows as rebuilt.
use Rattle.std.specs.Prelude.{◌≡◌, ◌⊎◌, ℕ, ◌<◌, Bool, true, false, List, [], ◌∷◌, is_some, Some, map, slice_get, zero, suc}
use Rattle.ddf_bay.specs.Sectors.{Image}
use Rattle.ddf_array.specs.declared.place.Place.{Place}
use Rattle.ddf_array.specs.declared.part.Part.{Part}
use Rattle.ddf_array.specs.Volume.{Volume, capacity}
use Rattle.ddf_array.specs.Sources.{first_copy}
use Rattle.ddf_array.specs.Values.{value}
use Rattle.ddf_array.specs.Within.{is_redundant}
use Rattle.ddf_array.specs.Redundant.{IsRedundant}
use Rattle.ddf_array.specs.Sound.{HasParity}
use Rattle.ddf_rebuild.specs.Rebuilding.{HasRebuilt}
use Rattle.ddf_rebuild.specs.Target.{row_count}
use Rattle.ddf_data_array.specs.Allowed.{Allowed, May}

-- the array with or without its mark
abbrev pub with_mark : Bool → Volume → Volume
with_mark marked volume = record volume { marked = marked }

-- Blocks may be written, and cells be made equal: the array is marked, or keeps each block in one place alone.
abbrev pub IsWritable : Volume → Type 0
IsWritable volume = (volume.marked ≡ true) ⊎ (is_redundant volume ≡ false)

-- each block has an available cell
abbrev pub HaveCells : Volume → Type 0
HaveCells volume = (block : ℕ) → block < capacity volume → is_some (first_copy volume block) ≡ true

-- the value of each block is one that it may have
abbrev pub ValuesMay : Volume → Image → Allowed → Type 0
ValuesMay volume image allowed = (block : ℕ) (bytes : List ℕ) → value volume image block ≡ Some bytes → May (allowed block) bytes

-- what an array has to be for its mark to be cleared, beside the rows that count as rebuilt
pub record IsConsistentNow (is_absent : ℕ → ℕ → Bool) (volume : Volume) (image : Image) : Type 0 where
  pub redundant : IsRedundant volume image
  pub parity : HasParity is_absent volume image

-- every row of a position holds what it should by the image itself
abbrev pub IsRebuilt : Volume → (element position : ℕ) → Image → Type 0
IsRebuilt volume element position image =
    (part : Part) → slice_get volume.parts element ≡ Some part → HasRebuilt volume element position 0 (row_count part.shape) image image

abbrev pub place_in_sync : Place → Place
place_in_sync place = record place { synced = true; row = 0 }

-- one item of a list changed
abbrev pub changed_item : {X : Type 0} → (X → X) → ℕ → List X → List X
changed_item f k [] = []
changed_item f zero (x ∷ xs) = f x ∷ xs
changed_item f (suc k) (x ∷ xs) = x ∷ changed_item f k xs

abbrev pub part_in_sync : ℕ → Part → Part
part_in_sync position part = record part { places = changed_item place_in_sync position part.places }

-- the array with a position in sync
abbrev pub in_sync : (element position : ℕ) → Volume → Volume
in_sync element position volume = record volume { parts = changed_item (part_in_sync position) element volume.parts }

abbrev pub place_noted : ℕ → Place → Place
place_noted row place = record place { row = row }

abbrev pub part_noted : (position row : ℕ) → Part → Part
part_noted position row part = record part { places = changed_item (place_noted row) position (map (place_noted 0) part.places) }

-- the array with so many rows of a position that count as rebuilt, and none of the element's other positions
abbrev pub noted : (element position row : ℕ) → Volume → Volume
noted element position row volume = record volume { parts = changed_item (part_noted position row) element volume.parts }
