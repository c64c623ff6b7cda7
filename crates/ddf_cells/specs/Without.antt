-- What cells that hold no block of the array are read as (profile).
use Rattle.std.specs.Prelude.{◌≡◌, ℕ, ◌+◌, ◌<◌, Bool, ◌&&◌, List, [], ◌∷◌, map, is_some, option_to_list, slice_index_or, if◌then◌else◌}
use Rattle.ddf_parity.specs.Xor.{zeros}
use Rattle.ddf_bay.specs.Sectors.{Image}
use Rattle.ddf_array.specs.declared.part.Part.{Part}
use Rattle.ddf_array.specs.Places.{site_at}
use Rattle.ddf_array.specs.Sources.{Source, copy}
use Rattle.ddf_array.specs.Rows.{sources_without_block}
use Rattle.ddf_read.specs.Reading.{IsGivenBy, NoneLeft}

-- Where the value of a cell that holds no block can be read from: as it is defined; but in an array that is marked as not
-- consistent an available cell has no other source than itself.
abbrev pub own_sources : (marked : Bool) → Part → (position sector : ℕ) → List Source
own_sources marked part position sector =
    if marked && is_some (site_at part.places position sector) then map copy (option_to_list (site_at part.places position sector))
    else sources_without_block part position sector

-- the bytes of the first source that was read, behind others with a slot of which a read failed; zeros where there is none
abbrev pub IsGivenWithout : (failed : ℕ → Type 0) → Image → List Source → List ℕ → Type 0
IsGivenWithout failed image [] bytes = bytes ≡ zeros
IsGivenWithout failed image (source ∷ sources) bytes = IsGivenBy failed image (source ∷ sources) bytes

-- so of neighbouring cells
abbrev pub AreGivenWithout : (failed : ℕ → Type 0) → Image → (marked : Bool) → Part → (position sector : ℕ) → List (List ℕ) → (count : ℕ) → Type 0
AreGivenWithout failed image marked part position sector sectors count =
    (k : ℕ) → k < count → IsGivenWithout failed image (own_sources marked part position (sector + k)) (slice_index_or sectors k [])

-- no source is left at a slot for one of them
pub record NoneLeftWithout (failed : ℕ → Type 0) (marked : Bool) (part : Part) (position sector count slot : ℕ) : Type 0 where
  pub cell : ℕ
  pub is_in : cell < count
  pub none_left : NoneLeft failed (own_sources marked part position (sector + cell)) slot
