-- The extents of arrays: the sectors of a disk that each position has.
use Rattle.std.specs.Prelude.{◌≡◌, ℕ, List, [], Option, Some, None, map, filter, nat_eq}
use Rattle.std.specs.List.{flat_map}
use Rattle.std.specs.List.Sorted.{IsNonDecreasingBy}
use Rattle.ddf_config.specs.declared.element.Position.{Position}
use Rattle.ddf_config.specs.declared.array.Array.{Array}
use Rattle.ddf_config.specs.declared.extent.Extent.{Extent}
use Rattle.ddf_config.specs.ElementValue.{ElementValue}

abbrev pub extent : ℕ → Position → Extent
extent blocks position = record { reference = position.reference; start = position.start; blocks = blocks }

abbrev pub part_extents : Option ElementValue → List Extent
part_extents None = []
part_extents (Some element) = map (extent element.blocks) element.positions

-- those of an array, by element and position
abbrev pub array_extents : Array → List Extent
array_extents array = flat_map part_extents array.elements

-- those of all arrays, in table order
abbrev pub extents : List (List ℕ × Array) → List Extent
extents arrays = flat_map (λ entry. array_extents entry.1) arrays

-- those on one disk
abbrev pub extents_on : ℕ → List Extent → List Extent
extents_on reference all = filter (λ (one : Extent). nat_eq one.reference reference) all

-- as pairs (first sector, number of sectors)
abbrev pub ranges : List Extent → List (ℕ × ℕ)
ranges all = map (λ (one : Extent). (one.start, one.blocks)) all

-- those of one disk stand behind those of a disk of a lower reference
abbrev pub RiseByDisk : List Extent → Type 0
RiseByDisk all = IsNonDecreasingBy (λ (one : Extent). one.reference) all

-- the same extents by their disks; those on one disk keep their order
pub record AreByDisk (all sorted : List Extent) : Type 0 where
  pub rising : RiseByDisk sorted
  pub same : (reference : ℕ) → extents_on reference sorted ≡ extents_on reference all
