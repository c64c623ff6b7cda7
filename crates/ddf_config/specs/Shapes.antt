-- What the elements of an array are by their numbers: strips, shapes, sizes, and the tiers that they make together.
use Rattle.std.specs.Prelude.{ℕ, ◌*◌, ◌^◌, ◌≤◌, Bool, true, not, ◌&&◌, ◌||◌, ◌==◌, List, Option, Some, None, length, nat_le, is_some, filter_map, option_map, option_and_then, if◌then◌else◌}
use Rattle.std.specs.List.{list_all}
use Rattle.std.specs.Result.{result_ok}
use Rattle.ddf_primary.specs.Placement.{Placement}
use Rattle.ddf_primary.specs.Levels.{shape_of}
use Rattle.ddf_primary.specs.Cells.{cells, unit_of, rows_of}
use Rattle.ddf_secondary.specs.declared.element.ElementSize.{ElementSize}
use Rattle.ddf_secondary.specs.Arrangement.{Arrangement, tiers_of}
use Rattle.ddf_secondary.specs.Spots.{spots}
use Rattle.ddf_config.specs.declared.array.Array.{Array}
use Rattle.ddf_config.specs.ElementValue.{ElementValue}
use Rattle.ddf_config.specs.Within.{is_complete}

-- the levels without strips: RAID 1, JBOD and concatenation
abbrev pub has_no_strips : ℕ → Bool
has_no_strips level = level == 0x01 || level == 0x0F || level == 0x1F

-- the sectors of a strip by its code n: 2^n. A code over 31 has a meaning only where nothing goes by strips,
-- in a single element of a level without them: it counts as one sector (profile)
abbrev pub strip_sectors : ℕ → ElementValue → Option ℕ
strip_sectors elements element =
    if nat_le element.strip 31 then Some (2 ^ element.strip)
    else (if elements == 1 && has_no_strips element.level then Some 1 else None)

-- the shape of an element of an array with so many elements
abbrev pub element_shape : ℕ → ElementValue → Option Placement
element_shape elements element =
    option_and_then
    (λ strip. result_ok (shape_of element.level element.qualifier (length element.positions) strip element.blocks))
    (strip_sectors elements element)

abbrev pub shape_size : Placement → ElementSize
shape_size shape = record { capacity = length (cells shape); unit = unit_of shape; rows = rows_of shape }

-- a size that a sum over 16 elements takes
abbrev pub IsSmall : ElementSize → Type 0
IsSmall size = (size.capacity ≤ 2 ^ 56) × (size.unit * size.rows ≤ 2 ^ 56)

-- every element that disks tell of has a shape
abbrev pub has_shape : ℕ → Option ElementValue → Bool
has_shape elements part = elim part [ None ↦ true | Some element ↦ is_some (element_shape elements element) ]

abbrev pub has_shapes : Array → Bool
has_shapes array = list_all (has_shape (length array.elements)) array.elements

-- the sizes of the elements that have a shape
abbrev pub part_size : ℕ → Option ElementValue → Option ElementSize
part_size elements part = option_map shape_size (option_and_then (element_shape elements) part)

abbrev pub sizes : Array → List ElementSize
sizes array = filter_map (part_size (length array.elements)) array.elements

-- the secondary level; that of a single element has no meaning and counts as striped
abbrev pub secondary_level : Array → ℕ
secondary_level array = if length array.elements == 1 then 0x00 else array.secondary

-- what the elements that have a shape make together
abbrev pub array_tiers : Array → Option Arrangement
array_tiers array = result_ok (tiers_of (secondary_level array) (sizes array))

-- how many blocks these hold; none where they make no array
abbrev pub array_capacity : Array → ℕ
array_capacity array = elim (array_tiers array) [ None ↦ 0 | Some tiers ↦ length (spots tiers) ]

-- the elements make an array together; where one is unknown that can't be told
abbrev pub has_tiers : Array → Bool
has_tiers array = not (is_complete array) || is_some (array_tiers array)
