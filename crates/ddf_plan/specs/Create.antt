-- A new array: where its extents lie, and its state.
use Rattle.std.specs.Prelude.{ℕ, Bool, false, List, Option, Some, None, map, nat_eq, option_map, unwrap_or, if◌then◌else◌, length}
use Rattle.std.specs.Map.{lookup}
use Rattle.ddf_config.specs.declared.member.Member.{Member}
use Rattle.ddf_config.specs.declared.element.Position.{Position}
use Rattle.ddf_config.specs.declared.array.Array.{Array}
use Rattle.ddf_config.specs.declared.extent.Extent.{Extent}
use Rattle.ddf_config.specs.ElementValue.{ElementValue, with_positions}
use Rattle.ddf_config.specs.Within.{is_redundant}
use Rattle.ddf_config.specs.Extents.{extents_on, ranges}
use Rattle.ddf_config.specs.Room.{is_free, start_on}
use Rattle.ddf_config.specs.Shapes.{strip_sectors}
use Rattle.ddf_plan.specs.Mark.{mark}

-- the sectors of a strip; an element without a strip is refused before this matters
abbrev pub element_strip : ℕ → ElementValue → ℕ
element_strip elements element = unwrap_or (strip_sectors elements element) 1

-- a position at its start; one without room stays, and the change is refused
abbrev pub laid_position : List (ℕ × Member) → List Extent → ℕ → ℕ → Position → Position
laid_position members all strip blocks position =
    record position { start = unwrap_or (start_on members all strip blocks position.reference) position.start }

abbrev pub laid_element : List (ℕ × Member) → List Extent → ℕ → ElementValue → ElementValue
laid_element members all elements element =
    with_positions element
    (map (laid_position members all (element_strip elements element) element.blocks) element.positions)

abbrev pub laid_parts : List (ℕ × Member) → List Extent → Array → List (Option ElementValue)
laid_parts members all array =
    map (option_map (laid_element members all (length array.elements))) array.elements

-- that an extent ends within the configured size of its member's disk, and has no sector of these others
abbrev pub lies_clear : List (ℕ × Member) → List Extent → Extent → Bool
lies_clear members all one =
    elim (lookup (nat_eq one.reference) members) [
      | None ↦ false
      | Some member ↦ is_free (ranges (extents_on one.reference all)) member.size one.blocks one.start
    ]

-- a new array is marked where it is redundant, since nothing made its disks agree; every other bit is 0,
-- its low state aside
abbrev pub created_state : Array → ℕ
created_state array = if is_redundant array then mark else 0x00

abbrev pub created : List (ℕ × Member) → List Extent → Array → Array
created members all array =
    record array { elements = laid_parts members all array; state = created_state array }
