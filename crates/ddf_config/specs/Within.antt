-- Which disks an array can do without. Which positions are available is a parameter of the definitions:
-- the configuration alone answers it by its members, and whoever knows the disks by these.
use Rattle.std.specs.Prelude.{ℕ, Bool, false, not, ◌&&◌, ◌||◌, ◌==◌, List, map, Option, Some, None, length, nat_le, count_by, is_some, if◌then◌else◌}
use Rattle.std.specs.List.{list_any, list_all}
use Rattle.ddf_primary.specs.declared.need.Need.{Need}
use Rattle.ddf_primary.specs.declared.need.Need.TheVariants.{All, One, AllButOne, Neighbours}
use Rattle.ddf_primary.specs.Needs.{keeps_more_of, need_of, one_of_each}
use Rattle.ddf_config.specs.declared.member.Member.{Member}
use Rattle.ddf_config.specs.declared.element.Position.{Position}
use Rattle.ddf_config.specs.declared.array.Array.{Array}
use Rattle.ddf_config.specs.ElementValue.{ElementValue}
use Rattle.ddf_config.specs.Members.{is_current}

-- as the configuration alone tells, a position is available where it is in sync and its member current
abbrev pub is_available : List (ℕ × Member) → Position → Bool
is_available members position = position.synced && is_current members position.reference

-- that at most one place isn't available
abbrev pub lacks_one : {X : Type 0} → (X → Bool) → List X → Bool
lacks_one available places = nat_le (count_by (λ place. not (available place)) places) 1

-- that enough places of an element are available for what it needs: all, one, all but at most one, or one of each two
-- that hold the same blocks
abbrev pub has_enough : {X : Type 0} → Need → (X → Bool) → List X → Bool
has_enough All available places = list_all available places
has_enough One available places = list_any available places
has_enough AllButOne available places = lacks_one available places
has_enough (Neighbours spread) available places = one_of_each spread (map available places)

-- an element that no disk tells of is beyond its level
abbrev pub is_part_within : (Position → Bool) → Option ElementValue → Bool
is_part_within available part =
    elim part [ None ↦ false | Some element ↦ has_enough (need_of element.level element.qualifier) available element.positions ]

-- that the elements of an array are copies of each other
abbrev pub is_mirrored : Array → Bool
is_mirrored array = array.secondary == 0x01 && nat_le 2 (length array.elements)

-- enough elements: one of copies, all of others
abbrev pub has_enough_parts : {X : Type 0} → Bool → (X → Bool) → List X → Bool
has_enough_parts mirrored within parts = if mirrored then list_any within parts else list_all within parts

-- an array is within its level where each of its elements is, or for a mirrored array one of them
abbrev pub is_within : (Position → Bool) → Array → Bool
is_within available array = has_enough_parts (is_mirrored array) (is_part_within available) array.elements

-- that an array has no element of which no disk tells
abbrev pub is_complete : Array → Bool
is_complete array = list_all (λ (part : Option ElementValue). is_some part) array.elements

-- the levels that keep data in more than one place: RAID 1, 4, 5 and 1E
abbrev pub has_redundancy : Option ElementValue → Bool
has_redundancy part =
    elim part [ None ↦ false | Some element ↦ keeps_more_of element.level ]

-- that an array keeps data in more than one place
abbrev pub is_redundant : Array → Bool
is_redundant array = is_mirrored array || list_any has_redundancy array.elements
