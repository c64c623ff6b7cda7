-- Which position of an array goes back to another disk: one on which a revertible spare stands in.
use Rattle.std.specs.Prelude.{ℕ, ◌+◌, Bool, not, ◌&&◌, ◌==◌, List, [], ◌∷◌, Option, Some, None, find, is_some, length}
use Rattle.std.specs.Map.{lookup}
use Rattle.std.specs.List.{enumerate_from}
use Rattle.ddf_config.specs.declared.member.Member.{Member}
use Rattle.ddf_config.specs.declared.element.Position.{Position}
use Rattle.ddf_config.specs.declared.array.Array.{Array}
use Rattle.ddf_config.specs.declared.extent.Extent.{Extent}
use Rattle.ddf_config.specs.declared.seat.Seat.{Seat}
use Rattle.ddf_config.specs.Configuration.{Configuration}
use Rattle.ddf_config.specs.ElementValue.{ElementValue}
use Rattle.ddf_config.specs.Extents.{extents}
use Rattle.ddf_config.specs.Members.{same_guid}
use Rattle.ddf_config.specs.Seats.{floor_of}
use Rattle.ddf_plan.specs.Create.{element_strip}
use Rattle.ddf_plan.specs.Rebuild.{element_at}
use Rattle.ddf_repair.specs.declared.first.Target.{Target}
use Rattle.ddf_repair.specs.Spares.{extent_on}

-- that a position can go back: the element's stand-in holds it, it is in sync, and its disk is here. A reference of 0 is no stand-in.
abbrev pub can_go_back : List Seat → (stand_in : ℕ) → Position → Bool
can_go_back seats stand_in position =
    not (stand_in == 0) && position.reference == stand_in && position.synced && is_some (floor_of seats position.reference)

abbrev pub target_at : (element position : ℕ) → Target
target_at element position = record { element = element; position = position }

-- the first of an element, with its number
abbrev pub back_in : List Seat → ElementValue → Option (ℕ × Position)
back_in seats plan = find (λ at. can_go_back seats plan.stand_in at.1) (enumerate_from 0 plan.positions)

abbrev pub part_back : List Seat → (element : ℕ) → Option ElementValue → Option Target
part_back seats element part =
    elim part [
      | None ↦ None
      | Some plan ↦ elim (back_in seats plan) [ None ↦ None | Some at ↦ Some (target_at element at.0) ]
    ]

-- of the elements from a number on
abbrev pub back_from : List Seat → (element : ℕ) → List (Option ElementValue) → Option Target
back_from seats element [] = None
back_from seats element (part ∷ parts) = elim (part_back seats element part) [ None ↦ back_from seats (element + 1) parts | Some target ↦ Some target ]

-- the first of an array, by element and position
unfoldable pub chosen : Configuration → List ℕ → List Seat → Option Target
chosen config guid seats = elim (lookup (same_guid guid) config.arrays) [ None ↦ None | Some array ↦ back_from seats 0 array.elements ]

-- ---- where it goes to

-- the least extent on a disk for a position of this element
abbrev pub part_room : List (ℕ × Member) → List Extent → List Seat → (elements : ℕ) → Option ElementValue → (reference : ℕ) → Option Extent
part_room members all seats elements part reference =
    elim part [ None ↦ None | Some plan ↦ extent_on members all seats (element_strip elements plan) plan.blocks reference ]

abbrev pub array_room : List (ℕ × Member) → List Extent → List Seat → Array → (element reference : ℕ) → Option Extent
array_room members all seats array element reference = part_room members all seats (length array.elements) (element_at array element) reference

-- none where the array has no such element, or no disk tells of it
unfoldable pub room_for : Configuration → List ℕ → List Seat → Target → (reference : ℕ) → Option Extent
room_for config guid seats target reference =
    elim (lookup (same_guid guid) config.arrays) [
      | None ↦ None
      | Some array ↦ array_room config.members (extents config.arrays) seats array target.element reference
    ]
