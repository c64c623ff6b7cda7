-- The view of an array over seats, or why there is none.
use Rattle.std.specs.Prelude.{◌≡◌, ℕ, ◌+◌, nat_le, Bool, ◌&&◌, is_some, List, Option, Some, None, Result, Ok, Err, map, filter_map, option_map, option_and_then, length, if◌then◌else◌}
use Rattle.std.specs.Map.{lookup}
use Rattle.ddf_config.specs.declared.array.Array.{Array}
use Rattle.ddf_config.specs.declared.element.Position.{Position}
use Rattle.ddf_config.specs.declared.extent.Extent.{Extent}
use Rattle.ddf_config.specs.declared.seat.Seat.{Seat}
use Rattle.ddf_config.specs.declared.refusal.Refusal.{Refusal}
use Rattle.ddf_config.specs.declared.refusal.Refusal.TheVariants.{NoArray, Shape}
use Rattle.ddf_config.specs.Configuration.{Configuration}
use Rattle.ddf_config.specs.ElementValue.{ElementValue}
use Rattle.ddf_config.specs.Members.{same_guid}
use Rattle.ddf_config.specs.Seats.{slot_of, floor_of}
use Rattle.ddf_config.specs.Extents.{extent, extents}
use Rattle.ddf_config.specs.Shapes.{element_shape, array_tiers}
use Rattle.ddf_config.specs.States.{is_marked}
use Rattle.ddf_config.specs.Unusable.{unusable}
use Rattle.ddf_config.specs.Within as config
use Rattle.ddf_array.specs.declared.place.Place.{Place}
use Rattle.ddf_array.specs.declared.part.Part.{Part}
use Rattle.ddf_array.specs.declared.view_fault.ViewFault.{ViewFault}
use Rattle.ddf_array.specs.declared.view_fault.ViewFault.TheVariants.{Refused, Memory}
use Rattle.ddf_array.specs.Volume.{Volume, volume}

-- The slot of an extent's disk: that of its member's seat. An extent that ends past the seat's floor counts as one
-- of a member without a seat; an array that can be used has none.
abbrev pub seat_slot : List Seat → Extent → Option ℕ
seat_slot seats one =
    elim (floor_of seats one.reference) [
      | None ↦ None
      | Some floor ↦ if nat_le (one.start + one.blocks) floor then Some (slot_of seats one.reference) else None
    ]

-- where the extent of a position lies, in an element whose members give so many sectors each
abbrev pub place_of : List Seat → ℕ → Position → Place
place_of seats blocks position = record {
  slot = seat_slot seats (extent blocks position);
  start = position.start;
  synced = position.synced;
  row = position.row;
}

abbrev pub part_of : List Seat → ℕ → ElementValue → Option Part
part_of seats elements element =
    option_map
    (λ shape. record { shape = shape; places = map (place_of seats element.blocks) element.positions })
    (element_shape elements element)

-- the elements of an array that has so many, of which some may be unknown
abbrev pub known_part : List Seat → ℕ → Option ElementValue → Option Part
known_part seats elements part = option_and_then (part_of seats elements) part

abbrev pub parts_of : List Seat → List (Option ElementValue) → List Part
parts_of seats parts = filter_map (known_part seats (length parts)) parts

-- the view of an array that can be used
abbrev pub viewed : List Seat → Array → Result Volume Refusal
viewed seats array =
    elim (array_tiers array) [
      | None ↦ Err Shape
      | Some tiers ↦ Ok (volume (is_marked array) tiers (parts_of seats array.elements))
    ]

-- the view of the array that is found of a GUID
abbrev pub view_by : Configuration → (guid : List ℕ) → List Seat → Option Array → Result Volume Refusal
view_by config guid seats None = Err NoArray
view_by config guid seats (Some array) =
    elim (unusable config.members seats (extents config.arrays) guid array) [
      | None ↦ viewed seats array
      | Some refusal ↦ Err refusal
    ]

-- the view of an array, or the refusal: no such array, or why it can't be used
abbrev pub view_of : Configuration → List ℕ → List Seat → Result Volume Refusal
view_of config guid seats = view_by config guid seats (lookup (same_guid guid) config.arrays)

-- an answer up to want of memory
abbrev pub IsViewAnswer : Result Volume Refusal → Result Volume ViewFault → Type 0
IsViewAnswer meaning (Ok view) = meaning ≡ Ok view
IsViewAnswer meaning (Err (Refused refusal)) = meaning ≡ Err refusal
IsViewAnswer meaning (Err Memory) = Unit {0}

-- what an array is by its configuration and seats: a position is available where it is in sync and its member has a
-- seat (profile)
abbrev pub is_seated : List Seat → Position → Bool
is_seated seats position = position.synced && is_some (floor_of seats position.reference)

abbrev pub is_array_within : List Seat → Array → Bool
is_array_within seats array = config.is_within (is_seated seats) array

abbrev pub is_array_redundant : Array → Bool
is_array_redundant array = config.is_redundant array
