-- The use of a disk as a spare, and why it can't have it.
use Rattle.std.specs.Prelude.{ℕ, Bool, false, not, List, [], ◌∷◌, Option, Some, None, filter, is_some, nat_eq}
use Rattle.std.specs.Map.{lookup, keys_of}
use Rattle.std.specs.List.{list_any, list_all}
use Rattle.ddf_config.specs.declared.member.SpareUse.{SpareUse}
use Rattle.ddf_config.specs.declared.member.SpareUse.TheVariants.{No, Global, Revertible, Dedicated}
use Rattle.ddf_config.specs.declared.element.Position.{Position}
use Rattle.ddf_config.specs.declared.array.Array.{Array}
use Rattle.ddf_config.specs.declared.seat.Seat.{Seat}
use Rattle.ddf_config.specs.declared.refusal.Refusal.{Refusal}
use Rattle.ddf_config.specs.declared.refusal.Refusal.TheVariants.{NoArray, InUse}
use Rattle.ddf_config.specs.Configuration.{Configuration}
use Rattle.ddf_config.specs.ElementValue.{ElementValue}
use Rattle.ddf_config.specs.Members.{same_guid}
use Rattle.ddf_config.specs.Seats.{slot_of}
use Rattle.ddf_config.specs.Refusals.{refuse_if}
use Rattle.ddf_plan.specs.Refusals.{not_current}

-- the use with its arrays in table order
abbrev pub use_in_order : List (List ℕ × Array) → SpareUse → SpareUse
use_in_order arrays No = No
use_in_order arrays Global = Global
use_in_order arrays Revertible = Revertible
use_in_order arrays (Dedicated guids) =
    Dedicated (filter (λ guid. list_any (same_guid guid) guids) (keys_of arrays))

-- an array can have a spare where some disk tells of an element of it
abbrev pub can_have_spare : Configuration → List ℕ → Bool
can_have_spare config guid =
    elim (lookup (same_guid guid) config.arrays) [
      | None ↦ false
      | Some array ↦ list_any (λ (part : Option ElementValue). is_some part) array.elements
    ]

abbrev pub lacks_array : Configuration → SpareUse → Bool
lacks_array config No = false
lacks_array config Global = false
lacks_array config Revertible = false
lacks_array config (Dedicated guids) = not (list_all (can_have_spare config) guids)

abbrev pub position_refers : ℕ → Position → Bool
position_refers reference position = nat_eq position.reference reference

abbrev pub part_refers : ℕ → Option ElementValue → Bool
part_refers reference part = elim part [ None ↦ false | Some element ↦ list_any (position_refers reference) element.positions ]

abbrev pub array_refers : ℕ → Array → Bool
array_refers reference array = list_any (part_refers reference) array.elements

-- that a position of some array is on the disk
abbrev pub holds_extent : Configuration → ℕ → Bool
holds_extent config reference = list_any (λ entry. array_refers reference entry.1) config.arrays

-- in order: the disk is a current member, each array is there, and the disk holds no extent
abbrev pub spare_causes : Configuration → List Seat → ℕ → SpareUse → List (Option Refusal)
spare_causes config seats reference use_as =
    not_current config seats (reference ∷ [])
    ∷ refuse_if (lacks_array config use_as) NoArray
    ∷ refuse_if (holds_extent config reference) (InUse (slot_of seats reference))
    ∷ []
