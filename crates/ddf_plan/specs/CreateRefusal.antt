-- Why an array can't be created.
use Rattle.std.specs.Prelude.{ℕ, Bool, false, not, ◌||◌, List, [], ◌∷◌, Option, Some, None, map, length, is_some, nat_eq, nat_lt, option_map}
use Rattle.std.specs.Map.{lookup}
use Rattle.std.specs.List.{list_any}
use Rattle.ddf_config.specs.declared.element.Position.{Position}
use Rattle.ddf_config.specs.declared.array.Array.{Array}
use Rattle.ddf_config.specs.declared.extent.Extent.{Extent}
use Rattle.ddf_config.specs.declared.seat.Seat.{Seat}
use Rattle.ddf_config.specs.declared.refusal.Refusal.{Refusal}
use Rattle.ddf_config.specs.declared.refusal.Refusal.TheVariants.{NameTaken, Shape, NoExtent, InUse, Clash}
use Rattle.ddf_config.specs.ElementValue.{ElementValue}
use Rattle.ddf_config.specs.Configuration.{Configuration}
use Rattle.ddf_config.specs.Members.{same_guid, is_spare}
use Rattle.ddf_config.specs.Seats.{slot_of}
use Rattle.ddf_config.specs.Extents.{array_extents}
use Rattle.ddf_config.specs.Shapes.{has_shapes, has_tiers}
use Rattle.ddf_config.specs.Levels.{unserved_level}
use Rattle.ddf_config.specs.Refusals.{refuse_if}
use Rattle.ddf_name.specs.Names.{is_place_name, print_alike}
use Rattle.ddf_plan.specs.Refusals.{not_current, refuse_first}

-- the references of an array's positions, by element and position
abbrev pub references : Array → List ℕ
references array = map (λ (one : Extent). one.reference) (array_extents array)

abbrev pub has_name : List ℕ → List ℕ × Array → Bool
has_name name entry = print_alike entry.1.name name

-- that an array's name prints as this one does, be it the same 16 bytes or not: two that print alike couldn't be told apart
-- by a word
abbrev pub has_named : Configuration → List ℕ → Bool
has_named config name = list_any (has_name name) config.arrays

-- that a new array can't be called so. A name that prints as a place in the table would hide the array at that place, where
-- only its place names that one
abbrev pub is_taken : Configuration → List ℕ → Bool
is_taken config name = is_place_name name || has_named config name

-- that a disk is named twice
abbrev pub names_twice : List ℕ → Bool
names_twice [] = false
names_twice (reference ∷ others) = list_any (nat_eq reference) others || names_twice others

-- that the numbers make no array, or a disk is named twice
abbrev pub is_no_shape : Array → Bool
is_no_shape array = not (has_shapes array) || not (has_tiers array) || names_twice (references array)

-- that an element has more members than a bound
abbrev pub has_more : ℕ → Option ElementValue → Bool
has_more most part = elim part [ None ↦ false | Some element ↦ nat_lt most (length element.positions) ]

-- that some element has, where there is a bound
abbrev pub passes_most : Option ℕ → Array → Bool
passes_most None array = false
passes_most (Some most) array = list_any (has_more most) array.elements

abbrev pub is_spare_disk : Configuration → ℕ → Bool
is_spare_disk config reference =
    elim (lookup (nat_eq reference) config.members) [ None ↦ false | Some member ↦ is_spare member.spare ]

-- the first position without room
abbrev pub no_extent : List Seat → Option Position → Option Refusal
no_extent seats first = option_map (λ (position : Position). NoExtent (slot_of seats position.reference)) first

-- in order: each disk is a current member, no array's name prints as this one, nor it as a place, each level is served, the numbers make an
-- array whose elements have no more members than the bound, the GUID is new, and no disk is a spare
abbrev pub create_causes : Option ℕ → Configuration → List Seat → List ℕ → Array → List (Option Refusal)
create_causes most config seats guid array =
    not_current config seats (references array)
    ∷ refuse_if (is_taken config array.name) NameTaken
    ∷ unserved_level guid array
    ∷ refuse_if (passes_most most array || is_no_shape array) Shape
    ∷ refuse_if (is_some (lookup (same_guid guid) config.arrays)) (Clash guid)
    ∷ refuse_first seats (is_spare_disk config) InUse (references array)
    ∷ []
