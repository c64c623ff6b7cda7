-- What the loss of disks makes of arrays, and why disks can't be lost.
use Rattle.std.specs.Prelude.{ℕ, Bool, false, ◌&&◌, List, [], ◌∷◌, Option, map, option_map, nat_eq, if◌then◌else◌}
use Rattle.std.specs.List.{list_any}
use Rattle.ddf_config.specs.declared.member.Member.{Member}
use Rattle.ddf_config.specs.declared.element.Position.{Position}
use Rattle.ddf_config.specs.declared.array.Array.{Array}
use Rattle.ddf_config.specs.declared.seat.Seat.{Seat}
use Rattle.ddf_config.specs.declared.refusal.Refusal.{Refusal}
use Rattle.ddf_config.specs.Configuration.{Configuration}
use Rattle.ddf_config.specs.ElementValue.{ElementValue, with_disks, with_positions}
use Rattle.ddf_config.specs.Within.{is_available, is_part_within, is_mirrored}
use Rattle.ddf_plan.specs.Refusals.{not_current}

abbrev pub is_among : List ℕ → ℕ → Bool
is_among references reference = list_any (nat_eq reference) references

-- out of sync, with no row rebuilt
abbrev pub out_of_sync : Position → Position
out_of_sync position = record position { synced = false; row = 0 }

-- each position on a lost disk is put out of sync
abbrev pub lost_position : List ℕ → Position → Position
lost_position references position =
    if is_among references position.reference then out_of_sync position else position

-- a disk that stands in stands in no more where it is lost
abbrev pub lost_stand_in : List ℕ → ElementValue → ℕ
lost_stand_in references element = if is_among references element.stand_in then 0 else element.stand_in

abbrev pub lost_element : List ℕ → ElementValue → ElementValue
lost_element references element =
    with_disks element (lost_stand_in references element) (map (lost_position references) element.positions)

abbrev pub lost_parts : List ℕ → Array → List (Option ElementValue)
lost_parts references array = map (option_map (lost_element references)) array.elements

abbrev pub wholly_out : ElementValue → ElementValue
wholly_out element = with_positions element (map out_of_sync element.positions)

-- an element beyond its level is put out of sync whole: its mirror is written on without it
abbrev pub out_beyond : List (ℕ × Member) → Option ElementValue → Option ElementValue
out_beyond members part = if is_part_within (is_available members) part then part else option_map wholly_out part

abbrev pub has_part_within : List (ℕ × Member) → List (Option ElementValue) → Bool
has_part_within members parts = list_any (is_part_within (is_available members)) parts

-- so it goes in a mirrored array of which another element is within its level. The members are those after
-- the loss
abbrev pub mirrored_parts : List (ℕ × Member) → Array → List (Option ElementValue) → List (Option ElementValue)
mirrored_parts members array parts =
    if is_mirrored array && has_part_within members parts then map (out_beyond members) parts else parts

abbrev pub lost_array : List (ℕ × Member) → List ℕ → Array → Array
lost_array members references array =
    record array { elements = mirrored_parts members array (lost_parts references array) }

-- each is a current member
abbrev pub lose_causes : Configuration → List Seat → List ℕ → List (Option Refusal)
lose_causes config seats references = not_current config seats references ∷ []
