-- Why an array can't be used, where the seats of its members are known too (profile).
use Rattle.std.specs.Prelude.{ℕ, ◌+◌, Bool, false, not, ◌&&◌, List, [], ◌∷◌, Option, Some, None, nat_lt}
use Rattle.std.specs.List.{list_any}
use Rattle.ddf_config.specs.declared.member.Member.{Member}
use Rattle.ddf_config.specs.declared.seat.Seat.{Seat}
use Rattle.ddf_config.specs.declared.array.Array.{Array}
use Rattle.ddf_config.specs.declared.extent.Extent.{Extent}
use Rattle.ddf_config.specs.declared.refusal.Refusal.{Refusal}
use Rattle.ddf_config.specs.declared.refusal.Refusal.TheVariants.{Shape, Lost}
use Rattle.ddf_config.specs.Seats.{floor_of}
use Rattle.ddf_config.specs.Refusals.{first_refusal, refuse_if}
use Rattle.ddf_config.specs.Levels.{unserved_level}
use Rattle.ddf_config.specs.Within.{is_complete}
use Rattle.ddf_config.specs.Extents.{array_extents}
use Rattle.ddf_config.specs.Served.{is_served}

-- that an extent ends past the floor of its member's seat, where it meets the disk's headers or its workspace.
-- A member without a seat has no floor
abbrev pub passes_floor : List Seat → Extent → Bool
passes_floor seats one =
    elim (floor_of seats one.reference) [ None ↦ false | Some floor ↦ nat_lt floor (one.start + one.blocks) ]

-- that an array is served, and that its extents lie below the floors
abbrev pub is_served_on : List (ℕ × Member) → List Seat → List Extent → Array → Bool
is_served_on members seats all array =
    is_served members all array && not (list_any (passes_floor seats) (array_extents array))

-- the first of: a level isn't served; the numbers make no array, or its extents don't lie well; an element is
-- unknown
abbrev pub unusable : List (ℕ × Member) → List Seat → List Extent → (guid : List ℕ) → Array → Option Refusal
unusable members seats all guid array =
    first_refusal
    (unserved_level guid array
    ∷ refuse_if (not (is_served_on members seats all array)) Shape
    ∷ refuse_if (not (is_complete array)) Lost
    ∷ [])
