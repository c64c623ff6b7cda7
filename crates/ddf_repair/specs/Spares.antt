-- The spares that may stand in for a disk of an array, and the room on them.
use Rattle.std.specs.Prelude.{ℕ, Bool, true, false, not, ◌&&◌, List, [], ◌∷◌, ◌++◌, Option, Some, None, map, filter, find, fold, is_some, min, max, nat_eq, option_map, option_and_then, unwrap_or, zero, suc}
use Rattle.std.specs.Map.{lookup}
use Rattle.std.specs.List.{list_any}
use Rattle.ddf_config.specs.declared.member.Member.{Member}
use Rattle.ddf_config.specs.declared.member.SpareUse.{SpareUse}
use Rattle.ddf_config.specs.declared.member.SpareUse.TheVariants.{No, Global, Revertible, Dedicated}
use Rattle.ddf_config.specs.declared.extent.Extent.{Extent}
use Rattle.ddf_config.specs.declared.seat.Seat.{Seat}
use Rattle.ddf_config.specs.Extents.{extents_on, ranges}
use Rattle.ddf_config.specs.Members.{is_current, same_guid}
use Rattle.ddf_config.specs.Room.{least_start_of}
use Rattle.ddf_config.specs.Seats.{floor_of}
use Rattle.ddf_plan.specs.Lose.{is_among}

-- ---- which

abbrev pub is_dedicated_to : List ℕ → SpareUse → Bool
is_dedicated_to guid No = false
is_dedicated_to guid Global = false
is_dedicated_to guid Revertible = false
is_dedicated_to guid (Dedicated guids) = list_any (same_guid guid) guids

-- a spare for every array, be it one that gives its place back
abbrev pub is_global : SpareUse → Bool
is_global No = false
is_global Global = true
is_global Revertible = true
is_global (Dedicated guids) = false

-- that a member is current, its disk is here, and it isn't among those that are passed over. A disk on which the array has a position is one of them: two
-- parts of one array on one disk would be lost together
abbrev pub can_stand_in : List (ℕ × Member) → List Seat → (used : List ℕ) → ℕ → Bool
can_stand_in members seats used reference = is_current members reference && is_some (floor_of seats reference) && not (is_among used reference)

-- that it is a spare of a use
abbrev pub is_spare_of : (SpareUse → Bool) → List (ℕ × Member) → List Seat → (used : List ℕ) → (ℕ × Member) → Bool
is_spare_of test members seats used entry = can_stand_in members seats used entry.0 && test entry.1.spare

-- of some members those that are, by their references, in table order
abbrev pub spares_of : (SpareUse → Bool) → List (ℕ × Member) → List Seat → (used : List ℕ) → List (ℕ × Member) → List ℕ
spares_of test members seats used some = map (λ (entry : ℕ × Member). entry.0) (filter (is_spare_of test members seats used) some)

-- those for an array that passes over these disks: its own ones before the global ones
abbrev pub spares_for : List ℕ → List Seat → (used : List ℕ) → List (ℕ × Member) → List ℕ
spares_for guid seats used members = spares_of (is_dedicated_to guid) members seats used members ++ spares_of is_global members seats used members

-- ---- the room on one

-- an extent ends within the configured size of the disk, and at or below the floor of its seat
abbrev pub limit_on : List (ℕ × Member) → List Seat → ℕ → Option ℕ
limit_on members seats reference =
    option_and_then (λ (member : Member). option_map (λ floor. min member.size floor) (floor_of seats reference)) (lookup (nat_eq reference) members)

-- the sectors of the disk that arrays have
abbrev pub taken_on : List Extent → ℕ → List (ℕ × ℕ)
taken_on all reference = ranges (extents_on reference all)

-- the least extent of so many blocks
abbrev pub extent_on : List (ℕ × Member) → List Extent → List Seat → ℕ → ℕ → ℕ → Option Extent
extent_on members all seats strip blocks reference =
    option_and_then
    (λ limit. option_map (λ start. record { reference = reference; start = start; blocks = blocks }) (least_start_of (taken_on all reference) limit strip blocks))
    (limit_on members seats reference)

-- on the first spare that has room
abbrev pub first_extent : List (ℕ × Member) → List Extent → List Seat → ℕ → ℕ → List ℕ → Option Extent
first_extent members all seats strip blocks [] = None
first_extent members all seats strip blocks (reference ∷ references) =
    elim (extent_on members all seats strip blocks reference) [
      | None ↦ first_extent members all seats strip blocks references
      | Some found ↦ Some found
    ]

-- ---- the most that there is room for

-- the numbers from one down to 1
abbrev pub downwards : ℕ → List ℕ
downwards zero = []
downwards (suc n) = suc n ∷ downwards n

abbrev pub has_room : List (ℕ × ℕ) → ℕ → ℕ → ℕ → Bool
has_room taken limit strip blocks = is_some (least_start_of taken limit strip blocks)

-- the greatest number of blocks for which there is room, 0 where there is none
abbrev pub most_within : List (ℕ × ℕ) → ℕ → ℕ → ℕ
most_within taken limit strip = unwrap_or (find (has_room taken limit strip) (downwards limit)) 0

abbrev pub most_on : List (ℕ × Member) → List Extent → List Seat → ℕ → ℕ → ℕ
most_on members all seats strip reference =
    elim (limit_on members seats reference) [ None ↦ 0 | Some limit ↦ most_within (taken_on all reference) limit strip ]

-- that of several disks
abbrev pub most_of : List (ℕ × Member) → List Extent → List Seat → ℕ → List ℕ → ℕ
most_of members all seats strip references = fold (λ most reference. max most (most_on members all seats strip reference)) 0 references
