-- The state of an array by the seats of its members (profile): by the disks that are there, where the configuration may count on others.
use Rattle.std.specs.Prelude.{ℕ, Bool, false, not, List, Option, Some, None, is_some, if◌then◌else◌}
use Rattle.std.specs.List.{list_any}
use Rattle.ddf_config.specs.declared.array.Array.{Array}
use Rattle.ddf_config.specs.declared.seat.Seat.{Seat}
use Rattle.ddf_config.specs.ElementValue.{ElementValue}
use Rattle.ddf_config.specs.Seats.{floor_of}
use Rattle.ddf_array.specs.Viewing.{is_array_within, is_seated}

-- that a member has a seat
abbrev pub has_seat : List Seat → ℕ → Bool
has_seat seats reference = is_some (floor_of seats reference)

-- that a position of an element isn't available: it is out of sync, or its member has no seat
abbrev pub has_position_away : List Seat → Option ElementValue → Bool
has_position_away seats part =
    elim part [ None ↦ false | Some element ↦ list_any (λ position. not (is_seated seats position)) element.positions ]

-- 4 (failed) where the array isn't within its level by the seats, else 1 (degraded) where a position isn't available by them,
-- else 0 (optimal)
abbrev pub state_on_seats : List Seat → Array → ℕ
state_on_seats seats array =
    if not (is_array_within seats array) then 4
    else (if list_any (has_position_away seats) array.elements then 1 else 0)
