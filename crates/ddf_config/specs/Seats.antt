-- Where the disks of current members are.
use Rattle.std.specs.Prelude.{◌≡◌, ℕ, ◌<◌, ◌≤◌, List, Option, Some, None, find, nat_eq, option_map, length, slice_get, slice_index}
use Rattle.ddf_config.specs.declared.seat.Seat.{Seat}

-- the slot of a member's seat; 64, which is no slot, where it has none
abbrev pub slot_of : List Seat → ℕ → ℕ
slot_of seats reference =
    elim (find (λ (seat : Seat). nat_eq seat.reference reference) seats) [ None ↦ 64 | Some seat ↦ seat.slot ]

-- the floor of a member's seat; none where it has no seat
abbrev pub floor_of : List Seat → ℕ → Option ℕ
floor_of seats reference =
    option_map (λ (seat : Seat). seat.floor) (find (λ (seat : Seat). nat_eq seat.reference reference) seats)

-- each seat is on a slot, of these sizes, and its floor is at most the slot's size
abbrev pub SeatsFit : List ℕ → List Seat → Type 0
SeatsFit sizes seats =
    (k : ℕ) (seat : Seat) → slice_get seats k ≡ Some seat → (seat.slot < length sizes) × (seat.floor ≤ slice_index sizes seat.slot)
