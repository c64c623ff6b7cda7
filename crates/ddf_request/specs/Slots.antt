-- Which members lie on slots, and why one doesn't.
use Rattle.std.specs.Prelude.{ℕ, Bool, not, ◌==◌, nat_le, List, [], ◌∷◌, find, Option, Some, None, option_map}
use Rattle.std.specs.List.{list_any}
use Rattle.ddf_config.specs.declared.seat.Seat.{Seat}
use Rattle.ddf_config.specs.declared.refusal.Refusal.{Refusal}
use Rattle.ddf_config.specs.declared.refusal.Refusal.TheVariants.{NoSlot, NotMember}

abbrev pub is_on : (slot : ℕ) → Seat → Bool
is_on slot seat = seat.slot == slot

abbrev pub has_no_seat : List Seat → (slot : ℕ) → Bool
has_no_seat seats slot = not (list_any (is_on slot) seats)

-- the first slot, in the order of the words, that isn't there
abbrev pub first_beyond : (count : ℕ) → List ℕ → Option Refusal
first_beyond count slots = option_map NoSlot (find (nat_le count) slots)

-- the first one, in the order of the words, whose disk is no current member
abbrev pub first_without_seat : List Seat → List ℕ → Option Refusal
first_without_seat seats slots = option_map NotMember (find (has_no_seat seats) slots)

-- In order: each slot is there; the disk of each is a current member.
abbrev pub slot_refusals : (count : ℕ) → List Seat → List ℕ → List (Option Refusal)
slot_refusals count seats slots = first_beyond count slots ∷ first_without_seat seats slots ∷ []

-- the reference of the member on a slot; 0 where there is none, which is refused before
abbrev pub reference_on : List Seat → (slot : ℕ) → ℕ
reference_on seats slot = elim (find (is_on slot) seats) [ None ↦ 0 | Some seat ↦ seat.reference ]
