-- The rebuild of a position: what its beginning, its progress and its end make of the positions of the element, and why there is no
-- such position.
use Rattle.std.specs.Prelude.{ℕ, Bool, true, false, not, List, [], ◌∷◌, ◌++◌, Option, Some, None, length, nat_eq, nat_lt, option_map, slice_get, if◌then◌else◌}
use Rattle.std.specs.Map.{lookup}
use Rattle.ddf_config.specs.declared.element.Position.{Position}
use Rattle.ddf_config.specs.declared.array.Array.{Array}
use Rattle.ddf_config.specs.declared.seat.Seat.{Seat}
use Rattle.ddf_config.specs.declared.refusal.Refusal.{Refusal}
use Rattle.ddf_config.specs.declared.refusal.Refusal.TheVariants.{Shape}
use Rattle.ddf_config.specs.Configuration.{Configuration}
use Rattle.ddf_config.specs.ElementValue.{ElementValue}
use Rattle.ddf_config.specs.Members.{same_guid}
use Rattle.ddf_config.specs.Refusals.{refuse_if}
use Rattle.ddf_plan.specs.Refusals.{no_array, not_current}

-- ---- positions, by their numbers in the element

-- a position on a disk from a start on, of which no row is rebuilt
abbrev pub new_position : ℕ → ℕ → Position
new_position reference start = record { reference = reference; start = start; synced = false; row = 0 }

-- a rebuild begins: the position has another disk, and is out of sync
abbrev pub begun : ℕ → ℕ → ℕ → ℕ → Position → Position
begun position reference start number old = if nat_eq position number then new_position reference start else old

-- it has come so many rows; no other position of the element has any
abbrev pub progressed : ℕ → ℕ → ℕ → Position → Position
progressed position row number old = record old { row = if nat_eq position number then row else 0 }

-- it is done: the position is in sync
abbrev pub finished : ℕ → ℕ → Position → Position
finished position number old = if nat_eq position number then record old { synced = true; row = 0 } else old

-- it moves to a disk that holds what it holds: as a rebuild that begins and is done at once
abbrev pub returned : ℕ → ℕ → ℕ → ℕ → Position → Position
returned position reference start number old = finished position number (begun position reference start number old)

-- ---- the position of an array

-- an element of an array; none where the array has no such place, or no disk tells of it
abbrev pub element_at : Array → ℕ → Option ElementValue
element_at array element = elim (slice_get array.elements element) [ None ↦ None | Some part ↦ part ]

abbrev pub part_has : ℕ → Option ElementValue → Bool
part_has position part = elim part [ None ↦ false | Some plan ↦ nat_lt position (length plan.positions) ]

-- that the configuration has this position
abbrev pub has_position : Configuration → List ℕ → ℕ → ℕ → Bool
has_position config guid element position =
    elim (lookup (same_guid guid) config.arrays) [ None ↦ false | Some array ↦ part_has position (element_at array element) ]

-- the reference of its disk
abbrev pub part_reference : ℕ → Option ElementValue → Option ℕ
part_reference position part =
    elim part [ None ↦ None | Some plan ↦ option_map (λ (held : Position). held.reference) (slice_get plan.positions position) ]

abbrev pub reference_at : Configuration → List ℕ → ℕ → ℕ → Option ℕ
reference_at config guid element position =
    elim (lookup (same_guid guid) config.arrays) [ None ↦ None | Some array ↦ part_reference position (element_at array element) ]

-- in order: the array is there, and it has the position
abbrev pub position_causes : Configuration → List ℕ → ℕ → ℕ → List (Option Refusal)
position_causes config guid element position =
    no_array config guid ∷ refuse_if (not (has_position config guid element position)) Shape ∷ []

-- a disk that is no current member, where there is one
abbrev pub lost_holder : Configuration → List Seat → Option ℕ → Option Refusal
lost_holder config seats None = None
lost_holder config seats (Some reference) = not_current config seats (reference ∷ [])

-- and behind these: the position's disk is a current member
abbrev pub held_causes : Configuration → List Seat → List ℕ → ℕ → ℕ → List (Option Refusal)
held_causes config seats guid element position =
    position_causes config guid element position ++ lost_holder config seats (reference_at config guid element position) ∷ []
