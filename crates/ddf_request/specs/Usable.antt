-- What its disks and its state tell of an array that a command is to use.
use Rattle.std.specs.Prelude.{ℕ, ◌/◌, ◌%◌, Bool, not, ◌&&◌, ◌||◌, ◌==◌, nat_lt, List, [], ◌∷◌, find, Option, option_map}
use Rattle.std.specs.List.{list_any}
use Rattle.ddf_config.specs.declared.array.Array.{Array}
use Rattle.ddf_config.specs.declared.extent.Extent.{Extent}
use Rattle.ddf_config.specs.declared.seat.Seat.{Seat}
use Rattle.ddf_config.specs.declared.refusal.Refusal.{Refusal}
use Rattle.ddf_config.specs.declared.refusal.Refusal.TheVariants.{BadBlocks, Shape}
use Rattle.ddf_config.specs.Configuration.{Configuration}
use Rattle.ddf_config.specs.Extents.{array_extents, extents}
use Rattle.ddf_config.specs.Levels.{unserved_level}
use Rattle.ddf_config.specs.Refusals.{first_refusal, refuse_if}
use Rattle.ddf_config.specs.States.{is_deleted}
use Rattle.ddf_config.specs.Unusable.{is_served_on}

-- In order: a level isn't served; the numbers make no array, or its extents don't lie well.
abbrev pub useless_refusals : Configuration → List Seat → (guid : List ℕ) → Array → List (Option Refusal)
useless_refusals config seats guid array =
    unserved_level guid array ∷ refuse_if (not (is_served_on config.members seats (extents config.arrays) array)) Shape ∷ []

-- the first of them
abbrev pub useless : Configuration → List Seat → (guid : List ℕ) → Array → Option Refusal
useless config seats guid array = first_refusal (useless_refusals config seats guid array)

-- one of these extents lies on a disk
abbrev pub lies_on : List Extent → (reference : ℕ) → Bool
lies_on own reference = list_any (λ (one : Extent). one.reference == reference) own

-- a seat lists bad blocks, and one of these extents lies on it
abbrev pub is_bad : List Extent → Seat → Bool
is_bad own seat = nat_lt 0 seat.bad && lies_on own seat.reference

-- A disk of the array has bad blocks: the least slot of these. Seats stand in the order of their slots.
abbrev pub bad_blocks : List Seat → Array → Option Refusal
bad_blocks seats array = option_map (λ (seat : Seat). BadBlocks seat.slot) (find (is_bad (array_extents array)) seats)

-- The array is being morphed (state bit 3) or is deleted (low state 2), or nobody may access it (init bits 6 and 7).
abbrev pub is_held : Array → Bool
is_held array = array.state / 8 % 2 == 1 || is_deleted array || array.init / 64 == 3

-- It is so, or nobody may write it (init bit 7 without bit 6).
abbrev pub is_held_from_writes : Array → Bool
is_held_from_writes array = is_held array || array.init / 64 == 2
