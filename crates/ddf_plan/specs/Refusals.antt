-- Causes that several changes share.
use Rattle.std.specs.Prelude.{ℕ, ◌+◌, Bool, not, List, Option, find, is_none, nat_le, option_map}
use Rattle.std.specs.Map.{lookup}
use Rattle.ddf_config.specs.declared.seat.Seat.{Seat}
use Rattle.ddf_config.specs.declared.refusal.Refusal.{Refusal}
use Rattle.ddf_config.specs.declared.refusal.Refusal.TheVariants.{NoArray, NotMember, SequenceSpent}
use Rattle.ddf_config.specs.Configuration.{Configuration}
use Rattle.ddf_config.specs.Members.{is_current, same_guid}
use Rattle.ddf_config.specs.Seats.{slot_of}
use Rattle.ddf_config.specs.Refusals.{refuse_if}

-- the greatest sequence number of a header that a change may give (profile)
abbrev pub greatest_sequence : ℕ
greatest_sequence = 0xFFFFFFF0

-- a sequence number that so many steps on would pass it
abbrev pub spent : ℕ → ℕ → Option Refusal
spent sequence steps = refuse_if (not (nat_le (sequence + steps) greatest_sequence)) SequenceSpent

-- the first reference that passes a test, with a refusal that names its slot
abbrev pub refuse_first : List Seat → (ℕ → Bool) → (ℕ → Refusal) → List ℕ → Option Refusal
refuse_first seats test refusal references =
    option_map (λ reference. refusal (slot_of seats reference)) (find test references)

-- a reference that no current member has
abbrev pub not_current : Configuration → List Seat → List ℕ → Option Refusal
not_current config seats references =
    refuse_first seats (λ reference. not (is_current config.members reference)) NotMember references

-- an array that isn't there
abbrev pub no_array : Configuration → List ℕ → Option Refusal
no_array config guid = refuse_if (is_none (lookup (same_guid guid) config.arrays)) NoArray
