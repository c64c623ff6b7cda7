-- Why a disk can't be counted as failed. What the failure makes of the configuration is what a loss makes of it.
use Rattle.std.specs.Prelude.{ℕ, Bool, not, ◌&&◌, List, [], ◌∷◌, Option, count_by, nat_le}
use Rattle.std.specs.List.{list_any}
use Rattle.ddf_config.specs.declared.member.Member.{Member}
use Rattle.ddf_config.specs.declared.array.Array.{Array}
use Rattle.ddf_config.specs.declared.seat.Seat.{Seat}
use Rattle.ddf_config.specs.declared.refusal.Refusal.{Refusal}
use Rattle.ddf_config.specs.declared.refusal.Refusal.TheVariants.{InUse, Lost}
use Rattle.ddf_config.specs.Configuration.{Configuration}
use Rattle.ddf_config.specs.Seats.{slot_of}
use Rattle.ddf_config.specs.Within.{is_available, is_within}
use Rattle.ddf_config.specs.Refusals.{refuse_if}
use Rattle.ddf_plan.specs.Refusals.{not_current}

-- that no more than one member is current
abbrev pub is_last : Configuration → Bool
is_last config = nat_le (count_by (λ entry. not entry.1.missing) config.members) 1

-- an array that is within its level and would not be with these members
abbrev pub would_be_lost : List (ℕ × Member) → List (ℕ × Member) → Array → Bool
would_be_lost members members_after array =
    is_within (is_available members) array && not (is_within (is_available members_after) array)

abbrev pub any_would_be_lost : Configuration → List (ℕ × Member) → Bool
any_would_be_lost config members_after =
    list_any (λ entry. would_be_lost config.members members_after entry.1) config.arrays

-- in order: it is a current member, not the last, and no array would be lost
abbrev pub fail_causes : Configuration → List (ℕ × Member) → List Seat → ℕ → List (Option Refusal)
fail_causes config members_after seats reference =
    not_current config seats (reference ∷ [])
    ∷ refuse_if (is_last config) (InUse (slot_of seats reference))
    ∷ refuse_if (any_would_be_lost config members_after) Lost
    ∷ []
