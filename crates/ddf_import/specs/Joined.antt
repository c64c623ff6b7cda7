-- The configuration of a group that the disks and arrays of another have joined.
use Rattle.std.specs.Prelude.{ℕ, ◌+◌, Bool, not, ◌||◌, List, [], ◌∷◌, ◌++◌, Option, Some, None, Result, Ok, Err, map, find, length, nat_eq, unwrap_or, if◌then◌else◌}
use Rattle.std.specs.List.{list_any, range_with_len}
use Rattle.ddf_config.specs.declared.member.Member.{Member}
use Rattle.ddf_config.specs.declared.array.Array.{Array}
use Rattle.ddf_config.specs.declared.refusal.Refusal.{Refusal}
use Rattle.ddf_config.specs.Configuration.{Configuration}
use Rattle.ddf_config.specs.Entries.{changed_entries}
use Rattle.ddf_config.specs.States.{with_low_states}
use Rattle.ddf_plan.specs.declared.change.Change.TheVariants.{Lose}
use Rattle.ddf_plan.specs.Changes.{changed_at}
use Rattle.ddf_plan.specs.Spare.{holds_extent}
use Rattle.ddf_import.specs.Clash.{join_cause, join_refusal}

-- ---- members

-- a missing member to which no element refers leaves the table
abbrev pub stays : Configuration → ℕ → Member → Bool
stays config reference member = not member.missing || holds_extent config reference

abbrev pub kept_member : Configuration → ℕ → Member → Option Member
kept_member config reference member = if stays config reference member then Some member else None

abbrev pub kept_members : Configuration → List (ℕ × Member)
kept_members config = changed_entries (kept_member config) config.members

-- ---- numbers of arrays

abbrev pub is_taken : List ℕ → ℕ → Bool
is_taken taken number = list_any (nat_eq number) taken

-- the least number that none of these is: one of so many, or the one behind them
abbrev pub least_free : List ℕ → ℕ
least_free taken = unwrap_or (find (λ number. not (is_taken taken number)) (range_with_len 0 (length taken))) (length taken)

abbrev pub number_of : List ℕ → ℕ → ℕ
number_of taken number = if is_taken taken number then least_free taken else number

abbrev pub with_number : Array → ℕ → Array
with_number array number = record array { number = number }

-- joining arrays one after another, each with a number that none before it has
abbrev pub numbered : List ℕ → List (List ℕ × Array) → List (List ℕ × Array)
numbered taken [] = []
numbered taken (entry ∷ entries) =
    (entry.0, with_number entry.1 (number_of taken entry.1.number)) ∷ numbered (taken ++ number_of taken entry.1.number ∷ []) entries

abbrev pub numbers_of : List (List ℕ × Array) → List ℕ
numbers_of arrays = map (λ (entry : List ℕ × Array). entry.1.number) arrays

-- ---- the configuration

abbrev pub members_joined : Configuration → Configuration → List (ℕ × Member)
members_joined config joining = kept_members config ++ joining.members

abbrev pub arrays_joined : Configuration → Configuration → List (List ℕ × Array)
arrays_joined config joining = config.arrays ++ numbered (numbers_of config.arrays) joining.arrays

-- The joining members and arrays come last, and each array has its low state anew.
abbrev pub joined : Configuration → Configuration → Configuration
joined config joining = record config {
  sequence = config.sequence + 1;
  members = members_joined config joining;
  arrays = with_low_states (members_joined config joining) (arrays_joined config joining);
}

abbrev pub join_by : Configuration → Configuration → Option Refusal → Result Configuration Refusal
join_by config joining None = Ok (joined config joining)
join_by config joining (Some refusal) = Err refusal

-- the configuration after the join, or why there is none
unfoldable pub after_join : Configuration → Configuration → Result Configuration Refusal
after_join config joining = join_by config joining (join_refusal config joining)

-- ---- what joins

-- another group's configuration, after the loss of its absent members
abbrev pub without_lost : Configuration → List ℕ → Configuration
without_lost config [] = config
without_lost config (reference ∷ references) = changed_at config (Lose (reference ∷ references)) config.sequence

abbrev pub offer_by : Configuration → Option Refusal → Result Configuration Refusal
offer_by joining None = Ok joining
offer_by joining (Some refusal) = Err refusal

unfoldable pub offered : Configuration → Configuration → List ℕ → Result Configuration Refusal
offered config other lost = offer_by (without_lost other lost) (join_cause config (without_lost other lost))
