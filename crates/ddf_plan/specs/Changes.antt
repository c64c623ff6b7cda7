-- The configuration after a change.
use Rattle.std.specs.Prelude.{◌≡◌, ℕ, ◌+◌, List, Option, Some, None, Result, Ok, Err}
use Rattle.ddf_config.specs.declared.member.Member.{Member}
use Rattle.ddf_config.specs.declared.array.Array.{Array}
use Rattle.ddf_config.specs.declared.seat.Seat.{Seat}
use Rattle.ddf_config.specs.declared.refusal.Refusal.{Refusal}
use Rattle.ddf_config.specs.Configuration.{Configuration}
use Rattle.ddf_plan.specs.declared.fault.PlanFault.{PlanFault}
use Rattle.ddf_plan.specs.declared.fault.PlanFault.TheVariants.{Refused, Memory}
use Rattle.ddf_plan.specs.declared.change.Change.{Change}
use Rattle.ddf_plan.specs.Members.{members_after}
use Rattle.ddf_plan.specs.Arrays.{arrays_after}
use Rattle.ddf_plan.specs.Causes.{refusal_of, steps_of}

-- a configuration so many steps on, with these members and arrays
abbrev pub with_tables : Configuration → ℕ → List (ℕ × Member) → List (List ℕ × Array) → Configuration
with_tables config steps members arrays =
    record config { sequence = config.sequence + steps; members = members; arrays = arrays }

abbrev pub changed : Configuration → Change → Configuration
changed config change =
    with_tables config (steps_of change) (members_after config change) (arrays_after config change)

-- the same at another sequence number
abbrev pub changed_at : Configuration → Change → ℕ → Configuration
changed_at config change sequence = record (changed config change) { sequence = sequence }

abbrev pub after_by : Configuration → Change → Option Refusal → Result Configuration Refusal
after_by config change None = Ok (changed config change)
after_by config change (Some refusal) = Err refusal

-- the configuration after a change, or why there is none. The seats only name slots.
unfoldable pub after : Configuration → Change → List Seat → Result Configuration Refusal
after config change seats = after_by config change (refusal_of config change seats)

-- what an answer says of the configuration after a change; want of memory says nothing
abbrev pub IsAnswer : Result Configuration Refusal → Result Configuration PlanFault → Type 0
IsAnswer meaning (Ok config) = meaning ≡ Ok config
IsAnswer meaning (Err (Refused refusal)) = meaning ≡ Err refusal
IsAnswer meaning (Err Memory) = Unit {0}
