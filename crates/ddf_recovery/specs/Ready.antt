-- The recovery of a group and the steps of its changes behind it, or why they are refused (profile).
use Rattle.std.specs.Prelude.{◌≡◌, ℕ, Bool, List, ◌∷◌, ◌++◌, map, Option, Some, None, Result, Ok, Err, if◌then◌else◌}
use Rattle.std.specs.Option.{option_to_list}
use Rattle.ddf_config.specs.declared.refusal.Refusal.TheVariants.{Unsettled}
use Rattle.ddf_plan.specs.declared.change.Change.{Change}
use Rattle.ddf_seats.specs.declared.fault.GroupFault.{GroupFault}
use Rattle.ddf_seats.specs.declared.fault.GroupFault.TheVariants.{Refused, SequenceSpent, Memory}
use Rattle.ddf_seats.specs.Group.{GroupValue}
use Rattle.ddf_steps.specs.Steps.{Step}
use Rattle.ddf_recovery.specs.Recovery.{config_recovered, disks_recovered, full_of_recovery, has_stray, loss_spent, recovery_of}
use Rattle.ddf_steps.specs.Ready.{steps_from, unless_spent, ReadyStep}

-- ---- the steps

-- a recovery, where there is one, and the steps behind it; a fault of these comes before its sequence number
abbrev pub with_recovery : (spent : Bool) → Option Step → Result (List Step) GroupFault → Result (List Step) GroupFault
with_recovery spent None steps = steps
with_recovery spent (Some step) (Ok steps) = if spent then Err SequenceSpent else Ok (step ∷ steps)
with_recovery spent (Some step) (Err fault) = Err fault

-- The steps of a group's recovery and its changes, at a time, or the first refusal. A group with a disk that recovery can't write isn't changed.
unfoldable pub readied : GroupValue → List Change → (timestamp : ℕ) → Result (List Step) GroupFault
readied group changes timestamp =
    if has_stray group then Err (Refused Unsettled)
    else with_recovery (loss_spent group) (recovery_of timestamp group)
    (unless_spent (steps_from timestamp (full_of_recovery timestamp group) changes (config_recovered group) (disks_recovered timestamp group)))

-- ---- what is ready

-- the recovery, where one is left, and the steps that are left behind it
pub record ReadyValue : Type 0 where
  pub recovery : Option ReadyStep
  pub steps : List ReadyStep

-- all that is left, in order
abbrev pub all_ready : ReadyValue → List ReadyStep
all_ready ready = option_to_list ready.recovery ++ ready.steps

-- The result is this answer, or memory ran out.
abbrev pub IsReadied : Result ReadyValue GroupFault → Result (List Step) GroupFault → Type 0
IsReadied (Ok ready) answer = answer ≡ Ok (map (λ one. one.step) (all_ready ready))
IsReadied (Err Memory) answer = Unit {0}
IsReadied (Err (Refused refusal)) answer = answer ≡ Err (Refused refusal)
IsReadied (Err SequenceSpent) answer = answer ≡ Err SequenceSpent
