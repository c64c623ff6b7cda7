-- The steps that changes are, one after another, or why they are refused (profile).
use Rattle.std.specs.Prelude.{ℕ, ◌<◌, ◌≤◌, Bool, List, [], ◌∷◌, map, fold, nat_lt, Option, Some, None, Result, Ok, Err, if◌then◌else◌}
use Rattle.std.specs.List.{list_any}
use Rattle.ddf_config.specs.declared.refusal.FullTable.{FullTable}
use Rattle.ddf_config.specs.declared.refusal.Refusal.{Refusal}
use Rattle.ddf_config.specs.declared.refusal.Refusal.TheVariants.{Full}
use Rattle.ddf_config.specs.Configuration.{Configuration}
use Rattle.ddf_plan.specs.declared.change.Change.{Change}
use Rattle.ddf_plan.specs.Refusals.{greatest_sequence}
use Rattle.ddf_plan.specs.Same.{is_step}
use Rattle.ddf_update.specs.declared.prepared.Prepared.{Prepared}
use Rattle.ddf_update.specs.Group.{LieOnSlots}
use Rattle.ddf_seats.specs.declared.fault.GroupFault.{GroupFault}
use Rattle.ddf_seats.specs.declared.fault.GroupFault.TheVariants.{Refused, SequenceSpent}
use Rattle.ddf_seats.specs.declared.seated.Seated.{Seated}
use Rattle.ddf_seats.specs.Group.{GroupValue}
use Rattle.ddf_seats.specs.Seated.{seats_in, slots_in, levelled, with_level}
use Rattle.ddf_steps.specs.Steps.{Step, in_order, step_of}
use Rattle.ddf_steps.specs.Refusing.{step_refusal}

-- ---- the steps

-- A step with those behind it, unless these are refused.
abbrev pub with_step : Step → Result (List Step) Refusal → Result (List Step) Refusal
with_step step (Ok steps) = Ok (step ∷ steps)
with_step step (Err refusal) = Err refusal

abbrev pub full_or_none : Option FullTable → Result (List Step) Refusal
full_or_none None = Ok []
full_or_none (Some table) = Err (Full table)

-- One change after another, from a configuration and disks on, where a table may be full before them: that is told behind the causes of
-- the first change. Each begins with what the step before it gives; one that leaves the configuration as it is, the sequence number
-- aside, is no step.
abbrev pub steps_from : (timestamp : ℕ) → Option FullTable → List Change → Configuration → List Seated → Result (List Step) Refusal
steps_from timestamp full [] config disks = full_or_none full
steps_from timestamp full (change ∷ changes) config disks =
    elim (step_refusal timestamp full config disks change) [
      | Some refusal ↦ Err refusal
      | None ↦
          if is_step config change
          then with_step (step_of timestamp config disks change)
          (steps_from timestamp None changes (step_of timestamp config disks change).config (map levelled (step_of timestamp config disks change).disks))
          else steps_from timestamp None changes config disks
    ]

-- a step to a sequence number past the greatest
abbrev pub is_spent : Step → Bool
is_spent step = nat_lt greatest_sequence step.config.sequence

-- a refusal comes before a sequence number that is spent
abbrev pub unless_spent : Result (List Step) Refusal → Result (List Step) GroupFault
unless_spent (Ok steps) = if list_any is_spent steps then Err SequenceSpent else Ok steps
unless_spent (Err refusal) = Err (Refused refusal)

-- The sequence numbers of steps rise from this one on, and none passes the greatest.
abbrev pub AreNumbered : (sequence : ℕ) → List Step → Type 0
AreNumbered sequence [] = Unit {0}
AreNumbered sequence (step ∷ steps) =
    (sequence < step.config.sequence) × (step.config.sequence ≤ greatest_sequence) × AreNumbered step.config.sequence steps

-- ---- what is ready

-- a step with the update of each of its disks
pub record ReadyStep : Type 0 where
  pub step : Step
  pub updates : List Prepared

-- each disk's update lies on its slot, of these sizes
abbrev pub LiesOnSlots : (sizes : List ℕ) → ReadyStep → Type 0
LiesOnSlots sizes one = LieOnSlots sizes (slots_in (in_order one.step.disks)) one.updates

-- ---- a group that a step was written to

-- its configuration and its seats are the step's, and so are the newest copies of these; every other slot is as it was
abbrev pub group_after : GroupValue → Step → GroupValue
group_after group step =
    record group { config = step.config; seats = seats_in step.disks; newest = fold with_level group.newest step.disks }
