-- What is planned of the blocks of an array before anything is written.
use Rattle.std.specs.Prelude.{◌≡◌, ℕ, List, None, Some, Result, Ok, Err, unwrap_or}
use Rattle.ddf_config.specs.declared.seat.Seat.{Seat}
use Rattle.ddf_config.specs.Configuration.{Configuration}
use Rattle.ddf_config.specs.Refusals.{first_refusal}
use Rattle.ddf_plan.specs.declared.change.Change.{Change}
use Rattle.ddf_array.specs.Viewing.{view_of}
use Rattle.ddf_array.specs.Volume.{IsVolume, Volume}
use Rattle.ddf_seats.specs.declared.fault.GroupFault.{GroupFault}
use Rattle.ddf_steps.specs.Steps.{Step}
use Rattle.ddf_request.specs.Named.{named_array}
use Rattle.ddf_answer.specs.declared.failure.Failure.{Failure}
use Rattle.ddf_answer.specs.declared.failure.Failure.TheVariants.{Conflict, Disk, Memory, Refused, Split}
use Rattle.ddf_group_commands.specs.Change.{steps_or}
use Rattle.ddf_write_commands.specs.declared.planning.Plan.{Plan}
use Rattle.ddf_write_commands.specs.Marking.{IsMarkedView}
use Rattle.ddf_write_commands.specs.Planned.{Entry, Refusing, changes_around, request_around}

-- the array of a plan as it is before it is marked for its blocks
abbrev pub unmarked_view : Plan → Volume
unmarked_view plan = unwrap_or plan.unmarked plan.view

-- The changes around the blocks of an array of a configuration, and its views over these seats: as it is, and as it is once it is marked.
pub record IsPlanFor (behind : Entry → List Change) (config : Configuration) (seats : List Seat) (entry : Entry) (plan : Plan) : Type 0 where
  pub changes : plan.changes ≡ changes_around behind entry
  pub before : Volume
  pub is_before : view_of config entry.0 seats ≡ Ok before
  pub is_marked_view : IsMarkedView config seats entry plan.view plan.redundant plan.marks
  pub known : IsVolume plan.view
  pub is_unmarked : unmarked_view plan ≡ before
  pub known_before : IsVolume before

-- This is planned of the array that a word names: nothing refuses it.
pub record IsPlanOf (refusing : Refusing) (behind : Entry → List Change) (config : Configuration) (seats : List Seat) (word : List ℕ) (plan : Plan) : Type 0 where
  pub entry : Entry
  pub is_named : named_array config.arrays word ≡ Some entry
  pub accepted : first_refusal (refusing config seats entry) ≡ None
  pub is_for : IsPlanFor behind config seats entry plan

-- what is planned of it, why nothing is, or want of memory
abbrev pub MayPlan : Refusing → (behind : Entry → List Change) → Configuration → List Seat → (word : List ℕ) → Result Plan Failure → Type 0
MayPlan refusing behind config seats word (Ok plan) = IsPlanOf refusing behind config seats word plan
MayPlan refusing behind config seats word (Err (Refused refusal)) = request_around refusing behind word config seats ≡ Err refusal
MayPlan refusing behind config seats word (Err Memory) = Unit {0}
MayPlan refusing behind config seats word (Err (Disk slot)) = ⊥
MayPlan refusing behind config seats word (Err (Conflict i j sequence differ)) = ⊥
MayPlan refusing behind config seats word (Err (Split i j)) = ⊥

-- the same of an array that nothing refuses
abbrev pub MayPlanFor : (behind : Entry → List Change) → Configuration → List Seat → Entry → Result Plan Failure → Type 0
MayPlanFor behind config seats entry (Ok plan) = IsPlanFor behind config seats entry plan
MayPlanFor behind config seats entry (Err (Refused refusal)) = ⊥
MayPlanFor behind config seats entry (Err Memory) = Unit {0}
MayPlanFor behind config seats entry (Err (Disk slot)) = ⊥
MayPlanFor behind config seats entry (Err (Conflict i j sequence differ)) = ⊥
MayPlanFor behind config seats entry (Err (Split i j)) = ⊥

-- why changes of a group aren't ready
abbrev pub IsNotReadied : Result (List Step) GroupFault → Failure → Type 0
IsNotReadied answer (Refused refusal) = steps_or answer ≡ Err (Refused refusal)
IsNotReadied answer Memory = Unit {0}
IsNotReadied answer (Disk slot) = ⊥
IsNotReadied answer (Conflict i j sequence differ) = ⊥
IsNotReadied answer (Split i j) = ⊥
