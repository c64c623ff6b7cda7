-- Lives that an exercise lives.
use Rattle.std.specs.Prelude.{◌≡◌, ℕ, true, false, List, [], ◌∷◌, ◌++◌, length}
use Rattle.ddf_bytes.specs.declared.stamp.Stamp.{Stamp}
use Rattle.ddf_header.specs.declared.kind.Revision.TheVariants.{R200}
use Rattle.ddf_bay.specs.Memory.{disks_of, state_of}
use Rattle.ddf_bay.specs.declared.memory.MemoryBay.{MemoryBay}
use Rattle.ddf_update.specs.NewCopies.{group_of as name_of}
use Rattle.ddf_history.specs.Groups.{Disk}
use Rattle.ddf_group_commands.specs.Change.{is_done}
use Rattle.ddf_write_commands.specs.Write.{is_written}
use Rattle.ddf_history_life.specs.Life.{labelled_disk}
use Rattle.ddf_data_events.specs.Beginnings.{none_promised}
use Rattle.ddf_data_events.specs.Calls.Call.{Changes, Reads, Rebuilds, Resyncs, Writes}
use Rattle.ddf_data_events.specs.Moments.{Moment}
use Rattle.ddf_data_lives.specs.Standing.{Behind, Stands, Turn}
use Rattle.ddf_data_lives.specs.Standing.Turn.{Ended, Unplugged}
use Rattle.ddf_exercise.specs.Draws.{behind_fills, first_state}
use Rattle.ddf_exercise.specs.Exercise.{new_disks}
use Rattle.ddf_exercise.specs.Steps.{loss_steps, write_steps}
use Rattle.ddf_exercise.specs.declared.steps.Step.{Step}
use Rattle.ddf_exercise.specs.declared.steps.Step.TheVariants as steps

-- the steps of an exercise behind the creation of its array
abbrev pub steps_behind : (seed rounds : ℕ) → List Step
steps_behind seed rounds =
    let first = first_state seed in
    let second = behind_fills rounds first in
    let third = behind_fills rounds second in
    (steps.Resync ∷ steps.Spare 3 ∷ steps.Spare 4 ∷ []) ++ write_steps rounds first ++ loss_steps 1 ++ write_steps rounds second ++ loss_steps 2 ++ write_steps rounds third ++ steps.Scrub ∷ []

-- those behind its label
abbrev pub later_steps : (seed rounds : ℕ) → List Step
later_steps seed rounds = steps.Create ∷ steps_behind seed rounds

module _ (group : List ℕ) (kept : ℕ) (disk : Disk) where
  -- The turn of a life is the step: a call of its kind that was done, a write of its blocks, or the slot that is unplugged.
  abbrev pub IsTurnOf : {old : Moment group MemoryBay} → Step → Turn group kept disk old → Type 0
  IsTurnOf steps.Create (Ended (Changes call) well told keeps) = is_done call.outcome ≡ true
  IsTurnOf steps.Resync (Ended (Resyncs call) well told keeps) = is_done call.outcome ≡ true
  IsTurnOf (steps.Spare slot) (Ended (Changes call) well told keeps) = is_done call.outcome ≡ true
  IsTurnOf (steps.Write fill) (Ended (Writes call) well told keeps) = (call.start ≡ fill.start) × (length call.sectors ≡ fill.count) × (is_written call.outcome ≡ true)
  IsTurnOf (steps.Unplug slot) (Unplugged bay other is plugged) = other ≡ slot
  IsTurnOf steps.Rebuild (Ended (Rebuilds call) well told keeps) = is_done call.outcome ≡ true
  IsTurnOf steps.Scrub (Ended (Reads exit reads) well told keeps) = Unit {0}
  IsTurnOf step turn = ⊥

  -- From one moment to another each of these steps is a turn, one behind the other, and the disk stands at each moment on the way.
  abbrev pub Lives : List Step → (old last : Moment group MemoryBay) → Type 0
  Lives [] old last = (old ≡ last) × Stands group kept disk last
  Lives (step ∷ others) old last =
      Stands group kept disk old
      × (turn : Turn group kept disk old) × IsTurnOf step turn × (next : Moment group MemoryBay) × Behind group kept disk old turn next × Lives others next last

-- All disks of a bay were labelled, so that nothing is promised of any array yet, and then these steps were turns of a life through which the disk of the first slot stands.
pub record IsLived (stamp : Stamp) (all : List Step) (old new : MemoryBay) : Type 0 where
  pub start : Moment (name_of stamp) MemoryBay
  pub nothing : start.promises ≡ none_promised
  pub last : Moment (name_of stamp) MemoryBay
  pub is_bay : last.bay ≡ new
  pub lives : Lives (name_of stamp) 0 (labelled_disk false R200 stamp (disks_of old).sizes 0) all start last

-- There are new disks on which such an exercise is one.
pub record HasLived (stamp : Stamp) (seed rounds : ℕ) : Type 0 where
  pub old : MemoryBay
  pub is_new : state_of old ≡ new_disks rounds
  pub new : MemoryBay
  pub lived : IsLived stamp (later_steps seed rounds) old new
