-- What is planned of a position that goes back is what is written of its group, and filled between.
use Rattle.std.proofs.Common.{◌≡◌, ℕ, List, [], ◌∷◌}
use Rattle.ddf_seats.specs.Group.{GroupValue}
use Rattle.ddf_steps.specs.Ready.{ReadyStep}
use Rattle.ddf_recovery.specs.Ready.{ReadyValue}
use Rattle.ddf_rebuild_command.specs.declared.going_back.GoingBack.{GoingBack}
use Rattle.ddf_rebuild_command.specs.BackPlanned.{IsBackPlanned}
use Rattle.ddf_rebuild_command.specs.Standing.{recovery_in}

-- The first steps of the plan are the recovery that is ready, and its last is the one step that is ready behind it.
pub record IsBackFor (sizes : List ℕ) (found : GroupValue) (timestamp : ℕ) (word : List ℕ) (slot : ℕ) (going : GoingBack) (ready : ReadyValue) : Type 0 where
  pub planned : IsBackPlanned sizes found timestamp word slot
  pub volume_is : planned.volume ≡ going.view
  pub target_is : planned.target ≡ going.target
  pub to_is : planned.to ≡ going.slot
  pub start_is : planned.room.start ≡ going.start
  pub first_is : planned.first ≡ recovery_in ready.recovery
  pub one : ReadyStep
  pub last_is : planned.last ≡ one.step
  pub steps_are : ready.steps ≡ one ∷ []
