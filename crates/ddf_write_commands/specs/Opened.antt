-- A group whose disks are recovered, and on which an array is marked, so that its blocks may be written.
use Rattle.std.specs.Prelude.{◌≡◌, ℕ, ◌≤◌, Bool, true, false, List, [], ◌++◌, length, map, slice_get, Option, Some, Ok}
use Rattle.ddf_bay.specs.State.{BayState}
use Rattle.ddf_config.specs.declared.seat.Seat.{Seat}
use Rattle.ddf_config.specs.Configuration.{Configuration}
use Rattle.ddf_config.specs.Members.{is_current}
use Rattle.ddf_plan.specs.declared.change.Change.{Change}
use Rattle.ddf_history.specs.Groups.{groups}
use Rattle.ddf_history.specs.Issued.{Past}
use Rattle.ddf_recovery.specs.Committed.{HoldsGroup, IsReadyFor}
use Rattle.ddf_steps.specs.Committed.{slots_of}
use Rattle.ddf_seats.specs.Group.{GroupValue}
use Rattle.ddf_assembly.specs.Reading.{HaveAnchors}
use Rattle.ddf_recovery.specs.Ready.{ReadyValue, readied}
use Rattle.ddf_seats.specs.Seated.{seated}
use Rattle.ddf_steps.specs.Steps.{Step}
use Rattle.ddf_history_steps.specs.Going.{IsAdmitted, changes_in}
use Rattle.ddf_history_steps.specs.Kept.{AreAllKept, is_slot}
use Rattle.ddf_history_steps.specs.Course.{IsUnderWay}
use Rattle.ddf_history_steps.specs.BlockFloors.{AreFloored}
use Rattle.ddf_group_commands.specs.GroupRead.{IsFoundBy}
use Rattle.ddf_group_commands.specs.Written.{AreWritten}
use Rattle.ddf_write_commands.specs.Around.{config_behind}

-- each of these seats is a current member's
abbrev pub AreMembers : Configuration → List Seat → Type 0
AreMembers config seats = (place : ℕ) (seat : Seat) → slice_get seats place ≡ Some seat → is_current config.members seat.reference ≡ true

-- the steps that are left
abbrev pub steps_left : ReadyValue → List Step
steps_left ready = map (λ one. one.step) ready.steps

-- Of a group that stands on disks the next step can be written to them.
pub record CanGoOn {D : Type 0} (tells : Type 0) (disks : BayState D) (found : GroupValue) (ready : ReadyValue) : Type 0 where
  pub few : length ready.steps ≤ 1
  pub is_ready : IsReadyFor found ready
  pub anchored : HaveAnchors disks.sizes found.newest
  pub holds : tells → HoldsGroup disks found

-- each history of a group that admits the call has come as far, of these steps, with those that are ready left
abbrev pub AreUnderWay : {D : Type 0} (old new : BayState D) → (found : GroupValue) → List Step → (now_found : GroupValue) → ReadyValue → Type 0
AreUnderWay old new found steps now_found ready =
    (left : List Bool) (named : Option (List ℕ)) → IsFoundBy old left named found → (group : List ℕ) → found.config.group ≡ group → (past : Past (groups group))
    → AreAllKept group past old → IsAdmitted group past old left found → IsUnderWay group old new past left found (changes_in found steps) now_found ready

-- The group was recovered, and the first of the changes made, where it is a step; the step of the other is left, and issues its configuration. Of every slot that is
-- no seat's a stop leaves what it might leave before. Each history that admits the call has come as far, and on its way no further.
pub record IsOpened {D : Type 0} (tells : Type 0) (old new : BayState D) (found : GroupValue) (before changes : List Change) (timestamp : ℕ) (now_found : GroupValue) (ready : ReadyValue) : Type 0 where
  pub steps : List Step
  pub are_first : readied found before timestamp ≡ Ok steps
  pub are_all : readied found changes timestamp ≡ Ok (steps ++ steps_left ready)
  pub is_config : now_found.config ≡ config_behind found.config steps
  pub same_seats : now_found.seats ≡ found.seats
  pub can_go_on : CanGoOn tells new now_found ready
  pub floored : AreFloored (seated found) → AreFloored (seated now_found)
  pub are_written : tells → AreWritten old.sizes old.held steps new.held
  pub none_asked : steps ≡ [] → new.sectors_asked ≡ old.sectors_asked
  pub others_left : tells → (s l : ℕ) (bytes : List ℕ) → is_slot (slots_of found.seats) s ≡ false → new.may_hold s l bytes → old.may_hold s l bytes
  pub issues : changes_in found (steps_left ready) ≡ map (λ one. one.step.config) ready.steps
  pub under_way : tells → AreUnderWay old new found (steps ++ steps_left ready) now_found ready
  pub no_further : tells → AreUnderWay old new found steps now_found (record ready { steps = [] })
  pub told : new.tells_left → old.tells_left
