-- A group that is recovered, and whose position gets a spare, so that its rows can be filled.
use Rattle.std.specs.Prelude.{◌≡◌, ℕ, ◌≤◌, Bool, List, [], ◌++◌, length, Option, true}
use Rattle.std.specs.List.{AllByRecursion}
use Rattle.ddf_bay.specs.Moments.{StopsLeave}
use Rattle.ddf_bay.specs.Sectors.{Image, IsLeft}
use Rattle.ddf_bay.specs.State.{BayState}
use Rattle.ddf_cells.specs.Touching.{GoesBetween}
use Rattle.ddf_plan.specs.declared.change.Change.{Change}
use Rattle.ddf_history.specs.Groups.{groups}
use Rattle.ddf_history.specs.Issued.{Past}
use Rattle.ddf_history.specs.Promise.{IsKept}
use Rattle.ddf_history.specs.Scenes.{scene_of}
use Rattle.ddf_steps.specs.Asked.{CanBeAsked}
use Rattle.ddf_recovery.specs.Committed.{WasReadied}
use Rattle.ddf_steps.specs.Committed.{slots_of}
use Rattle.ddf_seats.specs.Group.{GroupValue}
use Rattle.ddf_recovery.specs.Ready.{ReadyValue}
use Rattle.ddf_recovery.specs.Recovery.{config_recovered}
use Rattle.ddf_seats.specs.Leading.{some}
use Rattle.ddf_seats.specs.Seated.{seated}
use Rattle.ddf_steps.specs.Steps.{Step}
use Rattle.ddf_history_steps.specs.Going.{Goes, IsAdmitted, IsOver, changes_in}
use Rattle.ddf_history_steps.specs.Kept.{AreAllKept, is_read}
use Rattle.ddf_history_steps.specs.Steps.{StandsReady}
use Rattle.ddf_history_steps.specs.BlockFloors.{AreFloored}
use Rattle.ddf_group_commands.specs.Change.{last_sequence}
use Rattle.ddf_group_commands.specs.GroupRead.{IsFoundBy, IsReadFrom}
use Rattle.ddf_group_commands.specs.Others.{LeavesOthers}
use Rattle.ddf_group_commands.specs.Writing.{IsLeftWriting}
use Rattle.ddf_group_commands.specs.Written.{AreWritten}
use Rattle.ddf_write_commands.specs.Opened.{AreMembers}
use Rattle.ddf_rebuild_command.specs.Standing.{AddsNothing, KeepSeats, Stands, next_if, recovery_in}

-- the steps before the rows: the recovery, and where the position gets a spare, the first of the others
abbrev pub steps_before : (begins : Bool) → ReadyValue → List Step
steps_before begins ready = recovery_in ready.recovery ++ next_if begins ready.steps

-- A group that was read from disks can be recovered and changed by what was readied of it. Each of its seats is a current member's then, and
-- stays.
pub record CanOpen {D : Type 0} (tells : Type 0) (disks : BayState D) (found : GroupValue) (ready : ReadyValue) : Type 0 where
  pub from : IsReadFrom tells disks found
  pub changes : List Change
  pub timestamp : ℕ
  pub was : WasReadied found changes timestamp ready
  pub can_be_asked : AllByRecursion CanBeAsked changes
  pub members : AreMembers (config_recovered found) found.seats
  pub floored : AreFloored (seated found)
  pub keep_seats : KeepSeats found.seats ready.steps

module _ {D : Type 0} (tells : Type 0) (old new : BayState D) (found : GroupValue) (steps : List Step) where
  -- so for each history of the group that admits the call
  abbrev pub ForHistories : (P : (group : List ℕ) → Past (groups group) → (left : List Bool) → Type 0) → Type 0
  ForHistories P =
      (left : List Bool) (named : Option (List ℕ)) → IsFoundBy old left named found → (group : List ℕ) → found.config.group ≡ group → (past : Past (groups group))
      → AreAllKept group past old → IsAdmitted group past old left found → P group past left

  -- What holds on the way of these steps, and at their end, whether they were written or not.
  pub record GoesOpening : Type 0 where
    pub goes : GoesBetween old new
    pub told : new.tells_left → old.tells_left
    pub same_reads : new.failed_reads ≡ old.failed_reads
    pub beside : tells → LeavesOthers old new (slots_of found.seats)
    pub leaves : tells → StopsLeave old new (IsLeftWriting old steps)
    pub ends : tells → (image : Image) → IsLeft new.may_hold image → IsLeftWriting old steps image
    pub any_moment : tells → ForHistories (λ group past left.
        StopsLeave old new (λ image. (now : Past (groups group)) × Goes group past (is_read left) found (changes_in found steps) now × IsKept now (scene_of old.sizes image)))
    pub all_kept : tells → new.tells_left → ForHistories (λ group past left.
        (now : Past (groups group)) × Goes group past (is_read left) found (changes_in found steps) now × AreAllKept group now new)

  -- They were written, and the group stands on its disks with the others left, also at the end of each history.
  pub record IsOpened (now_found : GroupValue) (now_ready : ReadyValue) : Type 0 where
    pub stands : Stands tells new now_found now_ready
    pub same_seats : now_found.seats ≡ found.seats
    pub no_lower : found.config.sequence ≤ now_found.config.sequence
    pub is_last : now_found.config.sequence ≡ last_sequence found.config.sequence steps
    pub are_written : tells → AreWritten old.sizes old.held steps new.held
    pub none_asked : steps ≡ [] → new.sectors_asked ≡ old.sectors_asked
    pub others_left : tells → AddsNothing old new (slots_of found.seats)
    -- where members are absent their loss was issued
    pub loses : some found.absent ≡ true → 1 ≤ length (changes_in found steps)
    pub at_end : tells → new.tells_left → ForHistories (λ group past left.
        (now : Past (groups group)) × IsOver group past (is_read left) found (changes_in found steps) now × StandsReady group now new now_found now_ready)
