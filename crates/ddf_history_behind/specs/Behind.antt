-- How far behind the newest configuration of a history a disk may be that shows an older one.
use Rattle.std.specs.Prelude.{◌≡◌, ◌≢◌, ◌⊎◌, ℕ, ◌+◌, ◌*◌, ◌≤◌, ◌&&◌, not, Bool, true, false, List, [], ◌∷◌, count_by, length, map, Option, Some, Ok, slice_get}
use Rattle.std.specs.List.{AllByRecursion}
use Rattle.ddf_bay.specs.Moments.{StopsLeave}
use Rattle.ddf_bay.specs.State.{BayState}
use Rattle.ddf_config.specs.declared.member.Member.{Member}
use Rattle.ddf_config.specs.Configuration.{Configuration}
use Rattle.ddf_config.specs.Members.{is_current}
use Rattle.ddf_plan.specs.declared.change.Change.{Change}
use Rattle.ddf_plan.specs.declared.change.Change.TheVariants.{Lose}
use Rattle.ddf_view.specs.View.{View}
use Rattle.ddf_history.specs.Reading.{Scene}
use Rattle.ddf_history.specs.Groups.{Disk, groups, has_missing}
use Rattle.ddf_history.specs.Issued.{Changes, Past, IsSince, is_away}
use Rattle.ddf_history.specs.Promise.{IsKept, IsLagging}
use Rattle.ddf_history.specs.Answer.{HasMember, IsReadable}
use Rattle.ddf_history.specs.Scenes.{scene_of}
use Rattle.ddf_seats.specs.declared.seated.Seated.{Seated}
use Rattle.ddf_seats.specs.Group.{GroupValue}
use Rattle.ddf_seats.specs.Seated.{seated}
use Rattle.ddf_assembly.specs.Group.{group_of}
use Rattle.ddf_assembly.specs.Slots.{newest_from}
use Rattle.ddf_recovery.specs.Stray.{is_stale}
use Rattle.ddf_steps.specs.Steps.{Step}
use Rattle.ddf_recovery.specs.Ready.{ReadyValue}
use Rattle.ddf_joining.specs.JoinValue.{JoinValue}
use Rattle.ddf_history_steps.specs.Course.{IsUnderWay}
use Rattle.ddf_history_steps.specs.Going.{Ends, Goes}
use Rattle.ddf_history_steps.specs.Kept.{AreAllKept, is_read}
use Rattle.ddf_history_joins.specs.Joins.{EndsJoin, GoesToJoin}

-- ---- two configurations

-- the disk that an entry of the table of members is of
abbrev pub disk_in : (ℕ × Member) → Disk
disk_in entry = record { guid = entry.1.guid; reference = entry.0 }

-- a member that the later configuration lists as missing, and the earlier one doesn't
abbrev pub is_lost_between : (earlier : Configuration) → (ℕ × Member) → Bool
is_lost_between earlier entry = entry.1.missing && not (has_missing earlier (disk_in entry))

-- one change, and two numbers for each such member
abbrev pub most_between : (earlier later : Configuration) → ℕ
most_between earlier later = 1 + 2 * count_by (is_lost_between earlier) later.members

-- ---- steps

-- A loss has members. That of none would take two numbers, and no disk would tell of it.
abbrev pub LosesSome : Change → Type 0
LosesSome (Lose references) = references ≢ []
LosesSome other = Unit {0}

-- What is absent of a group are current members, as of each that is assembled from disks.
abbrev pub AbsentAreCurrent : GroupValue → Type 0
AbsentAreCurrent found = AllByRecursion (λ reference. is_current found.config.members reference ≡ true) found.absent

-- each of these steps is no further on than that from the configuration before it
abbrev pub AreNearSteps : Configuration → List Step → Type 0
AreNearSteps config [] = Unit {0}
AreNearSteps config (step ∷ others) = (step.config.sequence ≤ config.sequence + most_between config step.config) × AreNearSteps step.config others

-- ---- histories

module _ (group : List ℕ) where
  -- Of the configurations since the last acknowledged one none is further on than that from an earlier one.
  abbrev pub AreNear : Changes (groups group) → Type 0
  AreNear changes = (i j : ℕ) (earlier later : Configuration) → IsSince changes i earlier → IsSince changes j later → i ≤ j → later.sequence ≤ earlier.sequence + most_between earlier later

  -- a change of this engine is acknowledged, or no slot shows what it showed before the history began
  abbrev pub NoneLags : Past (groups group) → Scene View → Type 0
  NoneLags past scene = (past.changes.own_from ≤ past.changes.acked) ⊎ ((slot : ℕ) → is_away past slot ≡ false → IsLagging past.changes (past.disk slot) (scene slot) → ⊥)

  -- Of what is assembled of these disks, a current member among those that are read, no seat is taken for an older image.
  abbrev pub NoneStale : {D : Type 0} → Past (groups group) → BayState D → Type 0
  NoneStale past disks = (left : List Bool) → length left ≡ length disks.sizes → IsReadable past (scene_of disks.sizes disks.held) (is_read left)
      → HasMember past (scene_of disks.sizes disks.held) (is_read left) → (named : Option (List ℕ)) (found : GroupValue) → group_of (newest_from disks 0 left) named ≡ Ok found
      → found.config.group ≡ group → (place : ℕ) (disk : Seated) → slice_get (seated found) place ≡ Some disk → (noted : Bool) → is_stale noted found.config disk ≡ false

  -- ---- calls

  -- A call keeps the history so: at any moment since its entry, and at its end.
  pub record KeepsNear {D : Type 0} (old new : BayState D) (past : Past (groups group)) (left : List Bool) (found : GroupValue) (changes : List Configuration) (done : Bool) : Type 0 where
    pub any_moment : StopsLeave old new (λ image. (now : Past (groups group)) × Goes group past (is_read left) found changes now × AreNear now.changes × IsKept now (scene_of old.sizes image))
    pub ends : new.tells_left → (now : Past (groups group)) × Ends group past (is_read left) found changes done now × AreNear now.changes × AreAllKept group now new

  -- A call on its way kept it so until now, and each of the steps that are left is near the one before it.
  pub record IsNearWay {D : Type 0} (old disks : BayState D) (past : Past (groups group)) (left : List Bool) (found : GroupValue) (changes : List Configuration)
      (now_found : GroupValue) (ready : ReadyValue) : Type 0 where
    pub way : IsUnderWay group old disks past left found changes now_found ready
    pub any_moment : StopsLeave old disks (λ image. (now : Past (groups group)) × Goes group past (is_read left) found changes now × AreNear now.changes × IsKept now (scene_of old.sizes image))
    pub steps : AreNearSteps now_found.config (map (λ one. one.step) ready.steps)

  -- A join keeps it so.
  pub record KeepsNearJoin {D : Type 0} (old new : BayState D) (past : Past (groups group)) (join : JoinValue) (done : Bool) : Type 0 where
    pub any_moment : StopsLeave old new (λ image. (now : Past (groups group)) × GoesToJoin group past join now × AreNear now.changes × IsKept now (scene_of old.sizes image))
    pub ends : new.tells_left → (now : Past (groups group)) × EndsJoin group past join done now × AreNear now.changes × AreAllKept group now new
