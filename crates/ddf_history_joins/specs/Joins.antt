-- What the call that writes the join of another group's disks means to a history of the group that they join.
use Rattle.std.specs.Prelude.{◌≡◌, ◌⊎◌, ℕ, ◌+◌, ◌<◌, ◌^◌, Bool, true, false, List, [], ◌∷◌, ◌++◌, length, slice_get, Option, Some, None, Ok, IfSome}
use Rattle.std.specs.List.{AllByRecursion}
use Rattle.std.specs.Str.{bytes_eq}
use Rattle.ddf_bay.specs.Moments.{SpendsOver, StopsLeave}
use Rattle.ddf_bay.specs.Sectors.{Image, IsLeft}
use Rattle.ddf_bay.specs.State.{BayState}
use Rattle.ddf_config.specs.declared.seat.Seat.{Seat}
use Rattle.ddf_config.specs.Seats.{SeatsFit}
use Rattle.ddf_config.specs.Configuration.{Configuration}
use Rattle.ddf_update.specs.Changes.{AreChanged, IsLeftChangingAll, MayChangeAll, SlotChange}
use Rattle.ddf_update.specs.Prepared.{all_calls, all_sectors}
use Rattle.ddf_view.specs.View.{View, find_disk, view_of}
use Rattle.ddf_history.specs.Reading.{IsCopyOf, Scene, Shown, ShowsGroup}
use Rattle.ddf_history.specs.Reading.Shown.{One}
use Rattle.ddf_history.specs.Groups.{Disk, Shows, disk_of, groups, has_current, has_missing}
use Rattle.ddf_history.specs.Issued.{Past, acknowledge, is_away, issue}
use Rattle.ddf_history.specs.Promise.{IsKept, IsOutside, IsRight}
use Rattle.ddf_history.specs.Scenes.{scene_of}
use Rattle.ddf_history.specs.Steps.{IsPart}
use Rattle.ddf_seats.specs.declared.seated.Seated.{Seated}
use Rattle.ddf_assembly.specs.Assembled.{IsAssembledGroup}
use Rattle.ddf_steps.specs.Committed.{AreSettled, LeavesSynced, slots_of, synced}
use Rattle.ddf_recovery.specs.Committed.{group_recovered}
use Rattle.ddf_seats.specs.Group.{GroupValue, is_kept}
use Rattle.ddf_assembly.specs.Group.{group_of}
use Rattle.ddf_assembly.specs.Held.{StandUnder}
use Rattle.ddf_joining.specs.Importing.{AreApart, IsOfAnother, join_slots, join_updates, was_readied}
use Rattle.ddf_joining.specs.Joining.{config_joining, join_config, join_disks, joining}
use Rattle.ddf_joining.specs.JoinValue.{JoinValue}
use Rattle.ddf_assembly.specs.Reading.{HaveAnchors}
use Rattle.ddf_recovery.specs.Ready.{ReadyValue}
use Rattle.ddf_recovery.specs.Recovery.{disks_recovered}
use Rattle.ddf_seats.specs.Seated.{seated}
use Rattle.ddf_assembly.specs.Slots.{newest_from}
use Rattle.ddf_steps.specs.Trying.{Follows}
use Rattle.ddf_history_steps.specs.AtEnd.{IsAtEnd, IsMember}
use Rattle.ddf_history_steps.specs.Kept.{AreAllKept, is_slot}
use Rattle.ddf_history_steps.specs.Steps.{recovery_changes}

-- ---- what the call promises

-- What `write_join` promises of disks whose bay tells what they hold, where it is done or not.
pub record IsImport {D : Type 0} (old new : BayState D) (join : JoinValue) (done : Bool) : Type 0 where
  pub any_moment : (seat : ℕ → SlotChange) → MayChangeAll (synced old (slots_of join.joining)) (join_slots join) seat (join_updates join)
      → StopsLeave old new (λ image. IsLeft old.may_hold image ⊎ IsLeftChangingAll (synced old (slots_of join.joining)) (join_slots join) seat (join_updates join) image)
  pub changed : done ≡ true → (seat : ℕ → SlotChange) → MayChangeAll (synced old (slots_of join.joining)) (join_slots join) seat (join_updates join)
      → AreChanged (synced old (slots_of join.joining)) new (join_slots join) seat (join_updates join) (length (join_slots join))
  pub settled : done ≡ true → (seat : ℕ → SlotChange) → MayChangeAll (synced old (slots_of join.joining)) (join_slots join) seat (join_updates join)
      → AreSettled new join.joining (length join.joining)
  pub ends : done ≡ false → (seat : ℕ → SlotChange) → MayChangeAll (synced old (slots_of join.joining)) (join_slots join) seat (join_updates join)
      → LeavesSynced old new (slots_of join.joining) (join_slots join) seat (join_updates join)
  pub spends : SpendsOver old new (all_sectors (join_updates join)) (length join.joining + all_calls (join_updates join))

-- ---- what the calls before it answered

-- Both groups were assembled from these disks, one after the other, and this was readied for the import of the second into the first, which keeps
-- the newest copy of each slot that joins.
pub record WereBothTaken {D : Type 0} (disks : BayState D) (left also_left : List Bool) (named also_named : Option (List ℕ)) (native other : GroupValue) (timestamp : ℕ)
    (recovery : ReadyValue) (join : JoinValue) : Type 0 where
  pub every_slot : length left ≡ length disks.sizes
  pub every_slot_too : length also_left ≡ length disks.sizes
  pub is_found : group_of (newest_from disks 0 left) named ≡ Ok native
  pub is_found_too : group_of (newest_from disks 0 also_left) also_named ≡ Ok other
  pub stand : StandUnder disks native.newest
  pub under : HaveAnchors disks.sizes native.newest
  pub under_too : HaveAnchors disks.sizes other.newest
  pub fit : SeatsFit disks.sizes native.seats
  pub assembled : IsAssembledGroup native
  pub other_assembled : IsAssembledGroup other
  pub are_kept : (place : ℕ) (seat : Seat) → slice_get other.seats place ≡ Some seat → is_kept native.newest seat.slot ≡ true
  pub time : timestamp < 2 ^ 32
  pub is_readied : joining timestamp native other ≡ Ok (was_readied recovery join)
  pub none_behind : recovery.steps ≡ []
  pub recovers : IfSome recovery.recovery (Follows (seated native))
  pub follows : Follows (join_disks timestamp native other) join.one

-- ---- the group whose disks join

-- A slot shows what a history of a group says that it should; or its disk is none of that group any more: it shows a copy of another one alone.
abbrev pub HasLeft : (former : List ℕ) → Past (groups former) → Shown View → (slot : ℕ) → Type 0
HasLeft former past shown slot =
    IsRight past.changes (past.disk slot) shown ⊎ ((copy : View) × (shown ≡ One copy) × (bytes_eq former copy.group ≡ false))

-- ---- the disks that join

-- Each member that the other group brings along as a current one has its seat there, and each of its seats is that of such a member.
pub record BringsMembers (other : GroupValue) : Type 0 where
  pub are_members : (place : ℕ) (disk : Seated) → slice_get (seated other) place ≡ Some disk → IsMember (config_joining other) disk
  pub are_seated : (disk : Disk) → has_current (config_joining other) disk ≡ true
      → (place : ℕ) × (one : Seated) × (slice_get (seated other) place ≡ Some one) × (disk_of (view_of one.copy) ≡ disk)

module _ (group : List ℕ) where
  -- A history admits a join of disks, by what the slots show. Each copy of a slot whose disk joins names the disk in the slot, and no other
  -- slot shows a copy that names a disk that joins. A disk that joins is in one slot. The table of a slot that shows the group, and whose
  -- disk is no current member, doesn't list the reference of such a disk. And no slot's member leaves the table that has come back from a
  -- loss.
  pub record AdmitsJoin (past : Past (groups group)) (scene : Scene View) (slots : List ℕ) (brought next : Configuration) : Type 0 where
    pub names : (slot : ℕ) (copy : View) → IsCopyOf (scene slot) copy → (is_slot slots slot ≡ true) ⊎ (has_current brought (disk_of copy) ≡ true) → disk_of copy ≡ past.disk slot
    pub alone : (s t : ℕ) → has_current brought (past.disk s) ≡ true → past.disk s ≡ past.disk t → s ≡ t
    pub unlisted : (slot : ℕ) (copy : View) (disk : Disk) → is_away past slot ≡ false → IsCopyOf (scene slot) copy → ShowsGroup (groups group) (scene slot)
        → IsOutside past.changes (past.disk slot) (scene slot) → has_current brought disk ≡ true → find_disk disk.reference copy.disks ≡ None
    pub gone : (slot : ℕ) → past.returned slot ≡ true → has_missing next (past.disk slot) ≡ true

  -- What is asked of a history that admits the join of another group, whatever a stop leaves of the disks once the slots that join are synced.
  abbrev pub AdmitsImport : {D : Type 0} → Past (groups group) → BayState D → (native other : GroupValue) → Type 0
  AdmitsImport past disks native other =
      (image : Image) → IsLeft (synced disks (slots_of other.seats)).may_hold image → AdmitsJoin past (scene_of disks.sizes image) (slots_of other.seats) (config_joining other) (join_config native other)

  -- What is asked of a history that admits a call by which another group joins, by what the slots show at its entry: the same, where a disk that
  -- isn't a current member of what the call assembled is none.
  pub record AdmitsBoth (past : Past (groups group)) (scene : Scene View) (native other : GroupValue) : Type 0 where
    pub names : (slot : ℕ) (copy : View) → IsCopyOf (scene slot) copy → (is_slot (slots_of other.seats) slot ≡ true) ⊎ (has_current (config_joining other) (disk_of copy) ≡ true)
        → disk_of copy ≡ past.disk slot
    pub alone : (s t : ℕ) → has_current (config_joining other) (past.disk s) ≡ true → past.disk s ≡ past.disk t → s ≡ t
    pub unlisted : (slot : ℕ) (copy : View) (disk : Disk) → is_away past slot ≡ false → IsCopyOf (scene slot) copy → ShowsGroup (groups group) (scene slot)
        → has_current native.config (past.disk slot) ≡ false → has_current (config_joining other) disk ≡ true → find_disk disk.reference copy.disks ≡ None
    pub gone : (slot : ℕ) → past.returned slot ≡ true → has_missing (join_config native other) (past.disk slot) ≡ true

  -- whatever a stop may leave of the disks then
  abbrev pub AdmitsCall : {D : Type 0} → Past (groups group) → BayState D → (native other : GroupValue) → Type 0
  AdmitsCall past disks native other = (image : Image) → IsLeft disks.may_hold image → AdmitsBoth past (scene_of disks.sizes image) native other

  -- A group stands at the end of a history, behind its recovery, and the join that was readied with that is ready: the group knows of the
  -- slots that join what the other group does, they are none of its own, and they don't show it.
  pub record StandsToJoin {D : Type 0} (past : Past (groups group)) (disks : BayState D) (timestamp : ℕ) (native other : GroupValue) (recovery : ReadyValue) (join : JoinValue) : Type 0 where
    pub at_end : IsAtEnd group past disks (group_recovered native recovery.recovery)
    pub time : timestamp < 2 ^ 32
    pub assembled : IsAssembledGroup native
    pub other_assembled : IsAssembledGroup other
    pub is_readied : joining timestamp native other ≡ Ok (was_readied recovery join)
    pub none_behind : recovery.steps ≡ []
    pub recovers : IfSome recovery.recovery (Follows (seated native))
    pub follows : Follows (join_disks timestamp native other) join.one
    pub same_newest : AllByRecursion (λ disk. slice_get (group_recovered native recovery.recovery).newest disk.seat.slot ≡ slice_get other.newest disk.seat.slot) (seated other)
    pub are_apart : AreApart (disks_recovered timestamp native) (seated other)
    pub of_another : IsOfAnother (join_config native other) (seated other)
    pub brings : BringsMembers other
    pub admits : (image : Image) → IsLeft (synced disks (slots_of join.joining)).may_hold image
        → AdmitsJoin past (scene_of disks.sizes image) (slots_of join.joining) (config_joining other) join.one.step.config

  -- ---- what it means to the history

  -- what the call issues: the loss of absent members, where there are some, and the join
  abbrev pub import_changes : (timestamp : ℕ) → (native : GroupValue) → JoinValue → List Configuration
  import_changes timestamp native join = recovery_changes timestamp native ++ join.one.step.config ∷ []

  -- the history once the join is issued, and once it is acknowledged
  abbrev pub with_join : Past (groups group) → JoinValue → Past (groups group)
  with_join past join = issue past join.one.step.config

  abbrev pub behind_join : Past (groups group) → JoinValue → Past (groups group)
  behind_join past join = acknowledge (issue past join.one.step.config) (length past.changes.issued)

  -- the join is not yet issued, or it is
  abbrev pub GoesToJoin : Past (groups group) → JoinValue → Past (groups group) → Type 0
  GoesToJoin past join now = (now ≡ past) ⊎ (now ≡ with_join past join)

  -- where it ends: where it was done it is acknowledged
  abbrev pub EndsJoin : Past (groups group) → JoinValue → (done : Bool) → Past (groups group) → Type 0
  EndsJoin past join true now = now ≡ behind_join past join
  EndsJoin past join false now = GoesToJoin past join now

  -- A slot shows what it showed, of two copies perhaps one alone; or it shows the group's new configuration alone.
  abbrev pub IsTakenOver : Configuration → (before after : Scene View) → ℕ → Type 0
  IsTakenOver next before after slot =
      (after slot ≡ before slot) ⊎ IsPart (before slot) (after slot)
      ⊎ ((copy : View) × (after slot ≡ One copy) × (bytes_eq group copy.group ≡ true) × Shows copy next)

  -- Whatever a stop leaves, at any moment since the call's entry, shows what it should, with the join issued or not yet; and so does, at
  -- its end, whatever a stop may leave then, where the bay still tells of it. From the syncs of the joining slots on each of them shows its former
  -- group, or the new configuration alone.
  pub record KeepsJoin {D : Type 0} (old new : BayState D) (past : Past (groups group)) (join : JoinValue) (done : Bool) : Type 0 where
    pub any_moment : StopsLeave old new (λ image. (now : Past (groups group)) × GoesToJoin past join now × IsKept now (scene_of old.sizes image))
    pub ends : new.tells_left → (now : Past (groups group)) × EndsJoin past join done now × AreAllKept group now new
    pub taken_over : StopsLeave old new (λ image. IsLeft old.may_hold image
        ⊎ ((slot : ℕ) → is_slot (slots_of join.joining) slot ≡ true → IsTakenOver join.one.step.config (scene_of old.sizes old.held) (scene_of old.sizes image) slot))
