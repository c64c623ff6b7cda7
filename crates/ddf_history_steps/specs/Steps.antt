-- What the calls that write a group's steps, one by one, mean to a history of it.
use Rattle.std.specs.Prelude.{◌≡◌, ◌⊎◌, ℕ, ◌+◌, ◌<◌, ◌^◌, Bool, true, false, List, [], ◌∷◌, length, map, Option, None, Ok, if◌then◌else◌, option_to_list}
use Rattle.std.specs.List.{AllByRecursion}
use Rattle.ddf_bay.specs.Moments.{SpendsOver, StopsLeave}
use Rattle.ddf_bay.specs.Sectors.{IsLeft}
use Rattle.ddf_bay.specs.State.{BayState}
use Rattle.ddf_config.specs.Configuration.{Configuration}
use Rattle.ddf_config.specs.Seats.{SeatsFit}
use Rattle.ddf_plan.specs.declared.change.Change.{Change}
use Rattle.ddf_update.specs.Changes.{AreChanged, IsLeftChangingAll, MayChangeAll, SlotChange}
use Rattle.ddf_update.specs.Prepared.{all_calls, all_sectors}
use Rattle.ddf_history.specs.Groups.{groups}
use Rattle.ddf_history.specs.Issued.{Past, acknowledge, issue}
use Rattle.ddf_history.specs.Promise.{IsKept}
use Rattle.ddf_history.specs.Scenes.{scene_of}
use Rattle.ddf_steps.specs.Asked.{CanBeAsked}
use Rattle.ddf_steps.specs.Committed.{AreSettled, LeavesSynced, slots_of, synced}
use Rattle.ddf_recovery.specs.Committed.{IsReadyFor, WasReadied, next_slots, next_updates, recovery_slots, recovery_updates}
use Rattle.ddf_seats.specs.Group.{GroupValue}
use Rattle.ddf_assembly.specs.Group.{group_of}
use Rattle.ddf_assembly.specs.Held.{StandUnder}
use Rattle.ddf_assembly.specs.Reading.{HaveAnchors}
use Rattle.ddf_recovery.specs.Ready.{ReadyValue}
use Rattle.ddf_steps.specs.Ready.{steps_from}
use Rattle.ddf_recovery.specs.Recovery.{recovery_of}
use Rattle.ddf_seats.specs.Seated.{seated}
use Rattle.ddf_assembly.specs.Slots.{newest_from}
use Rattle.ddf_history_steps.specs.AtEnd.{IsAtEnd}
use Rattle.ddf_history_steps.specs.Going.{changes_in}
use Rattle.ddf_history_steps.specs.Kept.{AreAllKept}

-- ---- what the calls before them answered

-- The newest copies of the slots of these disks that aren't left out give the group, as `assemble` answers it, and this was readied for changes
-- of it, as `make_ready` answers.
pub record WasTaken {D : Type 0} (disks : BayState D) (left : List Bool) (named : Option (List ℕ)) (found : GroupValue) (asked : List Change) (timestamp : ℕ) (ready : ReadyValue) : Type 0 where
  pub every_slot : length left ≡ length disks.sizes
  pub is_found : group_of (newest_from disks 0 left) named ≡ Ok found
  pub stand : StandUnder disks found.newest
  pub under : HaveAnchors disks.sizes found.newest
  pub fit : SeatsFit disks.sizes found.seats
  pub can_be_asked : AllByRecursion CanBeAsked asked
  pub was_readied : WasReadied found asked timestamp ready

-- ---- what they promise

-- What `recover` promises of disks whose bay tells what they hold, where it is done or not.
pub record IsRecovery {D : Type 0} (old new : BayState D) (found : GroupValue) (ready : ReadyValue) (done : Bool) : Type 0 where
  pub any_moment : (seat : ℕ → SlotChange) → MayChangeAll (synced old (slots_of found.seats)) (recovery_slots ready) seat (recovery_updates ready)
      → StopsLeave old new (λ image. IsLeft old.may_hold image ⊎ IsLeftChangingAll (synced old (slots_of found.seats)) (recovery_slots ready) seat (recovery_updates ready) image)
  pub changed : done ≡ true → (seat : ℕ → SlotChange) → MayChangeAll (synced old (slots_of found.seats)) (recovery_slots ready) seat (recovery_updates ready)
      → AreChanged (synced old (slots_of found.seats)) new (recovery_slots ready) seat (recovery_updates ready) (length (recovery_slots ready))
  pub settled : done ≡ true → (seat : ℕ → SlotChange) → MayChangeAll (synced old (slots_of found.seats)) (recovery_slots ready) seat (recovery_updates ready)
      → AreSettled new found.seats (length found.seats)
  pub ends : done ≡ false → (seat : ℕ → SlotChange) → MayChangeAll (synced old (slots_of found.seats)) (recovery_slots ready) seat (recovery_updates ready)
      → LeavesSynced old new (slots_of found.seats) (recovery_slots ready) seat (recovery_updates ready)
  pub spends : SpendsOver old new (all_sectors (recovery_updates ready)) (length found.seats + all_calls (recovery_updates ready))

-- What `commit` promises of them.
pub record IsCommit {D : Type 0} (old new : BayState D) (ready : ReadyValue) (done : Bool) : Type 0 where
  pub any_moment : (seat : ℕ → SlotChange) → MayChangeAll old (next_slots ready) seat (next_updates ready)
      → StopsLeave old new (IsLeftChangingAll old (next_slots ready) seat (next_updates ready))
  pub changed : done ≡ true → (seat : ℕ → SlotChange) → MayChangeAll old (next_slots ready) seat (next_updates ready)
      → AreChanged old new (next_slots ready) seat (next_updates ready) (length (next_slots ready))
  pub spends : SpendsOver old new (all_sectors (next_updates ready)) (all_calls (next_updates ready))

-- ---- what they mean to a history

-- the change that a recovery issues, where it issues one
abbrev pub recovery_changes : (timestamp : ℕ) → GroupValue → List Configuration
recovery_changes timestamp found = changes_in found (option_to_list (recovery_of timestamp found))

-- what is ready once the recovery was written
abbrev pub behind_recovery : ReadyValue → ReadyValue
behind_recovery ready = record ready { recovery = None }

module _ (group : List ℕ) where
  -- A group stands at the end of a history, and these steps are ready for it: they are those of changes of it, one after another.
  pub record StandsReady {D : Type 0} (past : Past (groups group)) (disks : BayState D) (found : GroupValue) (ready : ReadyValue) : Type 0 where
    pub at_end : IsAtEnd group past disks found
    pub is_ready : IsReadyFor found ready
    pub asked : List Change
    pub can_be_asked : AllByRecursion CanBeAsked asked
    pub timestamp : ℕ
    pub time : timestamp < 2 ^ 32
    pub are_steps : steps_from timestamp None asked found.config (seated found) ≡ Ok (map (λ one. one.step) ready.steps)

  -- the history once the next step is issued, where one is left
  abbrev pub with_next : Past (groups group) → ReadyValue → Past (groups group)
  with_next past ready = elim ready.steps [ [] ↦ past | one ∷ others ↦ issue past one.step.config ]

  -- and once it is acknowledged
  abbrev pub behind_next : Past (groups group) → ReadyValue → Past (groups group)
  behind_next past ready = elim ready.steps [ [] ↦ past | one ∷ others ↦ acknowledge (issue past one.step.config) (length past.changes.issued) ]

  -- Whatever a stop leaves, at any moment since the call's entry, shows what it should with the next step issued; and so does, at its end,
  -- whatever a stop may leave then, where the bay still tells of it. Where the call is done the step is acknowledged.
  pub record KeepsStep {D : Type 0} (old new : BayState D) (past : Past (groups group)) (ready : ReadyValue) (done : Bool) : Type 0 where
    pub any_moment : StopsLeave old new (λ image. IsKept (with_next past ready) (scene_of old.sizes image))
    pub ends : new.tells_left → AreAllKept group (if done then behind_next past ready else with_next past ready) new
