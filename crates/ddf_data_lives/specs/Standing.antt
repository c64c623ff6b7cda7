-- Histories of a group and of its data on disks in memory, of any length, through which the disk of one slot can be read and is a member.
use Rattle.std.specs.Prelude.{◌≡◌, ℕ, zero, suc, ◌<◌, ◌==◌, true, false, Bool, List, length, Some, slice_get}
use Rattle.ddf_bay.specs.Memory.{disks_of, state_of, without}
use Rattle.ddf_bay.specs.Sectors.{Image}
use Rattle.ddf_bay.specs.declared.memory.MemoryBay.{MemoryBay}
use Rattle.ddf_config.specs.Configuration.{Configuration}
use Rattle.ddf_data_group.specs.Grouped.{Promises}
use Rattle.ddf_history.specs.Groups.{Disk, groups, has_current, has_missing}
use Rattle.ddf_history.specs.History.{KeepsAcked}
use Rattle.ddf_history.specs.Issued.{IsSince, Past, give_back}
use Rattle.ddf_history_memory.specs.Histories.{GoesWell, IsCutAt, IsStopped}
use Rattle.ddf_data_events.specs.Calls.{EndsAt, HasComeTo, MayPromise, PromisesThen, issued_in}
use Rattle.ddf_data_events.specs.Moments.{Moment}
use Rattle.ddf_data_life.specs.Histories.{CallOn, IsDataHistoryOn, course_on, exit_on, read_as}

module _ (group : List ℕ) where
  -- the configurations that a call issues
  abbrev pub changes_of : (old : Moment group MemoryBay) → CallOn group old → List Configuration
  changes_of old call = issued_in {tells = Unit {0}} tt disks_of (Unit {0}) read_as group (course_on group old call)

module _ (group : List ℕ) (kept : ℕ) (disk : Disk) where
  -- The history holds all; the slot isn't unplugged, and its disk is a current member of each configuration since the last acknowledged one. Other slots may be unplugged.
  pub record Stands (moment : Moment group MemoryBay) : Type 0 where
    pub data_history : IsDataHistoryOn group moment
    pub same_disk : moment.past.disk kept ≡ disk
    pub current : (number : ℕ) (config : Configuration) → IsSince moment.past.changes number config → has_current config disk ≡ true
    pub plugged : (disks_of moment.bay).gone kept → ⊥
    pub there : kept < length (disks_of moment.bay).sizes

  -- each configuration that a call issues lists the disk as a current member
  abbrev pub KeepsDisk : (old : Moment group MemoryBay) → CallOn group old → Type 0
  KeepsDisk old call = (place : ℕ) (config : Configuration) → slice_get (changes_of group old call) place ≡ Some config → has_current config disk ≡ true

  -- what comes next: a call to its end, or cut by a stop; a stop between calls; another slot is unplugged; or a disk that is missing comes back
  pub data Turn (old : Moment group MemoryBay) : Type 0 where
    Ended : (call : CallOn group old) → GoesWell old.bay (exit_on group old call) → (disks_of (exit_on group old call)).tells_left → KeepsDisk old call → Turn old
    Cut : (call : CallOn group old) → GoesWell old.bay (exit_on group old call) → (image : Image) (cut : MemoryBay) → (disks_of (exit_on group old call)).left_since (disks_of old.bay).moment image
        → IsCutAt old.bay image cut → (disks_of cut).tells_left → ((disks_of cut).gone kept → ⊥) → KeepsDisk old call → Turn old
    Stopped : (cut : MemoryBay) (back : ℕ → Bool) → IsStopped old.bay cut back → ((slot : ℕ) → old.past.lost slot ≡ true → back slot ≡ false) → (disks_of cut).tells_left → ((disks_of cut).gone kept → ⊥)
        → Turn old
    Unplugged : (new : MemoryBay) (slot : ℕ) → state_of new ≡ without (state_of old.bay) slot → ((disks_of new).gone kept → ⊥) → Turn old
    Returned : (cut : MemoryBay) (slot : ℕ) → ((number : ℕ) (config : Configuration) → IsSince old.past.changes number config → has_missing config (old.past.disk slot) ≡ true)
        → IsStopped old.bay cut (λ other. other == slot) → (disks_of cut).tells_left → ((disks_of cut).gone kept → ⊥) → Turn old

  -- a moment: so far the history has come by then, this is the bay, and so is promised
  pub record IsNext (new : Moment group MemoryBay) (bay : MemoryBay) (Comes : Past (groups group) → Type 0) (Is : Promises → Type 0) : Type 0 where
    pub is_bay : new.bay ≡ bay
    pub comes : Comes new.past
    pub is_promised : Is new.promises

  abbrev pub Behind : (old : Moment group MemoryBay) → Turn old → Moment group MemoryBay → Type 0
  Behind old (Ended call well told keeps) new =
      IsNext new (exit_on group old call) (EndsAt {tells = Unit {0}} tt disks_of (Unit {0}) read_as group call) (PromisesThen {tells = Unit {0}} tt disks_of (Unit {0}) read_as group call)
  Behind old (Cut call well image cut was_left is_cut told plugged keeps) new =
      IsNext new cut (HasComeTo {tells = Unit {0}} tt disks_of (Unit {0}) read_as group call) (MayPromise {tells = Unit {0}} tt disks_of (Unit {0}) read_as group call)
  Behind old (Stopped cut back is away told plugged) new = IsNext new cut (λ now. now ≡ old.past) (λ promised. promised ≡ old.promises)
  Behind old (Unplugged bay slot is plugged) new = IsNext new bay (λ now. now ≡ old.past) (λ promised. promised ≡ old.promises)
  Behind old (Returned cut slot missing is told plugged) new = IsNext new cut (λ now. now ≡ give_back old.past slot) (λ promised. promised ≡ old.promises)

  -- The disk stands, and stands however the history goes on, for so many turns: a moment follows each to which what was acknowledged stays.
  abbrev pub StandsOn : ℕ → Moment group MemoryBay → Type 0
  StandsOn zero moment = Stands moment
  StandsOn (suc more) moment =
      Stands moment × ((turn : Turn moment) → (next : Moment group MemoryBay) × Behind moment turn next × KeepsAcked moment.past next.past × StandsOn more next)
