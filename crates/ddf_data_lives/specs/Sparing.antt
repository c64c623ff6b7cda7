-- Lives of any length in which no call fails the disk of one slot.
use Rattle.std.specs.Prelude.{◌≡◌, ℕ, zero, suc, Bool, true, false, List, Some}
use Rattle.ddf_bay.specs.Memory.{disks_of}
use Rattle.ddf_bay.specs.Sectors.{Image}
use Rattle.ddf_bay.specs.declared.memory.MemoryBay.{MemoryBay}
use Rattle.ddf_plan.specs.declared.change.Change.{Change}
use Rattle.ddf_plan.specs.Lose.{is_among}
use Rattle.ddf_plan.specs.Members.{lost_by}
use Rattle.ddf_history.specs.Groups.{Disk}
use Rattle.ddf_history.specs.History.{KeepsAcked}
use Rattle.ddf_history_memory.specs.Histories.{GoesWell, IsCutAt}
use Rattle.ddf_data_events.specs.Calls.{EndsAt, HasComeTo, MayPromise, PromisesThen}
use Rattle.ddf_data_events.specs.Calls.Call.{Changes}
use Rattle.ddf_data_events.specs.Moments.{Moment}
use Rattle.ddf_data_life.specs.Histories.{CallOn, exit_on, read_as}
use Rattle.ddf_data_lives.specs.Standing.{Behind, IsNext, Stands, Turn}
use Rattle.ddf_data_lives.specs.Standing.Turn.{Cut, Ended}

-- A call asks for no change that fails this disk, as a `fail` of it does. Calls of any other kind ask for none that fails a disk.
abbrev pub FailsNot : (group : List ℕ) (disk : Disk) (old : Moment group MemoryBay) → CallOn group old → Type 0
FailsNot group disk old (Changes call) = (change : Change) → call.change ≡ Some change → is_among (lost_by change) disk.reference ≡ false
FailsNot group disk old other = Unit {0}

module _ (group : List ℕ) (kept : ℕ) (disk : Disk) where
  -- a turn that is no call: a stop between calls, another slot that is unplugged, or a disk that comes back
  abbrev pub is_no_call : {old : Moment group MemoryBay} → Turn group kept disk old → Bool
  is_no_call (Ended call well told keeps) = false
  is_no_call (Cut call well image cut was_left is_cut told plugged keeps) = false
  is_no_call turn = true

  -- What comes next: a call that doesn't fail the disk, to its end or cut by a stop, or what is no call.
  pub data Happening (old : Moment group MemoryBay) : Type 0 where
    Done : (call : CallOn group old) → GoesWell old.bay (exit_on group old call) → (disks_of (exit_on group old call)).tells_left → FailsNot group disk old call → Happening old
    Broken : (call : CallOn group old) → GoesWell old.bay (exit_on group old call) → (image : Image) (cut : MemoryBay) → (disks_of (exit_on group old call)).left_since (disks_of old.bay).moment image
        → IsCutAt old.bay image cut → (disks_of cut).tells_left → ((disks_of cut).gone kept → ⊥) → FailsNot group disk old call → Happening old
    Between : (turn : Turn group kept disk old) → is_no_call turn ≡ true → Happening old

  -- the moment behind it
  abbrev pub ComesTo : (old : Moment group MemoryBay) → Happening old → Moment group MemoryBay → Type 0
  ComesTo old (Done call well told spares) new =
      IsNext group kept disk new (exit_on group old call) (EndsAt {tells = Unit {0}} tt disks_of (Unit {0}) read_as group call)
      (PromisesThen {tells = Unit {0}} tt disks_of (Unit {0}) read_as group call)
  ComesTo old (Broken call well image cut was_left is_cut told plugged spares) new =
      IsNext group kept disk new cut (HasComeTo {tells = Unit {0}} tt disks_of (Unit {0}) read_as group call) (MayPromise {tells = Unit {0}} tt disks_of (Unit {0}) read_as group call)
  ComesTo old (Between turn is) new = Behind group kept disk old turn new

  -- The disk stands, and stands whatever happens, so many times: a moment follows each to which what was acknowledged stays.
  abbrev pub LastsFor : ℕ → Moment group MemoryBay → Type 0
  LastsFor zero moment = Stands group kept disk moment
  LastsFor (suc more) moment =
      Stands group kept disk moment
      × ((happening : Happening moment) → (next : Moment group MemoryBay) × ComesTo moment happening next × KeepsAcked moment.past next.past × LastsFor more next)
