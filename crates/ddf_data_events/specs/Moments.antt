-- Moments in the history of a group and of its data.
use Rattle.std.specs.Prelude.{ℕ, ◌<◌, ◌^◌, List}
use Rattle.ddf_bay.specs.State.{BayState}
use Rattle.ddf_data_group.specs.Grouped.{Promises}
use Rattle.ddf_history.specs.Groups.{groups}
use Rattle.ddf_history.specs.Issued.{Past}
use Rattle.ddf_history_steps.specs.Kept.{AreAllKept}
use Rattle.ddf_data_history.specs.Carried.{IsAllData}
use Rattle.ddf_data_calls.specs.Floors.{AllHaveFloors}

-- A moment: what was issued and lost by then, the bay with what a stop may leave of it, what is promised of the group's arrays, and the floor of each slot's disk.
pub record Moment (group : List ℕ) (B : Type 0) : Type 0 where
  pub past : Past (groups group)
  pub bay : B
  pub promises : Promises
  pub floor : ℕ → ℕ
  pub small : (slot : ℕ) → floor slot < 2 ^ 64

-- Whatever a stop may leave then shows what it should, and keeps the data that are promised; and the disk of each member has its floor.
pub record KeepsAll {group : List ℕ} {B : Type 0} (disks : B → BayState B) (moment : Moment group B) : Type 0 where
  pub shows : AreAllKept group moment.past (disks moment.bay)
  pub keeps : IsAllData group moment.past moment.floor (disks moment.bay) moment.promises
  pub floored : AllHaveFloors group moment.past (disks moment.bay) moment.floor
