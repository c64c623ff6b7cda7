-- A settled group that all of its disks tell, as commands find it and leave it where nothing cuts them.
use Rattle.std.specs.Prelude.{◌≡◌, ℕ, suc, ◌<◌, Bool, true, List, [], ◌∷◌, fold, length, slice_get, slice_index, Option, Some, None, Ok, if◌then◌else◌}
use Rattle.std.specs.List.{AllByRecursion}
use Rattle.ddf_bay.specs.Sectors.{Image}
use Rattle.ddf_config.specs.declared.seat.Seat.{Seat}
use Rattle.ddf_config.specs.Configuration.{Configuration}
use Rattle.ddf_config.specs.Members.{is_current}
use Rattle.ddf_copy.specs.declared.newest_copy.Newest.{Newest}
use Rattle.ddf_copy.specs.Copies.{newest_at}
use Rattle.ddf_view.specs.View.{view_of}
use Rattle.ddf_history.specs.Groups.{ShowsFully}
use Rattle.ddf_steps.specs.Committed.{slots_of}
use Rattle.ddf_seats.specs.Group.{GroupValue}
use Rattle.ddf_assembly.specs.Group.{group_of}
use Rattle.ddf_assembly.specs.Reading.{AreNewest}
use Rattle.ddf_steps.specs.Ready.{group_after}
use Rattle.ddf_seats.specs.Seated.{seated}
use Rattle.ddf_assembly.specs.Settled.{IsSettledGroup}
use Rattle.ddf_steps.specs.Steps.{Step}
use Rattle.ddf_history_steps.specs.Floors.{HasFloor}
use Rattle.ddf_history_steps.specs.Kept.{is_slot}

-- ---- by its newest copies

-- Its newest copies give the group by its GUID, and it is settled. It has a disk, each of its disks shows its configuration fully, and no other slot has
-- a newest copy.
pub record IsToldByAll (group : GroupValue) : Type 0 where
  pub is_found : group_of group.newest (Some group.config.group) ≡ Ok group
  pub are_newest : AreNewest group.newest
  pub is_settled : IsSettledGroup group
  pub some_seat : 0 < length group.seats
  pub are_full : AllByRecursion (λ disk. ShowsFully (view_of disk.copy) group.config) (seated group)
  pub none_beside : (slot : ℕ) (one : Newest) → slice_get group.newest slot ≡ Some (Some one) → is_slot (slots_of group.seats) slot ≡ true

-- The disks of these seats are current members.
abbrev pub AreMembers : Configuration → List Seat → Type 0
AreMembers config seats = AllByRecursion (λ seat. is_current config.members seat.reference ≡ true) seats

-- the group once steps were written to it, one after another
abbrev pub group_behind : GroupValue → List Step → GroupValue
group_behind group steps = fold group_after group steps

-- ---- by what its disks hold

-- the newest copies of so many slots, of these sizes, from one on; none where a slot is left out
abbrev pub newest_held : (sizes : List ℕ) → Image → (slot : ℕ) → (left : List Bool) → List (Option Newest)
newest_held sizes image slot [] = []
newest_held sizes image slot (out ∷ left) = (if out then None else newest_at (slice_index sizes slot) (image slot)) ∷ newest_held sizes image (suc slot) left

-- The slots that aren't left out hold the newest copies of the group, which is told by all of them, and each of its disks has the floor of its seat.
pub record AreSettledAs (sizes : List ℕ) (image : Image) (left : List Bool) (group : GroupValue) : Type 0 where
  pub every_slot : length left ≡ length sizes
  pub are_held : newest_held sizes image 0 left ≡ group.newest
  pub is_told : IsToldByAll group
  pub have_floors : AllByRecursion (λ seat. HasFloor (slice_index sizes seat.slot) (image seat.slot) seat.floor) group.seats
