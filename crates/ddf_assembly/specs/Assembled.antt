-- A group as it is assembled, so that it can be recovered and changed.
use Rattle.std.specs.Prelude.{◌≡◌, ◌≢◌, ◌≤◌, true, false, slice_get, Some}
use Rattle.std.specs.List.{AllByRecursion}
use Rattle.ddf_copy.specs.declared.copy.DiskCopy.{DiskCopy}
use Rattle.ddf_copy.specs.declared.newest_copy.Newest.TheVariants.{Level, TwoDiffer}
use Rattle.ddf_config.specs.Members.{is_current}
use Rattle.ddf_view.specs.Reading.{read}
use Rattle.ddf_view.specs.Shows.{shows}
use Rattle.ddf_view.specs.View.{lists_itself, view_of}
use Rattle.ddf_seats.specs.declared.seated.Seated.{Seated}
use Rattle.ddf_seats.specs.Group.{GroupValue}
use Rattle.ddf_seats.specs.Leading.{lags, leading_disks, leading_views, some}
use Rattle.ddf_seats.specs.Seated.{seated, seats_in}
use Rattle.ddf_seats.specs.Changing.{AreCopies, SlotsRise}

-- The slot of a disk has its copy in both places, level, and this shows the configuration that the group is at.
pub record IsAsGroup (group : GroupValue) (disk : Seated) : Type 0 where
  pub is_newest : slice_get group.newest disk.seat.slot ≡ Some (Some (Level disk.copy))
  pub is_shown : shows group.config (view_of disk.copy) ≡ true

-- The copy by which a disk shows the group isn't of a greater sequence number than the group is at.
abbrev pub IsNoLater : GroupValue → Seated → Type 0
IsNoLater group disk = disk.copy.header.guid ≡ group.config.group → lists_itself (view_of disk.copy) ≡ true → disk.copy.header.sequence ≤ group.config.sequence

-- The two copies of a disk's slot don't differ where the one that stands for it shows the configuration.
abbrev pub HasOneNewest : GroupValue → Seated → Type 0
HasOneNewest group disk =
    shows group.config (view_of disk.copy) ≡ true → (primary secondary : DiskCopy) → slice_get group.newest disk.seat.slot ≢ Some (Some (TwoDiffer primary secondary))

-- The slots of the seats rise. Each seat has its copy, which can be written. The configuration is what the leading copies give; where
-- there is a seat, some disk leads, and none shows the group by a later copy. A disk on a slot that doesn't lag is as the group is, and one
-- that shows the configuration has no two copies that differ. What is absent are current members.
pub record IsAssembledGroup (group : GroupValue) : Type 0 where
  pub slots_rise : SlotsRise group.seats
  pub are_seated : seats_in (seated group) ≡ group.seats
  pub are_copies : AreCopies (seated group)
  pub is_read : read group.config.group group.config.sequence (leading_views group) ≡ group.config
  pub some_lead : some (seated group) ≡ true → some (leading_disks group) ≡ true
  pub none_later : AllByRecursion (IsNoLater group) (seated group)
  pub unless_lags : AllByRecursion (λ disk. lags group disk ≡ false → IsAsGroup group disk) (seated group)
  pub have_one : AllByRecursion (HasOneNewest group) (seated group)
  pub are_current : AllByRecursion (λ reference. is_current group.config.members reference ≡ true) group.absent
