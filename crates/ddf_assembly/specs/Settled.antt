-- A group that is as its newest disks say, so that it can be changed.
use Rattle.std.specs.Prelude.{◌≡◌, true, [], slice_get, Some}
use Rattle.std.specs.List.{AllByRecursion}
use Rattle.ddf_copy.specs.declared.newest_copy.Newest.TheVariants.{Level}
use Rattle.ddf_view.specs.Shows.{shows}
use Rattle.ddf_view.specs.View.{view_of}
use Rattle.ddf_seats.specs.declared.seated.Seated.{Seated}
use Rattle.ddf_seats.specs.Group.{GroupValue}
use Rattle.ddf_seats.specs.Seated.{seated, seats_in}
use Rattle.ddf_seats.specs.Changing.{CanBeChanged, SlotsRise}

-- The slot of a disk has its copy in both places, level, and this shows the configuration that the group is at, so it is of its sequence number.
pub record IsLevelIn (group : GroupValue) (disk : Seated) : Type 0 where
  pub is_newest : slice_get group.newest disk.seat.slot ≡ Some (Some (Level disk.copy))
  pub is_shown : shows group.config (view_of disk.copy) ≡ true
  pub same_sequence : disk.copy.header.sequence ≡ group.config.sequence

-- Nothing is absent, and nothing lags. The slots of the seats rise. Each seat has its copy, of the group, and these can hold the
-- configuration. Each is level.
pub record IsSettledGroup (group : GroupValue) : Type 0 where
  pub none_absent : group.absent ≡ []
  pub none_lags : group.lagging ≡ []
  pub slots_rise : SlotsRise group.seats
  pub are_seated : seats_in (seated group) ≡ group.seats
  pub can_be_changed : CanBeChanged group.config (seated group)
  pub are_level : AllByRecursion (IsLevelIn group) (seated group)
