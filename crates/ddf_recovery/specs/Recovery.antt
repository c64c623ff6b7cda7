-- What recovery makes of a group of which members are absent or seats lag (profile).
use Rattle.std.specs.Prelude.{ℕ, Bool, ◌&&◌, nat_lt, List, map, filter, filter_map, fold, Option, Some, None, if◌then◌else◌}
use Rattle.std.specs.List.{list_any}
use Rattle.ddf_copy.specs.declared.copy.DiskCopy.{DiskCopy}
use Rattle.ddf_copy.specs.declared.which.Which.TheVariants.{Primary}
use Rattle.ddf_copy.specs.Headers.{written_as}
use Rattle.ddf_config.specs.declared.refusal.FullTable.{FullTable}
use Rattle.ddf_config.specs.declared.refusal.FullTable.TheVariants.{Records}
use Rattle.ddf_config.specs.declared.seat.Seat.{Seat}
use Rattle.ddf_config.specs.Configuration.{Configuration}
use Rattle.ddf_plan.specs.declared.change.Change.{Change}
use Rattle.ddf_plan.specs.declared.change.Change.TheVariants.{Lose}
use Rattle.ddf_plan.specs.Refusals.{greatest_sequence}
use Rattle.ddf_view.specs.View.{view_of}
use Rattle.ddf_view.specs.Shows.{shows}
use Rattle.ddf_view.specs.Reading.{are_noted}
use Rattle.ddf_group.specs.Shown.{shown_of}
use Rattle.ddf_rewrite.specs.Before.{Before}
use Rattle.ddf_rewrite.specs.Copies.{recovered_copy}
use Rattle.ddf_rewrite.specs.Room.{full_after_recovery}
use Rattle.ddf_seats.specs.declared.seated.Seated.{Seated}
use Rattle.ddf_seats.specs.Group.{GroupValue}
use Rattle.ddf_seats.specs.Seated.{seated, levelled}
use Rattle.ddf_steps.specs.Steps.{Step, config_after, disks_after, mode_of}
use Rattle.ddf_recovery.specs.Stray.{is_stray, trusted_seat}
use Rattle.ddf_steps.specs.Full.{full_of, lengths_differ, lesser}
use Rattle.ddf_seats.specs.Leading.{leading_views, leading, lags, some}

-- ---- members that are absent

-- they are lost
abbrev pub loss : GroupValue → Change
loss group = Lose group.absent

abbrev pub config_lost : GroupValue → Configuration
config_lost group = config_after group.config (loss group)

-- the loss is written to every seat
abbrev pub lost_step : (timestamp : ℕ) → GroupValue → Step
lost_step timestamp group = record {
  config = config_lost group;
  disks = disks_after timestamp (leading group) (config_lost group) (seated group);
}

-- ---- seats that lag

-- A copy that shows the configuration stays as it is, and any other becomes as the leaders have it.
abbrev pub mended_copy : Before → Configuration → (timestamp : ℕ) → DiskCopy → DiskCopy
mended_copy leaders config timestamp copy = if shows config (view_of copy) then copy else recovered_copy copy leaders config timestamp

-- It is written to both places.
abbrev pub mended : Before → Configuration → (timestamp : ℕ) → Seated → Seated
mended leaders config timestamp disk =
    record disk { copy = written_as (mended_copy leaders config timestamp disk.copy) Primary; mode = mode_of config disk }

-- the configuration as it is is written to each seat that lags
abbrev pub mending_step : (timestamp : ℕ) → GroupValue → Step
mending_step timestamp group = record {
  config = group.config;
  disks = map (mended (leading group) group.config timestamp) (filter (lags group) (seated group));
}

abbrev pub mended_or_kept : (timestamp : ℕ) → GroupValue → Seated → Seated
mended_or_kept timestamp group disk = if lags group disk then levelled (mended (leading group) group.config timestamp disk) else disk

-- ---- recovery

-- the configuration in which they are lost, where some are
unfoldable pub loss_of : GroupValue → Option Configuration
loss_of group = if some group.absent then Some (config_lost group) else None

-- Where members are absent their loss; else, where seats lag, these; and else nothing.
unfoldable pub recovery_of : (timestamp : ℕ) → GroupValue → Option Step
recovery_of timestamp group =
    if some group.absent then Some (lost_step timestamp group)
    else if some group.lagging then Some (mending_step timestamp group)
    else None

-- the configuration and the disks behind it
unfoldable pub config_recovered : GroupValue → Configuration
config_recovered group = if some group.absent then config_lost group else group.config

unfoldable pub disks_recovered : (timestamp : ℕ) → GroupValue → List Seated
disks_recovered timestamp group =
    if some group.absent then map levelled (lost_step timestamp group).disks
    else map (mended_or_kept timestamp group) (seated group)

-- ---- what it has no room for

-- the first table of a disk that has no room for it
abbrev pub full_mended : Before → Configuration → Seated → Option FullTable
full_mended leaders config disk = if shows config (view_of disk.copy) then None else full_after_recovery disk.copy leaders config

-- Records of different lengths come first, then the least table that is full on some seat that lags.
abbrev pub full_of_mending : GroupValue → Option FullTable
full_of_mending group =
    if lengths_differ (seated group) then Some Records
    else fold (λ least disk. lesser least (full_mended (leading group) group.config disk)) None (filter (lags group) (seated group))

-- the table that has no room, where something is to be written
unfoldable pub full_of_recovery : (timestamp : ℕ) → GroupValue → Option FullTable
full_of_recovery timestamp group =
    if some group.absent then full_of timestamp (leading group) (config_lost group) (seated group)
    else if some group.lagging then full_of_mending group
    else None

-- ---- a sequence number that is spent

-- The loss is a step to a sequence number past the greatest. To give the configuration to the seats that lag raises none.
abbrev pub loss_spent : GroupValue → Bool
loss_spent group = some group.absent && nat_lt greatest_sequence (config_lost group).sequence

-- ---- what can't be recovered

-- Some disk is such that recovery must not write over what it holds.
abbrev pub has_stray : GroupValue → Bool
has_stray group = list_any (is_stray (map shown_of group.newest) group.newest (are_noted (leading_views group)) group.config) (seated group)

-- The seats of the disks of which that isn't so, in order: those that blocks may be read from.
unfoldable pub trusted_seats : GroupValue → List Seat
trusted_seats group = filter_map (trusted_seat (map shown_of group.newest) group.newest (are_noted (leading_views group)) group.config) (seated group)
