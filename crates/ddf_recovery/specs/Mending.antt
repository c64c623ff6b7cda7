-- What is asked of the disks of a group that lag, so that they can get the leaders' configuration.
use Rattle.std.specs.Prelude.{◌≤◌, length}
use Rattle.ddf_copy.specs.Written.{CanBeCopy}
use Rattle.ddf_config.specs.Configuration.{Configuration}
use Rattle.ddf_rewrite.specs.Before.{Before}
use Rattle.ddf_rewrite.specs.Hold.{AreDisks, AreHeld, IsHoldable}
use Rattle.ddf_seats.specs.declared.seated.Seated.{Seated}

-- A copy, the leaders' entries and records, and the configuration that they give fit the sections of a disk.
pub record CanMend (leaders : Before) (config : Configuration) (disk : Seated) : Type 0 where
  pub is_copy : CanBeCopy disk.copy
  pub leaders_held : AreHeld disk.copy.header.geometry leaders
  pub disks_fit : AreDisks leaders.disks
  pub many : length leaders.disks ≤ length config.members
  pub holdable : IsHoldable disk.copy.header.geometry.max_members config
