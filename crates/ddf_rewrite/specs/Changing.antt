-- What is asked of a change before it is written.
use Rattle.std.specs.Prelude.{◌≡◌, ℕ, ◌≤◌, true, false, length}
use Rattle.ddf_config.specs.Configuration.{Configuration}
use Rattle.ddf_copy.specs.declared.copy.DiskCopy.{DiskCopy}
use Rattle.ddf_view.specs.Readable.{AreReadable}
use Rattle.ddf_rewrite.specs.Before.{Before}
use Rattle.ddf_rewrite.specs.Spares.{spare_use}
use Rattle.ddf_rewrite.specs.Copies.{changed_holdings, items_of, slotted_on}
use Rattle.ddf_rewrite.specs.Room.{lacks_places}
use Rattle.ddf_rewrite.specs.Readable.{HasOwnNames, AreRebuilt, HasSpares}

-- A disk has room for what a configuration gives it.
pub record HasRoomFor (old : DiskCopy) (leaders : Before) (config : Configuration) (timestamp : ℕ) : Type 0 where
  pub disks : length config.members ≤ length old.disks.rows
  pub arrays : length config.arrays ≤ length old.arrays.rows
  pub records : length (items_of true (spare_use config old.disk_data.reference) (changed_holdings old leaders config timestamp))
      ≤ length (slotted_on old true config (changed_holdings old leaders config timestamp))

-- all that is asked of a change
pub record CanChange (old : DiskCopy) (leaders : Before) (config : Configuration) (timestamp : ℕ) : Type 0 where
  pub names : HasOwnNames config
  pub readable : AreReadable config
  pub rebuilt : AreRebuilt config
  pub spares : HasSpares config
  pub room : HasRoomFor old leaders config timestamp
  pub places : lacks_places leaders config ≡ false
