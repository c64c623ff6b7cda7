-- What is said of an array by `accept`: that the bytes of its disks agree.
use Rattle.std.specs.Prelude.{◌≡◌, ℕ, Bool, false, List, Ok}
use Rattle.ddf_bay.specs.Sectors.{Image}
use Rattle.ddf_array.specs.Viewing.{view_of}
use Rattle.ddf_array.specs.Volume.{Volume}
use Rattle.ddf_data_array.specs.Changing.{IsConsistentNow, with_mark}
use Rattle.ddf_data_array.specs.Rows.{AreRowsKept}
use Rattle.ddf_seats.specs.Group.{GroupValue}
use Rattle.ddf_recovery.specs.Recovery.{config_recovered}

-- The array of a group that a call found is consistent in what the disks hold, whichever disks are only not read, and any rows that count as rebuilt hold what they should.
pub record DoDisksAgree (found : GroupValue) (guid : List ℕ) (held : Image) : Type 0 where
  pub volume : Volume
  pub is_view : view_of (config_recovered found) guid found.seats ≡ Ok volume
  pub consistent : (is_absent : ℕ → ℕ → Bool) → IsConsistentNow is_absent volume held
  pub rows : (is_absent : ℕ → ℕ → Bool) → AreRowsKept is_absent (with_mark false volume) held
