-- What a call on the blocks of an array leaves of a bay, so far as it tells a history.
use Rattle.std.specs.Prelude.{◌≡◌, ℕ}
use Rattle.ddf_bay.specs.Moments.{IsSettled}
use Rattle.ddf_bay.specs.Sectors.{Image, IsLeft}
use Rattle.ddf_bay.specs.State.{BayState}
use Rattle.ddf_array.specs.Volume.{Volume}
use Rattle.ddf_data_group.specs.Clear.{ChangesItsCells}

-- Only sectors of the array are others: as the bay reads, and in each image that a stop may leave. Where nothing was pending on a slot nothing is.
pub record HaveBlocksWritten {D : Type 0} (old new : BayState D) (volume : Volume) : Type 0 where
  pub same_sizes : new.sizes ≡ old.sizes
  pub held : ChangesItsCells volume old.held new.held
  pub left : (image : Image) → IsLeft new.may_hold image → (before : Image) × (IsLeft old.may_hold before × ChangesItsCells volume before image)
  pub settled : (slot : ℕ) → IsSettled old.may_hold old.held slot → IsSettled new.may_hold new.held slot
