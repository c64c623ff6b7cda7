-- What an array keeps of the bytes that were given to it.
use Rattle.std.specs.Prelude.{◌≡◌, ℕ, Bool, Some, slice_get}
use Rattle.ddf_bay.specs.Sectors.{Image}
use Rattle.ddf_array.specs.Volume.{Volume}
use Rattle.ddf_array.specs.Sources.{Source, sources}
use Rattle.ddf_array.specs.Values.{given}
use Rattle.ddf_array.specs.Sound.{IsSound}
use Rattle.ddf_data_array.specs.Allowed.{Allowed, May}
use Rattle.ddf_data_array.specs.Rows.{AreRowsKept}

-- Whatever a read may take of a block is something that the block may have: each of its available cells, and, unless the array is marked,
-- the exclusive-or of the row's other cells in each parity element where all of these are available. And the array is sound: a loss within
-- its level changes nothing; and what a rebuild has set of a position so far holds what it should, so that the rebuild may go on behind it.
pub record IsKeptData (is_absent : ℕ → ℕ → Bool) (volume : Volume) (image : Image) (allowed : Allowed) : Type 0 where
  pub sound : IsSound is_absent volume image
  pub reads : (block k : ℕ) (source : Source) → slice_get (sources volume block) k ≡ Some source → May (allowed block) (given image source)
  pub rows : AreRowsKept is_absent volume image
