-- An array of which a position lies elsewhere, where the same bytes stand.
use Rattle.std.specs.Prelude.{◌≡◌, ◌⊎◌, ℕ, ◌+◌, ◌<◌, ◌≤◌, true, false, not, Some, count_by, slice_get}
use Rattle.ddf_bay.specs.Sectors.{Image}
use Rattle.ddf_primary.specs.Cells.{depth_of}
use Rattle.ddf_array.specs.declared.place.Place.{Place}
use Rattle.ddf_array.specs.declared.part.Part.{Part}
use Rattle.ddf_array.specs.Places.{is_available}
use Rattle.ddf_array.specs.Sound.{has_block}
use Rattle.ddf_array.specs.Volume.{Volume}
use Rattle.ddf_cells.specs.CellSources.{is_parity}
use Rattle.ddf_data_array.specs.Changing.{changed_item}

abbrev pub place_moved : (slot start : ℕ) → Place → Place
place_moved slot start place = record place { slot = Some slot; start = start; row = 0 }

abbrev pub part_moved : (position slot start : ℕ) → Part → Part
part_moved position slot start part = record part { places = changed_item (place_moved slot start) position part.places }

-- the array with another extent for a position
abbrev pub moved : (element position slot start : ℕ) → Volume → Volume
moved element position slot start volume = record volume { parts = changed_item (part_moved position slot start) element volume.parts }

-- A sector of a position tells nothing: it holds the parity of a row without a block, and two or more positions of the element aren't available, so that
-- nothing is made of that row.
pub record IsIdleParity (volume : Volume) (element : ℕ) (part : Part) (position sector : ℕ) : Type 0 where
  pub parity : is_parity part position sector ≡ true
  pub empty : has_block volume element part sector ≡ false
  pub lacks : 2 ≤ count_by (λ place. not (is_available place)) part.places

-- A position is in sync on a disk that is there, and an extent holds in each sector of its rows what it holds, but for parity that tells nothing.
pub record HoldsTheSame (volume : Volume) (image : Image) (element position slot start : ℕ) : Type 0 where
  pub part : Part
  pub is_part : slice_get volume.parts element ≡ Some part
  pub place : Place
  pub is_place : slice_get part.places position ≡ Some place
  pub is_synced : place.synced ≡ true
  pub old : ℕ
  pub is_there : place.slot ≡ Some old
  pub same : (sector : ℕ) → sector < depth_of part.shape → (image slot (start + sector) ≡ image old (place.start + sector)) ⊎ IsIdleParity volume element part position sector
