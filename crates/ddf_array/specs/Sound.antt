-- A sound array: one that a loss within its level leaves as it is (profile).
use Rattle.std.specs.Prelude.{◌≡◌, ℕ, ◌/◌, ◌<◌, ◌≤◌, Bool, true, false, not, Some, count_by, length, slice_get, is_some}
use Rattle.std.specs.List.{list_any}
use Rattle.ddf_bay.specs.Sectors.{Image}
use Rattle.ddf_primary.specs.Cells.{parity_member, depth_of}
use Rattle.ddf_array.specs.declared.part.Part.{Part}
use Rattle.ddf_array.specs.declared.site.Site.{Site}
use Rattle.ddf_array.specs.Places.{is_available, site_at}
use Rattle.ddf_array.specs.Volume.{Volume}
use Rattle.ddf_array.specs.Values.{bytes_at}
use Rattle.ddf_array.specs.Rows.{block_at, data_positions, row_sum}
use Rattle.ddf_array.specs.Within.{is_within}
use Rattle.ddf_array.specs.Redundant.{IsRedundant}

-- every sector of an image has 512 bytes
abbrev pub AreSectors : Image → Type 0
AreSectors image = (slot lba : ℕ) → length (image slot lba) ≡ 512

-- the sum of a row has a data cell with a block
abbrev pub has_block : Volume → (element : ℕ) → Part → (sector : ℕ) → Bool
has_block volume element part sector =
    list_any (λ position. is_some (block_at volume element position sector)) (data_positions part.shape sector)

-- In a parity element with two or more positions that aren't available, none of them only because its disk isn't
-- read (`is_absent` tells by element and position of a current member without a seat), each available parity cell is
-- the sum of its row.
abbrev pub HasParity : (is_absent : ℕ → ℕ → Bool) → Volume → Image → Type 0
HasParity is_absent volume image =
    (element sector position : ℕ) (part : Part) (site : Site) → slice_get volume.parts element ≡ Some part
    → 2 ≤ count_by (λ place. not (is_available place)) part.places
    → ((other : ℕ) → is_absent element other ≡ false)
    → parity_member part.shape (sector / part.shape.strip) ≡ Some position → sector < depth_of part.shape
    → site_at part.places position sector ≡ Some site → has_block volume element part sector ≡ true
    → bytes_at image site ≡ row_sum volume image element part sector

-- unmarked and within its level, an array is redundant, and available parity is right
pub record IsSound (is_absent : ℕ → ℕ → Bool) (volume : Volume) (image : Image) : Type 0 where
  pub are_sectors : AreSectors image
  pub redundant : volume.marked ≡ false → is_within volume ≡ true → IsRedundant volume image
  pub parity : volume.marked ≡ false → is_within volume ≡ true → HasParity is_absent volume image
