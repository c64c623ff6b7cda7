-- The blocks that have several available cells, and how many sectors a resync sets (profile).
use Rattle.std.specs.Prelude.{◌≡◌, ℕ, Bool, true, false, not, ◌&&◌, ◌==◌, ◌+◌, ◌*◌, length, map, Option, Some, None, slice_get, if◌then◌else◌}
use Rattle.std.specs.List.{list_any, range_with_len, sum_by}
use Rattle.ddf_primary.specs.Cells.{depth_of}
use Rattle.ddf_array.specs.declared.part.Part.{Part}
use Rattle.ddf_array.specs.declared.site.Site.{Site}
use Rattle.ddf_array.specs.Levels.{keeps_parity}
use Rattle.ddf_array.specs.Places.{site_on}
use Rattle.ddf_array.specs.Sources.{copies, first_copy}
use Rattle.ddf_array.specs.Volume.{Volume, capacity}
use Rattle.ddf_cells.specs.CellsOn.{cell_on, how_many, over_array}

-- a sector is another than this one
abbrev pub is_beside : Site → Site → Bool
is_beside one other = not (other.slot == one.slot && other.lba == one.lba)

-- one of a block's available cells is another than its first
abbrev pub has_other : Volume → (block : ℕ) → Bool
has_other volume block = elim (first_copy volume block) [ None ↦ false | Some first ↦ list_any (is_beside first) (copies volume block) ]

-- a sector of the bay is an available cell of such a block
pub record IsCopied (volume : Volume) (slot lba : ℕ) : Type 0 where
  pub block : ℕ
  pub i : ℕ
  pub is_cell : slice_get (copies volume block) i ≡ Some (site_on slot lba)
  pub several : has_other volume block ≡ true

-- the available cell of a block on a position, where the block has several
abbrev pub copied_on : Volume → (element position block : ℕ) → Option Site
copied_on volume element position block = if has_other volume block then cell_on volume element position block else None

-- how many of these the first blocks have, so many, counted position by position
abbrev pub copied_cells : Volume → (blocks : ℕ) → ℕ
copied_cells volume blocks =
    over_array (λ element position. how_many (map (copied_on volume element position) (range_with_len 0 blocks))) volume.parts

-- the parity cells of an element that keeps parity: one in each of its rows of sectors
abbrev pub parity_of : Option Part → ℕ
parity_of None = 0
parity_of (Some part) = if keeps_parity part.shape.layout then depth_of part.shape else 0

-- those of the first elements, so many
abbrev pub parity_cells : Volume → (elements : ℕ) → ℕ
parity_cells volume elements = sum_by (λ element. parity_of (slice_get volume.parts element)) (range_with_len 0 elements)

-- The sectors that a resync sets: every available cell of each block that has several, once, and every parity cell, once.
abbrev pub resync_sectors : Volume → ℕ
resync_sectors volume = copied_cells volume (capacity volume) + parity_cells volume (length volume.parts)

-- the sectors of the extents of an element's positions
abbrev pub extents_of : Option Part → ℕ
extents_of None = 0
extents_of (Some part) = length part.places * part.shape.blocks

-- those of the array
abbrev pub extent_sectors : Volume → ℕ
extent_sectors volume = sum_by (λ element. extents_of (slice_get volume.parts element)) (range_with_len 0 (length volume.parts))
