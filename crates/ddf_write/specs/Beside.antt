-- What lies beside blocks that are written: the other data cells of the rows that they touch. The new parity is made of their values too (profile).
use Rattle.std.specs.Prelude.{◌≡◌, ◌≢◌, ℕ, ◌+◌, ◌/◌, ◌<◌, true, List, Some, None, slice_get, length}
use Rattle.ddf_primary.specs.Cells.{depth_of, parity_member}
use Rattle.ddf_array.specs.declared.part.Part.{Part}
use Rattle.ddf_array.specs.declared.place.Place.{Place}
use Rattle.ddf_array.specs.Levels.{keeps_parity}
use Rattle.ddf_array.specs.Rows.{block_at, sources_without_block}
use Rattle.ddf_array.specs.Sources.{Source, every_source}
use Rattle.ddf_array.specs.Volume.{Volume}
use Rattle.ddf_read.specs.Reading.{NoneLeft}
use Rattle.ddf_write.specs.Writing.{IsTouched}

-- a cell is one of data, in an element that keeps parity
pub record IsDataCell (volume : Volume) (element : ℕ) (part : Part) (position sector : ℕ) : Type 0 where
  pub is_part : slice_get volume.parts element ≡ Some part
  pub keeps : keeps_parity part.shape.layout ≡ true
  pub is_position : position < length part.places
  pub below : sector < depth_of part.shape
  pub is_data : parity_member part.shape (sector / part.shape.strip) ≢ Some position

-- a cell holds none of these blocks
abbrev pub HoldsNone : Volume → (start count element position sector : ℕ) → Type 0
HoldsNone volume start count element position sector = (k : ℕ) → k < count → block_at volume element position sector ≢ Some (start + k)

-- a data cell of a row that these blocks touch, which holds none of them
pub record IsBeside (volume : Volume) (start count element : ℕ) (part : Part) (position sector : ℕ) : Type 0 where
  pub is_cell : IsDataCell volume element part position sector
  pub touched : IsTouched volume start count element sector
  pub holds_none : HoldsNone volume start count element position sector

-- Where such a cell's value can be read from: all sources of its block, the parity of its rows among them; where it holds no block, the cell itself and
-- the other cells of its row.
abbrev pub sources_beside : Volume → (element : ℕ) → Part → (position sector : ℕ) → List Source
sources_beside volume element part position sector =
    elim (block_at volume element position sector) [
      | None ↦ sources_without_block part position sector
      | Some block ↦ every_source volume block
    ]

-- no source is left at a slot for a cell beside these blocks
pub record NoneLeftBeside (failed : ℕ → Type 0) (volume : Volume) (start count slot : ℕ) : Type 0 where
  pub element : ℕ
  pub part : Part
  pub position : ℕ
  pub sector : ℕ
  pub is_beside : IsBeside volume start count element part position sector
  pub none_left : NoneLeft failed (sources_beside volume element part position sector) slot

-- no two positions of an element that keeps parity are on one disk
abbrev pub AreOnOwnDisks : Volume → Type 0
AreOnOwnDisks volume =
    (element position other slot : ℕ) (part : Part) (first second : Place) → slice_get volume.parts element ≡ Some part → keeps_parity part.shape.layout ≡ true
    → slice_get part.places position ≡ Some first → slice_get part.places other ≡ Some second → first.slot ≡ Some slot → second.slot ≡ Some slot → position ≡ other
