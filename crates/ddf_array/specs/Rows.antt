-- The values of the data cells of a row, and their sum: what its parity should be (SNIA DDF 2.0).
use Rattle.std.specs.Prelude.{ℕ, ◌/◌, Bool, false, ◌&&◌, ◌==◌, List, [], ◌∷◌, ◌++◌, map, Option, Some, None, option_to_list, slice_get, find, unwrap_or, if◌then◌else◌}
use Rattle.std.specs.List.{range_with_len, list_any}
use Rattle.ddf_bay.specs.Sectors.{Image}
use Rattle.ddf_parity.specs.Xor.{xor_all, zeros}
use Rattle.ddf_primary.specs.Placement.{Placement}
pub use Rattle.ddf_primary.specs.Cells.{data_by}
use Rattle.ddf_secondary.specs.declared.spot.Spot.{Spot}
use Rattle.ddf_array.specs.declared.part.Part.{Part}
use Rattle.ddf_array.specs.Places.{site_at}
use Rattle.ddf_array.specs.Levels.{keeps_parity}
use Rattle.ddf_array.specs.Volume.{Volume, capacity}
use Rattle.ddf_array.specs.Cells.{element_cells, block_spots}
use Rattle.ddf_array.specs.Sources.{Source, copy, row, row_without}
use Rattle.ddf_array.specs.Values.{given, value}

-- that a position holds a block of the array at a sector
abbrev pub holds : Volume → (element position sector : ℕ) → ℕ → Bool
holds volume element position sector block =
    list_any
    (λ (spot : Spot). spot.element == element && elim (slice_get volume.parts element) [
      | None ↦ false
      | Some part ↦ list_any (λ (cell : ℕ × ℕ). cell.0 == position && cell.1 == sector) (element_cells part.shape spot.block)
    ])
    (block_spots volume block)

-- the block that a position holds at a sector
abbrev pub block_at : Volume → (element position sector : ℕ) → Option ℕ
block_at volume element position sector = find (holds volume element position sector) (range_with_len 0 (capacity volume))

-- what a data cell without a block can be read from, as one of an element that is larger than the least: its own
-- sector, and in a parity element the row's other cells
abbrev pub sources_without_block : Part → (position sector : ℕ) → List Source
sources_without_block part position sector =
    map copy (option_to_list (site_at part.places position sector))
    ++ (if keeps_parity part.shape.layout then map row (option_to_list (row_without part.places position sector)) else [])

-- the bytes of the first of these, else zeros (profile)
abbrev pub value_without_block : Image → List Source → List ℕ
value_without_block image [] = zeros
value_without_block image (source ∷ others) = given image source

-- the value of a data cell: that of its block, if it holds one
abbrev pub cell_value : Volume → Image → (element : ℕ) → Part → (sector position : ℕ) → List ℕ
cell_value volume image element part sector position =
    elim (block_at volume element position sector) [
      | None ↦ value_without_block image (sources_without_block part position sector)
      | Some block ↦ unwrap_or (value volume image block) zeros
    ]

-- the data cells of a row of a parity element
abbrev pub data_positions : Placement → ℕ → List ℕ
data_positions shape sector = data_by shape.layout shape.members (sector / shape.strip)

-- what the parity of a row should be
abbrev pub row_sum : Volume → Image → (element : ℕ) → Part → (sector : ℕ) → List ℕ
row_sum volume image element part sector =
    xor_all (map (cell_value volume image element part sector) (data_positions part.shape sector))
