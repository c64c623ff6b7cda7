-- What a block of an array is written as from a stage: its cells and the parity of its rows at once (profile).
use Rattle.std.specs.Prelude.{◌≡◌, ℕ, ◌==◌, List, [], ◌∷◌, map, Some, None, slice_get, if◌then◌else◌}
use Rattle.ddf_bay.specs.Sectors.{Image}
use Rattle.ddf_parity.specs.Xor.{xor_all}
use Rattle.ddf_array.specs.declared.part.Part.{Part}
use Rattle.ddf_array.specs.declared.site.Site.{Site}
use Rattle.ddf_array.specs.Rows.{block_at, cell_value, data_positions}
use Rattle.ddf_array.specs.Sources.{copies}
use Rattle.ddf_array.specs.Values.{bytes_at}
use Rattle.ddf_array.specs.Volume.{Volume}
use Rattle.ddf_write.specs.Writing.{IsLeftByWrite, IsParityAt}

-- the value of a data cell once a block has these bytes
abbrev pub cell_with : (block : ℕ) → List ℕ → Volume → Image → (element : ℕ) → Part → (sector position : ℕ) → List ℕ
cell_with block bytes volume image element part sector position =
    elim (block_at volume element position sector) [
      | None ↦ cell_value volume image element part sector position
      | Some other ↦ if other == block then bytes else cell_value volume image element part sector position
    ]

-- the sum of a row once it has
abbrev pub sum_with : (block : ℕ) → List ℕ → Volume → Image → (element : ℕ) → Part → (sector : ℕ) → List ℕ
sum_with block bytes volume image element part sector = xor_all (map (cell_with block bytes volume image element part sector) (data_positions part.shape sector))

-- Each available cell of the block has its bytes, each available parity cell of a row that it touches is the sum of the row as it is then, and
-- nothing else is another. Unlike the sum of what the row's cells hold afterwards, this one tells the bytes of a block that has no cell.
pub record IsStaged (volume : Volume) (block : ℕ) (bytes : List ℕ) (before image : Image) : Type 0 where
  pub cells : (i : ℕ) (one : Site) → slice_get (copies volume block) i ≡ Some one → bytes_at image one ≡ bytes
  pub parity : (element sector : ℕ) (part : Part) (one : Site) → IsParityAt volume block 1 element sector part one
      → bytes_at image one ≡ sum_with block bytes volume before element part sector
  pub others : IsLeftByWrite volume block (bytes ∷ []) before image
