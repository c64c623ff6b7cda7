-- What a write of neighbouring blocks sets, and what a stop on the way leaves (profile).
use Rattle.std.specs.Prelude.{◌≡◌, ◌⊎◌, ℕ, ◌+◌, ◌/◌, ◌<◌, List, [], Bool, Some, slice_get, slice_index_or, length}
use Rattle.ddf_bay.specs.Sectors.{Image, Outcomes}
use Rattle.ddf_primary.specs.Cells.{parity_member}
use Rattle.ddf_array.specs.declared.part.Part.{Part}
use Rattle.ddf_array.specs.declared.site.Site.{Site}
use Rattle.ddf_array.specs.Places.{site_at, site_on}
use Rattle.ddf_array.specs.Volume.{Volume}
use Rattle.ddf_array.specs.Sources.{copies}
use Rattle.ddf_array.specs.Rows.{block_at, row_sum}
use Rattle.ddf_array.specs.Values.{bytes_at}
use Rattle.ddf_cells.specs.CellsOn.{GivesCells, IsCellOf}
use Rattle.ddf_cells.specs.Touching.{IsAmongGiven, IsTouchedSlot}

-- a row of an element is touched: a data cell of it holds one of these blocks
pub record IsTouched (volume : Volume) (start count element sector : ℕ) : Type 0 where
  pub position : ℕ
  pub k : ℕ
  pub below : k < count
  pub holds_it : block_at volume element position sector ≡ Some (start + k)

-- the available parity cell of a touched row of an element
pub record IsParityAt (volume : Volume) (start count element sector : ℕ) (part : Part) (one : Site) : Type 0 where
  pub touched : IsTouched volume start count element sector
  pub is_part : slice_get volume.parts element ≡ Some part
  pub position : ℕ
  pub is_parity : parity_member part.shape (sector / part.shape.strip) ≡ Some position
  pub is_there : site_at part.places position sector ≡ Some one

-- this sector is one of a touched row
pub record IsParityOf (volume : Volume) (start count slot lba : ℕ) : Type 0 where
  pub element : ℕ
  pub sector : ℕ
  pub part : Part
  pub is_at : IsParityAt volume start count element sector part (site_on slot lba)

-- The bytes that a write may give a sector: those of the block of which it is an available cell, and any at a parity cell of
-- a touched row.
abbrev pub MayGive : Volume → (start : ℕ) → List (List ℕ) → (slot lba : ℕ) → List ℕ → Type 0
MayGive volume start sectors slot lba bytes = GivesCells volume start sectors slot lba bytes ⊎ IsParityOf volume start (length sectors) slot lba

-- What a stop leaves while blocks are written: each sector by itself as it might be left before, or with bytes that the
-- write gives it.
abbrev pub IsAmongWrites : Volume → (start : ℕ) → List (List ℕ) → Outcomes → Image → Type 0
IsAmongWrites volume start sectors = IsAmongGiven (MayGive volume start sectors)

-- nothing else can be left afterwards
abbrev pub AddsWrites : Volume → (start : ℕ) → List (List ℕ) → (old new : Outcomes) → Type 0
AddsWrites volume start sectors old new = (s l : ℕ) (bytes : List ℕ) → new s l bytes → old s l bytes ⊎ MayGive volume start sectors s l bytes

-- What an image becomes by it: each sector by itself as before, or with bytes that the write gives it.
abbrev pub IsLeftByWrite : Volume → (start : ℕ) → List (List ℕ) → (before image : Image) → Type 0
IsLeftByWrite volume start sectors before image =
    (s l : ℕ) → (image s l ≡ before s l) ⊎ MayGive volume start sectors s l (image s l)

-- What an image holds once they are written: every available cell of a block has its bytes, and, where the other cells of
-- touched rows are sure, each available parity cell of a touched row is the sum of the row.
pub record HasWritten (volume : Volume) (start : ℕ) (sectors : List (List ℕ)) (sure : Type 0) (image : Image) : Type 0 where
  pub cells : (k i : ℕ) (one : Site) → k < length sectors → slice_get (copies volume (start + k)) i ≡ Some one
      → bytes_at image one ≡ slice_index_or sectors k []
  pub parity : sure → (element sector : ℕ) (part : Part) (one : Site) → IsParityAt volume start (length sectors) element sector part one
      → bytes_at image one ≡ row_sum volume image element part sector

-- a slot has a sector that the write gives bytes
abbrev pub IsWritten : Volume → (start count slot : ℕ) → Type 0
IsWritten volume start count slot = (lba : ℕ) × (IsCellOf volume start count slot lba ⊎ IsParityOf volume start count slot lba)

-- of slots that are noted, none is lost, and none is new but such slots
pub record NotesWrites (volume : Volume) (start count : ℕ) (before after : List Bool) : Type 0 where
  pub stays : (slot : ℕ) → IsTouchedSlot before slot → IsTouchedSlot after slot
  pub only : (slot : ℕ) → IsTouchedSlot after slot → IsTouchedSlot before slot ⊎ IsWritten volume start count slot
