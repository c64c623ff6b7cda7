-- The second half of a resync: the parity of rows is set (profile).
use Rattle.std.specs.Prelude.{◌≡◌, ℕ, ◌/◌, ◌<◌, Bool, List, Some, slice_get}
use Rattle.ddf_bay.specs.Sectors.{Image}
use Rattle.ddf_primary.specs.Cells.{depth_of, parity_member}
use Rattle.ddf_array.specs.declared.part.Part.{Part}
use Rattle.ddf_array.specs.declared.site.Site.{Site}
use Rattle.ddf_array.specs.Places.{site_at}
use Rattle.ddf_array.specs.Rows.{row_sum}
use Rattle.ddf_array.specs.Values.{bytes_at}
use Rattle.ddf_array.specs.Volume.{Volume}
use Rattle.ddf_cells.specs.Parity.{IsParityCell}
use Rattle.ddf_cells.specs.Touching.{IsTouchedSlot}

-- only parity cells get bytes, any
abbrev pub SetsParity : Volume → (slot lba : ℕ) → List ℕ → Type 0
SetsParity volume slot lba bytes = IsParityCell volume slot lba

-- the available parity cell of a row is the row's sum
abbrev pub IsRightAt : Volume → Image → (element : ℕ) → Part → (sector : ℕ) → Type 0
IsRightAt volume image element part sector =
    (position : ℕ) (own : Site) → parity_member part.shape (sector / part.shape.strip) ≡ Some position → site_at part.places position sector ≡ Some own
    → bytes_at image own ≡ row_sum volume image element part sector

-- rows that were right are right
abbrev pub KeepsRight : Volume → (old new : Image) → Type 0
KeepsRight volume old new =
    (element sector : ℕ) (part : Part) → slice_get volume.parts element ≡ Some part → sector < depth_of part.shape → IsRightAt volume old element part sector → IsRightAt volume new element part sector

-- the first rows of an element, up to a sector, are right
abbrev pub AreRightTo : Volume → Image → (element : ℕ) → (sectors : ℕ) → Type 0
AreRightTo volume image element sectors =
    (part : Part) (sector : ℕ) → slice_get volume.parts element ≡ Some part → sector < sectors → sector < depth_of part.shape → IsRightAt volume image element part sector

-- so are all rows of the first elements, so many
abbrev pub AreRightIn : Volume → Image → (elements : ℕ) → Type 0
AreRightIn volume image elements =
    (element sector : ℕ) (part : Part) → element < elements → slice_get volume.parts element ≡ Some part → sector < depth_of part.shape → IsRightAt volume image element part sector

-- the slot of the available parity cell of a row was written to
abbrev pub IsNotedAt : List Bool → Part → (sector : ℕ) → Type 0
IsNotedAt touched part sector =
    (position : ℕ) (own : Site) → parity_member part.shape (sector / part.shape.strip) ≡ Some position → site_at part.places position sector ≡ Some own → IsTouchedSlot touched own.slot

-- so are those of the first rows of an element, up to a sector
abbrev pub AreNotedTo : List Bool → Part → (sectors : ℕ) → Type 0
AreNotedTo touched part sectors = (sector : ℕ) → sector < sectors → IsNotedAt touched part sector

-- and of all rows of the first elements, so many
abbrev pub AreNotedIn : Volume → List Bool → (elements : ℕ) → Type 0
AreNotedIn volume touched elements =
    (element sector : ℕ) (part : Part) → element < elements → slice_get volume.parts element ≡ Some part → sector < depth_of part.shape → IsNotedAt touched part sector
