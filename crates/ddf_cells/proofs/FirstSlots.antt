-- The slots of the first source that a cell can be read from are slots of the array's available places.
use Rattle.std.proofs.Common.{◌≡◌, ⊎_elim, ℕ, suc, ◌<◌, Bool, true, false, List, [], ◌∷◌, ◌++◌, Option, Some, None, refl, subst, map, length, slice_get}
use Rattle.std.specs.Prelude.{◌&&◌, is_some, option_to_list, if◌then◌else◌}
use Rattle.ddf_array.specs.declared.part.Part.{Part}
use Rattle.ddf_array.specs.declared.site.Site.{Site}
use Rattle.ddf_array.specs.Levels.{keeps_parity}
use Rattle.ddf_array.specs.Places.{site_at}
use Rattle.ddf_array.specs.Rows.{block_at, sources_without_block}
use Rattle.ddf_array.specs.Sources.{copy, row, row_without, sources}
use Rattle.ddf_array.specs.Volume.{Fits, IsVolume, Volume}
use Rattle.ddf_read.specs.Reading.{FirstHasSlot, HasSite, IsOn}
use Rattle.ddf_read.proofs.SourceSlots.{first_on}
use Rattle.ddf_cells.specs.CellSources.{cell_sources}
use Rattle.ddf_cells.specs.Without.{own_sources}
use Rattle.ddf_cells.proofs.Alike.{AreCellSites, cell_site, row_cells}
use Rattle.ddf_cells.proofs.Surely.{cell_on}

-- these are slots of the bay
pub on_there : (sizes : List ℕ) (v : Volume) → Fits sizes v → (slot : ℕ) → IsOn v slot → slot < length sizes
on_there sizes v fits slot on = (fits on.element on.part on.is_part on.position on.place on.is_place slot on.is_there).0

-- of a block
pub block_on : (v : Volume) (block slot : ℕ) → FirstHasSlot (λ other. other ≡ slot) (sources v block) → IsOn v slot
block_on v block slot has = let found = first_on v (λ other. other ≡ slot) block has in subst (IsOn v) found.1.1 found.1.0

has_cell : (v : Volume) (slot : ℕ) (sites : List Site) → AreCellSites v sites → HasSite (λ other. other ≡ slot) sites → IsOn v slot
has_cell v slot [] are has = absurd has
has_cell v slot (one ∷ sites) are has =
    ⊎_elim (λ same. subst (IsOn v) same (cell_on v one.slot one.lba (are 0 one refl))) (λ later. has_cell v slot sites (λ k x at. are (suc k) x at) later) has

-- of a cell
module _ (v : Volume) (known : IsVolume v) (element : ℕ) (part : Part) (is_part : slice_get v.parts element ≡ Some part) (position sector : ℕ) (below : sector < part.shape.blocks) (slot : ℕ) where
  pub own_on : (found : Option Site) → site_at part.places position sector ≡ found → FirstHasSlot (λ other. other ≡ slot) (map copy (option_to_list found)) → IsOn v slot
  own_on None is has = absurd has
  own_on (Some one) is has = subst (IsOn v) has (cell_on v one.slot one.lba (cell_site v known element part is_part position sector one below is))

  row_on : (found : Option (List Site)) → row_without part.places position sector ≡ found → FirstHasSlot (λ other. other ≡ slot) (map row (option_to_list found)) → IsOn v slot
  row_on None is has = absurd has
  row_on (Some sites) is has = has_cell v slot sites (row_cells v known element part is_part position sector sites below is) has

  without_on : (keeps : Bool) (found : Option Site) → site_at part.places position sector ≡ found
      → FirstHasSlot (λ other. other ≡ slot) (map copy (option_to_list found) ++ (if keeps then map row (option_to_list (row_without part.places position sector)) else [])) → IsOn v slot
  without_on keeps (Some one) is has = own_on (Some one) is has
  without_on true None is has = row_on (row_without part.places position sector) refl has
  without_on false None is has = absurd has

  alone_on : (alone : Bool) → FirstHasSlot (λ other. other ≡ slot) (if alone then map copy (option_to_list (site_at part.places position sector)) else sources_without_block part position sector) → IsOn v slot
  alone_on true has = own_on (site_at part.places position sector) refl has
  alone_on false has = without_on (keeps_parity part.shape.layout) (site_at part.places position sector) refl has

  cell_by : (found : Option ℕ) → FirstHasSlot (λ other. other ≡ slot) (elim found [ None ↦ own_sources v.marked part position sector | Some block ↦ sources v block ]) → IsOn v slot
  cell_by None has = alone_on (v.marked && is_some (site_at part.places position sector)) has
  cell_by (Some block) has = block_on v block slot has

  pub cell_first_on : FirstHasSlot (λ other. other ≡ slot) (cell_sources v element part sector position) → IsOn v slot
  cell_first_on has = cell_by (block_at v element position sector) has
