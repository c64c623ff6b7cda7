-- The sources of a block: where its bytes can be read from (SNIA DDF 2.0; their order is profile).
use Rattle.std.specs.Prelude.{ℕ, Bool, not, ◌==◌, List, [], ◌∷◌, ◌++◌, map, Option, Some, None, slice_get, length, filter_map, filter, option_map, if◌then◌else◌}
use Rattle.std.specs.List.{range_with_len, flat_map}
use Rattle.ddf_secondary.specs.declared.spot.Spot.{Spot}
use Rattle.ddf_array.specs.declared.site.Site.{Site}
use Rattle.ddf_array.specs.declared.place.Place.{Place}
use Rattle.ddf_array.specs.declared.part.Part.{Part}
use Rattle.ddf_array.specs.Places.{site_at}
use Rattle.ddf_array.specs.Levels.{keeps_parity}
use Rattle.ddf_array.specs.Volume.{Volume}
use Rattle.ddf_array.specs.Cells.{element_cells, block_spots}

-- a copy of the block, or the row's other cells, whose exclusive-or it is
pub data Source : Type 0 where
  copy : Site → Source
  row : List Site → Source

-- all of the values, where none is missing
abbrev pub all_of : {X : Type 0} → List (Option X) → Option (List X)
all_of [] = Some []
all_of (None ∷ others) = None
all_of (Some x ∷ others) = option_map (λ xs. x ∷ xs) (all_of others)

-- the positions but one
abbrev pub other_positions : ℕ → ℕ → List ℕ
other_positions members position = filter (λ other. not (other == position)) (range_with_len 0 members)

-- the row's other cells, where all are available
abbrev pub row_without : List Place → ℕ → ℕ → Option (List Site)
row_without places position sector = all_of (map (λ other. site_at places other sector) (other_positions (length places) position))

-- what a position adds to the row without one of them
abbrev pub other_at : List Place → (sector position : ℕ) → ℕ → List (Option Site)
other_at places sector position other = if other == position then [] else site_at places other sector ∷ []

-- the available cells of a block of an element
abbrev pub element_copies : Part → ℕ → List Site
element_copies part block = filter_map (λ cell. site_at part.places cell.0 cell.1) (element_cells part.shape block)

-- the row of a block in a parity element, without the block's own cell
abbrev pub element_rows : Part → ℕ → List (List Site)
element_rows part block =
    if keeps_parity part.shape.layout then filter_map (λ cell. row_without part.places cell.0 cell.1) (element_cells part.shape block)
    else []

-- something of the element at a spot
abbrev pub at_spot : {X : Type 0} → List Part → (Part → ℕ → List X) → Spot → List X
at_spot parts of_element spot = elim (slice_get parts spot.element) [ None ↦ [] | Some part ↦ of_element part spot.block ]

abbrev pub at_element : {X : Type 0} → List Part → (Part → ℕ → List X) → (block element : ℕ) → List X
at_element parts of_element block element = at_spot parts of_element (record { element = element; block = block })

-- the available cells of a block, by element and position
abbrev pub copies : Volume → ℕ → List Site
copies volume block = flat_map (at_spot volume.parts element_copies) (block_spots volume block)

abbrev pub first_copy : Volume → ℕ → Option Site
first_copy volume block = slice_get (copies volume block) 0

-- of each parity element of a block the row without its own cell, where that is all available
abbrev pub rows : Volume → ℕ → List (List Site)
rows volume block = flat_map (at_spot volume.parts element_rows) (block_spots volume block)

-- every source of a block, in order: each available cell, then each row
abbrev pub every_source : Volume → ℕ → List Source
every_source volume block = map copy (copies volume block) ++ map row (rows volume block)

-- parity of an array that isn't consistent is no source
abbrev pub trusts_parity : Volume → Bool
trusts_parity volume = not volume.marked

-- those that a read may use
abbrev pub sources : Volume → ℕ → List Source
sources volume block = if trusts_parity volume then every_source volume block else map copy (copies volume block)
