-- The cells of a block: the sectors of positions that hold it, by element and position (SNIA DDF 2.0).
use Rattle.std.specs.Prelude.{ℕ, Bool, true, false, List, [], ◌∷◌, map, Some, None, slice_get, length, if◌then◌else◌}
use Rattle.std.specs.List.{range_with_len}
use Rattle.ddf_primary.specs.Placement.{Placement}
use Rattle.ddf_primary.specs.Copies.{copies_of}
use Rattle.ddf_secondary.specs.declared.level.SecondaryLevel.{SecondaryLevel}
use Rattle.ddf_secondary.specs.declared.level.SecondaryLevel.TheVariants.{Striped, Mirrored, Concatenated, Spanned}
use Rattle.ddf_secondary.specs.declared.spot.Spot.{Spot}
use Rattle.ddf_secondary.specs.Spots.{spots}
use Rattle.ddf_array.specs.Volume.{Volume}

-- the cells (position, sector) of a block of an element
abbrev pub element_cells : Placement → ℕ → List (ℕ × ℕ)
element_cells shape block = copies_of shape block

-- the secondary level that holds each block in every element
abbrev pub is_in_every : SecondaryLevel → Bool
is_in_every Striped = false
is_in_every Mirrored = true
is_in_every Concatenated = false
is_in_every Spanned = false

-- the elements that hold what this one holds: for mirrored ones every one
abbrev pub elements_like : SecondaryLevel → ℕ → ℕ → List ℕ
elements_like level count element = if is_in_every level then range_with_len 0 count else element ∷ []

abbrev pub spots_like : SecondaryLevel → ℕ → Spot → List Spot
spots_like level count spot =
    map (λ element. record { element = element; block = spot.block }) (elements_like level count spot.element)

-- the spots of a block of the array: elements with a number of a block in each
abbrev pub block_spots : Volume → ℕ → List Spot
block_spots volume block =
    elim (slice_get (spots volume.tiers) block) [
      | None ↦ []
      | Some spot ↦ spots_like volume.tiers.level (length volume.parts) spot
    ]
