-- Where the copies of blocks lie.
use Rattle.std.proofs.Common.{◌≡◌, ℕ, suc, ◌<◌, List, [], ◌∷◌, ◌++◌, Option, Some, None, refl, subst, arith, slice_get}
use Rattle.std.specs.Prelude.{filter_map}
use Rattle.std.specs.List.{flat_map, cons_option}
use Rattle.ddf_primary.proofs.Copies.{copy_is, on_holds}
use Rattle.ddf_primary.proofs.ShapeFacts.{cell_facts, depth_le}
use Rattle.ddf_secondary.specs.declared.spot.Spot.{Spot}
use Rattle.ddf_array.specs.declared.part.Part.{Part}
use Rattle.ddf_array.specs.declared.site.Site.{Site}
use Rattle.ddf_array.specs.Places.{site_at}
use Rattle.ddf_array.specs.Cells.{element_cells, block_spots}
use Rattle.ddf_array.specs.Sources.{element_copies, at_spot, copies, first_copy}
use Rattle.ddf_array.specs.Volume.{Volume, IsVolume, IsPart, PartFits, Fits}
use Rattle.ddf_read.proofs.Sites.{IsThere, site_at_there}

-- all of these sectors are there
abbrev AreThere : List ℕ → List Site → Type 0
AreThere sizes [] = Unit {0}
AreThere sizes (site ∷ sites) = IsThere sizes site 1 × AreThere sizes sites

module _ (sizes : List ℕ) where
  there_both : (xs ys : List Site) → AreThere sizes xs → AreThere sizes ys → AreThere sizes (xs ++ ys)
  there_both [] ys a b = b
  there_both (x ∷ xs) ys a b = (a.0, there_both xs ys a.1 b)

  there_flat : {X : Type 0} (f : X → List Site) → ((x : X) → AreThere sizes (f x)) → (xs : List X) → AreThere sizes (flat_map f xs)
  there_flat f there [] = tt
  there_flat f there (x ∷ xs) = there_both (f x) (flat_map f xs) (there x) (there_flat f there xs)

  there_option : (o : Option Site) (sites : List Site) → ((one : Site) → o ≡ Some one → IsThere sizes one 1) → AreThere sizes sites → AreThere sizes (cons_option o sites)
  there_option None sites here rest = rest
  there_option (Some one) sites here rest = (here one refl, rest)

  there_first : (sites : List Site) (one : Site) → AreThere sizes sites → slice_get sites 0 ≡ Some one → IsThere sizes one 1
  there_first [] one there e = absurd (cc)
  there_first (site ∷ sites) one there e = let same : site ≡ one = cc in subst (λ s. IsThere sizes s 1) same there.0

  -- the sectors of any cells
  at_cells : (part : Part) → PartFits sizes part → (all : List (ℕ × ℕ)) → ((k : ℕ) (cell : ℕ × ℕ) → slice_get all k ≡ Some cell → cell.1 < part.shape.blocks)
      → AreThere sizes (filter_map (λ (cell : ℕ × ℕ). site_at part.places cell.0 cell.1) all)
  at_cells part fits [] below = tt
  at_cells part fits (cell ∷ all) below =
      let deep : cell.1 < part.shape.blocks = below 0 cell refl in
      there_option (site_at part.places cell.0 cell.1) _ (λ one e. site_at_there sizes part cell.0 cell.1 1 one fits (omega (arith, deep)) e) (at_cells part fits all (λ k other at. below (suc k) other at))

  of_block : (part : Part) → IsPart part → PartFits sizes part → (block : ℕ) → AreThere sizes (element_copies part block)
  of_block part known fits block =
      let shape = known.shape_is in
      let facts = cell_facts part.shape shape in
      at_cells part fits (element_cells part.shape block)
      (λ k cell at.
      let deep = facts.sector_within cell.0 cell.1 block (on_holds part.shape shape cell.0 cell.1 block (copy_is part.shape block k cell at).1) in
      omega (arith, deep, depth_le part.shape.layout part.shape.strip part.shape.blocks))

  by_part : (v : Volume) → IsVolume v → Fits sizes v → (spot : Spot) (found : Option Part) → slice_get v.parts spot.element ≡ found
      → AreThere sizes (elim found [ None ↦ [] | Some part ↦ element_copies part spot.block ])
  by_part v known fits spot None e = tt
  by_part v known fits spot (Some part) e =
      of_block part (known.are_parts spot.element part e) (fits spot.element part e) spot.block

  -- the first copy of a block is on its slot
  pub first_there : (v : Volume) → IsVolume v → Fits sizes v → (block : ℕ) (one : Site) → first_copy v block ≡ Some one → IsThere sizes one 1
  first_there v known fits block one e =
      there_first (copies v block) one
      (there_flat (at_spot v.parts element_copies) (λ spot. by_part v known fits spot (slice_get v.parts spot.element) refl) (block_spots v block)) e
