-- The cells of a block and the block of a cell.
use Rattle.std.proofs.Common.{◌≡◌, ◌∙◌, ℕ, ◌<◌, Bool, true, false, List, [], ◌∷◌, Option, Some, None, refl, sym, ap, subst, slice_get}
use Rattle.std.specs.Prelude.{◌&&◌, ◌==◌}
use Rattle.std.specs.List.{list_any}
use Rattle.std.proofs.lemmas.Bool.{eqb-true, eq-eqb, and_from}
use Rattle.std.proofs.lemmas.Map.Keys.{any_passes_from_place}
use Rattle.std.proofs.lemmas.Option.{same_Some}
use Rattle.ddf_lemmas.proofs.Lists.{get_filter_map}
use Rattle.ddf_lemmas.proofs.Tests.{and_first, and_second}
use Rattle.ddf_bay.specs.Sectors.{Image}
use Rattle.ddf_primary.specs.Cells.{depth_of}
use Rattle.ddf_primary.proofs.ShapeFacts.{cell_facts}
use Rattle.ddf_secondary.specs.declared.spot.Spot.{Spot}
use Rattle.ddf_secondary.specs.Spots as secondary
use Rattle.ddf_secondary.proofs.SpotFacts.{spot_facts}
use Rattle.ddf_array.specs.declared.part.Part.{Part}
use Rattle.ddf_array.specs.declared.site.Site.{Site}
use Rattle.ddf_array.specs.Places.{site_at}
use Rattle.ddf_array.specs.Volume.{Volume, IsVolume, capacity}
use Rattle.ddf_array.specs.Cells.{block_spots, element_cells}
use Rattle.ddf_array.specs.Sources.{at_spot, copies, element_copies, first_copy, row_without}
use Rattle.ddf_array.specs.Values.{bytes_at}
use Rattle.ddf_array.specs.Redundant.{IsConsistent, IsRedundant}
use Rattle.ddf_array.specs.Rows.{block_at, holds}
use Rattle.ddf_array.specs.Sound.{AreSectors}
use Rattle.ddf_array.proofs.Consistent.{at_part, consistent_if, redundant_if, to_flat, in_filter, in_flat}
use Rattle.ddf_cells.proofs.BlockOf.{both, cell_in, held}
use Rattle.ddf_cells.proofs.Lists.{find_is, find_passes, passing, some_not_none}
use Rattle.ddf_resync.specs.Agreeing.{Agrees}

module _ (v : Volume) (known : IsVolume v) where
  -- a position that holds a block holds no other
  pub found_is : (element position sector block : ℕ) (part : Part) → slice_get v.parts element ≡ Some part → holds v element position sector block ≡ true
      → block_at v element position sector ≡ Some block
  found_is element position sector block part part_at is =
      let here = both v known element position sector part part_at block is in
      let shape = (known.are_parts element part part_at).shape_is in
      sym
      (find_is (holds v element position sector) (capacity v) (Some block)
      (λ x below passes.
      let there = both v known element position sector part part_at x passes in
      let inner : there.inner ≡ here.inner = (cell_facts part.shape shape).apart position sector there.inner here.inner there.cell_holds here.cell_holds in
      let spot = subst (λ n. secondary.Holds v.tiers (record { element = element; block = n }) x) inner there.spot_holds in
      ap Some ((spot_facts v.tiers known.array_is).apart (record { element = element; block = here.inner }) block x here.spot_holds spot))
      (λ x e.
      let same : block ≡ x = same_Some block x e in
      let fits = held v known element position sector part part_at block here.inner here.spot_holds here.cell_holds in
      (subst (λ n. n < capacity v) same fits.1, subst (λ n. holds v element position sector n ≡ true) same fits.0)))

  -- a block's cell at a spot is held there
  pub spot_holds : (block j k : ℕ) (spot : Spot) (part : Part) (cell : ℕ × ℕ) → slice_get (block_spots v block) j ≡ Some spot → slice_get v.parts spot.element ≡ Some part
      → slice_get (element_cells part.shape spot.block) k ≡ Some cell → block_at v spot.element cell.0 cell.1 ≡ Some block
  spot_holds block j k spot part cell spot_at part_at cell_at =
      let inside : list_any (λ (c : ℕ × ℕ). c.0 == cell.0 && c.1 == cell.1) (element_cells part.shape spot.block) ≡ true =
      any_passes_from_place (λ (c : ℕ × ℕ). c.0 == cell.0 && c.1 == cell.1) (element_cells part.shape spot.block) k cell cell_at (and_from (cell.0 == cell.0) (cell.1 == cell.1) (eq-eqb cell.0 cell.0 refl) (eq-eqb cell.1 cell.1 refl)) in
      let in_part : Option Part → Bool = λ (found : Option Part). elim found [ None ↦ false | Some p ↦ list_any (λ (c : ℕ × ℕ). c.0 == cell.0 && c.1 == cell.1) (element_cells p.shape spot.block) ] in
      found_is spot.element cell.0 cell.1 block part part_at
      (any_passes_from_place
      (λ (s : Spot). s.element == spot.element && elim (slice_get v.parts spot.element) [ None ↦ false | Some p ↦ list_any (λ (c : ℕ × ℕ). c.0 == cell.0 && c.1 == cell.1) (element_cells p.shape s.block) ])
      (block_spots v block) j spot spot_at
      (and_from (spot.element == spot.element) (in_part (slice_get v.parts spot.element)) (eq-eqb spot.element spot.element refl) (ap in_part part_at ∙ inside)))

  -- ---- an available cell of a block

  pub record CopyAt (block : ℕ) (one : Site) : Type 0 where
    pub element : ℕ
    pub position : ℕ
    pub sector : ℕ
    pub part : Part
    pub is_part : slice_get v.parts element ≡ Some part
    pub is_site : site_at part.places position sector ≡ Some one
    pub is_block : block_at v element position sector ≡ Some block
    pub deep : sector < depth_of part.shape

  copy_by : (block j inner : ℕ) (spot : Spot) (one : Site) (found : Option Part) → slice_get (block_spots v block) j ≡ Some spot → slice_get v.parts spot.element ≡ found
      → slice_get (elim found [ None ↦ [] | Some part ↦ element_copies part spot.block ]) inner ≡ Some one → CopyAt block one
  copy_by block j inner spot one None spot_at is at = absurd (some_not_none one (sym at))
  copy_by block j inner spot one (Some part) spot_at is at =
      let from = in_filter (λ (cell : ℕ × ℕ). site_at part.places cell.0 cell.1) (element_cells part.shape spot.block) inner one at in
      let shape = (known.are_parts spot.element part is).shape_is in
      record {
        element = spot.element;
        position = from.item.0;
        sector = from.item.1;
        part = part;
        is_part = is;
        is_site = from.gives;
        is_block = spot_holds block j from.at spot part from.item spot_at is from.is_at;
        deep = (cell_facts part.shape shape).sector_within from.item.0 from.item.1 spot.block (cell_in part shape spot.block from.at from.item from.is_at);
      }

  pub copy_at : (block k : ℕ) (one : Site) → slice_get (copies v block) k ≡ Some one → CopyAt block one
  copy_at block k one at =
      let from = in_flat (at_spot v.parts element_copies) (block_spots v block) k one at in
      copy_by block from.at from.inner from.item one (slice_get v.parts from.item.element) from.is_at refl from.is_inner

  -- ---- and back: the spot and the cell of what a position holds

  pub record SpotAt (block element position sector : ℕ) (part : Part) : Type 0 where
    pub j : ℕ
    pub k : ℕ
    pub spot : Spot
    pub cell : ℕ × ℕ
    pub spot_at : slice_get (block_spots v block) j ≡ Some spot
    pub element_is : spot.element ≡ element
    pub cell_at : slice_get (element_cells part.shape spot.block) k ≡ Some cell
    pub position_is : cell.0 ≡ position
    pub sector_is : cell.1 ≡ sector

  pub spot_of : (block element position sector : ℕ) (part : Part) → slice_get v.parts element ≡ Some part → block_at v element position sector ≡ Some block → SpotAt block element position sector part
  spot_of block element position sector part part_at is =
      let in_part : Spot → Option Part → Bool = λ (s : Spot) (found : Option Part). elim found [ None ↦ false | Some p ↦ list_any (λ (c : ℕ × ℕ). c.0 == position && c.1 == sector) (element_cells p.shape s.block) ] in
      let spot = passing (λ (s : Spot). s.element == element && in_part s (slice_get v.parts element)) (block_spots v block) (find_passes (holds v element position sector) (capacity v) block is).1 in
      let inside : in_part spot.item (Some part) ≡ true = ap (in_part spot.item) (sym part_at) ∙ and_second (spot.item.element == element) (in_part spot.item (slice_get v.parts element)) spot.passes in
      let cell = passing (λ (c : ℕ × ℕ). c.0 == position && c.1 == sector) (element_cells part.shape spot.item.block) inside in
      record {
        j = spot.at;
        k = cell.at;
        spot = spot.item;
        cell = cell.item;
        spot_at = spot.is_at;
        element_is = eqb-true spot.item.element element (and_first (spot.item.element == element) (in_part spot.item (slice_get v.parts element)) spot.passes);
        cell_at = cell.is_at;
        position_is = eqb-true cell.item.0 position (and_first (cell.item.0 == position) (cell.item.1 == sector) cell.passes);
        sector_is = eqb-true cell.item.1 sector (and_second (cell.item.0 == position) (cell.item.1 == sector) cell.passes);
      }

  pub among_copies : (block element position sector : ℕ) (part : Part) (own : Site) → slice_get v.parts element ≡ Some part → block_at v element position sector ≡ Some block
      → site_at part.places position sector ≡ Some own → (k : ℕ) × (slice_get (copies v block) k ≡ Some own)
  among_copies block element position sector part own part_at is own_at =
      let at = spot_of block element position sector part part_at is in
      let there : site_at part.places at.cell.0 at.cell.1 ≡ Some own = ap (λ p. site_at part.places p at.cell.1) at.position_is ∙ ap (site_at part.places position) at.sector_is ∙ own_at in
      let inner = get_filter_map (λ (c : ℕ × ℕ). site_at part.places c.0 c.1) (element_cells part.shape at.spot.block) at.k at.cell own at.cell_at there in
      to_flat (at_spot v.parts element_copies) (block_spots v block) at.j inner.0 at.spot own at.spot_at
      (ap (λ (l : List Site). slice_get l inner.0) (at_part v.parts element_copies at.spot part (ap (slice_get v.parts) at.element_is ∙ part_at)) ∙ inner.1)

  -- ---- where all agree, the array is redundant, and only there

  module _ (image : Image) where
    module _ (all : (element sector : ℕ) (part : Part) → slice_get v.parts element ≡ Some part → sector < depth_of part.shape → Agrees v image element part sector) where
      pub same_first : (block k : ℕ) (one first : Site) → slice_get (copies v block) k ≡ Some one → first_copy v block ≡ Some first → bytes_at image one ≡ bytes_at image first
      same_first block k one first at first_at =
          let copy = copy_at block k one at in
          (all copy.element copy.sector copy.part copy.is_part copy.deep).copies copy.position block one first copy.is_block copy.is_site first_at

      pub has_first : (found : List Site) (k : ℕ) (one : Site) → slice_get found k ≡ Some one → (first : Site) × (slice_get found 0 ≡ Some first)
      has_first [] k one at = absurd (some_not_none one (sym at))
      has_first (first ∷ rest) k one at = (first, refl)

      all_consistent : IsConsistent v image
      all_consistent = record {
        equal_copies = λ block j k one other one_at other_at.
            let first = has_first (copies v block) j one one_at in
            same_first block j one first.0 one_at first.1 ∙ sym (same_first block k other first.0 other_at first.1);
        sum_to_zero = λ element sector part sites part_at parity below whole. (all element sector part part_at below).sum parity sites whole;
        mirrored_rows = λ mirrored block j k spot part cell sites spot_at part_at parity cell_at own_at row_at.
            let shape = (known.are_parts spot.element part part_at).shape_is in
            let deep = (cell_facts part.shape shape).sector_within cell.0 cell.1 spot.block (cell_in part shape spot.block k cell cell_at) in
            (all spot.element cell.1 part part_at deep).rows cell.0 mirrored parity block sites (spot_holds block j k spot part cell spot_at part_at cell_at) own_at row_at;
      }

      pub all_redundant : AreSectors image → IsRedundant v image
      all_redundant are = redundant_if v image known are all_consistent

    pub redundant_agrees : IsRedundant v image → (element sector : ℕ) (part : Part) → slice_get v.parts element ≡ Some part → sector < depth_of part.shape → Agrees v image element part sector
    redundant_agrees is element sector part part_at below =
        let consistent = consistent_if v image is in
        record {
          sum = λ parity sites whole. consistent.sum_to_zero element sector part sites part_at parity below whole;
          copies = λ position block own first block_is own_at first_at.
              let among = among_copies block element position sector part own part_at block_is own_at in
              consistent.equal_copies block among.0 0 own first among.1 first_at;
          rows = λ position mirrored parity block sites block_is own_at row_at.
              let at = spot_of block element position sector part part_at block_is in
              let site_none : site_at part.places at.cell.0 at.cell.1 ≡ None = ap (λ p. site_at part.places p at.cell.1) at.position_is ∙ ap (site_at part.places position) at.sector_is ∙ own_at in
              let row_some : row_without part.places at.cell.0 at.cell.1 ≡ Some sites = ap (λ p. row_without part.places p at.cell.1) at.position_is ∙ ap (row_without part.places position) at.sector_is ∙ row_at in
              consistent.mirrored_rows mirrored block at.j at.k at.spot part at.cell sites at.spot_at (ap (slice_get v.parts) at.element_is ∙ part_at) parity at.cell_at site_none row_some;
        }
