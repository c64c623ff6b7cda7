-- The cells that the sources of a block are made of.
use Rattle.std.proofs.Common.{◌≡◌, ◌∙◌, ⊎_elim, ℕ, Bool, true, false, not, List, [], Option, Some, None, refl, ap, subst, map, slice_get}
use Rattle.std.specs.Prelude.{filter_map, if◌then◌else◌}
use Rattle.ddf_lemmas.proofs.Lists.{first_get, get_filter_map, in_either, in_map, in_second, mapped_at}
use Rattle.ddf_secondary.specs.declared.spot.Spot.{Spot}
use Rattle.ddf_array.specs.declared.part.Part.{Part}
use Rattle.ddf_array.specs.declared.site.Site.{Site}
use Rattle.ddf_array.specs.Places.{site_at}
use Rattle.ddf_array.specs.Levels.{keeps_parity}
use Rattle.ddf_array.specs.Volume.{Volume}
use Rattle.ddf_array.specs.Cells.{element_cells, block_spots}
use Rattle.ddf_array.specs.Sources.{Source, copy, row, row_without, element_copies, element_rows, at_spot, copies, rows, every_source, sources}
use Rattle.ddf_array.proofs.Consistent.{to_flat, at_part, in_filter, in_flat}

-- the source is this cell, or its row without it
abbrev pub Gives : Part → ℕ × ℕ → Source → Type 0
Gives part cell (copy one) = site_at part.places cell.0 cell.1 ≡ Some one
Gives part cell (row sites) = (keeps_parity part.shape.layout ≡ true) × (row_without part.places cell.0 cell.1 ≡ Some sites)

pub record IsFrom (v : Volume) (block : ℕ) (source : Source) : Type 0 where
  pub j : ℕ
  pub spot : Spot
  pub is_spot : slice_get (block_spots v block) j ≡ Some spot
  pub part : Part
  pub is_part : slice_get v.parts spot.element ≡ Some part
  pub i : ℕ
  pub cell : ℕ × ℕ
  pub is_cell : slice_get (element_cells part.shape spot.block) i ≡ Some cell
  pub gives : Gives part cell source

-- a cell holds the block
pub record HasCell (v : Volume) (block : ℕ) : Type 0 where
  pub j : ℕ
  pub spot : Spot
  pub is_spot : slice_get (block_spots v block) j ≡ Some spot
  pub part : Part
  pub is_part : slice_get v.parts spot.element ≡ Some part
  pub i : ℕ
  pub cell : ℕ × ℕ
  pub is_cell : slice_get (element_cells part.shape spot.block) i ≡ Some cell

abbrev pub cell_of : (v : Volume) (block : ℕ) (source : Source) → IsFrom v block source → HasCell v block
cell_of v block source from = record { j = from.j; spot = from.spot; is_spot = from.is_spot; part = from.part; is_part = from.is_part; i = from.i; cell = from.cell; is_cell = from.is_cell }

pub made_of : (v : Volume) (block : ℕ) (source : Source) (has : HasCell v block) → Gives has.part has.cell source → IsFrom v block source
made_of v block source has gives = record { j = has.j; spot = has.spot; is_spot = has.is_spot; part = has.part; is_part = has.is_part; i = has.i; cell = has.cell; is_cell = has.is_cell; gives = gives }

module _ (v : Volume) (block : ℕ) where
  copy_by : (found : Option Part) (j inner : ℕ) (spot : Spot) (one : Site) → slice_get (block_spots v block) j ≡ Some spot → slice_get v.parts spot.element ≡ found
      → slice_get (elim found [ None ↦ [] | Some part ↦ element_copies part spot.block ]) inner ≡ Some one → IsFrom v block (copy one)
  copy_by None j inner spot one at part_at e = absurd (cc)
  copy_by (Some part) j inner spot one at part_at e =
      let from = in_filter (λ (c : ℕ × ℕ). site_at part.places c.0 c.1) (element_cells part.shape spot.block) inner one e in
      record { j = j; spot = spot; is_spot = at; part = part; is_part = part_at; i = from.at; cell = from.item; is_cell = from.is_at; gives = from.gives }

  -- a copy is an available cell
  pub copy_from : (k : ℕ) (one : Site) → slice_get (copies v block) k ≡ Some one → IsFrom v block (copy one)
  copy_from k one e =
      let from = in_flat (at_spot v.parts element_copies) (block_spots v block) k one e in
      copy_by (slice_get v.parts from.item.element) from.at from.inner from.item one from.is_at refl from.is_inner

  row_in : (b : Bool) (j inner : ℕ) (spot : Spot) (part : Part) (sites : List Site) → slice_get (block_spots v block) j ≡ Some spot → slice_get v.parts spot.element ≡ Some part
      → keeps_parity part.shape.layout ≡ b
      → slice_get (if b then filter_map (λ (c : ℕ × ℕ). row_without part.places c.0 c.1) (element_cells part.shape spot.block) else []) inner ≡ Some sites → IsFrom v block (row sites)
  row_in true j inner spot part sites at part_at parity e =
      let from = in_filter (λ (c : ℕ × ℕ). row_without part.places c.0 c.1) (element_cells part.shape spot.block) inner sites e in
      record { j = j; spot = spot; is_spot = at; part = part; is_part = part_at; i = from.at; cell = from.item; is_cell = from.is_at; gives = (parity, from.gives) }
  row_in false j inner spot part sites at part_at parity e = absurd (cc)

  row_by : (found : Option Part) (j inner : ℕ) (spot : Spot) (sites : List Site) → slice_get (block_spots v block) j ≡ Some spot → slice_get v.parts spot.element ≡ found
      → slice_get (elim found [ None ↦ [] | Some part ↦ element_rows part spot.block ]) inner ≡ Some sites → IsFrom v block (row sites)
  row_by None j inner spot sites at part_at e = absurd (cc)
  row_by (Some part) j inner spot sites at part_at e = row_in (keeps_parity part.shape.layout) j inner spot part sites at part_at refl e

  pub row_from : (k : ℕ) (sites : List Site) → slice_get (rows v block) k ≡ Some sites → IsFrom v block (row sites)
  row_from k sites e =
      let from = in_flat (at_spot v.parts element_rows) (block_spots v block) k sites e in
      row_by (slice_get v.parts from.item.element) from.at from.inner from.item sites from.is_at refl from.is_inner

  moved : (one other : Source) → one ≡ other → IsFrom v block one → IsFrom v block other
  moved one other same from = subst (IsFrom v block) same from

  -- each source is made of a cell
  pub source_from : (k : ℕ) (source : Source) → slice_get (every_source v block) k ≡ Some source → IsFrom v block source
  source_from k source at =
      ⊎_elim
      (λ front. let from = in_map copy (copies v block) front.0 source front.1 in moved (copy from.0) source from.2 (copy_from front.0 from.0 from.1))
      (λ back. let from = in_map row (rows v block) back.0 source back.1 in moved (row from.0) source from.2 (row_from back.0 from.0 from.1))
      (in_either (map copy (copies v block)) (map row (rows v block)) k source at)

  -- and what a cell gives is a source
  pub copy_to : (one : Site) → IsFrom v block (copy one) → (k : ℕ) × (slice_get (copies v block) k ≡ Some one)
  copy_to one from =
      let inner = get_filter_map (λ (c : ℕ × ℕ). site_at from.part.places c.0 c.1) (element_cells from.part.shape from.spot.block) from.i from.cell one from.is_cell from.gives in
      to_flat (at_spot v.parts element_copies) (block_spots v block) from.j inner.0 from.spot one from.is_spot
      (ap (λ (l : List Site). slice_get l inner.0) (at_part v.parts element_copies from.spot from.part from.is_part) ∙ inner.1)

  pub row_to : (sites : List Site) → IsFrom v block (row sites) → (k : ℕ) × (slice_get (rows v block) k ≡ Some sites)
  row_to sites from =
      let inner = get_filter_map (λ (c : ℕ × ℕ). row_without from.part.places c.0 c.1) (element_cells from.part.shape from.spot.block) from.i from.cell sites from.is_cell from.gives.1 in
      let own = ap (λ b. slice_get (if b then filter_map (λ (c : ℕ × ℕ). row_without from.part.places c.0 c.1) (element_cells from.part.shape from.spot.block) else []) inner.0) from.gives.0 ∙ inner.1 in
      to_flat (at_spot v.parts element_rows) (block_spots v block) from.j inner.0 from.spot sites from.is_spot
      (ap (λ (l : List (List Site)). slice_get l inner.0) (at_part v.parts element_rows from.spot from.part from.is_part) ∙ own)

  pub source_to : (source : Source) → IsFrom v block source → (k : ℕ) × (slice_get (every_source v block) k ≡ Some source)
  source_to (copy one) from =
      let there = copy_to one from in
      (there.0, first_get (map copy (copies v block)) (map row (rows v block)) there.0 (copy one) (mapped_at copy (copies v block) there.0 one there.1))
  source_to (row sites) from =
      let there = row_to sites from in
      in_second (map copy (copies v block)) (map row (rows v block)) there.0 (row sites) (mapped_at row (rows v block) there.0 sites there.1)

-- each source that a read may use is a source
pub source_of : (v : Volume) (block k : ℕ) (source : Source) → slice_get (sources v block) k ≡ Some source → IsFrom v block source
source_of v block k source at = by (not v.marked) at
  where
    by : (b : Bool) → slice_get (if b then every_source v block else map copy (copies v block)) k ≡ Some source → IsFrom v block source
    by true e = source_from v block k source e
    by false e = let from = in_map copy (copies v block) k source e in moved v block (copy from.0) source from.2 (copy_from v block k from.0 from.1)

pub source_at : (v : Volume) (block k : ℕ) (source : Source) → slice_get (sources v block) k ≡ Some source → (j : ℕ) × (slice_get (every_source v block) j ≡ Some source)
source_at v block k source at = source_to v block source (source_of v block k source at)
