-- The slots of reads that fail while a scrub compares.
use Rattle.std.proofs.Common.{◌≡◌, ◌∙◌, inl, inr, ⊎_elim, ℕ, zero, suc, ◌+◌, ◌<◌, true, List, [], ◌∷◌, Some, refl, sym, ap, subst, arith, filter_map, map, length, slice_get}
use Rattle.std.specs.Prelude.{if◌then◌else◌}
use Rattle.std.specs.List.{list_all}
use Rattle.std.proofs.lemmas.List.{length-append}
use Rattle.std.proofs.lemmas.Option.{slice_get_within}
use Rattle.ddf_lemmas.proofs.Lists.{first_get, get_filter_map, mapped_at, second_get}
use Rattle.ddf_primary.specs.Cells.{depth_of}
use Rattle.ddf_array.specs.declared.part.Part.{Part}
use Rattle.ddf_array.specs.declared.site.Site.{Site}
use Rattle.ddf_array.specs.Levels.{keeps_parity}
use Rattle.ddf_array.specs.Places.{is_available}
use Rattle.ddf_array.specs.Cells.{block_spots, element_cells}
use Rattle.ddf_array.specs.Sources.{at_spot, copies, copy, element_rows, every_source, first_copy, row, row_without, rows}
use Rattle.ddf_array.specs.Rows.{block_at}
use Rattle.ddf_array.specs.Volume.{Volume, IsVolume}
use Rattle.ddf_array.specs.Within.{is_mirrored}
use Rattle.ddf_array.proofs.Consistent.{at_part, to_flat}
use Rattle.ddf_read.specs.Along.{further}
use Rattle.ddf_read.specs.Reading.{HasSite}
use Rattle.ddf_read.specs.Sums.{other_sites}
use Rattle.ddf_read.proofs.OtherCells.{row_sites}
use Rattle.ddf_resync.specs.Compared.{IsCompared}
use Rattle.ddf_resync.proofs.Failing.{available_whole, whole_sites}
use Rattle.ddf_resync.proofs.Found.{spot_of}

length-map : {X Y : Type 0} (f : X → Y) (xs : List X) → length (map f xs) ≡ length xs
length-map f [] = refl
length-map f (x ∷ xs) = ap suc (length-map f xs)

-- sites that lie further on their slots
pub has_further : (slot k : ℕ) (sites : List Site) → HasSite (λ other. other ≡ slot) sites → HasSite (λ other. other ≡ slot) (map (further k) sites)
has_further slot k [] has = has
has_further slot k (site ∷ sites) has = ⊎_elim inl (λ later. inr (has_further slot k sites later)) has

module _ (v : Volume) (block : ℕ) where
  source_copy : (k : ℕ) (one : Site) → slice_get (copies v block) k ≡ Some one → slice_get (every_source v block) k ≡ Some (copy one)
  source_copy k one at = first_get (map copy (copies v block)) (map row (rows v block)) k (copy one) (mapped_at copy (copies v block) k one at)

  source_row : (n : ℕ) (sites : List Site) → slice_get (rows v block) n ≡ Some sites → slice_get (every_source v block) (length (map copy (copies v block)) + n) ≡ Some (row sites)
  source_row n sites at = second_get (map copy (copies v block)) (map row (rows v block)) n (row sites) (mapped_at row (rows v block) n sites at)

  all_sources : length (every_source v block) ≡ length (copies v block) + length (rows v block)
  all_sources =
      let a = length-append (map copy (copies v block)) (map row (rows v block)) in
      let b = length-map copy (copies v block) in
      let c = length-map row (rows v block) in
      omega (arith, a, b, c)

  -- one of two copies
  one_number : (k : ℕ) (own first : Site) → slice_get (copies v block) k ≡ Some own → first_copy v block ≡ Some first → (own ≡ first → ⊥) → 0 < k
  one_number zero own first at is differ = let same : own ≡ first = some_is (sym at ∙ is) in absurd (differ same)
    where
      some_is : {X : Type 0} {a b : X} → Some a ≡ Some b → a ≡ b
      some_is e = cc
  one_number (suc k) own first at is differ = omega arith

  pub own_compared : (k : ℕ) (own first : Site) → slice_get (copies v block) k ≡ Some own → first_copy v block ≡ Some first → (own ≡ first → ⊥) → IsCompared v own.slot
  own_compared k own first at is differ =
      let behind = one_number k own first at is differ in
      inl (record {
        block = block;
        number = k;
        source = copy own;
        is_source = source_copy k own at;
        is_compared = inl (omega (arith, behind, slice_get_within (copies v block) k own at, all_sources));
        is_on = refl;
      })

  pub first_compared : (k : ℕ) (own first : Site) → slice_get (copies v block) k ≡ Some own → first_copy v block ≡ Some first → (own ≡ first → ⊥) → IsCompared v first.slot
  first_compared k own first at is differ =
      let behind = one_number k own first at is differ in
      inl (record {
        block = block;
        number = 0;
        source = copy first;
        is_source = source_copy 0 first is;
        is_compared = inl (omega (arith, behind, slice_get_within (copies v block) k own at, all_sources));
        is_on = refl;
      })

  -- a copy beside a row
  pub beside_row : (first : Site) (n : ℕ) (sites : List Site) → first_copy v block ≡ Some first → slice_get (rows v block) n ≡ Some sites → IsCompared v first.slot
  beside_row first n sites is at =
      inl (record {
        block = block;
        number = 0;
        source = copy first;
        is_source = source_copy 0 first is;
        is_compared = inl (omega (arith, slice_get_within (copies v block) 0 first is, slice_get_within (rows v block) n sites at, all_sources));
        is_on = refl;
      })

  -- a row of a mirrored array
  pub row_compared : is_mirrored v ≡ true → (n slot : ℕ) (sites : List Site) → slice_get (rows v block) n ≡ Some sites → HasSite (λ other. other ≡ slot) sites → IsCompared v slot
  row_compared mirrored n slot sites at has =
      inl (record { block = block; number = length (map copy (copies v block)) + n; source = row sites; is_source = source_row n sites at; is_compared = inr mirrored; is_on = has })

-- the row of a cell that holds a block is one of the block's
pub among_rows : (v : Volume) → IsVolume v → (block element position sector : ℕ) (part : Part) (sites : List Site) → slice_get v.parts element ≡ Some part → keeps_parity part.shape.layout ≡ true
    → block_at v element position sector ≡ Some block → row_without part.places position sector ≡ Some sites → (k : ℕ) × (slice_get (rows v block) k ≡ Some sites)
among_rows v known block element position sector part sites part_at keep is row_at =
    let at = spot_of v known block element position sector part part_at is in
    let there : row_without part.places at.cell.0 at.cell.1 ≡ Some sites = ap (λ p. row_without part.places p at.cell.1) at.position_is ∙ ap (row_without part.places position) at.sector_is ∙ row_at in
    let cells : List (List Site) = filter_map (λ (c : ℕ × ℕ). row_without part.places c.0 c.1) (element_cells part.shape at.spot.block) in
    let inner = get_filter_map (λ (c : ℕ × ℕ). row_without part.places c.0 c.1) (element_cells part.shape at.spot.block) at.k at.cell sites at.cell_at there in
    let all : element_rows part at.spot.block ≡ cells = ap (λ b. if b then cells else []) keep in
    to_flat (at_spot v.parts element_rows) (block_spots v block) at.j inner.0 at.spot sites at.spot_at
    (ap (λ (l : List (List Site)). slice_get l inner.0) (at_part v.parts element_rows at.spot part (ap (slice_get v.parts) at.element_is ∙ part_at) ∙ all) ∙ inner.1)

-- the cells of a row that is all there
pub whole_compared : (v : Volume) (element : ℕ) (part : Part) → slice_get v.parts element ≡ Some part → keeps_parity part.shape.layout ≡ true → (sector : ℕ) → sector < depth_of part.shape → list_all is_available part.places ≡ true
    → (n slot : ℕ) → n ≡ length part.places → HasSite (λ other. other ≡ slot) (other_sites part.places sector n) → IsCompared v slot
whole_compared v element part is_part keep sector deep all n slot long has =
    let whole = available_whole part (sector + 0) all in
    let sites : map (further 0) (other_sites part.places sector n) ≡ whole.0 = ap (λ m. map (further 0) (other_sites part.places sector m)) long ∙ whole_sites part sector 0 whole.0 whole.1 in
    inr (record {
      element = element;
      part = part;
      is_part = is_part;
      keeps = keep;
      sector = sector + 0;
      deep = omega (arith, deep);
      sites = whole.0;
      is_whole = whole.1;
      is_on = subst (HasSite (λ other. other ≡ slot)) sites (has_further slot 0 (other_sites part.places sector n) has);
    })

-- the cells of the row of a cell that isn't there
pub row_of_compared : (v : Volume) → IsVolume v → is_mirrored v ≡ true → (block element position sector : ℕ) (part : Part) (sites : List Site) → slice_get v.parts element ≡ Some part → keeps_parity part.shape.layout ≡ true
    → block_at v element position sector ≡ Some block → row_without part.places position sector ≡ Some sites → (slot : ℕ) → HasSite (λ other. other ≡ slot) (other_sites part.places sector position) → IsCompared v slot
row_of_compared v known mirrored block element position sector part sites part_at keep is row_at slot has =
    let at = among_rows v known block element position sector part sites part_at keep is row_at in
    row_compared v block mirrored at.0 slot sites at.1 (subst (HasSite (λ other. other ≡ slot)) (row_sites part.places position sector sites row_at) has)
