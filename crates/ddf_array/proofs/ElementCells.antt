-- The sources of a block in one element.
use Rattle.std.proofs.Common.{◌≡◌, ◌∙◌, ℕ, List, [], ◌∷◌, ◌++◌, true, false, Option, Some, None, refl, sym, ap, slice_get, length, append-nil}
use Rattle.std.specs.Prelude.{map, filter_map, option_to_list}
use Rattle.std.specs.List.{range_with_len, flat_map, cons_option}
use Rattle.ddf_primary.specs.Levels.{IsShape}
use Rattle.ddf_primary.specs.Cells.{cells}
use Rattle.ddf_primary.proofs.Copies.{copies_every, copies_one}
use Rattle.ddf_primary.proofs.ShapeFacts.{cell_facts}
use Rattle.ddf_array.specs.declared.part.Part.{Part}
use Rattle.ddf_array.specs.declared.place.Place.{Place}
use Rattle.ddf_array.specs.declared.site.Site.{Site}
use Rattle.ddf_array.specs.Places.{site_at}
use Rattle.ddf_array.specs.Levels.{is_on_every, keeps_copies}
use Rattle.ddf_array.specs.Cells.{element_cells}
use Rattle.ddf_array.specs.Sources.{Source, copy, element_copies}

-- a position's sector as a source, where it is available
abbrev pub copies_on : List Place → (sector position : ℕ) → List Source
copies_on places sector position = map copy (option_to_list (site_at places position sector))

filter_map-copies : (places : List Place) (sector : ℕ) (positions : List ℕ)
    → map copy (filter_map (λ (cell : ℕ × ℕ). site_at places cell.0 cell.1) (map (λ position. (position, sector)) positions)) ≡ flat_map (copies_on places sector) positions
filter_map-copies places sector [] = refl
filter_map-copies places sector (p ∷ positions) = by_case (site_at places p sector) (filter_map-copies places sector positions)
  where
    by_case : (o : Option Site) → map copy (filter_map (λ (cell : ℕ × ℕ). site_at places cell.0 cell.1) (map (λ position. (position, sector)) positions)) ≡ flat_map (copies_on places sector) positions
        → map copy (cons_option o (filter_map (λ (cell : ℕ × ℕ). site_at places cell.0 cell.1) (map (λ position. (position, sector)) positions))) ≡ map copy (option_to_list o) ++ flat_map (copies_on places sector) positions
    by_case None e = e
    by_case (Some site) e = ap (λ l. copy site ∷ l) e

module _ (part : Part) (block member sector : ℕ) (at : slice_get (cells part.shape) block ≡ Some (member, sector)) where
  pub cells_every : is_on_every part.shape.layout ≡ true → element_cells part.shape block ≡ map (λ position. (position, sector)) (range_with_len 0 part.shape.members)
  cells_every is = copies_every part.shape block member sector at is

  pub cells_one : IsShape part.shape → keeps_copies part.shape.layout ≡ false → element_cells part.shape block ≡ (member, sector) ∷ []
  cells_one known is =
      let facts = cell_facts part.shape known in
      copies_one part.shape block member sector at is (facts.member_within member sector block (facts.named member sector block at))

  pub copies_on_every : is_on_every part.shape.layout ≡ true → length part.places ≡ part.shape.members
      → map copy (element_copies part block) ≡ flat_map (copies_on part.places sector) (range_with_len 0 (length part.places))
  copies_on_every is long =
      ap (λ l. map copy (filter_map (λ (cell : ℕ × ℕ). site_at part.places cell.0 cell.1) l)) (cells_every is)
      ∙ filter_map-copies part.places sector (range_with_len 0 part.shape.members) ∙ ap (λ n. flat_map (copies_on part.places sector) (range_with_len 0 n)) (sym long)

  pub copies_on_one : IsShape part.shape → keeps_copies part.shape.layout ≡ false → map copy (element_copies part block) ≡ copies_on part.places sector member
  copies_on_one known is =
      ap (λ l. map copy (filter_map (λ (cell : ℕ × ℕ). site_at part.places cell.0 cell.1) l)) (cells_one known is)
      ∙ filter_map-copies part.places sector (member ∷ []) ∙ append-nil (copies_on part.places sector member)

-- ---- of two cells

module _ (part : Part) (block : ℕ) (low high : ℕ × ℕ) (are : element_cells part.shape block ≡ low ∷ high ∷ []) where
  either : (one other : Option Site) → cons_option one (cons_option other []) ≡ option_to_list one ++ option_to_list other
  either None None = refl
  either None (Some site) = refl
  either (Some site) None = refl
  either (Some site) (Some next) = refl

  sources : (one other : Option Site) → map copy (cons_option one (cons_option other [])) ≡ map copy (option_to_list one) ++ map copy (option_to_list other)
  sources None None = refl
  sources None (Some site) = refl
  sources (Some site) None = refl
  sources (Some site) (Some next) = refl

  pub element_copies_two : element_copies part block ≡ option_to_list (site_at part.places low.0 low.1) ++ option_to_list (site_at part.places high.0 high.1)
  element_copies_two =
      ap (filter_map (λ (cell : ℕ × ℕ). site_at part.places cell.0 cell.1)) are ∙ either (site_at part.places low.0 low.1) (site_at part.places high.0 high.1)

  pub copies_on_two : map copy (element_copies part block) ≡ copies_on part.places low.1 low.0 ++ copies_on part.places high.1 high.0
  copies_on_two =
      ap (λ l. map copy (filter_map (λ (cell : ℕ × ℕ). site_at part.places cell.0 cell.1) l)) are
      ∙ sources (site_at part.places low.0 low.1) (site_at part.places high.0 high.1)
