-- The sources of a cell that holds no block, by the mark of the array.
use Rattle.std.proofs.Common.{◌≡◌, ◌∙◌, inl, ⊎_elim, ℕ, Bool, true, false, List, [], ◌++◌, Option, Some, None, refl, sym, ap, subst, map, append-nil}
use Rattle.std.specs.Prelude.{◌&&◌, is_some, option_to_list, if◌then◌else◌}
use Rattle.ddf_bay.specs.Sectors.{Image}
use Rattle.ddf_array.specs.declared.part.Part.{Part}
use Rattle.ddf_array.specs.declared.site.Site.{Site}
use Rattle.ddf_array.specs.Levels.{keeps_parity}
use Rattle.ddf_array.specs.Places.{site_at}
use Rattle.ddf_array.specs.Rows.{sources_without_block}
use Rattle.ddf_array.specs.Sources.{Source, copy, row, row_without}
use Rattle.ddf_read.specs.Reading.{IsGivenBy, NotRead}
use Rattle.ddf_cells.specs.Without.{own_sources}

module _ (failed : ℕ → Type 0) (marked : Bool) (part : Part) (position sector : ℕ) where
  abbrev own : Option Site
  own = site_at part.places position sector

  chosen : (b : Bool) → (marked && is_some own) ≡ b → own_sources marked part position sector ≡ (if b then map copy (option_to_list own) else sources_without_block part position sector)
  chosen b is = ap (λ (c : Bool). if c then map copy (option_to_list own) else sources_without_block part position sector) is

  pub own_unmarked : (marked && is_some own) ≡ false → own_sources marked part position sector ≡ sources_without_block part position sector
  own_unmarked is = chosen false is

  given_first : (image : Image) (found : Option Site) (rest : List Source) (bytes : List ℕ) → IsGivenBy failed image (map copy (option_to_list found)) bytes → IsGivenBy failed image (map copy (option_to_list found) ++ rest) bytes
  given_first image None rest bytes given = absurd given
  given_first image (Some one) rest bytes given = ⊎_elim inl (λ later. absurd later.1) given

  given_by : (image : Image) (bytes : List ℕ) (b : Bool) → (marked && is_some own) ≡ b → IsGivenBy failed image (map copy (option_to_list own)) bytes → IsGivenBy failed image (own_sources marked part position sector) bytes
  given_by image bytes true is given = subst (λ (l : List Source). IsGivenBy failed image l bytes) (sym (chosen true is)) given
  given_by image bytes false is given =
      subst (λ (l : List Source). IsGivenBy failed image l bytes) (sym (chosen false is))
      (given_first image own (if keeps_parity part.shape.layout then map row (option_to_list (row_without part.places position sector)) else []) bytes given)

  -- the cell itself gives it
  pub own_given : (image : Image) (bytes : List ℕ) → IsGivenBy failed image (map copy (option_to_list own)) bytes → IsGivenBy failed image (own_sources marked part position sector) bytes
  own_given image bytes given = given_by image bytes (marked && is_some own) refl given

  -- nothing else does in a marked array
  pub own_alone : (marked && is_some own) ≡ true → (first : Option ℕ) → NotRead failed (map copy (option_to_list own)) first → NotRead failed (own_sources marked part position sector) first
  own_alone is first none = subst (λ (l : List Source). NotRead failed l first) (sym (chosen true is)) none

  -- nor without parity
  pub own_lone : (marked && is_some own) ≡ false → keeps_parity part.shape.layout ≡ false → (first : Option ℕ) → NotRead failed (map copy (option_to_list own)) first → NotRead failed (own_sources marked part position sector) first
  own_lone is none first not =
      subst (λ (l : List Source). NotRead failed l first)
      (sym (chosen false is ∙ ap (λ (b : Bool). map copy (option_to_list own) ++ (if b then map row (option_to_list (row_without part.places position sector)) else [])) none ∙ append-nil (map copy (option_to_list own)))) not
