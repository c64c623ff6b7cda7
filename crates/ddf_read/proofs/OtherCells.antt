-- What reads of the other cells of a row give.
use Rattle.std.proofs.Common.{◌≡◌, ◌∙◌, inl, inr, ⊎_elim, ℕ, ◌<◌, List, [], ◌∷◌, ◌++◌, Bool, true, false, Option, Some, None, refl, sym, ap, subst, arith, add-zero}
use Rattle.std.specs.Prelude.{map, option_to_list, option_map, is_some, ◌==◌, slice_index_or, if◌then◌else◌, length}
use Rattle.std.specs.List.{range_with_len, flat_map}
use Rattle.std.specs.Simd.Lanes.{fold_l}
use Rattle.std.proofs.lemmas.List.{map-append}
use Rattle.ddf_lemmas.proofs.Lists.{fold-append}
use Rattle.ddf_parity.specs.Xor.{xor, xor_all, zeros}
use Rattle.ddf_bay.specs.Sectors.{Image}
use Rattle.ddf_array.specs.declared.place.Place.{Place}
use Rattle.ddf_array.specs.declared.site.Site.{Site}
use Rattle.ddf_array.specs.Places.{site_at, site_on}
use Rattle.ddf_array.specs.Sources.{row, all_of, row_without, other_at}
use Rattle.ddf_array.specs.Values.{bytes_at, sum_at}
use Rattle.ddf_array.proofs.Ranges.{flat-around}
use Rattle.ddf_array.proofs.RowCells.{row_is}
use Rattle.ddf_read.specs.Along.{further}
use Rattle.ddf_read.specs.Sums.{other_site, other_sites, AreSums, AreAdded}
use Rattle.ddf_read.specs.Reading.{HasSite, IsGivenBy, NoneLeft}
use Rattle.ddf_read.proofs.Tries.{HasSite-wider}
use Rattle.ddf_read.proofs.BlockSources.{flat-same}

-- ---- the values that are there

abbrev somes : {X : Type 0} → List (Option X) → List X
somes [] = []
somes (None ∷ xs) = somes xs
somes (Some x ∷ xs) = x ∷ somes xs

somes-append : {X : Type 0} (xs ys : List (Option X)) → somes (xs ++ ys) ≡ somes xs ++ somes ys
somes-append [] ys = refl
somes-append (None ∷ xs) ys = somes-append xs ys
somes-append (Some x ∷ xs) ys = ap (λ l. x ∷ l) (somes-append xs ys)

cons_of : {X : Type 0} (x : X) (o : Option (List X)) (ys : List X) → option_map (λ l. x ∷ l) o ≡ Some ys → (rest : List X) × (o ≡ Some rest) × (x ∷ rest ≡ ys)
cons_of x None ys e = absurd (cc)
cons_of x (Some rest) ys e = (rest, refl, cc)

somes_from_all : {X : Type 0} (xs : List (Option X)) (ys : List X) → all_of xs ≡ Some ys → somes xs ≡ ys
somes_from_all [] ys e = cc
somes_from_all (None ∷ xs) ys e = absurd (cc)
somes_from_all (Some x ∷ xs) ys e =
    let found = cons_of x (all_of xs) ys e in ap (λ l. x ∷ l) (somes_from_all xs found.0 found.1) ∙ found.2

somes-flat : {X : Type 0} (each : ℕ → List (Option X)) (xs : List ℕ) → somes (flat_map each xs) ≡ flat_map (λ other. somes (each other)) xs
somes-flat each [] = refl
somes-flat each (x ∷ xs) = somes-append (each x) (flat_map each xs) ∙ ap (λ l. somes (each x) ++ l) (somes-flat each xs)

-- ---- the sectors of a row

-- what a position adds
abbrev pub sites_at : List Place → (position sector : ℕ) → ℕ → List Site
sites_at places position sector other = option_to_list (other_site places sector position other)

one_some : {X : Type 0} (o : Option X) → somes (o ∷ []) ≡ option_to_list o
one_some None = refl
one_some (Some x) = refl

other_somes : (places : List Place) (position sector other : ℕ) → somes (other_at places sector position other) ≡ sites_at places position sector other
other_somes places position sector other = by_case (other == position)
  where
    by_case : (b : Bool) → somes (if b then [] else site_at places other sector ∷ []) ≡ option_to_list (if b then None else site_at places other sector)
    by_case true = refl
    by_case false = one_some (site_at places other sector)

pub row_sites : (places : List Place) (position sector : ℕ) (sites : List Site) → row_without places position sector ≡ Some sites
    → flat_map (sites_at places position sector) (range_with_len 0 (length places)) ≡ sites
row_sites places position sector sites e =
    sym (flat-same _ _ (other_somes places position sector) (range_with_len 0 (length places)))
    ∙ sym (somes-flat (other_at places sector position) (range_with_len 0 (length places)))
    ∙ somes_from_all (flat_map (other_at places sector position) (range_with_len 0 (length places))) sites (sym (row_is places position sector) ∙ e)

-- ---- what a read of them gives

sum_more : (image : Image) (xs ys : List Site) → sum_at image (xs ++ ys) ≡ fold_l xor (sum_at image xs) (map (bytes_at image) ys)
sum_more image xs ys = ap xor_all (map-append (bytes_at image) xs ys) ∙ fold-append xor zeros (map (bytes_at image) xs) (map (bytes_at image) ys)

HasSite-left : (P : ℕ → Type 0) (xs ys : List Site) → HasSite P xs → HasSite P (xs ++ ys)
HasSite-left P [] ys has = absurd has
HasSite-left P (x ∷ xs) ys has = ⊎_elim inl (λ there. inr (HasSite-left P xs ys there)) has

HasSite-right : (P : ℕ → Type 0) (xs ys : List Site) → HasSite P ys → HasSite P (xs ++ ys)
HasSite-right P [] ys has = has
HasSite-right P (x ∷ xs) ys has = inr (HasSite-right P xs ys has)

-- a sector of one position is among those of all
pub among_others : (places : List Place) (position sector k : ℕ) (P : ℕ → Type 0) → k < length places → HasSite P (sites_at places position sector k) → HasSite P (other_sites places sector position)
among_others places position sector k P below has =
    subst (HasSite P) (sym (flat-around (sites_at places position sector) (length places) k below))
    (HasSite-right P (flat_map (sites_at places position sector) (range_with_len 0 k)) _ (HasSite-left P (sites_at places position sector k) _ has))

module _ (places : List Place) (position sector : ℕ) (F : ℕ → Type 0) where
  given_by : (image : Image) (bytes : List ℕ) (found : Option (List Site)) → row_without places position sector ≡ found → is_some found ≡ true
      → bytes ≡ sum_at image (other_sites places sector position) → IsGivenBy F image (map row (option_to_list found)) bytes
  given_by image bytes None is there e = absurd (cc)
  given_by image bytes (Some sites) is there e = inl (e ∙ ap (sum_at image) (row_sites places position sector sites is))

  pub row_given : (image : Image) (bytes : List ℕ) → is_some (row_without places position sector) ≡ true
      → bytes ≡ sum_at image (other_sites places sector position)
      → IsGivenBy F image (map row (option_to_list (row_without places position sector))) bytes
  row_given image bytes there e = given_by image bytes (row_without places position sector) refl there e

  left_by : (slot : ℕ) (found : Option (List Site)) → row_without places position sector ≡ found → is_some found ≡ true
      → HasSite (λ other. other ≡ slot) (other_sites places sector position) → F slot → NoneLeft F (map row (option_to_list found)) slot
  left_by slot None is there has failed = absurd (cc)
  left_by slot (Some sites) is there has failed =
      let among : HasSite (λ other. other ≡ slot) sites = subst (HasSite (λ other. other ≡ slot)) (row_sites places position sector sites is) has in
      record {
        all_failed = (HasSite-wider (λ other same. subst F (sym same) failed) sites among, tt);
        this_failed = failed;
        is_of_first = among;
      }

  pub row_failed : (slot : ℕ) → is_some (row_without places position sector) ≡ true
      → HasSite (λ other. other ≡ slot) (other_sites places sector position) → F slot → NoneLeft F (map row (option_to_list (row_without places position sector))) slot
  row_failed slot there has failed = left_by slot (row_without places position sector) refl there has failed

-- ---- row beside row

further_none : (sites : List Site) → map (further 0) sites ≡ sites
further_none [] = refl
further_none (site ∷ sites) =
    ap (λ n. site_on site.slot n ∷ map (further 0) sites) (add-zero site.lba) ∙ ap (λ l. site ∷ l) (further_none sites)

-- the first of them
pub first_sum : (image : Image) (sites : List Site) (sectors : List (List ℕ)) → 0 < length sectors → AreSums image sites sectors → slice_index_or sectors 0 [] ≡ sum_at image sites
first_sum image sites sectors some sums = sums 0 some ∙ ap (sum_at image) (further_none sites)

-- one position more
pub sums_more : (image : Image) (sites more : List Site) (now new : List (List ℕ)) → length new ≡ length now → AreSums image sites now → AreAdded image more now new → AreSums image (sites ++ more) new
sums_more image sites more now new long sums added k below =
    let inside : k < length now = omega (arith, below, long) in
    added k inside
    ∙ ap (λ (l : List ℕ). fold_l xor l (map (bytes_at image) (map (further k) more))) (sums k inside)
    ∙ sym (sum_more image (map (further k) sites) (map (further k) more))
    ∙ ap (sum_at image) (sym (map-append (further k) sites more))
