-- The slots of reads that fail are those of available places; the sites of rows.
use Rattle.std.proofs.Common.{◌≡◌, ◌∙◌, ℕ, zero, suc, ◌+◌, ◌<◌, ◌≤◌, Bool, true, false, List, [], ◌∷◌, ◌++◌, Option, Some, None, refl, sym, ap, arith, map, length, slice_get}
use Rattle.std.specs.Prelude.{◌==◌, ◌&&◌, is_some, option_map, option_to_list, if◌then◌else◌}
use Rattle.std.specs.List.{flat_map, list_all, range_with_len}
use Rattle.std.proofs.lemmas.Bool.{eqb-true}
use Rattle.std.proofs.lemmas.Option.{slice_get_within}
use Rattle.ddf_lemmas.proofs.Lists.{mapped_at, slice_get-range, list_all_from, some_at_place}
use Rattle.ddf_lemmas.proofs.Tests.{true_not_false}
use Rattle.ddf_array.specs.declared.part.Part.{Part}
use Rattle.ddf_array.specs.declared.place.Place.{Place}
use Rattle.ddf_array.specs.declared.site.Site.{Site}
use Rattle.ddf_array.specs.Places.{is_available, site_at}
use Rattle.ddf_array.specs.Sources.{all_of}
use Rattle.ddf_array.specs.Redundant.{whole_row}
use Rattle.ddf_read.specs.Along.{further}
use Rattle.ddf_read.specs.Sums.{other_site, other_sites}
use Rattle.ddf_read.proofs.SourcesAlong.{site_further}
use Rattle.ddf_cells.proofs.Lists.{some_not_none}
use Rattle.ddf_cells.proofs.Surely.{of_place}
use Rattle.ddf_array.proofs.Enough.{all_pass, site_there}
use Rattle.ddf_array.proofs.RowParity.{rest_of}
use Rattle.ddf_resync.specs.Agreeing.{AllOrNot, Decides, IsStep, IsValue}

-- ---- whole rows

module _ (places : List Place) (sector k : ℕ) where
  not_last : (n : ℕ) → n < length places → (b : Bool) → (n == length places) ≡ b → b ≡ false
  not_last n below true is = absurd (omega (arith, below, eqb-true n (length places) is))
  not_last n below false is = refl

  one_from : (n m : ℕ) (sites : List Site) → n + suc m ≤ length places → (o : Option Site) → site_at places n sector ≡ o
      → all_of (option_map (further k) o ∷ map (λ position. site_at places position (sector + k)) (range_with_len (n + 1) m)) ≡ Some sites
      → ((rest : List Site) → all_of (map (λ position. site_at places position (sector + k)) (range_with_len (n + 1) m)) ≡ Some rest
      → map (further k) (flat_map (λ other. option_to_list (other_site places sector (length places) other)) (range_with_len (n + 1) m)) ≡ rest)
      → map (further k) (option_to_list o ++ flat_map (λ other. option_to_list (other_site places sector (length places) other)) (range_with_len (n + 1) m)) ≡ sites
  one_from n m sites inside None is e later = absurd (some_not_none sites (sym e))
  one_from n m sites inside (Some x) is e later =
      let rest = rest_of (further k x) (all_of (map (λ position. site_at places position (sector + k)) (range_with_len (n + 1) m))) sites e in
      ap (λ l. further k x ∷ l) (later rest.0 rest.1) ∙ rest.2

  row_from : (n m : ℕ) (sites : List Site) → n + m ≤ length places → all_of (map (λ position. site_at places position (sector + k)) (range_with_len n m)) ≡ Some sites
      → map (further k) (flat_map (λ other. option_to_list (other_site places sector (length places) other)) (range_with_len n m)) ≡ sites
  row_from n zero sites inside e = cc
  row_from n (suc m) sites inside e =
      let here : other_site places sector (length places) n ≡ site_at places n sector =
      ap (λ b. if b then None else site_at places n sector) (not_last n (omega (arith, inside)) (n == length places) refl) in
      ap (λ o. map (further k) (option_to_list o ++ flat_map (λ other. option_to_list (other_site places sector (length places) other)) (range_with_len (n + 1) m))) here
      ∙ one_from n m sites inside (site_at places n sector) refl
      (ap (λ o. all_of (o ∷ map (λ position. site_at places position (sector + k)) (range_with_len (n + 1) m))) (sym (site_further places n sector k)) ∙ e)
      (λ rest is. row_from (n + 1) m rest (omega (arith, inside)) is)

pub whole_sites : (part : Part) (sector k : ℕ) (sites : List Site) → whole_row part (sector + k) ≡ Some sites → map (further k) (other_sites part.places sector (length part.places)) ≡ sites
whole_sites part sector k sites e = row_from part.places sector k 0 (length part.places) sites (omega arith) e

all_each : (xs : List (Option Site)) (all : List Site) (k : ℕ) (o : Option Site) → all_of xs ≡ Some all → slice_get xs k ≡ Some o → (one : Site) × (o ≡ Some one)
all_each [] all k o e at = absurd (some_not_none o (sym at))
all_each (None ∷ xs) all k o e at = absurd (some_not_none all (sym e))
all_each (Some x ∷ xs) all zero o e at = let same : Some x ≡ o = cc in (x, sym same)
all_each (Some x ∷ xs) all (suc k) o e at = let rest = rest_of x (all_of xs) all e in all_each xs rest.0 k o rest.1 at

-- where a row is whole, all places are available
pub whole_available : (part : Part) (sector : ℕ) (sites : List Site) → whole_row part sector ≡ Some sites → list_all is_available part.places ≡ true
whole_available part sector sites e =
    list_all_from is_available part.places
    (λ k place at.
    let inside = slice_get_within part.places k place at in
    let there = mapped_at (λ position. site_at part.places position sector) (range_with_len 0 (length part.places)) k k (slice_get-range 0 (length part.places) k inside ∙ ap Some (omega arith)) in
    let one = all_each (map (λ position. site_at part.places position sector) (range_with_len 0 (length part.places))) sites k (site_at part.places k sector) e there in
    let of = of_place part.places k sector one.0 one.1 in
    let same : of.place ≡ place = places_are of.place place (sym of.is_place ∙ at) in
    ap is_available (sym same) ∙ ap (λ b. b && is_some of.place.slot) of.is_synced ∙ ap is_some of.is_there)
  where
    places_are : (a b : Place) → Some a ≡ Some b → a ≡ b
    places_are a b e = cc

-- and where all are, each row is whole
some_cons : (x : Site) (o : Option (List Site)) → (rest : List Site) × (o ≡ Some rest) → (all : List Site) × (option_map (λ l. x ∷ l) o ≡ Some all)
some_cons x o found = (x ∷ found.0, ap (option_map (λ l. x ∷ l)) found.1)

module _ (at : ℕ → Option Site) where
  some_first : (o : Option Site) (ns : List ℕ) → is_some o ≡ true → (rest : List Site) × (all_of (map at ns) ≡ Some rest) → (all : List Site) × (all_of (o ∷ map at ns) ≡ Some all)
  some_first None ns is rest = absurd (true_not_false (sym is))
  some_first (Some x) ns is rest = some_cons x (all_of (map at ns)) rest

  all_there : (n m : ℕ) → ((k : ℕ) → n ≤ k → k < n + m → is_some (at k) ≡ true) → (all : List Site) × (all_of (map at (range_with_len n m)) ≡ Some all)
  all_there n zero each = ([], refl)
  all_there n (suc m) each =
      some_first (at n) (range_with_len (n + 1) m) (each n (omega arith) (omega arith)) (all_there (n + 1) m (λ k from below. each k (omega (arith, from)) (omega (arith, below))))

pub available_whole : (part : Part) (sector : ℕ) → list_all is_available part.places ≡ true → (sites : List Site) × (whole_row part sector ≡ Some sites)
available_whole part sector all =
    all_there (λ position. site_at part.places position sector) 0 (length part.places)
    (λ k from below. let found = some_at_place part.places k (omega (arith, below)) in site_there part.places k sector found.0 found.1 (all_pass is_available part.places all k found.0 found.1))

-- ---- tests of neighbours

pub all_or_not : (P Q : ℕ → Type 0) (b : Bool) (n m : ℕ) → n ≡ m → ((k : ℕ) → k < m → P k → Q k) → ((k : ℕ) → k < m → (P k → ⊥) → Q k → ⊥) → AllOrNot b n P → AllOrNot b m Q
all_or_not P Q true n m same good bad all = λ k below. good k below (all k (omega (arith, below, same)))
all_or_not P Q false n m same good bad found = (found.0, (omega (arith, found.1.0, same), bad found.0 (omega (arith, found.1.0, same)) found.1.1))

pub step_of : (P Q : ℕ → Type 0) (b : Bool) (count most : ℕ) → 0 < count → count ≤ most → ((k : ℕ) → k < count → P k → Q k) → ((k : ℕ) → k < count → (P k → ⊥) → Q k → ⊥) → AllOrNot b count P → IsStep b count most Q
step_of P Q true count most some within good bad all = (some, within, λ k below. good k below (all k below))
step_of P Q false count most some within good bad found = (found.0, (omega (arith, found.1.0, within), bad found.0 found.1.0 found.1.1))

pub step_good : (P : ℕ → Type 0) (b : Bool) (count most : ℕ) → b ≡ true → IsStep b count most P → (0 < count) × (count ≤ most) × ((k : ℕ) → k < count → P k)
step_good P true count most is step = step
step_good P false count most is step = absurd (true_not_false (sym is))

pub step_bad : (P : ℕ → Type 0) (b : Bool) (count most : ℕ) → b ≡ false → IsStep b count most P → (k : ℕ) × ((k < most) × (P k → ⊥))
step_bad P true count most is step = absurd (true_not_false is)
step_bad P false count most is step = step

pub all_good : (P : ℕ → Type 0) (b : Bool) (count : ℕ) → b ≡ true → AllOrNot b count P → (k : ℕ) → k < count → P k
all_good P true count is all = all
all_good P false count is all = absurd (true_not_false (sym is))

pub all_bad : (P : ℕ → Type 0) (b : Bool) (count : ℕ) → b ≡ false → AllOrNot b count P → (k : ℕ) × ((k < count) × (P k → ⊥))
all_bad P true count is all = absurd (true_not_false is)
all_bad P false count is all = all

pub decides : (P : Type 0) (b : Bool) → (b ≡ true → P) → (b ≡ false → P → ⊥) → Decides b P
decides P true good bad = good refl
decides P false good bad = bad refl

pub decided : (P : Type 0) (b : Bool) → b ≡ true → Decides b P → P
decided P true is p = p
decided P false is p = absurd (true_not_false (sym is))

pub value_there : (b : Bool) (found : Option (List ℕ)) (bytes : List ℕ) → b ≡ true → IsValue b found bytes → found ≡ Some bytes
value_there true found bytes is e = e
value_there false found bytes is e = absurd (true_not_false (sym is))

pub value_missing : (b : Bool) (found : Option (List ℕ)) (bytes : List ℕ) → b ≡ false → IsValue b found bytes → found ≡ None
value_missing true found bytes is e = absurd (true_not_false is)
value_missing false found bytes is e = e
