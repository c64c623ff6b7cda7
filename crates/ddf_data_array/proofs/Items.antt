-- A list of which one item is changed, and rows of places.
use Rattle.std.proofs.Common.{◌≡◌, ◌≢◌, ◌∙◌, ◌⊎◌, inl, inr, ⊎_elim, ℕ, zero, suc, ◌+◌, ◌<◌, ◌≤◌, Bool, true, false, not, List, [], ◌∷◌, Option, Some, None, refl, sym, ap, subst, arith, map, length, slice_get, ◌&&◌}
use Rattle.std.specs.Prelude.{is_some, option_map, option_and_then, if◌then◌else◌}
use Rattle.std.proofs.lemmas.List.Sums.{sum_by-cons}
use Rattle.std.proofs.lemmas.Option.{slice_get_within}
use Rattle.ddf_array.specs.declared.place.Place.{Place}
use Rattle.ddf_array.specs.declared.site.Site.{Site}
use Rattle.ddf_array.specs.Places.{is_available, site, site_at, site_on}
use Rattle.ddf_array.specs.Sources.{all_of, other_positions, row_without}
use Rattle.ddf_array.proofs.LossLevels.{away}
use Rattle.ddf_array.proofs.RowParity.{rest_of}
use Rattle.ddf_array.proofs.RowSums.{others_are}
use Rattle.ddf_data_array.specs.Changing.{changed_item, place_in_sync}
use Rattle.ddf_data_array.proofs.Totals.{other_item}

-- where a sector of a position lies whose disk is there, in sync or not
abbrev pub lies_at : List Place → ℕ → ℕ → Option Site
lies_at places position sector = option_and_then (λ (place : Place). option_map (λ slot. site_on slot (place.start + sector)) place.slot) (slice_get places position)

-- ---- one item changed

pub record IsChanged {X : Type 0} (f : X → X) (k : ℕ) (xs : List X) (j : ℕ) (y : X) : Type 0 where
  pub same_place : j ≡ k
  pub item : X
  pub is_item : slice_get xs j ≡ Some item
  pub is_changed : y ≡ f item

pub changed_cases : {X : Type 0} (f : X → X) (k : ℕ) (xs : List X) (j : ℕ) (y : X) → slice_get (changed_item f k xs) j ≡ Some y
    → IsChanged f k xs j y ⊎ ((j ≢ k) × (slice_get xs j ≡ Some y))
changed_cases f k [] j y e = absurd (cc)
changed_cases f zero (x ∷ xs) zero y e = inl (record { same_place = refl; item = x; is_item = refl; is_changed = let same : f x ≡ y = cc in sym same })
changed_cases f zero (x ∷ xs) (suc j) y e = inr (λ same. omega (arith, same), e)
changed_cases f (suc k) (x ∷ xs) zero y e = inr (λ same. omega (arith, same), e)
changed_cases f (suc k) (x ∷ xs) (suc j) y e =
    ⊎_elim (λ is. inl (record { same_place = ap suc is.same_place; item = is.item; is_item = is.is_item; is_changed = is.is_changed }))
    (λ other. inr (λ same. other.0 (omega (arith, same)), other.1)) (changed_cases f k xs j y e)

pub changed_at : {X : Type 0} (f : X → X) (k : ℕ) (xs : List X) (x : X) → slice_get xs k ≡ Some x → slice_get (changed_item f k xs) k ≡ Some (f x)
changed_at f k [] x e = absurd (cc)
changed_at f zero (y ∷ xs) x e = let same : y ≡ x = cc in ap (λ z. Some (f z)) same
changed_at f (suc k) (y ∷ xs) x e = changed_at f k xs x e

pub unchanged_at : {X : Type 0} (f : X → X) (k : ℕ) (xs : List X) (j : ℕ) (y : X) → j ≢ k → slice_get xs j ≡ Some y → slice_get (changed_item f k xs) j ≡ Some y
unchanged_at f k [] j y other e = e
unchanged_at f zero (x ∷ xs) zero y other e = absurd (other refl)
unchanged_at f zero (x ∷ xs) (suc j) y other e = e
unchanged_at f (suc k) (x ∷ xs) zero y other e = e
unchanged_at f (suc k) (x ∷ xs) (suc j) y other e = unchanged_at f k xs j y (λ same. other (ap suc same)) e

pub changed_length : {X : Type 0} (f : X → X) (k : ℕ) (xs : List X) → length (changed_item f k xs) ≡ length xs
changed_length f k [] = refl
changed_length f zero (x ∷ xs) = refl
changed_length f (suc k) (x ∷ xs) = ap suc (changed_length f k xs)

-- ---- places

pub none_where : {X : Type 0} (o : Option X) → ((x : X) → o ≡ Some x → ⊥) → o ≡ None
none_where None never = refl
none_where (Some x) never = absurd (never x refl)

available_by : (synced : Bool) (slot : Option ℕ) (lba : ℕ) (one : Site) → (if synced then option_map (λ s. site_on s lba) slot else None) ≡ Some one → (synced && is_some slot) ≡ true
available_by true None lba one e = absurd (cc)
available_by true (Some s) lba one e = refl
available_by false slot lba one e = absurd (cc)

pub is_there : (place : Place) (sector : ℕ) (one : Site) → site place sector ≡ Some one → is_available place ≡ true
is_there place sector one e = available_by place.synced place.slot (place.start + sector) one e

none_or_synced : (synced : Bool) (slot : Option ℕ) (lba : ℕ) (one : Site) → synced ≡ false → (if synced then option_map (λ s. site_on s lba) slot else None) ≡ Some one → ⊥
none_or_synced true slot lba one out e = cc
none_or_synced false slot lba one out e = cc

-- the sites of places of which one is in sync now
module _ (places : List Place) (p : ℕ) (own : Place) (own_at : slice_get places p ≡ Some own) (out : own.synced ≡ false) (sector : ℕ) where
  abbrev afters : List Place
  afters = changed_item place_in_sync p places

  pub site_cases : (q : ℕ) (one : Site) → site_at afters q sector ≡ Some one → ((q ≡ p) × (lies_at places p sector ≡ Some one)) ⊎ ((q ≢ p) × (site_at places q sector ≡ Some one))
  site_cases q one e = by (slice_get afters q) refl e
    where
      by : (found : Option Place) → slice_get afters q ≡ found → option_and_then (λ place. site place sector) found ≡ Some one → ((q ≡ p) × (lies_at places p sector ≡ Some one)) ⊎ ((q ≢ p) × (site_at places q sector ≡ Some one))
      by None is e = absurd (cc)
      by (Some place) is e =
          ⊎_elim
          (λ changed. inl (
            changed.same_place,
            ap (λ (o : Option Place). option_and_then (λ (place : Place). option_map (λ slot. site_on slot (place.start + sector)) place.slot) o) (sym (ap (slice_get places) changed.same_place) ∙ changed.is_item)
                ∙ ap (λ (x : Place). site x sector) (sym changed.is_changed) ∙ e,
          ))
          (λ other. inr (other.0, ap (λ (o : Option Place). option_and_then (λ place. site place sector) o) other.1 ∙ e))
          (changed_cases place_in_sync p places q place is)

  -- the place was out of sync
  pub own_none : (one : Site) → site_at places p sector ≡ Some one → ⊥
  own_none one e = none_or_synced own.synced own.slot (own.start + sector) one out (ap (λ (o : Option Place). option_and_then (λ place. site place sector) o) (sym own_at) ∙ e)

  pub site_stays : (q : ℕ) (one : Site) → site_at places q sector ≡ Some one → site_at afters q sector ≡ Some one
  site_stays q one e = by (slice_get places q) refl e
    where
      by : (found : Option Place) → slice_get places q ≡ found → option_and_then (λ place. site place sector) found ≡ Some one → site_at afters q sector ≡ Some one
      by None is none = absurd (cc)
      by (Some place) is there =
          ap (λ (o : Option Place). option_and_then (λ place. site place sector) o) (unchanged_at place_in_sync p places q place (λ same. own_none one (ap (λ (n : ℕ). site_at places n sector) (sym same) ∙ e)) is) ∙ there

-- ---- how many aren't available

none_away_by : (b : Bool) (n : ℕ) → b ≡ true → n ≡ 0 → (if not b then 1 else 0) + n ≡ 0
none_away_by true n e f = omega (arith, f)
none_away_by false n e f = absurd (cc)

pub none_away : (places : List Place) → ((k : ℕ) (place : Place) → slice_get places k ≡ Some place → is_available place ≡ true) → away places ≡ 0
none_away [] all = refl
none_away (place ∷ places) all =
    sum_by-cons (λ (place : Place). if not (is_available place) then 1 else 0) place places
    ∙ none_away_by (is_available place) (away places) (all 0 place refl) (none_away places (λ k one at. all (suc k) one at))

one_away_by : (b : Bool) (n : ℕ) → n ≡ 0 → (if not b then 1 else 0) + n ≤ 1
one_away_by true n e = omega (arith, e)
one_away_by false n e = omega (arith, e)

first_by : (b : Bool) (n : ℕ) → b ≡ true → n ≤ 1 → (if not b then 1 else 0) + n ≤ 1
first_by true n e le = omega (arith, le)
first_by false n e le = absurd (cc)

pub few_away : (places : List Place) (q : ℕ) → ((k : ℕ) (place : Place) → slice_get places k ≡ Some place → k ≢ q → is_available place ≡ true) → away places ≤ 1
few_away [] q all = omega arith
few_away (place ∷ places) zero all =
    subst (λ (n : ℕ). n ≤ 1) (sym (sum_by-cons (λ (place : Place). if not (is_available place) then 1 else 0) place places))
    (one_away_by (is_available place) (away places) (none_away places (λ k one at. all (suc k) one at (λ same. omega (arith, same)))))
few_away (place ∷ places) (suc q) all =
    subst (λ (n : ℕ). n ≤ 1) (sym (sum_by-cons (λ (place : Place). if not (is_available place) then 1 else 0) place places))
    (first_by (is_available place) (away places) (all 0 place refl (λ same. omega (arith, same))) (few_away places q (λ k one at other. all (suc k) one at (λ same. other (omega (arith, same))))))

-- ---- rows

item_there_by : (f : ℕ → Option Site) (q : ℕ) (xs : List ℕ) (all : List Site) (o : Option Site) → f q ≡ o → all_of (o ∷ map f xs) ≡ Some all
    → (one : Site) × (rest : List Site) × (f q ≡ Some one) × (all_of (map f xs) ≡ Some rest)
item_there_by f q xs all None is e = absurd (cc)
item_there_by f q xs all (Some one) is e = let rest = rest_of one (all_of (map f xs)) all e in (one, rest.0, is, rest.1)

pub item_there : (f : ℕ → Option Site) (xs : List ℕ) (all : List Site) → all_of (map f xs) ≡ Some all → (k q : ℕ) → slice_get xs k ≡ Some q → (one : Site) × (f q ≡ Some one)
item_there f [] all e k q at = absurd (cc)
item_there f (x ∷ xs) all e zero q at =
    let found = item_there_by f x xs all (f x) refl e in let same : x ≡ q = cc in (found.0, sym (ap f same) ∙ found.2)
item_there f (x ∷ xs) all e (suc k) q at = let found = item_there_by f x xs all (f x) refl e in item_there f xs found.1 found.3 k q at

-- where a row is there without a position, at most that position isn't available
pub row_away : (places : List Place) (q sector : ℕ) (sites : List Site) → q < length places → row_without places q sector ≡ Some sites → away places ≤ 1
row_away places q sector sites below e =
    few_away places q (λ k place at other. by k place at other)
  where
    by : (k : ℕ) (place : Place) → slice_get places k ≡ Some place → k ≢ q → is_available place ≡ true
    by k place at other =
        let within : k < length places = slice_get_within places k place at in
        let item = other_item (length places) q k within other in
        let there = item_there (λ other. site_at places other sector) (other_positions (length places) q) sites e item.0 k (ap (λ (l : List ℕ). slice_get l item.0) (others_are (length places) q below) ∙ item.1) in
        is_there place sector there.0 (ap (λ (o : Option Place). option_and_then (λ place. site place sector) o) (sym at) ∙ there.1)
