-- In a sound array an available position holds what it should, but for parity that tells nothing.
use Rattle.std.proofs.Common.{◌≡◌, ◌∙◌, ◌⊎◌, inl, inr, ⊎_elim, ℕ, suc, ◌+◌, ◌/◌, ◌<◌, ◌≤◌, Bool, true, false, not, List, [], ◌∷◌, Option, Some, None, get_or, refl, sym, ap, subst, arith, map, length, slice_get}
use Rattle.std.specs.Prelude.{is_some, option_and_then, option_map, if◌then◌else◌}
use Rattle.std.specs.List.{range_with_len}
use Rattle.std.proofs.lemmas.Bool.{cases_lt, eq-eqb, false≢true, not-false}
use Rattle.std.proofs.lemmas.Option.{none-some, slice_get-get_or}
use Rattle.ddf_lemmas.proofs.Options.{some_from_is_some}
use Rattle.ddf_lemmas.proofs.Tests.{not_back}
use Rattle.ddf_bay.specs.Sectors.{Image}
use Rattle.ddf_primary.specs.Cells.{depth_of, parity_member}
use Rattle.ddf_array.specs.declared.part.Part.{Part}
use Rattle.ddf_array.specs.declared.place.Place.{Place}
use Rattle.ddf_array.specs.declared.site.Site.{Site}
use Rattle.ddf_array.specs.Places.{is_available, site, site_at, site_on}
use Rattle.ddf_array.specs.Redundant.{IsRedundant, whole_row}
use Rattle.ddf_array.specs.Rows.{cell_value, row_sum}
use Rattle.ddf_array.specs.Sound.{IsSound, has_block}
use Rattle.ddf_array.specs.Sources.{all_of, row_without}
use Rattle.ddf_array.specs.Values.{bytes_at}
use Rattle.ddf_array.specs.Volume.{Volume, IsVolume}
use Rattle.ddf_array.specs.Within.{is_within}
use Rattle.ddf_array.proofs.Enough.{only_one, row_there, site_there}
use Rattle.ddf_array.proofs.RowParity.{cell_value_is, parity_is_sum}
use Rattle.ddf_array.proofs.LossLevels.{away}
use Rattle.ddf_cells.specs.CellSources.{is_parity, wanted}
use Rattle.ddf_cells.proofs.Lists.{in_range}
use Rattle.ddf_rebuild.specs.Filling.{HoldsWanted}
use Rattle.ddf_data_array.specs.Moved.{HoldsTheSame, IsIdleParity}
use Rattle.ddf_data_array.proofs.Idle.{parity_there}
use Rattle.ddf_data_array.proofs.RowRight.{parity_right}

-- ---- a position that isn't there

rest_none : (y : Site) (o : Option (List Site)) → option_map (λ l. y ∷ l) o ≡ None → o ≡ None
rest_none y None e = refl
rest_none y (Some l) e = absurd (none-some (y ∷ l) (sym e))

pub record IsMissing (f : ℕ → Option Site) (xs : List ℕ) : Type 0 where
  pub at : ℕ
  pub item : ℕ
  pub is_at : slice_get xs at ≡ Some item
  pub is_none : f item ≡ None

missing_by : (f : ℕ → Option Site) (x : ℕ) (xs : List ℕ) (o : Option Site) → f x ≡ o → all_of (o ∷ map f xs) ≡ None → (all_of (map f xs) ≡ None → IsMissing f xs) → IsMissing f (x ∷ xs)
missing_by f x xs None is e rest = record { at = 0; item = x; is_at = refl; is_none = is }
missing_by f x xs (Some y) is e rest =
    let later = rest (rest_none y (all_of (map f xs)) e) in record { at = suc later.at; item = later.item; is_at = later.is_at; is_none = later.is_none }

missing_in : (f : ℕ → Option Site) (xs : List ℕ) → all_of (map f xs) ≡ None → IsMissing f xs
missing_in f [] e = absurd (none-some [] (sym e))
missing_in f (x ∷ xs) e = missing_by f x xs (f x) refl e (missing_in f xs)

some_none : (o : Option Site) → is_some o ≡ true → o ≡ None → ⊥
some_none o a b = false≢true (ap is_some (sym b) ∙ a)

module _ (places : List Place) (sector : ℕ) (few : away places ≤ 1) (lost : ℕ) (below : lost < length places) (none_at : site_at places lost sector ≡ None) where
  abbrev nowhere : Place
  nowhere = record { slot = None; start = 0; synced = false; row = 0 }

  abbrev own : Place
  own = get_or places lost nowhere

  own_at : slice_get places lost ≡ Some own
  own_at = slice_get-get_or places lost nowhere below

  own_lacks : not (is_available own) ≡ true
  own_lacks = not_back (is_available own) (λ available. some_none (site_at places lost sector) (site_there places lost sector own own_at available) none_at)

  -- its row is there without it
  rest_there : is_some (row_without places lost sector) ≡ true
  rest_there =
      row_there places lost sector (λ other place at apart.
      not-false (is_available place) (only_one (λ (place : Place). not (is_available place)) places few lost other own place own_at at own_lacks (λ same. false≢true (sym apart ∙ eq-eqb other lost same))))

-- ---- what an available position holds

module _ (is_absent : ℕ → ℕ → Bool) (v : Volume) (known : IsVolume v) (image : Image) (sound : IsSound is_absent v image) (unmarked : v.marked ≡ false) (within : is_within v ≡ true)
    (e : ℕ) (part : Part) (part_at : slice_get v.parts e ≡ Some part) (none : (other : ℕ) → is_absent e other ≡ false) where
  is : IsRedundant v image
  is = sound.redundant unmarked within

  module _ (p sector : ℕ) (own : Site) (own_at : site_at part.places p sector ≡ Some own) (deep : sector < depth_of part.shape) where
    abbrev Holds : Type 0
    Holds = (bytes_at image own ≡ wanted v image e part sector p) ⊎ IsIdleParity v e part p sector

    module _ (parity : is_parity part p sector ≡ true) where
      on : parity_member part.shape (sector / part.shape.strip) ≡ Some p
      on = parity_there part p sector parity

      sum_where : (o : Option (List Site)) → whole_row part sector ≡ o → away part.places ≤ 1 → bytes_at image own ≡ row_sum v image e part sector
      sum_where (Some sites) whole few = parity_is_sum v image e sector p part sites own known sound.are_sectors is part_at on deep whole own_at
      sum_where None whole few =
          let lost = missing_in (λ position. site_at part.places position sector) (range_with_len 0 (length part.places)) whole in
          let range = in_range 0 (length part.places) lost.at lost.item lost.is_at in
          let below : lost.item < length part.places = omega (arith, range.1) in
          let count = (known.are_parts e part part_at).has_places in
          let rest = some_from_is_some (row_without part.places lost.item sector) (rest_there part.places sector few lost.item below lost.is_none) in
          parity_right v known image sound.are_sectors is e part part_at lost.item sector lost.is_none p on (subst (λ (n : ℕ). lost.item < n) count below) rest.0 rest.1 own own_at

      by_block : 2 ≤ away part.places → (b : Bool) → has_block v e part sector ≡ b → (bytes_at image own ≡ row_sum v image e part sector) ⊎ IsIdleParity v e part p sector
      by_block lacks true has = inl (sound.parity unmarked within e sector p part own part_at lacks none on deep own_at has)
      by_block lacks false empty = inr (record { parity = parity; empty = empty; lacks = lacks })

      of_parity : (bytes_at image own ≡ row_sum v image e part sector) ⊎ IsIdleParity v e part p sector
      of_parity =
          ⊎_elim (λ (few : away part.places < 2). inl (sum_where (whole_row part sector) refl (omega (arith, few))))
          (λ (lacks : 2 ≤ away part.places). by_block lacks (has_block v e part sector) refl) (cases_lt (away part.places) 2)

    by_kind : (b : Bool) → is_parity part p sector ≡ b → Holds
    by_kind true parity =
        ⊎_elim (λ same. inl (same ∙ sym (ap (λ b. if b then row_sum v image e part sector else cell_value v image e part sector p) parity))) (λ idle. inr idle) (of_parity parity)
    by_kind false is_data =
        inl (sym (cell_value_is v image is e part part_at p sector own own_at) ∙ sym (ap (λ b. if b then row_sum v image e part sector else cell_value v image e part sector p) is_data))

    holds : Holds
    holds = by_kind (is_parity part p sector) refl

  module _ (p : ℕ) (place : Place) (place_at : slice_get part.places p ≡ Some place) (synced : place.synced ≡ true) (old : ℕ) (there : place.slot ≡ Some old) where
    site_is : (sector : ℕ) → site_at part.places p sector ≡ Some (site_on old (place.start + sector))
    site_is sector =
        ap (λ (o : Option Place). option_and_then (λ place. site place sector) o) place_at
        ∙ ap (λ (b : Bool). if b then option_map (λ slot. site_on slot (place.start + sector)) place.slot else None) synced
        ∙ ap (λ (o : Option ℕ). option_map (λ slot. site_on slot (place.start + sector)) o) there

    pub holds_wanted : (sector : ℕ) → sector < depth_of part.shape → (image old (place.start + sector) ≡ wanted v image e part sector p) ⊎ IsIdleParity v e part p sector
    holds_wanted sector deep = holds p sector (site_on old (place.start + sector)) (site_is sector) deep

    -- an extent that holds what the position should hold holds what it holds
    pub holds_same : (slot start : ℕ) → HoldsWanted v e p slot start image image → HoldsTheSame v image e p slot start
    holds_same slot start filled = record {
      part = part;
      is_part = part_at;
      place = place;
      is_place = place_at;
      is_synced = synced;
      old = old;
      is_there = there;
      same = λ sector deep. ⊎_elim (λ same. inl (filled part sector part_at deep ∙ sym same)) (λ idle. inr idle) (holds_wanted sector deep);
    }
