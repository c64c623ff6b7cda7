-- The data cells of rows: what the value of each is read from, and the sums of rows around the parity.
use Rattle.std.proofs.Common.{◌≡◌, ◌∙◌, ◌⊎◌, inl, inr, ℕ, zero, suc, ◌+◌, ◌-◌, ◌/◌, ◌<◌, ◌≤◌, Bool, true, false, List, [], ◌∷◌, ◌++◌, Option, Some, None, refl, sym, ap, arith, map, length, slice_get, append-nil}
use Rattle.std.specs.Prelude.{◌==◌, option_map, option_to_list, unwrap_or, if◌then◌else◌}
use Rattle.std.specs.List.{flat_map, range_with_len}
use Rattle.std.specs.Simd.Lanes.{fold_l}
use Rattle.std.proofs.lemmas.Bool.{eqb-true, eq-eqb, cases_eq}
use Rattle.ddf_lemmas.proofs.Lists.{at_first}
use Rattle.ddf_lemmas.proofs.Options.{some_is}
use Rattle.ddf_bay.specs.Sectors.{Image}
use Rattle.ddf_parity.specs.Xor.{xor, xor_all, zeros}
use Rattle.ddf_primary.specs.Cells.{after_parity, before_parity, parity_member}
use Rattle.ddf_array.proofs.RowParity.{around_by}
use Rattle.ddf_array.specs.declared.part.Part.{Part}
use Rattle.ddf_array.specs.declared.site.Site.{Site}
use Rattle.ddf_array.specs.Places.{site_at}
use Rattle.ddf_array.specs.Levels.{keeps_parity}
use Rattle.ddf_array.specs.Volume.{Volume, IsVolume}
use Rattle.ddf_array.specs.Sources.{Source, copy, row, copies, rows, row_without}
use Rattle.ddf_array.specs.Values.{bytes_at, given, value}
use Rattle.ddf_array.specs.Rows.{block_at, cell_value, row_sum, sources_without_block, value_without_block}
use Rattle.ddf_array.proofs.Ranges.{flat-around, flat-more}
use Rattle.ddf_array.specs.Apart.{IsApart}
use Rattle.ddf_cells.proofs.CopiesOn.{block_at_sits, in_copies}
use Rattle.ddf_cells.proofs.OnCells.{OnCell}

-- ---- the first cell of a block

front : (xs : List Site) (ys : List Source) (x : Site) → slice_get xs 0 ≡ Some x → slice_get (map copy xs ++ ys) 0 ≡ Some (copy x)
front [] ys x e = absurd (cc)
front (y ∷ xs) ys x e = let same : y ≡ x = cc in ap (λ z. Some (copy z)) same

pub value_first : (v : Volume) (image : Image) (block : ℕ) (one : Site) → slice_get (copies v block) 0 ≡ Some one → value v image block ≡ Some (bytes_at image one)
value_first v image block one e = ap (option_map (given image)) (front (copies v block) (map row (rows v block)) one e)

-- a data cell is read from one sector, whatever the image
pub record IsReadFrom (v : Volume) (element : ℕ) (part : Part) (sector position : ℕ) (own : Site) : Type 0 where
  pub rep : Site
  pub gives : (image : Image) → cell_value v image element part sector position ≡ bytes_at image rep
  pub kind : ((block : ℕ) × (block_at v element position sector ≡ Some block) × (slice_get (copies v block) 0 ≡ Some rep))
      ⊎ ((block_at v element position sector ≡ None) × (rep ≡ own))

module _ (v : Volume) (known : IsVolume v) (apart : IsApart v) (element : ℕ) (part : Part) (is_part : slice_get v.parts element ≡ Some part) (sector position : ℕ) (own : Site)
    (is_own : site_at part.places position sector ≡ Some own) where
  pub own_cell : (block : ℕ) → block_at v element position sector ≡ Some block → OnCell v element position block own
  own_cell block at =
      let sits = block_at_sits v known element position sector block at in
      let same : part ≡ sits.part = some_is (sym is_part ∙ sits.is_part) in
      record { sector = sector; sits = sits; is_there = ap (λ (q : Part). site_at q.places position sector) (sym same) ∙ is_own }

  read_by : (found : Option ℕ) → block_at v element position sector ≡ found → IsReadFrom v element part sector position own
  read_by None at = record {
    rep = own;
    gives = λ image.
        ap
        (λ (found : Option ℕ). elim found [ None ↦ value_without_block image (sources_without_block part position sector) | Some block ↦ unwrap_or (value v image block) zeros ])
        at
        ∙ ap
        (λ (o : Option Site). value_without_block image (map copy (option_to_list o) ++ (if keeps_parity part.shape.layout then map row (option_to_list (row_without part.places position sector)) else [])))
        is_own;
    kind = inr (at, refl);
  }
  read_by (Some block) at =
      let copied = in_copies v known block element position own (own_cell block at) in
      let first = at_first (copies v block) copied.0 own copied.1 in
      record {
        rep = first.0;
        gives = λ image.
            ap
            (λ (found : Option ℕ). elim found [ None ↦ value_without_block image (sources_without_block part position sector) | Some block ↦ unwrap_or (value v image block) zeros ])
            at
            ∙ ap (λ (o : Option (List ℕ)). unwrap_or o zeros) (value_first v image block first.0 first.1);
        kind = inl (block, at, first.1);
      }

  pub read_from_one : IsReadFrom v element part sector position own
  read_from_one = read_by (block_at v element position sector) refl

not_equal : (a b : ℕ) → (a ≡ b → ⊥) → (a == b) ≡ false
not_equal a b other = by (a == b) refl
  where
    by : (c : Bool) → (a == b) ≡ c → c ≡ false
    by true is = absurd (other (eqb-true a b is))
    by false is = refl

-- ---- sums around the parity

-- the bytes of a position of a row, but for one
abbrev pub bytes_but : (ℕ → List ℕ) → (parity other : ℕ) → List (List ℕ)
bytes_but cell parity other = if other == parity then [] else cell other ∷ []

-- the sum of the first positions but one
abbrev pub sum_but : (ℕ → List ℕ) → (parity count : ℕ) → List ℕ
sum_but cell parity count = xor_all (flat_map (bytes_but cell parity) (range_with_len 0 count))

sum_last : (xs : List (List ℕ)) (y : List ℕ) (a : List ℕ) → fold_l xor a (xs ++ y ∷ []) ≡ xor (fold_l xor a xs) y
sum_last [] y a = refl
sum_last (x ∷ xs) y a = sum_last xs y (xor a x)

module _ (cell : ℕ → List ℕ) (parity : ℕ) where
  more_by : (k : ℕ) (b : Bool) → (k == parity) ≡ b → xor_all (flat_map (bytes_but cell parity) (range_with_len 0 k) ++ (if b then [] else cell k ∷ [])) ≡ (if b then sum_but cell parity k else xor (sum_but cell parity k) (cell k))
  more_by k true is = ap xor_all (append-nil (flat_map (bytes_but cell parity) (range_with_len 0 k)))
  more_by k false is = sum_last (flat_map (bytes_but cell parity) (range_with_len 0 k)) (cell k) zeros

  pub sum_more : (k : ℕ) → sum_but cell parity (k + 1) ≡ (if k == parity then sum_but cell parity k else xor (sum_but cell parity k) (cell k))
  sum_more k = ap xor_all (flat-more (bytes_but cell parity) k) ∙ more_by k (k == parity) refl

  pub sum_more_data : (k : ℕ) → (k ≡ parity → ⊥) → sum_but cell parity (k + 1) ≡ xor (sum_but cell parity k) (cell k)
  sum_more_data k other = sum_more k ∙ ap (λ b. if b then sum_but cell parity k else xor (sum_but cell parity k) (cell k)) (not_equal k parity other)

  pub sum_more_parity : (k : ℕ) → k ≡ parity → sum_but cell parity (k + 1) ≡ sum_but cell parity k
  sum_more_parity k same = sum_more k ∙ ap (λ b. if b then sum_but cell parity k else xor (sum_but cell parity k) (cell k)) (eq-eqb k parity same)

  apart_by : (a n : ℕ) → ((x : ℕ) → a ≤ x → x < a + n → (x == parity) ≡ false) → flat_map (bytes_but cell parity) (range_with_len a n) ≡ map cell (range_with_len a n)
  apart_by a zero away = refl
  apart_by a (suc n) away =
      ap (λ b. (if b then [] else cell a ∷ []) ++ flat_map (bytes_but cell parity) (range_with_len (a + 1) n)) (away a (omega arith) (omega arith))
      ∙ ap (λ l. cell a ∷ l) (apart_by (a + 1) n (λ x from to. away x (omega (arith, from)) (omega (arith, to))))

  pub sum_all : (n : ℕ) → parity < n → sum_but cell parity n ≡ xor_all (map cell (before_parity parity) ++ map cell (after_parity n parity))
  sum_all n below =
      let front = range_with_len 0 parity in
      let behind = range_with_len (parity + 1) (n - parity - 1) in
      let each = bytes_but cell parity in
      let count : n - parity - 1 ≡ n - 1 - parity = omega arith in
      let first : flat_map each front ≡ map cell front = apart_by 0 parity (λ x from to. not_equal x parity (λ same. omega (arith, same, to))) in
      let last : flat_map each behind ≡ map cell behind = apart_by (parity + 1) (n - parity - 1) (λ x from to. not_equal x parity (λ same. omega (arith, same, from))) in
      let here : each parity ≡ [] = ap (λ b. if b then [] else cell parity ∷ []) (eq-eqb parity parity refl) in
      ap xor_all
      (flat-around each n parity below ∙ ap (λ l. l ++ (each parity ++ flat_map each behind)) first ∙ ap (λ l. map cell front ++ (l ++ flat_map each behind)) here ∙ ap (λ l. map cell front ++ l) last)
      ∙ ap (λ m. xor_all (map cell front ++ map cell (range_with_len (parity + 1) m))) count

-- ---- the sum of a row

module _ (v : Volume) (known : IsVolume v) (element : ℕ) (part : Part) (is_part : slice_get v.parts element ≡ Some part) (sector parity : ℕ)
    (is_parity : parity_member part.shape (sector / part.shape.strip) ≡ Some parity) where
  pub row_is : (image : Image) → parity < length part.places → row_sum v image element part sector ≡ sum_but (cell_value v image element part sector) parity (length part.places)
  row_is image below =
      let cell = cell_value v image element part sector in
      let count : length part.places ≡ part.shape.members = (known.are_parts element part is_part).has_places in
      around_by cell part.shape.members parity part.shape.layout (sector / part.shape.strip) is_parity
      ∙ ap (λ n. xor_all (map cell (before_parity parity) ++ map cell (after_parity n parity))) (sym count)
      ∙ sym (sum_all cell parity (length part.places) below)

  pub same_sums : (f g : ℕ → List ℕ) (k : ℕ) → ((other : ℕ) → other < k → (other ≡ parity → ⊥) → f other ≡ g other) → sum_but f parity k ≡ sum_but g parity k
  same_sums f g zero same = refl
  same_sums f g (suc k) same =
      let more : k + 1 ≡ suc k = omega arith in
      let before = same_sums f g k (λ other below. same other (omega (arith, below))) in
      ap (sum_but f parity) (sym more) ∙ by (cases_eq k parity) before ∙ ap (sum_but g parity) more
    where
      by : ((k ≡ parity) ⊎ (k ≡ parity → ⊥)) → sum_but f parity k ≡ sum_but g parity k → sum_but f parity (k + 1) ≡ sum_but g parity (k + 1)
      by (inl is) before = sum_more_parity f parity k is ∙ before ∙ sym (sum_more_parity g parity k is)
      by (inr other) before = sum_more_data f parity k other ∙ ap (λ a. xor a (f k)) before ∙ ap (xor (sum_but g parity k)) (same k (omega arith) other) ∙ sym (sum_more_data g parity k other)
