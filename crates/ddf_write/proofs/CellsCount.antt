-- The cells that a write sets, position by position, are the available cells of its blocks.
use Rattle.std.proofs.Common.{◌≡◌, ◌∙◌, ◌⊎◌, inl, inr, ⊎_elim, ℕ, zero, suc, ◌+◌, ◌<◌, ◌≤◌, Bool, true, false, List, [], ◌∷◌, Option, Some, None, refl, sym, ap, arith, map, filter_map, length, slice_get, ◌||◌}
use Rattle.std.specs.Prelude.{◌==◌, option_and_then, option_map, if◌then◌else◌}
use Rattle.std.specs.List.{cons_option, flat_map, range_with_len, sum_by}
use Rattle.std.proofs.lemmas.Bool.{cases_lt, eqb-true, eq-eqb}
use Rattle.std.proofs.lemmas.List.{length-append}
use Rattle.std.proofs.lemmas.List.Sums.{sum_by-cons}
use Rattle.ddf_lemmas.proofs.Lists.{zeros_sum}
use Rattle.ddf_primary.specs.Copies.{copy_on, sector_on}
use Rattle.ddf_secondary.specs.declared.spot.Spot.{Spot}
use Rattle.ddf_secondary.specs.Spots.{spots}
use Rattle.ddf_array.specs.declared.part.Part.{Part}
use Rattle.ddf_array.specs.declared.site.Site.{Site}
use Rattle.ddf_array.specs.Places.{site_at}
use Rattle.ddf_array.specs.Cells.{is_in_every, spots_like}
use Rattle.ddf_array.specs.Sources.{at_element, at_spot, copies, element_copies}
use Rattle.ddf_array.specs.Volume.{Volume, IsVolume}
use Rattle.ddf_cells.specs.CellsOn.{cell_in, cell_of, cell_on, copy_cells, how_many, places_at, write_cells}

-- ---- sums

pub sum_same : (f g : ℕ → ℕ) (xs : List ℕ) → ((x : ℕ) → f x ≡ g x) → sum_by f xs ≡ sum_by g xs
sum_same f g [] same = refl
sum_same f g (x ∷ xs) same = sum_by-cons f x xs ∙ ap (λ n. n + sum_by f xs) (same x) ∙ ap (λ n. g x + n) (sum_same f g xs same) ∙ sym (sum_by-cons g x xs)

pub sum_plus : (f g : ℕ → ℕ) (xs : List ℕ) → sum_by (λ x. f x + g x) xs ≡ sum_by f xs + sum_by g xs
sum_plus f g [] = refl
sum_plus f g (x ∷ xs) =
    let a = sum_by-cons (λ x. f x + g x) x xs in
    let b = sum_by-cons f x xs in
    let c = sum_by-cons g x xs in
    let d = sum_plus f g xs in
    omega (arith, a, b, c, d)

exchange : (f : ℕ → ℕ → ℕ) (xs ys : List ℕ) → sum_by (λ x. sum_by (f x) ys) xs ≡ sum_by (λ y. sum_by (λ x. f x y) xs) ys
exchange f [] ys = sym (zeros_sum (λ y. sum_by (λ x. f x y) []) ys (λ y. refl))
exchange f (x ∷ xs) ys =
    sum_by-cons (λ x. sum_by (f x) ys) x xs ∙ ap (λ n. sum_by (f x) ys + n) (exchange f xs ys)
    ∙ sym (sum_plus (f x) (λ y. sum_by (λ x. f x y) xs) ys)
    ∙ sum_same (λ y. f x y + sum_by (λ x. f x y) xs) (λ y. sum_by (λ x. f x y) (x ∷ xs)) ys (λ y. sym (sum_by-cons (λ x. f x y) x xs))

-- one number among zeros
only_at : ℕ → (ℕ → ℕ) → ℕ → ℕ
only_at s h x = if s == x then h x else 0

only_none : (s a n : ℕ) (h : ℕ → ℕ) → (s < a) ⊎ (a + n ≤ s) → sum_by (λ x. if s == x then h x else 0) (range_with_len a n) ≡ 0
only_none s a zero h away = refl
only_none s a (suc n) h away =
    let rest = only_none s (a + 1) n h (⊎_elim (λ before. inl (omega (arith, before))) (λ behind. inr (omega (arith, behind))) away) in
    let here : ◌≡◌ {A = ℕ} (if s == a then h a else 0) 0 = ap (λ b. if b then h a else 0) (differ s a (λ same. ⊎_elim (λ before. omega (arith, before, same)) (λ behind. omega (arith, behind, same)) away)) in
    sum_by-cons (λ x. if s == x then h x else 0) a (range_with_len (a + 1) n) ∙ omega (arith, rest, here)
  where
    differ : (a b : ℕ) → (a ≡ b → ⊥) → (a == b) ≡ false
    differ a b other = by (a == b) refl
      where
        by : (c : Bool) → (a == b) ≡ c → c ≡ false
        by true is = absurd (other (eqb-true a b is))
        by false is = refl

only_one : (s a n : ℕ) (h : ℕ → ℕ) → a ≤ s → s < a + n → sum_by (λ x. if s == x then h x else 0) (range_with_len a n) ≡ h s
only_one s a zero h from below = absurd (omega (arith, from, below))
only_one s a (suc n) h from below =
    sum_by-cons (λ x. if s == x then h x else 0) a (range_with_len (a + 1) n)
    ∙ ⊎_elim
    (λ (later : a < s).
    let rest = only_one s (a + 1) n h (omega (arith, later)) (omega (arith, below)) in
    let here : ◌≡◌ {A = ℕ} (if s == a then h a else 0) 0 = ap (λ b. if b then h a else 0) (differ s a (λ same. omega (arith, later, same))) in
    omega (arith, rest, here))
    (λ (now : s ≤ a).
    let same : s ≡ a = omega (arith, now, from) in
    let rest = only_none s (a + 1) n h (inl (omega (arith, same))) in
    let here : ◌≡◌ {A = ℕ} (if s == a then h a else 0) (h s) = ap (λ b. if b then h a else 0) (eq-eqb s a same) ∙ ap h (sym same) in
    omega (arith, rest, here))
    (cases_lt a s)
  where
    differ : (a b : ℕ) → (a ≡ b → ⊥) → (a == b) ≡ false
    differ a b other = by (a == b) refl
      where
        by : (c : Bool) → (a == b) ≡ c → c ≡ false
        by true is = absurd (other (eqb-true a b is))
        by false is = refl

-- ---- how many there are

abbrev number : Option Site → ℕ
number None = 0
number (Some one) = 1

many_cons : (one : Option Site) (others : List (Option Site)) → how_many (one ∷ others) ≡ number one + how_many others
many_cons None others = let none : how_many others ≡ 0 + how_many others = omega arith in none
many_cons (Some one) others = refl

many_sum : (f : ℕ → Option Site) (a n : ℕ) → how_many (map f (range_with_len a n)) ≡ sum_by (λ b. number (f b)) (range_with_len a n)
many_sum f a zero = refl
many_sum f a (suc n) =
    many_cons (f a) (map f (range_with_len (a + 1) n)) ∙ ap (λ m. number (f a) + m) (many_sum f (a + 1) n) ∙ sym (sum_by-cons (λ b. number (f b)) a (range_with_len (a + 1) n))

length-cons : (o : Option Site) (xs : List Site) → length (cons_option o xs) ≡ number o + length xs
length-cons None xs = let none : length xs ≡ 0 + length xs = omega arith in none
length-cons (Some one) xs = let one_more : suc (length xs) ≡ 1 + length xs = omega arith in one_more

-- ---- of an element

module _ (part : Part) (block : ℕ) (long : length part.places ≡ part.shape.members) where
  abbrev there : ℕ × ℕ → Option Site
  there cell = site_at part.places cell.0 cell.1

  on_member : (member : ℕ) (found : Option ℕ) (others : List (ℕ × ℕ))
      → number (option_and_then (site_at part.places member) found) + length (filter_map there others) ≡ length (filter_map there (cons_option (option_map (λ sector. (member, sector)) found) others))
  on_member member None others = omega arith
  on_member member (Some sector) others = sym (length-cons (site_at part.places member sector) (filter_map there others))

  on_members : (members : List ℕ) → sum_by (λ position. number (cell_in part position block)) members ≡ length (filter_map there (filter_map (copy_on part.shape block) members))
  on_members [] = refl
  on_members (m ∷ members) =
      sum_by-cons (λ position. number (cell_in part position block)) m members
      ∙ ap (λ n. number (cell_in part m block) + n) (on_members members)
      ∙ on_member m (sector_on part.shape m block) (filter_map (copy_on part.shape block) members)

  in_element : sum_by (λ position. number (cell_in part position block)) (range_with_len 0 (length part.places)) ≡ length (element_copies part block)
  in_element = on_members (range_with_len 0 (length part.places)) ∙ ap (λ n. length (filter_map there (filter_map (copy_on part.shape block) (range_with_len 0 n)))) long

-- ---- of the array

module _ (v : Volume) (known : IsVolume v) where
  element_by : (inner element : ℕ) (found : Option Part) → slice_get v.parts element ≡ found
      → sum_by (λ position. number (cell_of found position inner)) (range_with_len 0 (elim found [ None ↦ 0 | Some part ↦ length part.places ]))
      ≡ length {A = Site} (elim found [ None ↦ [] | Some part ↦ element_copies part inner ])
  element_by inner element None at = refl
  element_by inner element (Some part) at = in_element part inner (known.are_parts element part at).has_places

  past_parts : (inner element : ℕ) (parts : List Part) → length parts ≤ element → length (at_element parts element_copies inner element) ≡ 0
  past_parts inner element [] le = refl
  past_parts inner zero (p ∷ parts) le = absurd (omega (arith, le))
  past_parts inner (suc element) (p ∷ parts) le = past_parts inner element parts (omega (arith, le))

  by_every : (spot : Spot) (every : Bool)
      → sum_by (λ element. sum_by (λ position. number (if every || spot.element == element then cell_of (slice_get v.parts element) position spot.block else None)) (range_with_len 0 (places_at v.parts element))) (range_with_len 0 (length v.parts))
      ≡ length (flat_map (at_spot v.parts element_copies) (map (λ element. record { element = element; block = spot.block }) (if every then range_with_len 0 (length v.parts) else spot.element ∷ [])))
  by_every spot true =
      sum_same _ (λ element. length (at_element v.parts element_copies spot.block element)) (range_with_len 0 (length v.parts)) (λ element. element_by spot.block element (slice_get v.parts element) refl)
      ∙ sym (spread (range_with_len 0 (length v.parts)))
    where
      spread : (xs : List ℕ) → length (flat_map (at_spot v.parts element_copies) (map (λ element. record { element = element; block = spot.block }) xs)) ≡ sum_by (λ element. length (at_element v.parts element_copies spot.block element)) xs
      spread [] = refl
      spread (x ∷ xs) =
          length-append (at_element v.parts element_copies spot.block x) (flat_map (at_spot v.parts element_copies) (map (λ element. record { element = element; block = spot.block }) xs))
          ∙ ap (λ n. length (at_element v.parts element_copies spot.block x) + n) (spread xs)
          ∙ sym (sum_by-cons (λ element. length (at_element v.parts element_copies spot.block element)) x xs)
  by_every spot false =
      sum_same _ (λ element. if spot.element == element then length (at_element v.parts element_copies spot.block element) else 0) (range_with_len 0 (length v.parts)) (λ element. here element (spot.element == element))
      ∙ ⊎_elim
      (λ (inside : spot.element < length v.parts). only_one spot.element 0 (length v.parts) (λ element. length (at_element v.parts element_copies spot.block element)) (omega arith) (omega (arith, inside)))
      (λ (over : length v.parts ≤ spot.element). only_none spot.element 0 (length v.parts) (λ element. length (at_element v.parts element_copies spot.block element)) (inr (omega (arith, over))) ∙ sym (past_parts spot.block spot.element v.parts over))
      (cases_lt spot.element (length v.parts))
      ∙ sym (length-append (at_element v.parts element_copies spot.block spot.element) [] ∙ omega arith)
    where
      here : (element : ℕ) (b : Bool)
          → sum_by (λ position. number (if b then cell_of (slice_get v.parts element) position spot.block else None)) (range_with_len 0 (places_at v.parts element)) ≡ (if b then length (at_element v.parts element_copies spot.block element) else 0)
      here element true = element_by spot.block element (slice_get v.parts element) refl
      here element false = zeros_sum (λ position. number None) (range_with_len 0 (places_at v.parts element)) (λ position. refl)

  by_spot : (found : Option Spot)
      → sum_by (λ element. sum_by (λ position. number (elim found [ None ↦ None | Some spot ↦ if is_in_every v.tiers.level || spot.element == element then cell_of (slice_get v.parts element) position spot.block else None ])) (range_with_len 0 (places_at v.parts element))) (range_with_len 0 (length v.parts))
      ≡ length (flat_map (at_spot v.parts element_copies) (elim found [ None ↦ [] | Some spot ↦ spots_like v.tiers.level (length v.parts) spot ]))
  by_spot None = zeros_sum _ (range_with_len 0 (length v.parts)) (λ element. zeros_sum (λ position. number None) (range_with_len 0 (places_at v.parts element)) (λ position. refl))
  by_spot (Some spot) = by_every spot (is_in_every v.tiers.level)

  of_block : (block : ℕ) → sum_by (λ element. sum_by (λ position. number (cell_on v element position block)) (range_with_len 0 (places_at v.parts element))) (range_with_len 0 (length v.parts)) ≡ length (copies v block)
  of_block block = by_spot (slice_get (spots v.tiers) block)

  pub cells_are_copies : (start count : ℕ) → write_cells v start count ≡ copy_cells v start count
  cells_are_copies start count =
      let blocks = range_with_len start count in
      let elements = range_with_len 0 (length v.parts) in
      sum_same _ (λ element. sum_by (λ block. sum_by (λ position. number (cell_on v element position block)) (range_with_len 0 (places_at v.parts element))) blocks) elements
      (λ element.
      sum_same _ (λ position. sum_by (λ block. number (cell_on v element position block)) blocks) (range_with_len 0 (places_at v.parts element)) (λ position. many_sum (cell_on v element position) start count)
      ∙ exchange (λ position block. number (cell_on v element position block)) (range_with_len 0 (places_at v.parts element)) blocks)
      ∙ exchange (λ element block. sum_by (λ position. number (cell_on v element position block)) (range_with_len 0 (places_at v.parts element))) elements blocks
      ∙ sum_same _ (λ block. length (copies v block)) blocks of_block
