-- Blocks that have several available cells, and how many cells these are.
use Rattle.std.proofs.Common.{◌≡◌, ◌∙◌, ℕ, zero, suc, ◌+◌, ◌-◌, ◌<◌, ◌≤◌, Bool, true, false, List, [], ◌∷◌, ◌++◌, Option, Some, None, refl, sym, ap, subst, arith, map, length, slice_get, ◌&&◌, ◌||◌}
use Rattle.std.specs.Prelude.{◌==◌, not, if◌then◌else◌}
use Rattle.std.specs.List.{list_any, range_with_len, sum_by}
use Rattle.std.proofs.lemmas.Bool.{eqb-true, eq-eqb, not-false}
use Rattle.std.proofs.lemmas.List.{map-append}
use Rattle.std.proofs.lemmas.List.Sums.{sum_by-cons}
use Rattle.std.proofs.lemmas.Map.Keys.{any_passes_from_place}
use Rattle.ddf_lemmas.proofs.Lists.{range-append}
use Rattle.ddf_lemmas.proofs.Options.{some_is}
use Rattle.ddf_lemmas.proofs.Tests.{and_first, and_second, or_first, or_second, true_not_false}
use Rattle.ddf_array.specs.declared.part.Part.{Part}
use Rattle.ddf_array.specs.declared.site.Site.{Site}
use Rattle.ddf_array.specs.Places.{site_on}
use Rattle.ddf_array.specs.Sources.{copies, first_copy}
use Rattle.ddf_array.specs.Volume.{Volume, IsVolume}
use Rattle.ddf_read.specs.Along.{LieAlong, further}
use Rattle.ddf_cells.specs.CellsOn.{cell_on, cells_on, how_many, over_array, over_element, places_at, write_cells}
use Rattle.ddf_cells.proofs.CopiesOn.{a_copy, on_position}
use Rattle.ddf_cells.proofs.Items.{passing}
use Rattle.ddf_cells.proofs.Lists.{some_not_none}
use Rattle.ddf_cells.proofs.RunsOn.{sum_below, sum_more}
use Rattle.ddf_resync.specs.Copying.{AreThisOn, HasOneCopy, HasOtherOn}
use Rattle.ddf_resync.specs.Several.{copied_cells, copied_on, has_other, is_beside, parity_cells, parity_of}

-- ---- a sector beside another

is_one : (one other : Site) → is_beside one other ≡ false → other ≡ one
is_one one other is =
    let both = not-false (other.slot == one.slot && other.lba == one.lba) is in
    ap (λ s. site_on s other.lba) (eqb-true other.slot one.slot (and_first (other.slot == one.slot) (other.lba == one.lba) both))
    ∙ ap (site_on one.slot) (eqb-true other.lba one.lba (and_second (other.slot == one.slot) (other.lba == one.lba) both))

beside : (one other : Site) → (other ≡ one → ⊥) → is_beside one other ≡ true
beside one other differ = by (is_beside one other) refl
  where
    by : (b : Bool) → is_beside one other ≡ b → b ≡ true
    by true is = refl
    by false is = absurd (differ (is_one one other is))

not_itself : (one : Site) → is_beside one one ≡ false
not_itself one = ap (λ b. not (b && one.lba == one.lba)) (eq-eqb one.slot one.slot refl) ∙ ap not (eq-eqb one.lba one.lba refl)

-- ---- of a block

abbrev among : List Site → Bool
among cs = elim (slice_get cs 0) [ None ↦ false | Some first ↦ list_any (is_beside first) cs ]

module _ (v : Volume) (block : ℕ) where
  by_first : (first : Site) → first_copy v block ≡ Some first → has_other v block ≡ list_any (is_beside first) (copies v block)
  by_first first is = ap (λ (found : Option Site). elim found [ None ↦ false | Some one ↦ list_any (is_beside one) (copies v block) ]) is

  pub other_none : first_copy v block ≡ None → has_other v block ≡ false
  other_none none = ap (λ (found : Option Site). elim found [ None ↦ false | Some one ↦ list_any (is_beside one) (copies v block) ]) none

  module _ (known : IsVolume v) (first : Site) (is_first : first_copy v block ≡ Some first) where
    pub other_there : (element : ℕ) → HasOtherOn v element block first → has_other v block ≡ true
    other_there element on =
        let at = a_copy v known block element on.position on.other on.is_cell in
        by_first first is_first ∙ any_passes_from_place (is_beside first) (copies v block) at.0 on.other at.1 (beside first on.other on.differs)

    pub no_other : ((element : ℕ) (part : Part) → slice_get v.parts element ≡ Some part → AreThisOn v element (length part.places) block first) → has_other v block ≡ false
    no_other this = by (list_any (is_beside first) (copies v block)) refl
      where
        by : (b : Bool) → list_any (is_beside first) (copies v block) ≡ b → has_other v block ≡ false
        by false is = by_first first is_first ∙ is
        by true is =
            let one = passing (is_beside first) (copies v block) is in
            let on = on_position v known block one.at one.item one.is_at in
            let same : one.item ≡ first = this on.element on.part on.is_part on.position one.item on.position_below on.on in
            absurd (true_not_false (sym one.passes ∙ ap (is_beside first) same ∙ not_itself first))

  -- where there is no other, there is one at most
  all_first : (cs : List Site) (first : Site) → list_any (is_beside first) cs ≡ false → (i : ℕ) (one : Site) → slice_get cs i ≡ Some one → one ≡ first
  all_first [] first none i one at = absurd (some_not_none one (sym at))
  all_first (c ∷ cs) first none zero one at =
      let same : c ≡ one = some_is at in sym same ∙ is_one first c (or_first (is_beside first c) (list_any (is_beside first) cs) none)
  all_first (c ∷ cs) first none (suc i) one at = all_first cs first (or_second (is_beside first c) (list_any (is_beside first) cs) none) i one at

  one_by : (cs : List Site) → among cs ≡ false → (i j : ℕ) (one other : Site) → slice_get cs i ≡ Some one → slice_get cs j ≡ Some other → one ≡ other
  one_by [] none i j one other at at' = absurd (some_not_none one (sym at))
  one_by (c ∷ cs) none i j one other at at' = all_first (c ∷ cs) c none i one at ∙ sym (all_first (c ∷ cs) c none j other at')

  pub lone : has_other v block ≡ false → HasOneCopy v block
  lone none = one_by (copies v block) none

  other_by : (cs : List Site) → ((i j : ℕ) (one other : Site) → slice_get cs i ≡ Some one → slice_get cs j ≡ Some other → one ≡ other) → among cs ≡ false
  other_by [] one = refl
  other_by (c ∷ cs) one = by (list_any (is_beside c) (c ∷ cs)) refl
    where
      by : (b : Bool) → list_any (is_beside c) (c ∷ cs) ≡ b → b ≡ false
      by false is = refl
      by true is =
          let found = passing (is_beside c) (c ∷ cs) is in
          absurd (true_not_false (sym found.passes ∙ ap (is_beside c) (one found.at 0 found.item c found.is_at refl) ∙ not_itself c))

  pub not_several : HasOneCopy v block → has_other v block ≡ false
  not_several one = other_by (copies v block) one

-- ---- along a strip

shifted : (a b k : ℕ) → (a + k == b + k) ≡ (a == b)
shifted a b k = by (a == b) refl
  where
    apart : (c : Bool) → (a + k == b + k) ≡ c → (a ≡ b → ⊥) → c ≡ false
    apart true is differ = let same = eqb-true (a + k) (b + k) is in absurd (differ (omega (arith, same)))
    apart false is differ = refl

    differs : (a == b) ≡ false → a ≡ b → ⊥
    differs is same = true_not_false (sym (eq-eqb a b same) ∙ is)

    by : (c : Bool) → (a == b) ≡ c → (a + k == b + k) ≡ c
    by true is = let same = eqb-true a b is in eq-eqb (a + k) (b + k) (omega (arith, same))
    by false is = apart (a + k == b + k) refl (differs is)

module _ (k : ℕ) where
  beside_further : (one other : Site) → is_beside (further k one) (further k other) ≡ is_beside one other
  beside_further one other = ap (λ b. not (other.slot == one.slot && b)) (shifted other.lba one.lba k)

  any_further : (one : Site) (cs : List Site) → list_any (is_beside (further k one)) (map (further k) cs) ≡ list_any (is_beside one) cs
  any_further one [] = refl
  any_further one (c ∷ cs) = ap (λ b. b || list_any (is_beside (further k one)) (map (further k) cs)) (beside_further one c) ∙ ap (λ b. is_beside one c || b) (any_further one cs)

  among_further : (cs : List Site) → among (map (further k) cs) ≡ among cs
  among_further [] = refl
  among_further (c ∷ cs) = any_further c (c ∷ cs)

pub other_along : (v : Volume) (block count : ℕ) → LieAlong v block count → (k : ℕ) → k < count → has_other v (block + k) ≡ has_other v block
other_along v block count along k below = ap among (along.copies_are k below) ∙ among_further k (copies v block)

-- ---- how many cells these are

pub sum_of : (f g h : ℕ → ℕ) (xs : List ℕ) → ((x : ℕ) → f x ≡ g x + h x) → sum_by f xs ≡ sum_by g xs + sum_by h xs
sum_of f g h [] same = refl
sum_of f g h (x ∷ xs) same =
    let a = sum_by-cons f x xs in
    let b = sum_by-cons g x xs in
    let c = sum_by-cons h x xs in
    let d = sum_of f g h xs same in
    let e = same x in
    omega (arith, a, b, c, d, e)

over_plus : (f g h : ℕ → ℕ → ℕ) (parts : List Part) → ((element position : ℕ) → f element position ≡ g element position + h element position) → over_array f parts ≡ over_array g parts + over_array h parts
over_plus f g h parts same =
    sum_of (over_element f parts) (over_element g parts) (over_element h parts) (range_with_len 0 (length parts))
    (λ element. sum_of (f element) (g element) (h element) (range_with_len 0 (places_at parts element)) (same element))

many_append : (xs ys : List (Option Site)) → how_many (xs ++ ys) ≡ how_many xs + how_many ys
many_append [] ys = let none : how_many ys ≡ 0 + how_many ys = omega arith in none
many_append (None ∷ xs) ys = many_append xs ys
many_append (Some x ∷ xs) ys = let rest = many_append xs ys in let sum : 1 + how_many (xs ++ ys) ≡ 1 + how_many xs + how_many ys = omega (arith, rest) in sum

module _ (v : Volume) where
  -- those of the blocks from one on
  abbrev behind : (block n element position : ℕ) → ℕ
  behind block n element position = how_many (map (copied_on v element position) (range_with_len block n))

  more_on : (block n element position : ℕ) → how_many (map (copied_on v element position) (range_with_len 0 (block + n))) ≡ how_many (map (copied_on v element position) (range_with_len 0 block)) + behind block n element position
  more_on block n element position =
      let f = copied_on v element position in
      let from : 0 + block ≡ block = omega arith in
      ap (λ xs. how_many (map f xs)) (range-append 0 block n ∙ ap (λ b. range_with_len 0 block ++ range_with_len b n) from) ∙ ap how_many (map-append f (range_with_len 0 block) (range_with_len block n))
      ∙ many_append (map f (range_with_len 0 block)) (map f (range_with_len block n))

  cells_more : (block n : ℕ) → copied_cells v (block + n) ≡ copied_cells v block + over_array (behind block n) v.parts
  cells_more block n =
      over_plus (λ element position. how_many (map (copied_on v element position) (range_with_len 0 (block + n)))) (λ element position. how_many (map (copied_on v element position) (range_with_len 0 block))) (behind block n) v.parts
      (more_on block n)

  pub cells_up : (a b : ℕ) → a ≤ b → copied_cells v a ≤ copied_cells v b
  cells_up a b le =
      let more = cells_more a (b - a) in
      let same : a + (b - a) ≡ b = omega (arith, le) in
      let all : copied_cells v (a + (b - a)) ≡ copied_cells v b = ap (copied_cells v) same in
      omega (arith, more, all)

  cell_is : (element position block : ℕ) → has_other v block ≡ true → copied_on v element position block ≡ cell_on v element position block
  cell_is element position block several = ap (λ b. if b then cell_on v element position block else None) several

  on_all : (block n element position : ℕ) → ((k : ℕ) → k < n → has_other v (block + k) ≡ true) → map (copied_on v element position) (range_with_len block n) ≡ cells_on v element position block n
  on_all block zero element position several = refl
  on_all block (suc n) element position several =
      let here : block + 0 ≡ block = omega arith in
      let first : has_other v block ≡ true = subst (λ b. has_other v b ≡ true) here (several 0 (omega arith)) in
      let rest = on_all (block + 1) n element position (λ k below. let same : block + suc k ≡ block + 1 + k = omega arith in subst (λ b. has_other v b ≡ true) same (several (suc k) (omega (arith, below)))) in
      ap (λ o. o ∷ map (copied_on v element position) (range_with_len (block + 1) n)) (cell_is element position block first)
      ∙ ap (λ xs. cell_on v element position block ∷ xs) rest

  pub cells_written : (block n : ℕ) → ((k : ℕ) → k < n → has_other v (block + k) ≡ true) → copied_cells v (block + n) ≡ copied_cells v block + write_cells v block n
  cells_written block n several =
      over_plus (λ element position. how_many (map (copied_on v element position) (range_with_len 0 (block + n)))) (λ element position. how_many (map (copied_on v element position) (range_with_len 0 block)))
      (λ element position. how_many (cells_on v element position block n)) v.parts
      (λ element position. more_on block n element position ∙ ap (λ xs. how_many (map (copied_on v element position) (range_with_len 0 block)) + how_many xs) (on_all block n element position several))

  -- no block, no cell
  zero_over : (parts : List Part) (f : ℕ → ℕ → ℕ) → ((element position : ℕ) → f element position ≡ 0) → over_array f parts ≡ 0
  zero_over parts f none = let twice = over_plus f f f parts (λ element position. let here = none element position in omega (arith, here)) in omega (arith, twice)

  pub cells_none : copied_cells v 0 ≡ 0
  cells_none = zero_over v.parts (λ element position. how_many (map (copied_on v element position) (range_with_len 0 0))) (λ element position. refl)

  -- the parity cells of one element more
  pub parity_more : (e : ℕ) (part : Part) → slice_get v.parts e ≡ Some part → parity_cells v e + parity_of (Some part) ≤ parity_cells v (e + 1)
  parity_more e part is_part =
      let more = sum_more (λ element. parity_of (slice_get v.parts element)) e in
      let here : parity_of (slice_get v.parts e) ≡ parity_of (Some part) = ap parity_of is_part in
      omega (arith, more, here)

  pub parity_up : (a b : ℕ) → a ≤ b → parity_cells v a ≤ parity_cells v b
  parity_up a b le = sum_below (λ element. parity_of (slice_get v.parts element)) a b le
