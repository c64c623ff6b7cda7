-- Sides in a row: where one is found, and that a row is what sides make in rising order of which no two meet.
use Rattle.std.specs.Prelude.{ℕ, zero, suc, ◌+◌, ◌-◌, ◌<◌, ◌≤◌, Bool, true, false, nat_le, List, [], ◌∷◌, length, find, Some, None, slice_index_or}
use Rattle.std.specs.List.{list_all}
use Rattle.std.specs.List.Sorted.{IsNonDecreasingBy}
use Rattle.std.proofs.Common.{◌≡◌, refl, sym, ◌∙◌, ⊎_elim, arith}
use Rattle.std.proofs.lemmas.Bool.{and_parts, and_from, cases_Bool, cases_lt, leb-true, ltb-true, le-leb}
use Rattle.ddf_badblocks.specs.declared.side.Side.{Side}
use Rattle.ddf_badblocks.specs.Sides.{has_some, holds, in_row}
use Rattle.ddf_badblocks.specs.ExchangeLaws.{inside, is_inside}
use Rattle.ddf_badblocks.proofs.Counted.{count, counted_in, counts_more}

-- ---- by place

abbrev pub at : List Side → ℕ → Side → Side
at sides k d = slice_index_or sides k d

pub row_from : (from : ℕ) (sides : List Side) → in_row from sides ≡ true → (j : ℕ) (d : Side) → j < length sides → from ≤ (at sides j d).first
row_from from [] row j d lt = absurd (omega (arith, lt))
row_from from (side ∷ sides) row zero d lt = leb-true from side.first ((and_parts (nat_le from side.first) (in_row (side.first + side.count) sides) row).0)
row_from from (side ∷ sides) row (suc j) d lt =
    let parts = and_parts (nat_le from side.first) (in_row (side.first + side.count) sides) row in
    let low = leb-true from side.first parts.0 in
    let rest = row_from (side.first + side.count) sides parts.1 j d (omega (arith, lt)) in
    omega (arith, low, rest)

pub row_ends : (from : ℕ) (sides : List Side) → in_row from sides ≡ true → (i j : ℕ) (d : Side) → i < j → j < length sides → (at sides i d).first + (at sides i d).count ≤ (at sides j d).first
row_ends from [] row i j d less lt = absurd (omega (arith, lt))
row_ends from (side ∷ sides) row i zero d less lt = absurd (omega (arith, less))
row_ends from (side ∷ sides) row zero (suc j) d less lt =
    row_from (side.first + side.count) sides ((and_parts (nat_le from side.first) (in_row (side.first + side.count) sides) row).1) j d (omega (arith, lt))
row_ends from (side ∷ sides) row (suc i) (suc j) d less lt =
    row_ends (side.first + side.count) sides ((and_parts (nat_le from side.first) (in_row (side.first + side.count) sides) row).1) i j d (omega (arith, less)) (omega (arith, lt))

pub row_rises : (from : ℕ) (sides : List Side) → in_row from sides ≡ true → IsNonDecreasingBy (λ side. side.first) sides
row_rises from sides row i j d le lt = ⊎_elim
    (λ less. let ends = row_ends from sides row i j d less lt in omega (arith, ends))
    (λ over. let here : i ≡ j = omega (arith, over, le) in rw here (omega arith))
    (cases_lt i j)

-- a sector that a side has begun before or with, and that it hasn't, lies behind it
pub past : (side : Side) (l : ℕ) → side.first ≤ l → holds l side ≡ false → side.first + side.count ≤ l
past side l low fails = ⊎_elim
    (λ lt. let is : holds l side ≡ true = inside side.first side.count l low lt in absurd (clash is fails))
    (λ le. le)
    (cases_lt l (side.first + side.count))
  where
    clash : {b : Bool} → b ≡ true → b ≡ false → ⊥
    clash is fails = let both : true ≡ false = sym is ∙ fails in absurd cc

pub not_before : (side : Side) (l : ℕ) → l < side.first → holds l side ≡ false
not_before side l lt = ⊎_elim (λ is. absurd (omega (arith, lt, (is_inside side.first side.count l is).0))) (λ no. no) (cases_Bool (holds l side))

pub not_past : (side : Side) (l : ℕ) → side.first + side.count ≤ l → holds l side ≡ false
not_past side l le = ⊎_elim (λ is. absurd (omega (arith, le, (is_inside side.first side.count l is).1))) (λ no. no) (cases_Bool (holds l side))

pub find_at : (l : ℕ) (sides : List Side) (i : ℕ) (d : Side) → i < length sides → holds l (at sides i d) ≡ true → ((k : ℕ) → k < i → holds l (at sides k d) ≡ false)
    → find (holds l) sides ≡ Some (at sides i d)
find_at l [] i d lt is before = absurd (omega (arith, lt))
find_at l (side ∷ sides) zero d lt is before = rw is refl
find_at l (side ∷ sides) (suc i) d lt is before = rw (before 0 (omega arith)) (find_at l sides i d (omega (arith, lt)) is (λ k less. before (suc k) (omega (arith, less))))

pub find_none : (l : ℕ) (sides : List Side) (d : Side) → ((k : ℕ) → k < length sides → holds l (at sides k d) ≡ false) → find (holds l) sides ≡ None
find_none l [] d none = refl
find_none l (side ∷ sides) d none = rw (none 0 (omega arith)) (find_none l sides d (λ k less. none (suc k) (omega (arith, less))))

pub found_holds : (l : ℕ) (sides : List Side) (side : Side) → find (holds l) sides ≡ Some side → holds l side ≡ true
found_holds l [] side found = absurd cc
found_holds l (first ∷ sides) side found = ⊎_elim
    (λ is. let same : first ≡ side = some_same (rw is at found) in rw same at is)
    (λ no. found_holds l sides side (rw no at found))
    (cases_Bool (holds l first))
  where
    some_same : {a b : Side} → Some a ≡ Some b → a ≡ b
    some_same same = cc

-- ---- where a sector is looked for: by the sides that begin at it or before

module _ (sides : List Side) (row : in_row 0 sides ≡ true) (l begun : ℕ) (within : begun ≤ length sides)
    (before : (k : ℕ) (d : Side) → k < begun → (at sides k d).first ≤ l) (behind : (k : ℕ) (d : Side) → begun ≤ k → k < length sides → l < (at sides k d).first) where
  -- the last of them has it
  pub last_has : (d : Side) → 0 < begun → l - (at sides (begun - 1) d).first < (at sides (begun - 1) d).count
      → (k : ℕ) → k < (at sides (begun - 1) d).count - (l - (at sides (begun - 1) d).first) → find (holds (l + k)) sides ≡ Some (at sides (begun - 1) d)
  last_has d some under k lt =
      let low = before (begun - 1) d (omega (arith, some)) in
      let place : begun - 1 < length sides = omega (arith, some, within) in
      find_at (l + k) sides (begun - 1) d place
      (inside (at sides (begun - 1) d).first (at sides (begun - 1) d).count (l + k) (omega (arith, low)) (omega (arith, low, under, lt)))
      (λ j less. let ends = row_ends 0 sides row j (begun - 1) d less place in not_past (at sides j d) (l + k) (omega (arith, ends, low)))

  -- or none has, up to where the next one begins
  pub none_has : (d : Side) → (0 < begun → (at sides (begun - 1) d).first + (at sides (begun - 1) d).count ≤ l)
      → (k : ℕ) → (begun < length sides → l + k < (at sides begun d).first) → find (holds (l + k)) sides ≡ None
  none_has d last k next = find_none (l + k) sides d (λ j lt. ⊎_elim
      (λ early.
      let done : (at sides (begun - 1) d).first + (at sides (begun - 1) d).count ≤ l = last (omega (arith, early)) in
      let ends : (at sides j d).first + (at sides j d).count ≤ l = ⊎_elim
      (λ less. let to = row_ends 0 sides row j (begun - 1) d less (omega (arith, early, within)) in omega (arith, to, done))
      (λ same. let here : j ≡ begun - 1 = omega (arith, same, early) in rw (sym here) at done)
      (cases_lt j (begun - 1)) in
      not_past (at sides j d) (l + k) (omega (arith, ends)))
      (λ late.
      let first = next (omega (arith, late, lt)) in
      let from : (at sides begun d).first ≤ (at sides j d).first = row_rises 0 sides row begun j d late lt in
      not_before (at sides j d) (l + k) (omega (arith, first, from)))
      (cases_lt j begun))

-- ---- by their order

abbrev pub Rises : List Side → Type 0
Rises sides = IsNonDecreasingBy (λ side. side.first) sides

pub rises_row : (from : ℕ) (sides : List Side) → list_all has_some sides ≡ true → Rises sides → ((l : ℕ) → count l sides ≤ 1)
    → ((d : Side) → 0 < length sides → from ≤ (at sides 0 d).first) → in_row from sides ≡ true
rises_row from [] some rises few low = refl
rises_row from (side ∷ sides) some rises few low =
    let parts = and_parts (has_some side) (list_all has_some sides) some in
    and_from (nat_le from side.first) (in_row (side.first + side.count) sides) (le-leb from side.first (low side (omega arith)))
    (rises_row (side.first + side.count) sides parts.1 (λ i j d le lt. rises (suc i) (suc j) d (omega (arith, le)) (omega (arith, lt)))
    (λ l. let more = counts_more l side sides in let all = few l in omega (arith, more, all)) (next sides parts.1 rises few))
  where
    next : (others : List Side) → list_all has_some others ≡ true → Rises (side ∷ others) → ((l : ℕ) → count l (side ∷ others) ≤ 1)
        → (d : Side) → 0 < length others → side.first + side.count ≤ (at others 0 d).first
    next [] some rises few d lt = absurd (omega (arith, lt))
    next (other ∷ others) some rises few d lt = ⊎_elim
        (λ less.
        let some_other = ltb-true 0 other.count ((and_parts (has_some other) (list_all has_some others) some).0) in
        let low = rises 0 1 d (omega arith) (omega arith) in
        let one = inside side.first side.count other.first low less in
        let two = inside other.first other.count other.first (omega arith) (omega (arith, some_other)) in
        let first = counted_in other.first side (other ∷ others) one in
        let second = counted_in other.first other others two in
        absurd (omega (arith, few other.first, first, second)))
        (λ le. le)
        (cases_lt other.first (side.first + side.count))
