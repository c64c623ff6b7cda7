-- How many sides have a sector: their order doesn't matter to it, and where no two meet it is one at most.
use Rattle.std.specs.Prelude.{ℕ, ◌+◌, ◌-◌, ◌<◌, ◌≤◌, Bool, true, false, nat_le, if◌then◌else◌, List, [], ◌∷◌, find, Option, Some, None}
use Rattle.std.specs.List.{count_by, sum_by}
use Rattle.std.proofs.Common.{◌≡◌, refl, sym, ap, ◌∙◌, ⊎_elim, arith}
use Rattle.std.proofs.lemmas.Bool.{and_parts, cases_Bool, leb-true, or_left, or_right, or_from}
use Rattle.std.proofs.lemmas.List.Sums.{sum_by-cons}
use Rattle.ddf_badblocks.specs.declared.range.Range.{Range}
use Rattle.ddf_badblocks.specs.declared.side.Side.{Side}
use Rattle.ddf_badblocks.specs.Ranges.{at_offset, has_sector, is_from, partner, partner_in, stand_in}
use Rattle.ddf_badblocks.specs.Sides.{AreSorted, bad_side, holds, in_row, sides_of, spare_side, stands}
use Rattle.ddf_badblocks.specs.ExchangeLaws.{is_inside}

-- ---- of a list of sides

module _ (l : ℕ) where
  abbrev pub count : List Side → ℕ
  count sides = count_by (holds l) sides

  pub counted_in : (side : Side) (sides : List Side) → holds l side ≡ true → count (side ∷ sides) ≡ 1 + count sides
  counted_in side sides is = sum_by-cons _ side sides ∙ ap (λ (b : Bool). (if b then 1 else 0) + count sides) is

  pub counted_out : (side : Side) (sides : List Side) → holds l side ≡ false → count (side ∷ sides) ≡ count sides
  counted_out side sides fails =
      let sum : count (side ∷ sides) ≡ 0 + count sides = sum_by-cons _ side sides ∙ ap (λ (b : Bool). (if b then 1 else 0) + count sides) fails in
      omega (arith, sum)

  pub counts_more : (side : Side) (sides : List Side) → count sides ≤ count (side ∷ sides)
  counts_more side sides = ⊎_elim
      (λ is. omega (arith, counted_in side sides is))
      (λ no. omega (arith, counted_out side sides no))
      (cases_Bool (holds l side))

  -- sides in a row
  pub row_counts : (from : ℕ) (sides : List Side) → in_row from sides ≡ true → (l < from → count sides ≡ 0) × (count sides ≤ 1)
  row_counts from [] row = ((λ lt. refl), omega arith)
  row_counts from (side ∷ sides) row =
      let parts = and_parts (nat_le from side.first) (in_row (side.first + side.count) sides) row in
      let low = leb-true from side.first parts.0 in
      let rest = row_counts (side.first + side.count) sides parts.1 in
      ⊎_elim
      (λ is.
      let here = is_inside side.first side.count l is in
      let one = counted_in side sides is in
      let none = rest.0 here.1 in
      ((λ lt. absurd (omega (arith, lt, low, here.0))), omega (arith, one, none)))
      (λ no.
      let same = counted_out side sides no in
      ((λ lt. same ∙ rest.0 (omega (arith, lt, low))), omega (arith, same, rest.1)))
      (cases_Bool (holds l side))

  -- ---- what those give that have a sector

  module _ (value : Side → ℕ) where
    abbrev pub given : Side → ℕ
    given side = if holds l side then value side else 0

    pub given_in : (side : Side) (sides : List Side) → holds l side ≡ true → sum_by given (side ∷ sides) ≡ value side + sum_by given sides
    given_in side sides is = sum_by-cons given side sides ∙ ap (λ (b : Bool). (if b then value side else 0) + sum_by given sides) is

    pub given_out : (side : Side) (sides : List Side) → holds l side ≡ false → sum_by given (side ∷ sides) ≡ sum_by given sides
    given_out side sides fails =
        let sum : sum_by given (side ∷ sides) ≡ 0 + sum_by given sides = sum_by-cons given side sides ∙ ap (λ (b : Bool). (if b then value side else 0) + sum_by given sides) fails in
        omega (arith, sum)

    pub none_given : (sides : List Side) → count sides ≡ 0 → sum_by given sides ≡ 0
    none_given [] none = refl
    none_given (side ∷ sides) none = ⊎_elim
        (λ is. absurd (omega (arith, none, counted_in side sides is)))
        (λ no. given_out side sides no ∙ none_given sides (sym (counted_out side sides no) ∙ none))
        (cases_Bool (holds l side))

    abbrev pub of_found : Option Side → ℕ
    of_found None = 0
    of_found (Some side) = value side

    pub found_given : (sides : List Side) → count sides ≤ 1 → sum_by given sides ≡ of_found (find (holds l) sides)
    found_given [] few = refl
    found_given (side ∷ sides) few = ⊎_elim
        (λ is.
        let none : count sides ≡ 0 = omega (arith, few, counted_in side sides is) in
        let sum : sum_by given (side ∷ sides) ≡ value side = omega (arith, given_in side sides is, none_given sides none) in
        sum ∙ sym (ap of_found (found_first side sides is)))
        (λ no.
        let rest = found_given sides (omega (arith, few, counted_out side sides no)) in
        given_out side sides no ∙ rest ∙ sym (ap of_found (found_later side sides no)))
        (cases_Bool (holds l side))
      where
        found_first : (side : Side) (sides : List Side) → holds l side ≡ true → find (holds l) (side ∷ sides) ≡ Some side
        found_first side sides is = rw is refl

        found_later : (side : Side) (sides : List Side) → holds l side ≡ false → find (holds l) (side ∷ sides) ≡ find (holds l) sides
        found_later side sides fails = rw fails refl

-- ---- of the sides of ranges

module _ (size l : ℕ) where
  -- one more than the sector that stands for this one
  abbrev pub stood : Side → ℕ
  stood side = 1 + at_offset size l side.other (l - side.first)

  abbrev pub of_range : Option Range → ℕ
  of_range None = 0
  of_range (Some range) = 1 + partner size range l

  pub range_given : (ranges : List Range) → count l (sides_of ranges) ≤ 1 → sum_by (given l stood) (sides_of ranges) ≡ of_range (find (has_sector l) ranges)
  range_given [] few = refl
  range_given (range ∷ ranges) few =
      let rest = spare_side range ∷ sides_of ranges in
      ⊎_elim
      (λ bad.
      let none : count l rest ≡ 0 = omega (arith, few, counted_in l (bad_side range) rest bad) in
      let sum = given_in l stood (bad_side range) rest bad in
      let zero_rest = none_given l stood rest none in
      let has = or_left (is_from range.start range.count l) (is_from range.spare range.count l) bad in
      let total : sum_by (given l stood) (sides_of (range ∷ ranges)) ≡ stood (bad_side range) = omega (arith, sum, zero_rest) in
      total ∙ sym (ap of_range (range_first range ranges has) ∙ bad_stands range bad))
      (λ not_bad. ⊎_elim
      (λ spare.
      let few_rest : count l rest ≤ 1 = omega (arith, few, counted_out l (bad_side range) rest not_bad) in
      let none : count l (sides_of ranges) ≡ 0 = omega (arith, few_rest, counted_in l (spare_side range) (sides_of ranges) spare) in
      let sum = given_out l stood (bad_side range) rest not_bad ∙ given_in l stood (spare_side range) (sides_of ranges) spare in
      let zero_rest = none_given l stood (sides_of ranges) none in
      let has = or_right (is_from range.start range.count l) (is_from range.spare range.count l) spare in
      let total : sum_by (given l stood) (sides_of (range ∷ ranges)) ≡ stood (spare_side range) = omega (arith, sum, zero_rest) in
      total ∙ sym (ap of_range (range_first range ranges has) ∙ spare_stands range not_bad))
      (λ not_spare.
      let few_rest : count l (sides_of ranges) ≤ 1 =
      omega (arith, few, counted_out l (bad_side range) rest not_bad, counted_out l (spare_side range) (sides_of ranges) not_spare) in
      let sum = given_out l stood (bad_side range) rest not_bad ∙ given_out l stood (spare_side range) (sides_of ranges) not_spare in
      let lacks = or_from (is_from range.start range.count l) (is_from range.spare range.count l) not_bad not_spare in
      sum ∙ range_given ranges few_rest ∙ sym (ap of_range (range_later range ranges lacks)))
      (cases_Bool (holds l (spare_side range))))
      (cases_Bool (holds l (bad_side range)))
    where
      range_first : (range : Range) (ranges : List Range) → has_sector l range ≡ true → find (has_sector l) (range ∷ ranges) ≡ Some range
      range_first range ranges is = rw is refl

      range_later : (range : Range) (ranges : List Range) → has_sector l range ≡ false → find (has_sector l) (range ∷ ranges) ≡ find (has_sector l) ranges
      range_later range ranges fails = rw fails refl

      bad_stands : (range : Range) → is_from range.start range.count l ≡ true → of_range (Some range) ≡ stood (bad_side range)
      bad_stands range is = rw is refl

      spare_stands : (range : Range) → is_from range.start range.count l ≡ false → of_range (Some range) ≡ stood (spare_side range)
      spare_stands range fails = rw fails refl

  same_stand : (side : Option Side) (range : Option Range) → of_found l stood side ≡ of_range range → stands size side l ≡ partner_in size range l
  same_stand None None same = refl
  same_stand None (Some range) same = absurd (omega (arith, same))
  same_stand (Some side) None same = absurd (omega (arith, same))
  same_stand (Some side) (Some range) same = omega (arith, same)

  -- what stands for a sector, as the first side says it that has it
  pub stand_is : (ranges : List Range) (sides : List Side) → ((f : Side → ℕ) → sum_by f sides ≡ sum_by f (sides_of ranges)) → in_row 0 sides ≡ true
      → stands size (find (holds l) sides) l ≡ stand_in size ranges l
  unfolding stand_in
  stand_is ranges sides same row =
      let few = (row_counts l 0 sides row).1 in
      let few_of : count l (sides_of ranges) ≤ 1 = rw (same (λ side. if holds l side then 1 else 0)) at few in
      same_stand (find (holds l) sides) (find (has_sector l) ranges) (sym (found_given l stood sides few) ∙ same (given l stood) ∙ range_given ranges few_of)

-- so it is where the side was looked for
pub stand_found : (size l : ℕ) (ranges : List Range) (sides : List Side) → AreSorted ranges sides → (side : Option Side) → side ≡ find (holds l) sides → (result : ℕ) → result ≡ stands size side l
    → result ≡ stand_in size ranges l
stand_found size l ranges sides sorted side found result is = is ∙ ap (λ (s : Option Side). stands size s l) found ∙ stand_is size l ranges sides sorted.same sorted.row
