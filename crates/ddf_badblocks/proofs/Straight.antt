-- Sectors that stand one behind another: as far as the sides that have them reach, and the sides that have those that stand for them.
use Rattle.std.specs.Prelude.{ℕ, ◌+◌, ◌-◌, ◌<◌, ◌≤◌, Bool, true, false, ◌==◌, ◌&&◌, nat_lt, if◌then◌else◌, List, find, Option, Some, None}
use Rattle.std.proofs.Common.{◌≡◌, refl, sym, ap, ◌∙◌, ⊎_elim, arith}
use Rattle.std.proofs.lemmas.Bool.{cases_Bool, cases_lt, lt-ltb, le-ltb, eqb-true, eq-eqb, cond-true, cond-false, and_from}
use Rattle.ddf_badblocks.specs.declared.range.Range.{Range}
use Rattle.ddf_badblocks.specs.declared.side.Side.{Side}
use Rattle.ddf_badblocks.specs.Ranges.{at_offset, stand_in, swap}
use Rattle.ddf_badblocks.specs.Sides.{AreSorted, holds, stands}
use Rattle.ddf_badblocks.specs.ExchangeLaws.{is_inside}
use Rattle.ddf_badblocks.proofs.Counted.{stand_is}
use Rattle.ddf_badblocks.proofs.InRow.{found_holds}

-- ---- the sector that stands for one, and those behind

module _ (size l k : ℕ) where
  offset_straight : (first offset : ℕ) → k < size - at_offset size l first offset → at_offset size (l + k) first (offset + k) ≡ at_offset size l first offset + k
  offset_straight first offset lt = ⊎_elim
      (λ under.
      let here : at_offset size l first offset ≡ first + offset = cond-true (nat_lt (first + offset) size) _ _ (lt-ltb (first + offset) size under) in
      let there : first + (offset + k) < size = omega (arith, here, lt) in
      cond-true (nat_lt (first + (offset + k)) size) _ _ (lt-ltb (first + (offset + k)) size there) ∙ omega (arith, here))
      (λ over.
      let here : at_offset size l first offset ≡ l = cond-false (nat_lt (first + offset) size) _ _ (le-ltb (first + offset) size over) in
      cond-false (nat_lt (first + (offset + k)) size) _ _ (le-ltb (first + (offset + k)) size (omega (arith, over))) ∙ omega (arith, here))
      (cases_lt (first + offset) size)

  stands_straight : (found : Option Side) → ((side : Side) → found ≡ Some side → side.first ≤ l) → k < size - stands size found l → stands size found (l + k) ≡ stands size found l + k
  stands_straight None low lt = refl
  stands_straight (Some side) low lt =
      let from = low side refl in
      let offset : l + k - side.first ≡ l - side.first + k = omega (arith, from) in
      rw offset (offset_straight side.other (l - side.first) lt)

  pub stand_straight : (sides : List Side) → find (holds (l + k)) sides ≡ find (holds l) sides → k < size - stands size (find (holds l) sides) l
      → stands size (find (holds (l + k)) sides) (l + k) ≡ stands size (find (holds l) sides) l + k
  stand_straight sides alike lt = rw alike (stands_straight (find (holds l) sides) (λ side found. (is_inside side.first side.count l (found_holds l sides side found)).0) lt)

-- ---- the exchange by any rule

module _ (size : ℕ) (stand : ℕ → ℕ) where
  abbrev exchanged : ℕ → ℕ
  exchanged l = if nat_lt l size && (stand (stand l) == l) then stand l else l

  exchanged_straight : (l k : ℕ) → l < size → l + k < size → stand (l + k) ≡ stand l + k → stand (stand l + k) ≡ stand (stand l) + k → exchanged (l + k) ≡ exchanged l + k
  exchanged_straight l k here there one two =
      let small = lt-ltb l size here in
      let small_there = lt-ltb (l + k) size there in
      let back : stand (stand (l + k)) ≡ stand (stand l) + k = ap stand one ∙ two in
      ⊎_elim
      (λ is.
      let same : stand (stand l) ≡ l = eqb-true (stand (stand l)) l is in
      let is_there : (stand (stand (l + k)) == (l + k)) ≡ true = eq-eqb _ _ (omega (arith, back, same)) in
      let first : exchanged l ≡ stand l = cond-true _ _ _ (and_from (nat_lt l size) _ small is) in
      let last : exchanged (l + k) ≡ stand (l + k) = cond-true _ _ _ (and_from (nat_lt (l + k) size) _ small_there is_there) in
      omega (arith, first, last, one))
      (λ no.
      let fails : (stand (stand (l + k)) == (l + k)) ≡ false = ⊎_elim
      (λ is.
      let same : stand (stand (l + k)) ≡ l + k = eqb-true (stand (stand (l + k))) (l + k) is in
      let yet : (stand (stand l) == l) ≡ true = eq-eqb _ _ (omega (arith, back, same)) in
      absurd (clash yet no))
      (λ none. none)
      (cases_Bool (stand (stand (l + k)) == (l + k))) in
      let first : exchanged l ≡ l = cond-false _ _ _ (and_false (nat_lt l size) _ no) in
      let last : exchanged (l + k) ≡ l + k = cond-false _ _ _ (and_false (nat_lt (l + k) size) _ fails) in
      omega (arith, first, last))
      (cases_Bool (stand (stand l) == l))
    where
      clash : {b : Bool} → b ≡ true → b ≡ false → ⊥
      clash is fails = let both : true ≡ false = sym is ∙ fails in absurd cc

      and_false : (a b : Bool) → b ≡ false → (a && b) ≡ false
      and_false true b fails = fails
      and_false false b fails = refl

pub swap_straight : (size : ℕ) (ranges : List Range) (l k : ℕ) → l < size → l + k < size → stand_in size ranges (l + k) ≡ stand_in size ranges l + k
    → stand_in size ranges (stand_in size ranges l + k) ≡ stand_in size ranges (stand_in size ranges l) + k → swap size ranges (l + k) ≡ swap size ranges l + k
unfolding swap
swap_straight size ranges l k here there one two = exchanged_straight size (stand_in size ranges) l k here there one two

-- the exchange, as its body says it
pub swap_by : (size : ℕ) (ranges : List Range) (l other back : ℕ) → other ≡ stand_in size ranges l → back ≡ stand_in size ranges other → l < size → back ≡ l → swap size ranges l ≡ other
unfolding swap
swap_by size ranges l other back one two small is =
    cond-true _ _ _ (and_from (nat_lt l size) _ (lt-ltb l size small) (eq-eqb _ _ (sym (two ∙ ap (stand_in size ranges) one) ∙ is))) ∙ sym one

pub swap_not : (size : ℕ) (ranges : List Range) (l other back : ℕ) → other ≡ stand_in size ranges l → back ≡ stand_in size ranges other → ((l < size → back ≡ l → ⊥)) → swap size ranges l ≡ l
unfolding swap
swap_not size ranges l other back one two fails = ⊎_elim
    (λ under. ⊎_elim
    (λ is. absurd (fails under (two ∙ ap (stand_in size ranges) one ∙ eqb-true _ l is)))
    (λ no. cond-false _ _ _ (and_right_false (nat_lt l size) _ no))
    (cases_Bool (stand_in size ranges (stand_in size ranges l) == l)))
    (λ over. cond-false _ _ _ (and_left_false (nat_lt l size) _ (le-ltb l size over)))
    (cases_lt l size)
  where
    and_right_false : (a b : Bool) → b ≡ false → (a && b) ≡ false
    and_right_false true b fails = fails
    and_right_false false b fails = refl

    and_left_false : (a b : Bool) → a ≡ false → (a && b) ≡ false
    and_left_false true b fails = absurd cc
    and_left_false false b fails = refl

-- as far as a side reaches that has a sector, and the slot
pub stands_on : (size l k : ℕ) (ranges : List Range) (sides : List Side) → AreSorted ranges sides → find (holds (l + k)) sides ≡ find (holds l) sides → k < size - stand_in size ranges l
    → stand_in size ranges (l + k) ≡ stand_in size ranges l + k
stands_on size l k ranges sides sorted alike lt =
    let here = stand_is size l ranges sides sorted.same sorted.row in
    let there = stand_is size (l + k) ranges sides sorted.same sorted.row in
    sym there ∙ stand_straight size l k sides alike (rw (sym here) at lt) ∙ ap (λ (n : ℕ). n + k) here
