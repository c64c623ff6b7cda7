-- Ranges can be exchanged where none of their sides is empty or passes the slot's end, and no sector is in two.
use Rattle.std.specs.Prelude.{ℕ, ◌+◌, ◌≤◌, Bool, true, false, not, ◌&&◌, ◌||◌, nat_le, nat_lt, if◌then◌else◌, List, [], ◌∷◌}
use Rattle.std.specs.List.{list_all, sum_by}
use Rattle.std.proofs.Common.{◌≡◌, refl, sym, ap, ◌∙◌, ⊎_elim, arith}
use Rattle.std.proofs.lemmas.Bool.{and_parts, and_from, cases_Bool, cases_lt, ltb-true, le-leb, or_left, or_right}
use Rattle.std.proofs.lemmas.List.Sums.{sum_by-cons}
use Rattle.ddf_badblocks.specs.declared.range.Range.{Range}
use Rattle.ddf_badblocks.specs.declared.side.Side.{Side}
use Rattle.ddf_badblocks.specs.Ranges.{are_apart, are_exchangeable, has_sector, is_from, is_sound, share}
use Rattle.ddf_badblocks.specs.Sides.{AreSorted, bad_side, has_some, holds, in_row, is_on, sides_of, spare_side}
use Rattle.ddf_badblocks.specs.ExchangeLaws.{apart_of, elsewhere, inside, not_inside, sound_of}
use Rattle.ddf_badblocks.proofs.Counted.{count, counted_in, counted_out, counts_more, row_counts}
use Rattle.ddf_badblocks.proofs.InRow.{Rises, rises_row}

-- ---- tests of all sides, whatever their order

module _ (test : Side → Bool) where
  abbrev fails : Side → ℕ
  fails side = if test side then 0 else 1

  pub all_sum : (sides : List Side) → list_all test sides ≡ true → sum_by fails sides ≡ 0
  all_sum [] all = refl
  all_sum (side ∷ sides) all =
      let parts = and_parts (test side) (list_all test sides) all in
      let sum : sum_by fails (side ∷ sides) ≡ 0 + sum_by fails sides = sum_by-cons fails side sides ∙ ap (λ (b : Bool). (if b then 0 else 1) + sum_by fails sides) parts.0 in
      omega (arith, sum, all_sum sides parts.1)

  pub sum_all : (sides : List Side) → sum_by fails sides ≡ 0 → list_all test sides ≡ true
  sum_all [] none = refl
  sum_all (side ∷ sides) none = ⊎_elim
      (λ is.
      let sum : sum_by fails (side ∷ sides) ≡ 0 + sum_by fails sides = sum_by-cons fails side sides ∙ ap (λ (b : Bool). (if b then 0 else 1) + sum_by fails sides) is in
      and_from (test side) (list_all test sides) is (sum_all sides (omega (arith, sum, none))))
      (λ no.
      let sum : sum_by fails (side ∷ sides) ≡ 1 + sum_by fails sides = sum_by-cons fails side sides ∙ ap (λ (b : Bool). (if b then 0 else 1) + sum_by fails sides) no in
      absurd (omega (arith, sum, none)))
      (cases_Bool (test side))

  pub all_of : (sides others : List Side) → ((f : Side → ℕ) → sum_by f sides ≡ sum_by f others) → list_all test sides ≡ true → list_all test others ≡ true
  all_of sides others same all = sum_all others (sym (same fails) ∙ all_sum sides all)

-- ---- ranges that can be exchanged

-- what is asked of sides
pub record AreApart (size : ℕ) (sides : List Side) : Type 0 where
  pub some : list_all has_some sides ≡ true
  pub on : list_all (is_on size) sides ≡ true
  pub few : (l : ℕ) → count l sides ≤ 1

-- a sector of a range is in no side of ranges that lie apart from it
none_of_others : (range : Range) (others : List Range) (l : ℕ) → list_all (are_apart range) others ≡ true → has_sector l range ≡ true → count l (sides_of others) ≡ 0
none_of_others range [] l apart has = refl
none_of_others range (other ∷ others) l apart has =
    let parts = and_parts (are_apart range other) (list_all (are_apart range) others) apart in
    let no : has_sector l other ≡ false = ⊎_elim
    (λ also. absurd (clash has (elsewhere range other (apart_of range other parts.0) l also)))
    (λ no. no)
    (cases_Bool (has_sector l other)) in
    let both = or_none (is_from other.start other.count l) (is_from other.spare other.count l) no in
    counted_out l (bad_side other) (spare_side other ∷ sides_of others) both.0 ∙ counted_out l (spare_side other) (sides_of others) both.1
    ∙ none_of_others range others l parts.1 has
  where
    clash : {b : Bool} → b ≡ true → b ≡ false → ⊥
    clash is fails = let both : true ≡ false = sym is ∙ fails in absurd cc

    or_none : (a b : Bool) → (a || b) ≡ false → (a ≡ false) × (b ≡ false)
    or_none true b fails = absurd cc
    or_none false b fails = (refl, fails)

pub exchangeable_apart : (size : ℕ) (ranges : List Range) → are_exchangeable size ranges ≡ true → AreApart size (sides_of ranges)
exchangeable_apart size [] can = record { some = refl; on = refl; few = λ l. omega arith }
exchangeable_apart size (range ∷ ranges) can =
    let a = and_parts (is_sound size range && list_all (are_apart range) ranges) (are_exchangeable size ranges) can in
    let b = and_parts (is_sound size range) (list_all (are_apart range) ranges) a.0 in
    let sound = sound_of size range b.0 in
    let rest = exchangeable_apart size ranges a.1 in
    let starts : nat_le (range.start + range.count) size ≡ true = le-leb (range.start + range.count) size sound.starts in
    let ends : nat_le (range.spare + range.count) size ≡ true = le-leb (range.spare + range.count) size sound.ends in
    let some = has_some_of size range b.0 in
    record {
      some = and_from (has_some (bad_side range)) _ some (and_from (has_some (spare_side range)) _ some rest.some);
      on = and_from (is_on size (bad_side range)) _ starts (and_from (is_on size (spare_side range)) _ ends rest.on);
      few = λ l.
          let behind = spare_side range ∷ sides_of ranges in
          ⊎_elim
          (λ bad.
          let none = none_of_others range ranges l b.1 (or_left (is_from range.start range.count l) (is_from range.spare range.count l) bad) in
          let not_spare = not_inside range.start range.count range.spare range.count l sound.lone bad in
          omega (arith, none, counted_in l (bad_side range) behind bad, counted_out l (spare_side range) (sides_of ranges) not_spare))
          (λ not_bad. ⊎_elim
          (λ spare.
          let none = none_of_others range ranges l b.1 (or_right (is_from range.start range.count l) (is_from range.spare range.count l) spare) in
          omega (arith, none, counted_out l (bad_side range) behind not_bad, counted_in l (spare_side range) (sides_of ranges) spare))
          (λ not_spare. omega (arith, rest.few l, counted_out l (bad_side range) behind not_bad, counted_out l (spare_side range) (sides_of ranges) not_spare))
          (cases_Bool (holds l (spare_side range))))
          (cases_Bool (holds l (bad_side range)));
    }
  where
    has_some_of : (size : ℕ) (range : Range) → is_sound size range ≡ true → nat_lt 0 range.count ≡ true
    has_some_of size range is =
        let a = and_parts _ (not (share range.start range.count range.spare range.count)) is in
        let b = and_parts _ (nat_le (range.spare + range.count) size) a.0 in
        (and_parts (nat_lt 0 range.count) (nat_le (range.start + range.count) size) b.0).0

-- ---- and the other way round

-- two sides of which no sector is in both don't meet
pub few_unshared : (one other : Side) → has_some one ≡ true → has_some other ≡ true → ((l : ℕ) → holds l one ≡ true → holds l other ≡ true → ⊥)
    → share one.first one.count other.first other.count ≡ false
few_unshared one other some also none = ⊎_elim
    (λ meets.
    let parts = and_parts (nat_lt one.first (other.first + other.count)) (nat_lt other.first (one.first + one.count)) meets in
    let a = ltb-true one.first (other.first + other.count) parts.0 in
    let b = ltb-true other.first (one.first + one.count) parts.1 in
    let c = ltb-true 0 one.count some in
    let d = ltb-true 0 other.count also in
    ⊎_elim
    (λ less. absurd (none other.first (inside one.first one.count other.first (omega (arith, less)) b) (inside other.first other.count other.first (omega arith) (omega (arith, d)))))
    (λ le. absurd (none one.first (inside one.first one.count one.first (omega arith) (omega (arith, c))) (inside other.first other.count one.first le a)))
    (cases_lt one.first other.first))
    (λ no. no)
    (cases_Bool (share one.first one.count other.first other.count))

-- of sides of which no sector is in two the first meets no other one
twice : (l : ℕ) (one other : Side) (sides : List Side) → count l (one ∷ other ∷ sides) ≤ 1 → holds l one ≡ true → holds l other ≡ true → ⊥
twice l one other sides few here there = omega (arith, few, counted_in l one (other ∷ sides) here, counted_in l other sides there)

skipped : (l : ℕ) (one other : Side) (sides : List Side) → count l (one ∷ other ∷ sides) ≤ 1 → count l (one ∷ sides) ≤ 1
skipped l one other sides few = ⊎_elim
    (λ is. omega (arith, few, counted_in l one (other ∷ sides) is, counted_in l one sides is, counts_more l other sides))
    (λ no. omega (arith, few, counted_out l one (other ∷ sides) no, counted_out l one sides no, counts_more l other sides))
    (cases_Bool (holds l one))

apart_by : (one other : Range) → share one.start one.count other.start other.count ≡ false → share one.start one.count other.spare other.count ≡ false
    → share one.spare one.count other.start other.count ≡ false → share one.spare one.count other.spare other.count ≡ false → are_apart one other ≡ true
apart_by one other a b c d = rw (a, b, c, d) refl

sound_by : (size : ℕ) (range : Range) → nat_lt 0 range.count ≡ true → nat_le (range.start + range.count) size ≡ true → nat_le (range.spare + range.count) size ≡ true
    → share range.start range.count range.spare range.count ≡ false → is_sound size range ≡ true
sound_by size range some starts ends lone = rw (some, starts, ends, lone) refl

apart_all : (range : Range) (others : List Range) → nat_lt 0 range.count ≡ true → list_all has_some (sides_of others) ≡ true
    → ((l : ℕ) → count l (bad_side range ∷ sides_of others) ≤ 1) → ((l : ℕ) → count l (spare_side range ∷ sides_of others) ≤ 1) → list_all (are_apart range) others ≡ true
apart_all range [] some all few_bad few_spare = refl
apart_all range (other ∷ others) some all few_bad few_spare =
    let a = and_parts (has_some (bad_side other)) _ all in
    let b = and_parts (has_some (spare_side other)) (list_all has_some (sides_of others)) a.1 in
    let behind = spare_side other ∷ sides_of others in
    let also : nat_lt 0 other.count ≡ true = a.0 in
    let bad_bad = few_unshared (bad_side range) (bad_side other) some also (λ l. twice l (bad_side range) (bad_side other) behind (few_bad l)) in
    let spare_bad = few_unshared (spare_side range) (bad_side other) some also (λ l. twice l (spare_side range) (bad_side other) behind (few_spare l)) in
    let less_bad = λ (l : ℕ). skipped l (bad_side range) (bad_side other) behind (few_bad l) in
    let less_spare = λ (l : ℕ). skipped l (spare_side range) (bad_side other) behind (few_spare l) in
    let bad_spare = few_unshared (bad_side range) (spare_side other) some also (λ l. twice l (bad_side range) (spare_side other) (sides_of others) (less_bad l)) in
    let spare_spare = few_unshared (spare_side range) (spare_side other) some also (λ l. twice l (spare_side range) (spare_side other) (sides_of others) (less_spare l)) in
    and_from (are_apart range other) (list_all (are_apart range) others)
    (apart_by range other bad_bad bad_spare spare_bad spare_spare)
    (apart_all range others some b.1 (λ l. skipped l (bad_side range) (spare_side other) (sides_of others) (less_bad l)) (λ l. skipped l (spare_side range) (spare_side other) (sides_of others) (less_spare l)))

pub apart_exchangeable : (size : ℕ) (ranges : List Range) → AreApart size (sides_of ranges) → are_exchangeable size ranges ≡ true
apart_exchangeable size [] apart = refl
apart_exchangeable size (range ∷ ranges) apart =
    let a = and_parts (has_some (bad_side range)) _ apart.some in
    let b = and_parts (has_some (spare_side range)) (list_all has_some (sides_of ranges)) a.1 in
    let c = and_parts (is_on size (bad_side range)) _ apart.on in
    let d = and_parts (is_on size (spare_side range)) (list_all (is_on size) (sides_of ranges)) c.1 in
    let behind = spare_side range ∷ sides_of ranges in
    let lone = few_unshared (bad_side range) (spare_side range) a.0 b.0 (λ l. twice l (bad_side range) (spare_side range) (sides_of ranges) (apart.few l)) in
    let less = λ (l : ℕ). skipped l (bad_side range) (spare_side range) (sides_of ranges) (apart.few l) in
    let spares : (l : ℕ) → count l behind ≤ 1 = λ l. omega (arith, counts_more l (bad_side range) behind, apart.few l) in
    let rest : (l : ℕ) → count l (sides_of ranges) ≤ 1 = λ l. omega (arith, counts_more l (spare_side range) (sides_of ranges), spares l) in
    and_from (is_sound size range && list_all (are_apart range) ranges) (are_exchangeable size ranges)
    (and_from (is_sound size range) (list_all (are_apart range) ranges)
    (sound_by size range a.0 c.0 d.0 lone)
    (apart_all range ranges a.0 b.1 less spares))
    (apart_exchangeable size ranges (record { some = b.1; on = d.1; few = rest }))

-- ---- in rising order

module _ (size : ℕ) (ranges : List Range) (sides : List Side) (same : (f : Side → ℕ) → sum_by f sides ≡ sum_by f (sides_of ranges)) where
  -- where the sides of ranges are in a row, they can be exchanged where all lie on the slot
  row_apart : list_all has_some sides ≡ true → in_row 0 sides ≡ true → list_all (is_on size) sides ≡ true → are_exchangeable size ranges ≡ true
  row_apart some row on = apart_exchangeable size ranges (record {
    some = all_of has_some sides (sides_of ranges) same some;
    on = all_of (is_on size) sides (sides_of ranges) same on;
    few = λ l. let few = (row_counts l 0 sides row).1 in rw (same (λ side. if holds l side then 1 else 0)) at few;
  })

  apart_on : are_exchangeable size ranges ≡ true → AreApart size sides
  apart_on can =
      let apart = exchangeable_apart size ranges can in
      record {
        some = all_of has_some (sides_of ranges) sides (λ f. sym (same f)) apart.some;
        on = all_of (is_on size) (sides_of ranges) sides (λ f. sym (same f)) apart.on;
        few = λ l. let few = apart.few l in rw (sym (same (λ side. if holds l side then 1 else 0))) at few;
      }

  pub not_apart : Rises sides → (list_all has_some sides && in_row 0 sides) ≡ false → are_exchangeable size ranges ≡ false
  not_apart rises fails = ⊎_elim
      (λ can.
      let apart = apart_on can in
      let row = rises_row 0 sides apart.some rises apart.few (λ d lt. omega arith) in
      absurd (clash (and_from (list_all has_some sides) (in_row 0 sides) apart.some row) fails))
      (λ no. no)
      (cases_Bool (are_exchangeable size ranges))
    where
      clash : {b : Bool} → b ≡ true → b ≡ false → ⊥
      clash is fails = let both : true ≡ false = sym is ∙ fails in absurd cc

pub on_is : (size : ℕ) (ranges : List Range) (sides : List Side) → AreSorted ranges sides → list_all (is_on size) sides ≡ are_exchangeable size ranges
on_is size ranges sides sorted = ⊎_elim
    (λ on. on ∙ sym (row_apart size ranges sides sorted.same sorted.some sorted.row on))
    (λ off. off ∙ sym (⊎_elim
    (λ can. absurd (clash ((apart_on size ranges sides sorted.same can).on) off))
    (λ no. no)
    (cases_Bool (are_exchangeable size ranges))))
    (cases_Bool (list_all (is_on size) sides))
  where
    clash : {b : Bool} → b ≡ true → b ≡ false → ⊥
    clash is fails = let both : true ≡ false = sym is ∙ fails in absurd cc
