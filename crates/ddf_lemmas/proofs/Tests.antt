-- What follows from tests and from numbers.
use Rattle.std.proofs.Common.{Bool, IsTrue, ap, arith, eqb, false, inl, inr, max, min, nat_eq, not, refl, suc, sym, true, zero, ℕ, ⊎_elim, ◌%◌, ◌&&◌, ◌*◌, ◌+◌, ◌/◌, ◌<◌, ◌||◌, ◌∙◌, ◌≡◌, ◌≤◌}
use Rattle.std.proofs.lemmas.Bool.{and_from, cases_lt, eq-eqb, eqb-true, false≢true, leb-true}
use Rattle.std.proofs.lemmas.Nat.{div-add-mod', xor_comm}
use Rattle.std.specs.Cmp.{both_ways}
use Rattle.std.specs.Int.Bits.{xor_self, xor_zero_r}
use Rattle.std.specs.Prelude.{bit_xor, if◌then◌else◌, nat_le, ◌==◌, ◌⊎◌}
use lib.Bits.{xor_assoc}

pub both_parts : (a b : Bool) → IsTrue (a && b) → IsTrue a × IsTrue b
both_parts true b h = (refl, h)
both_parts false b h = absurd (false≢true h)

pub bit_cases : (n : ℕ) → (n % 2 ≡ 0) ⊎ (n % 2 ≡ 1)
bit_cases n = ⊎_elim (λ under. inl (omega arith)) (λ from. inr (omega arith)) (cases_lt (n % 2) 1)

pub turned : (a b c : ℕ) → bit_xor (bit_xor a b) c ≡ bit_xor (bit_xor a c) b
turned a b c = xor_assoc a b c ∙ ap (bit_xor a) (xor_comm b c) ∙ sym (xor_assoc a c b)

pub or_true : (b : Bool) → (b || true) ≡ true
or_true true = refl
or_true false = refl

pub all_false : (a b c : Bool) → (a || b || c) ≡ false → (a ≡ false) × (b ≡ false) × (c ≡ false)
all_false true b c h = absurd cc
all_false false true c h = absurd cc
all_false false false c h = (refl, refl, h)

pub or_three : (a b c : Bool) → a ≡ false → b ≡ false → c ≡ false → (a || b || c) ≡ false
or_three a b c h k l = rw (h, k, l) refl

pub begins_then : (z a b z' a' b' : Bool) → z ≡ false → a ≡ a' → b ≡ b' → (z || (a || b)) ≡ true → (z' || (a' || b')) ≡ true
begins_then true a b z' a' b' later same same' begins = absurd cc
begins_then false a b true a' b' later same same' begins = refl
begins_then false a b false a' b' later same same' begins = rw (← same, ← same') begins

pub back_from_sum : (a m : ℕ) → bit_xor (bit_xor a m) m ≡ a
back_from_sum a m = xor_assoc a m m ∙ ap (bit_xor a) (xor_self m) ∙ xor_zero_r a

pub four : (a b c d : ℕ) → bit_xor (bit_xor a b) (bit_xor c d) ≡ bit_xor (bit_xor a c) (bit_xor b d)
four a b c d =
    xor_assoc a b (bit_xor c d)
    ∙ ap (bit_xor a) (sym (xor_assoc b c d) ∙ ap (λ (m : ℕ). bit_xor m d) (xor_comm b c) ∙ xor_assoc c b d)
    ∙ sym (xor_assoc a c (bit_xor b d))

pub true_not_false : true ≡ false → ⊥
true_not_false e = cc

pub factor_pos : (a b n : ℕ) → n < a * b → 0 < b
factor_pos a zero n below = absurd (omega arith)
factor_pos a (suc b) n below = omega arith

pub place_in_strips : (block unit elements : ℕ) → block ≡ (block / unit / elements * elements + block / unit % elements) * unit + block % unit
place_in_strips block unit elements =
    let count = div-add-mod' (block / unit) elements in
    rw count (omega (arith, div-add-mod' block unit))

pub or_second : (a b : Bool) → (a || b) ≡ false → b ≡ false
or_second true b h = absurd (cc)
or_second false b h = h

pub one_test : (a : ℕ) → a ≤ 1 → nat_le a 1 ≡ true
one_test a le = grind arith

pub less_test : (a b : ℕ) → a < b → nat_eq a b ≡ false
less_test a b less = grind arith

pub eqb_false_turned : (a b : ℕ) → nat_eq a b ≡ false → nat_eq b a ≡ false
eqb_false_turned a b h = grind arith

pub five_from : (a b c d e : Bool) → a ≡ true → b ≡ true → c ≡ true → d ≡ true → e ≡ true → (a && b && c && d && e) ≡ true
five_from a b c d e ha hb hc hd he = and_from (a && b && c && d) e (and_from (a && b && c) d (and_from (a && b) c (and_from a b ha hb) hc) hd) he

pub max_zero : (n : ℕ) → max n 0 ≡ n
max_zero n = omega arith

pub all_three : (a b c : Bool) → a ≡ true → b ≡ true → c ≡ true → (a && b && c) ≡ true
all_three a b c p q r = rw (p, q, r) refl

pub or_first : (a b : Bool) → (a || b) ≡ false → a ≡ false
or_first true b h = absurd cc
or_first false b h = refl

pub and_first : (a b : Bool) → (a && b) ≡ true → a ≡ true
and_first true b e = refl
and_first false b e = absurd (cc)

pub and_second : (a b : Bool) → (a && b) ≡ true → b ≡ true
and_second true b e = e
and_second false b e = absurd (cc)

pub and_keeps : (a b c d : Bool) → (a ≡ true → b ≡ true) → (c ≡ true → d ≡ true) → (a && c) ≡ true → (b && d) ≡ true
and_keeps true b true d first rest e = ap (λ x. x && d) (first refl) ∙ rest refl
and_keeps true b false d first rest e = absurd (cc)
and_keeps false b c d first rest e = absurd (cc)

pub one_less_where_kept : (x y : Bool) → (y ≡ true → x ≡ true) → (if not x then 1 else 0) ≤ (if not y then 1 else 0)
one_less_where_kept true y keeps = omega arith
one_less_where_kept false true keeps = let never : false ≡ true = keeps refl in absurd (cc)
one_less_where_kept false false keeps = omega arith

pub or_keeps : (a b c d : Bool) → (a ≡ true → b ≡ true) → (c ≡ true → d ≡ true) → (a || c) ≡ true → (b || d) ≡ true
or_keeps true b c d first rest e = ap (λ x. x || d) (first refl)
or_keeps false true c d first rest e = refl
or_keeps false false c d first rest e = rest e

pub code_of_several : (n code : ℕ) (two : Bool) → nat_le 2 n ≡ two → ((if n == 1 then 0x00 else code) == 1 && two) ≡ (code == 1 && two)
code_of_several n code false is = none _ ∙ sym (none _)
  where
    none : (b : Bool) → (b && false) ≡ false
    none true = refl
    none false = refl
code_of_several n code true is = ap (λ b. (if b then 0x00 else code) == 1 && true) (not_one (n == 1) refl)
  where
    not_one : (b : Bool) → (n == 1) ≡ b → b ≡ false
    not_one true one = let same = eqb-true n 1 one in absurd (omega (arith, same, leb-true 2 n is))
    not_one false one = refl

pub second_of_and_not : (a b : Bool) → a ≡ true → (a && not b) ≡ false → b ≡ true
second_of_and_not true true is e = refl
second_of_and_not true false is e = absurd (cc)
second_of_and_not false b is e = absurd (cc)

pub eqb_turned : (m n : ℕ) → eqb m n ≡ eqb n m
eqb_turned m n = both_ways (eqb m n) (eqb n m) (λ same. eq-eqb n m (sym (eqb-true m n same))) (λ same. eq-eqb m n (sym (eqb-true n m same)))

pub min_le : (a b : ℕ) → (min a b ≤ a) × (min a b ≤ b)
min_le a b = (omega arith, omega arith)

pub min_least : (a b c : ℕ) → (min a (min b c) ≤ b) × (min a (min b c) ≤ c)
min_least a b c = (omega arith, omega arith)

pub true_false : (b : Bool) → b ≡ true → b ≡ false → ⊥
true_false b a c = cc

pub not_back : (b : Bool) → (b ≡ true → ⊥) → not b ≡ true
not_back true never = absurd (never refl)
not_back false never = refl

pub none_away : (a b : Bool) → a ≡ false → (b ≡ true → ⊥) → (a || b) ≡ false
none_away true b e never = absurd (cc)
none_away false true e never = absurd (never refl)
none_away false false e never = refl

pub eqb_self : (reference : ℕ) → eqb reference reference ≡ true
eqb_self reference = grind arith
