-- Sets of positions and their bits.
use Rattle.std.proofs.Common.{◌≡◌, ℕ, zero, suc, ◌+◌, ◌*◌, ◌/◌, ◌%◌, ◌^◌, ◌<◌, ◌≤◌, max, Bool, true, false, ◌||◌, cond, eqb, List, [], ◌∷◌, length, take, fold, replicate, get_or, set, bit_or, refl, sym, ◌∙◌, ap, subst, arith, inl, inr}
use Rattle.std.specs.List.{filter, range_with_len}
use Rattle.std.specs.Int.{bit_at}
use Rattle.std.proofs.lemmas.Bool.{cases_eq, cases_lt, eq-eqb, ne_eqb, eqb-true, eqb-false}
use Rattle.std.proofs.lemmas.List.{get_or-set_same, get_or-set_other, get_or-replicate, get_or_past, length-set, length-replicate, ext_get_or}
use Rattle.std.proofs.lemmas.List.Sums.{fold_more}
use Rattle.std.proofs.lemmas.Nat.{or_of_8}
use Rattle.std.proofs.lemmas.Nat.Bits.{bit_at_or, bit_at-pow_same, bit_at-pow_other, bit_at-lt, bit_at-zero, same_from_bits_below}
use Rattle.std.proofs.Math.Bool.{or-false, or_assoc}
use Rattle.ddf_lemmas.proofs.Tests.{or_true}
use Rattle.ddf_seal.specs.Unread.{AreBytes}
use Rattle.ddf_config_records.specs.Bits.{is_set, positions, with_bit, bits_of, is_among, IsRising, AreBelow}

-- ---- one bit

bit_same : (b k : ℕ) → bit_at (bit_or b (2 ^ k)) k ≡ 1
bit_same b k =
    let small = bit_at-lt b k in
    let one = bit_at-pow_same k in
    bit_at_or b (2 ^ k) k ∙ ap (max (bit_at b k)) one ∙ omega (arith, small)

bit_other : (b k i : ℕ) → (i ≡ k → ⊥) → bit_at (bit_or b (2 ^ k)) i ≡ bit_at b i
bit_other b k i ne = bit_at_or b (2 ^ k) i ∙ ap (max (bit_at b i)) (bit_at-pow_other k i ne) ∙ omega arith

set_one : (bits : List ℕ) (q p : ℕ) → p / 8 < length bits → is_set (with_bit bits q) p ≡ (is_set bits p || eqb p q)
set_one bits q p lt = elim (cases_eq p q) [
  | inl same ↦
      let byte : get_or (with_bit bits q) (p / 8) 0 ≡ bit_or (get_or bits (q / 8) 0) (2 ^ (q % 8)) =
      ap (λ (n : ℕ). get_or (with_bit bits q) (n / 8) 0) same ∙ get_or-set_same bits (q / 8) (bit_or (get_or bits (q / 8) 0) (2 ^ (q % 8))) 0 (omega arith) in
      let one : bit_at (get_or (with_bit bits q) (p / 8) 0) (p % 8) ≡ 1 =
      ap (λ (b : ℕ). bit_at b (p % 8)) byte ∙ ap (λ (n : ℕ). bit_at (bit_or (get_or bits (q / 8) 0) (2 ^ (q % 8))) (n % 8)) same ∙ bit_same (get_or bits (q / 8) 0) (q % 8) in
      eq-eqb (bit_at (get_or (with_bit bits q) (p / 8) 0) (p % 8)) 1 one ∙ sym (ap (λ (b : Bool). is_set bits p || b) (eq-eqb p q same) ∙ or_true (is_set bits p))
  | inr other ↦
      let byte : bit_at (get_or (with_bit bits q) (p / 8) 0) (p % 8) ≡ bit_at (get_or bits (p / 8) 0) (p % 8) = elim (cases_eq (p / 8) (q / 8)) [
        | inl row ↦
            let ne : p % 8 ≡ q % 8 → ⊥ = λ e. other (omega (arith, row, e)) in
            let here : get_or (with_bit bits q) (p / 8) 0 ≡ bit_or (get_or bits (p / 8) 0) (2 ^ (q % 8)) =
            ap (λ (n : ℕ). get_or (with_bit bits q) n 0) row ∙ get_or-set_same bits (q / 8) (bit_or (get_or bits (q / 8) 0) (2 ^ (q % 8))) 0 (omega arith) ∙ ap (λ (n : ℕ). bit_or (get_or bits n 0) (2 ^ (q % 8))) (sym row) in
            ap (λ (b : ℕ). bit_at b (p % 8)) here ∙ bit_other (get_or bits (p / 8) 0) (q % 8) (p % 8) ne
        | inr apart ↦ ap (λ (b : ℕ). bit_at b (p % 8)) (get_or-set_other bits (q / 8) (p / 8) (bit_or (get_or bits (q / 8) 0) (2 ^ (q % 8))) 0 apart)
      ] in
      ap (λ (b : ℕ). eqb b 1) byte ∙ sym (ap (λ (b : Bool). is_set bits p || b) (ne_eqb p q other) ∙ or-false (is_set bits p))
]

-- ---- all of them

pub length-bits : (bits out : List ℕ) → length (fold with_bit bits out) ≡ length bits
length-bits bits [] = refl
length-bits bits (q ∷ out) = length-bits (with_bit bits q) out ∙ length-set bits (q / 8) (bit_or (get_or bits (q / 8) 0) (2 ^ (q % 8)))

set_all : (bits out : List ℕ) (p : ℕ) → p / 8 < length bits → is_set (fold with_bit bits out) p ≡ (is_set bits p || is_among out p)
set_all bits [] p lt = sym (or-false (is_set bits p))
set_all bits (q ∷ out) p lt =
    let size = length-set bits (q / 8) (bit_or (get_or bits (q / 8) 0) (2 ^ (q % 8))) in
    set_all (with_bit bits q) out p (omega (arith, size)) ∙ ap (λ (b : Bool). b || is_among out p) (set_one bits q p lt) ∙ or_assoc (is_set bits p) (eqb p q) (is_among out p)

zero_bits : (bytes p : ℕ) → p / 8 < bytes → is_set (replicate bytes 0) p ≡ false
zero_bits bytes p lt =
    let byte : get_or (replicate bytes 0) (p / 8) 0 ≡ 0 = get_or-replicate {A = ℕ} bytes (p / 8) 0 0 lt in
    let none : bit_at (get_or (replicate bytes 0) (p / 8) 0) (p % 8) ≡ 0 = ap (λ (b : ℕ). bit_at b (p % 8)) byte ∙ bit_at-zero (p % 8) in
    ne_eqb (bit_at (get_or (replicate bytes 0) (p / 8) 0) (p % 8)) 1 (λ e. omega (arith, none, e))

pub set_bits : (bytes : ℕ) (out : List ℕ) (p : ℕ) → p / 8 < bytes → is_set (bits_of bytes out) p ≡ is_among out p
unfolding bits_of
set_bits bytes out p lt =
    let size = length-replicate {A = ℕ} bytes 0 in
    set_all (replicate bytes 0) out p (omega (arith, size)) ∙ ap (λ (b : Bool). b || is_among out p) (zero_bits bytes p lt)

pub length-bits_of : (bytes : ℕ) (out : List ℕ) → length (bits_of bytes out) ≡ bytes
unfolding bits_of
length-bits_of bytes out = length-bits (replicate bytes 0) out ∙ length-replicate {A = ℕ} bytes 0

-- ---- filters of a range

filter_same : (P Q : ℕ → Bool) (from count : ℕ) → ((p : ℕ) → from ≤ p → p < from + count → P p ≡ Q p) → filter P (range_with_len from count) ≡ filter Q (range_with_len from count)
filter_same P Q from zero same = refl
filter_same P Q from (suc count) same =
    let first : P from ≡ Q from = same from (omega arith) (omega arith) in
    let rest = filter_same P Q (from + 1) count (λ p low high. same p (omega arith) (omega arith)) in
    ap (λ (l : List ℕ). cond (P from) (from ∷ l) l) rest ∙ ap (λ (b : Bool). cond b (from ∷ filter Q (range_with_len (from + 1) count)) (filter Q (range_with_len (from + 1) count))) first

among_cond : (b : Bool) (x p : ℕ) (l : List ℕ) → is_among (cond b (x ∷ l) l) p ≡ cond b (eqb p x || is_among l p) (is_among l p)
among_cond true x p l = refl
among_cond false x p l = refl

below_none : (P : ℕ → Bool) (from count p : ℕ) → p < from → is_among (filter P (range_with_len from count)) p ≡ false
below_none P from zero p lt = refl
below_none P from (suc count) p lt =
    let rest = below_none P (from + 1) count p (omega arith) in
    let ne : p ≡ from → ⊥ = λ e. omega arith in
    let other = ne_eqb p from ne in
    let both : (b : Bool) → cond b (eqb p from || is_among (filter P (range_with_len (from + 1) count)) p) (is_among (filter P (range_with_len (from + 1) count)) p) ≡ false =
    λ (b : Bool). elim b as (λ v. cond v (eqb p from || is_among (filter P (range_with_len (from + 1) count)) p) (is_among (filter P (range_with_len (from + 1) count)) p) ≡ false)
    [ true ↦ ap (λ (v : Bool). v || is_among (filter P (range_with_len (from + 1) count)) p) other ∙ rest | false ↦ rest ] in
    among_cond (P from) from p (filter P (range_with_len (from + 1) count)) ∙ both (P from)

cond_or : (b v : Bool) → v ≡ false → cond b (true || v) v ≡ b
cond_or true v h = refl
cond_or false v h = h

cond_same : (b t v : Bool) → t ≡ false → cond b (t || v) v ≡ v
cond_same true t v h = ap (λ (w : Bool). w || v) h
cond_same false t v h = refl

among_filter : (P : ℕ → Bool) (from count p : ℕ) → from ≤ p → p < from + count → is_among (filter P (range_with_len from count)) p ≡ P p
among_filter P from zero p low high = absurd (omega arith)
among_filter P from (suc count) p low high =
    let rest = filter P (range_with_len (from + 1) count) in
    among_cond (P from) from p rest ∙ (elim (cases_eq p from) [
      | inl same ↦
          ap (λ (t : Bool). cond (P from) (t || is_among rest p) (is_among rest p)) (eq-eqb p from same)
          ∙ cond_or (P from) (is_among rest p) (below_none P (from + 1) count p (omega arith)) ∙ ap P (sym same)
      | inr other ↦ cond_same (P from) (eqb p from) (is_among rest p) (ne_eqb p from other) ∙ among_filter P (from + 1) count p (omega arith) (omega arith)
    ])

-- ---- both ways

-- the positions of set bits rise
pub positions_rise : (most : ℕ) (bits : List ℕ) → IsRising most (positions most bits)
unfolding IsRising positions
positions_rise most bits = filter_same (is_among (filter (is_set bits) (range_with_len 0 most))) (is_set bits) 0 most (λ p low high. among_filter (is_set bits) 0 most p low high)

-- the bits of rising positions are read as these positions
pub positions_of_bits : (most : ℕ) (out : List ℕ) → 8 * (most / 8) ≡ most → IsRising most out → positions most (bits_of (most / 8) out) ≡ out
unfolding IsRising positions
positions_of_bits most out whole rising =
    filter_same (is_set (bits_of (most / 8) out)) (is_among out) 0 most (λ p low high. set_bits (most / 8) out p (omega arith)) ∙ rising

same_bit : (a b : ℕ) → a < 2 → b < 2 → eqb a 1 ≡ eqb b 1 → a ≡ b
same_bit a b small_a small_b h = elim (cases_eq b 1) [
  | inl one ↦
      let yes : eqb a 1 ≡ true = h ∙ eq-eqb b 1 one in
      eqb-true a 1 yes ∙ sym one
  | inr other ↦
      let no : eqb a 1 ≡ false = h ∙ ne_eqb b 1 other in
      let ne = eqb-false a 1 no in
      omega arith
]

power_small : (k : ℕ) → k < 8 → 2 ^ k < 256
power_small zero lt = omega arith
power_small (suc zero) lt = omega arith
power_small (suc (suc zero)) lt = omega arith
power_small (suc (suc (suc zero))) lt = omega arith
power_small (suc (suc (suc (suc zero)))) lt = omega arith
power_small (suc (suc (suc (suc (suc zero))))) lt = omega arith
power_small (suc (suc (suc (suc (suc (suc zero)))))) lt = omega arith
power_small (suc (suc (suc (suc (suc (suc (suc zero))))))) lt = omega arith
power_small (suc (suc (suc (suc (suc (suc (suc (suc k)))))))) lt = absurd (omega arith)

with_bit_bytes : (bits : List ℕ) (q : ℕ) → AreBytes bits → AreBytes (with_bit bits q)
with_bit_bytes bits q are i = elim (cases_eq i (q / 8)) [
  | inl same ↦ elim (cases_lt (q / 8) (length bits)) [
    | inl lt ↦
        let power : 2 ^ (q % 8) < 256 = power_small (q % 8) (omega arith) in
        let byte : get_or (with_bit bits q) i 0 ≡ bit_or (get_or bits (q / 8) 0) (2 ^ (q % 8)) =
        ap (λ (n : ℕ). get_or (with_bit bits q) n 0) same ∙ get_or-set_same bits (q / 8) (bit_or (get_or bits (q / 8) 0) (2 ^ (q % 8))) 0 lt in
        rw byte (or_of_8 (get_or bits (q / 8) 0) (2 ^ (q % 8)) (are (q / 8)) power)
    | inr le ↦
        let size = length-set bits (q / 8) (bit_or (get_or bits (q / 8) 0) (2 ^ (q % 8))) in
        let past : get_or (with_bit bits q) i 0 ≡ 0 = get_or_past (with_bit bits q) i 0 (omega (arith, size)) in
        rw past (omega arith)
  ]
  | inr other ↦ rw (get_or-set_other bits (q / 8) i (bit_or (get_or bits (q / 8) 0) (2 ^ (q % 8))) 0 other) (are i)
]

bits_bytes : (bits out : List ℕ) → AreBytes bits → AreBytes (fold with_bit bits out)
bits_bytes bits [] are = are
bits_bytes bits (q ∷ out) are = bits_bytes (with_bit bits q) out (with_bit_bytes bits q are)

zero_bytes : (n : ℕ) → AreBytes (replicate n 0)
zero_bytes zero i = omega arith
zero_bytes (suc n) zero = omega arith
zero_bytes (suc n) (suc i) = zero_bytes n i

pub bits_of_bytes : (bytes : ℕ) (out : List ℕ) → AreBytes (bits_of bytes out)
unfolding bits_of
bits_of_bytes bytes out = bits_bytes (replicate bytes 0) out (zero_bytes bytes)

-- the bits of the positions of set bits are these bits
pub bits_of_positions : (most : ℕ) (bits : List ℕ) → 8 * (most / 8) ≡ most → length bits ≡ most / 8 → AreBytes bits → bits_of (most / 8) (positions most bits) ≡ bits
unfolding positions
bits_of_positions most bits whole size are =
    let out = filter (is_set bits) (range_with_len 0 most) in
    let made = bits_of (most / 8) out in
    let len = length-bits_of (most / 8) out in
    ext_get_or 0 made bits (len ∙ sym size) (λ j lt.
    same_from_bits_below 8 (get_or made j 0) (get_or bits j 0) (bits_of_bytes (most / 8) out j) (are j) (λ i low.
    let p = 8 * j + i in
    let row : p / 8 ≡ j = omega arith in
    let column : p % 8 ≡ i = omega arith in
    let in_row : j < most / 8 = omega (arith, len) in
    let inside : p < most = omega arith in
    let same : is_set made p ≡ is_set bits p = set_bits (most / 8) out p (omega arith) ∙ among_filter (is_set bits) 0 most p (omega arith) (omega arith) in
    let bit : bit_at (get_or made (p / 8) 0) (p % 8) ≡ bit_at (get_or bits (p / 8) 0) (p % 8) =
    same_bit (bit_at (get_or made (p / 8) 0) (p % 8)) (bit_at (get_or bits (p / 8) 0) (p % 8)) (bit_at-lt (get_or made (p / 8) 0) (p % 8)) (bit_at-lt (get_or bits (p / 8) 0) (p % 8)) same in
    rw (row, column) at bit))

-- ---- one after another

pub bits_of_none : (bytes : ℕ) → bits_of bytes [] ≡ replicate bytes 0
unfolding bits_of
bits_of_none bytes = refl

pub bits_of_more : (bytes : ℕ) (out : List ℕ) (i : ℕ) → i < length out → with_bit (bits_of bytes (take i out)) (get_or out i 0) ≡ bits_of bytes (take (i + 1) out)
unfolding bits_of
bits_of_more bytes out i lt = sym (fold_more with_bit (replicate bytes 0) out i 0 lt)

-- what the code writes
pub put_bit_is : (bits : List ℕ) (byte position : ℕ) → byte ≡ position / 8 → set bits byte (bit_or (get_or bits byte 0) (1 * 2 ^ (position % 8) % 256)) ≡ with_bit bits position
put_bit_is bits byte position e =
    let small = power_small (position % 8) (omega arith) in
    let mask : 1 * 2 ^ (position % 8) % 256 ≡ 2 ^ (position % 8) = omega (arith, small) in
    ap (λ (m : ℕ). set bits byte (bit_or (get_or bits byte 0) m)) mask ∙ ap (λ (k : ℕ). set bits k (bit_or (get_or bits k 0) (2 ^ (position % 8)))) e

-- ---- positions below a maximum

below_case : (from more : ℕ) (b : Bool) (rest : List ℕ) (i : ℕ) → 0 < more → ((j : ℕ) → j < length rest → get_or rest j 0 < from + more) → i < length (cond b (from ∷ rest) rest) → get_or (cond b (from ∷ rest) rest) i 0 < from + more
below_case from more true rest zero positive h lt = omega arith
below_case from more true rest (suc i) positive h lt = h i (omega arith)
below_case from more false rest i positive h lt = h i lt

below_all : (P : ℕ → Bool) (from count : ℕ) → (i : ℕ) → i < length (filter P (range_with_len from count)) → get_or (filter P (range_with_len from count)) i 0 < from + count
below_all P from zero i lt = absurd (omega arith)
below_all P from (suc count) i lt =
    let rest = below_all P (from + 1) count in
    below_case from (suc count) (P from) (filter P (range_with_len (from + 1) count)) i (omega arith) (λ j h. let r = rest j h in omega arith) lt

pub rising_below : (most : ℕ) (out : List ℕ) → IsRising most out → AreBelow most out
unfolding IsRising
rising_below most out rising = subst (AreBelow most) rising (λ i lt. let small = below_all (is_among out) 0 most i lt in omega arith)
