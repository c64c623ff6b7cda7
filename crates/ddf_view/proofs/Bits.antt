-- A flag of one bit is contained where this bit is set.
use Rattle.std.proofs.Common.{◌≡◌, ℕ, zero, suc, ◌*◌, ◌^◌, ◌<◌, ◌==◌, refl, ap, ◌∙◌, arith, bit_and, eq-eqb}
use Rattle.std.proofs.lemmas.Nat.{pow_pos}
use Rattle.std.proofs.lemmas.Bool.Decides.{nat_tests}
use Rattle.std.proofs.lemmas.Nat.Bits.{and_pow}
use Rattle.std.specs.Int.{bit_at}
use Rattle.ddf_view.specs.View.{has_bit}

one_bit : (b m : ℕ) → b < 2 → 0 < m → (b * m == m) ≡ (b == 1)
one_bit zero m below some = let none : 0 * m ≡ 0 = omega arith in rw none (grind (arith, nat_tests))
one_bit (suc zero) m below some = let all : 1 * m ≡ m = omega arith in rw all (eq-eqb m m refl)
one_bit (suc (suc b)) m below some = absurd (omega arith)

pub contains_bit : (n k : ℕ) → (bit_and n (2 ^ k) == 2 ^ k) ≡ has_bit n k
contains_bit n k = ap (λ (m : ℕ). m == 2 ^ k) (and_pow n k) ∙ one_bit (bit_at n k) (2 ^ k) (omega arith) (pow_pos k)
