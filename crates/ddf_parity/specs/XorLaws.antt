-- The laws of the exclusive-or of sectors. Where lengths differ the shorter list decides.
use Rattle.std.proofs.Common.{◌≡◌, ◌∙◌, ℕ, zero, suc, List, [], ◌∷◌, ◌++◌, length, refl, sym, ap, arith}
use Rattle.std.specs.Prelude.{bit_xor, replicate}
use Rattle.std.specs.Int.Bits.{xor_assoc, xor_self, xor_zero_l}
use Rattle.std.proofs.lemmas.Nat.{xor_comm}
use Rattle.std.specs.Simd.Lanes.{fold_l}
use Rattle.ddf_parity.specs.Xor.{xor, zeros, xor_all}

pub xor_either_way : (a b : List ℕ) → xor a b ≡ xor b a
xor_either_way [] [] = refl
xor_either_way [] (y ∷ b) = refl
xor_either_way (x ∷ a) [] = refl
xor_either_way (x ∷ a) (y ∷ b) = ap (λ n. n ∷ xor a b) (xor_comm x y) ∙ ap (λ l. bit_xor y x ∷ l) (xor_either_way a b)

pub xor_regrouped : (a b c : List ℕ) → xor (xor a b) c ≡ xor a (xor b c)
xor_regrouped [] b c = refl
xor_regrouped (x ∷ a) [] c = refl
xor_regrouped (x ∷ a) (y ∷ b) [] = refl
xor_regrouped (x ∷ a) (y ∷ b) (z ∷ c) = ap (λ n. n ∷ xor (xor a b) c) (xor_assoc x y z) ∙ ap (λ l. bit_xor x (bit_xor y z) ∷ l) (xor_regrouped a b c)

-- two sectors change places
pub xor_swapped : (a b c : List ℕ) → xor a (xor b c) ≡ xor b (xor a c)
xor_swapped a b c = sym (xor_regrouped a b c) ∙ ap (λ l. xor l c) (xor_either_way a b) ∙ xor_regrouped b a c

xor_of_zeros : (n : ℕ) (a : List ℕ) → length a ≡ n → xor (replicate n 0) a ≡ a
xor_of_zeros zero [] e = refl
xor_of_zeros zero (x ∷ a) e = cc
xor_of_zeros (suc n) [] e = refl
xor_of_zeros (suc n) (x ∷ a) e = ap (λ m. m ∷ xor (replicate n 0) a) (xor_zero_l x) ∙ ap (λ l. x ∷ l) (xor_of_zeros n a (omega arith))

xor_with_same : (n : ℕ) (a : List ℕ) → length a ≡ n → xor a a ≡ replicate n 0
xor_with_same zero [] e = refl
xor_with_same zero (x ∷ a) e = cc
xor_with_same (suc n) [] e = cc
xor_with_same (suc n) (x ∷ a) e = ap (λ m. m ∷ xor a a) (xor_self x) ∙ ap (λ l. 0 ∷ l) (xor_with_same n a (omega arith))

pub zeros_xor : (a : List ℕ) → length a ≡ 512 → xor zeros a ≡ a
unfolding zeros
zeros_xor a e = xor_of_zeros 512 a e

pub xor_zeros : (a : List ℕ) → length a ≡ 512 → xor a zeros ≡ a
xor_zeros a e = xor_either_way a zeros ∙ zeros_xor a e

pub xor_with_itself : (a : List ℕ) → length a ≡ 512 → xor a a ≡ zeros
unfolding zeros
xor_with_itself a e = xor_with_same 512 a e

-- two sectors whose sum is zero are equal
pub same_from_zero : (a b : List ℕ) → length a ≡ 512 → length b ≡ 512 → xor a b ≡ zeros → a ≡ b
same_from_zero a b long_a long_b e =
    sym (xor_zeros a long_a) ∙ ap (xor a) (sym e) ∙ sym (xor_regrouped a a b) ∙ ap (λ l. xor l b) (xor_with_itself a long_a) ∙ zeros_xor b long_b

fold_from : (a b : List ℕ) (xs : List (List ℕ)) → fold_l xor (xor a b) xs ≡ xor a (fold_l xor b xs)
fold_from a b [] = refl
fold_from a b (x ∷ xs) = ap (λ l. fold_l xor l xs) (xor_regrouped a b x) ∙ fold_from a (xor b x) xs

-- the sum, sector by sector
pub xor_all_first : (x : List ℕ) (xs : List (List ℕ)) → xor_all (x ∷ xs) ≡ xor x (xor_all xs)
xor_all_first x xs = ap (λ l. fold_l xor l xs) (xor_either_way zeros x) ∙ fold_from x zeros xs

-- a sector may be taken out first
pub xor_all_taken_out : (before : List (List ℕ)) (x : List ℕ) (after : List (List ℕ)) → xor_all (before ++ x ∷ after) ≡ xor x (xor_all (before ++ after))
xor_all_taken_out [] x after = xor_all_first x after
xor_all_taken_out (a ∷ before) x after =
    xor_all_first a (before ++ x ∷ after) ∙ ap (xor a) (xor_all_taken_out before x after)
    ∙ xor_swapped a x (xor_all (before ++ after)) ∙ ap (xor x) (sym (xor_all_first a (before ++ after)))

-- the sum of one sector
pub xor_all_of_one : (x : List ℕ) → length x ≡ 512 → xor_all (x ∷ []) ≡ x
xor_all_of_one x long = zeros_xor x long
