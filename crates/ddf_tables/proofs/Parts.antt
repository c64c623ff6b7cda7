-- Parts of one size, read one after another.
use Rattle.std.proofs.Common.{◌≡◌, ℕ, zero, suc, ◌+◌, ◌*◌, [], ◌∷◌, ◌++◌, length, refl, ap, arith}
use Rattle.ddf_tables.specs.Places.{each_at}

-- one more
pub each_at_more : {X : Type 0} → (read : ℕ → X) (width at count place : ℕ) → place ≡ at + width * count → each_at read width at (count + 1) ≡ each_at read width at count ++ read place ∷ []
unfolding each_at
each_at_more read width at zero place is = let here : at ≡ place = omega arith in ap (λ k. read k ∷ []) here
each_at_more read width at (suc count) place is =
    let next : place ≡ at + width + width * count = omega arith in
    let more : suc count + 1 ≡ suc (count + 1) = omega arith in
    rw more (ap (λ rest. read at ∷ rest) (each_at_more read width (at + width) count place next))

pub length-each_at : {X : Type 0} (read : ℕ → X) (width at count : ℕ) → length (each_at read width at count) ≡ count
unfolding each_at
length-each_at read width at zero = refl
length-each_at read width at (suc count) = ap suc (length-each_at read width (at + width) count)
