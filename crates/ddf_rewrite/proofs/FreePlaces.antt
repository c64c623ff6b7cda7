-- The first free place among associated spares.
use Rattle.std.proofs.Common.{◌≡◌, ℕ, suc, ◌+◌, Bool, true, false, not, cond, ltb, List, [], ◌∷◌, length, refl, ap, sym, ◌∙◌, arith}
use Rattle.std.proofs.lemmas.Bool.{ltb-false}
use Rattle.std.proofs.lemmas.List.{set_past}
use Rattle.std.specs.Prelude.{slice_set, ◌==◌, Some, None, position}
use Rattle.std.specs.List.{position_or_len}
use Rattle.ddf_rewrite.specs.Elements.{no_reference, with_spare}

abbrev is_free : ℕ → Bool
is_free place = place == no_reference

put_first : (places : List ℕ) (reference : ℕ) → slice_set places (position_or_len is_free places) reference ≡ with_spare places reference
put_first [] reference = refl
put_first (place ∷ places) reference = go (put_first places reference) (is_free place)
  where
    go : slice_set places (position_or_len is_free places) reference ≡ with_spare places reference → (b : Bool)
        → slice_set (place ∷ places) (cond (not b) (1 + position_or_len is_free places) 0) reference ≡ cond b (reference ∷ places) (place ∷ with_spare places reference)
    go rest true = refl
    go rest false =
        let more : 1 + position_or_len is_free places ≡ suc (position_or_len is_free places) = omega arith in
        ap (λ (n : ℕ). slice_set (place ∷ places) n reference) more ∙ ap (λ (l : List ℕ). place ∷ l) rest

-- it takes the reference
pub put_there : (places : List ℕ) (reference place : ℕ) → position is_free places ≡ Some place → slice_set places place reference ≡ with_spare places reference
put_there places reference place at = go (ltb (position_or_len is_free places) (length places)) at
  where
    go : (b : Bool) → cond b (Some (position_or_len is_free places)) None ≡ Some place → slice_set places place reference ≡ with_spare places reference
    go true e = let same : position_or_len is_free places ≡ place = cc in ap (λ (n : ℕ). slice_set places n reference) (sym same) ∙ put_first places reference
    go false e = absurd cc

-- where there is none, nothing is put
pub put_nowhere : (places : List ℕ) (reference : ℕ) → position is_free places ≡ None → places ≡ with_spare places reference
put_nowhere places reference at = go (ltb (position_or_len is_free places) (length places)) refl at
  where
    go : (b : Bool) → ltb (position_or_len is_free places) (length places) ≡ b → cond b (Some (position_or_len is_free places)) None ≡ None → places ≡ with_spare places reference
    go true test e = absurd cc
    go false test e = sym (set_past places (position_or_len is_free places) reference (ltb-false (position_or_len is_free places) (length places) test)) ∙ put_first places reference
