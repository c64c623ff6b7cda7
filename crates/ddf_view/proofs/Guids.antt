-- GUIDs that differ in a byte aren't the same.
use Rattle.std.proofs.Common.{◌≡◌, ℕ, Bool, true, false, ◌&&◌, eqb, List, refl, ap, sym, ◌∙◌}
use Rattle.std.proofs.lemmas.Bool.{and_from, eq-eqb, false≢true}
use Rattle.std.specs.Prelude.{slice_index}
use Rattle.std.specs.Str.{bytes_eq}
use Rattle.ddf_view.proofs.Tests.{same_bytes}

alike_at : (place : ℕ) (one other : List ℕ) → one ≡ other → eqb (slice_index one place) (slice_index other place) ≡ true
alike_at place one other is = eq-eqb (slice_index one place) (slice_index other place) (ap (λ (bytes : List ℕ). slice_index bytes place) is)

pub other_guid : (m n : ℕ) (one other : List ℕ) → (eqb (slice_index one m) (slice_index other m) && eqb (slice_index one n) (slice_index other n)) ≡ false → bytes_eq one other ≡ false
other_guid m n one other h = go (bytes_eq one other) refl
  where
    go : (b : Bool) → bytes_eq one other ≡ b → bytes_eq one other ≡ false
    go false e = e
    go true e =
        let is = same_bytes one other e in
        let both = and_from (eqb (slice_index one m) (slice_index other m)) (eqb (slice_index one n) (slice_index other n)) (alike_at m one other is) (alike_at n one other is) in
        absurd (false≢true (sym h ∙ both))
