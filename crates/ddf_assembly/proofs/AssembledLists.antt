-- Lists and tests that assembly is told by.
use Rattle.std.proofs.Common.{◌≡◌, ℕ, zero, suc, Bool, true, false, ◌||◌, eqb, nat_eq, cond, List, [], ◌∷◌, map, Some, refl, ap, sym, ◌∙◌, subst}
use Rattle.std.proofs.lemmas.Bool.{eq-eqb, eqb-true, cond-true, or_right}
use Rattle.std.specs.Prelude.{filter, slice_get}
use Rattle.std.specs.List.{IsDistinct, list_any}
use Rattle.std.specs.Map.{lookup}
use Rattle.ddf_lemmas.proofs.Lists.{mapped_at}
use Rattle.ddf_config.specs.declared.member.Member.{Member}
use Rattle.ddf_rewrite.proofs.Lists.{all_at}
use Rattle.ddf_seats.specs.Leading.{some}

-- ---- lists

-- A list of which something is made that begins isn't empty.
pub some_mapped : {X Y : Type 0} (f : X → Y) (xs : List X) (y : Y) (ys : List Y) → map f xs ≡ y ∷ ys → some xs ≡ true
some_mapped f [] y ys h = absurd cc
some_mapped f (x ∷ xs) y ys h = refl

-- What a test keeps is among what it keeps.
pub among_kept : (test : ℕ → Bool) (xs : List ℕ) (i x : ℕ) → slice_get xs i ≡ Some x → test x ≡ true → list_any (λ y. eqb y x) (filter test xs) ≡ true
among_kept test [] i x at passes = absurd cc
among_kept test (y ∷ xs) i x at passes = by (among_kept test xs) (test y) refl i at
  where
    by : ((k z : ℕ) → slice_get xs k ≡ Some z → test z ≡ true → list_any (λ w. eqb w z) (filter test xs) ≡ true) → (b : Bool) → test y ≡ b
        → (k : ℕ) → slice_get (y ∷ xs) k ≡ Some x → list_any (λ z. eqb z x) (cond b (y ∷ filter test xs) (filter test xs)) ≡ true
    by later true e zero at =
        let same : y ≡ x = cc in
        ap (λ (b : Bool). b || list_any (λ z. eqb z x) (filter test xs)) (eq-eqb y x same)
    by later false e zero at = let same : y ≡ x = cc in absurd (let no : true ≡ false = sym passes ∙ ap test (sym same) ∙ e in cc)
    by later true e (suc k) at = or_right (eqb y x) (list_any (λ z. eqb z x) (filter test xs)) (later k x at passes)
    by later false e (suc k) at = later k x at passes

-- A member of which no other has the reference is looked up by it.
pub first_of_reference : (members : List (ℕ × Member)) → IsDistinct nat_eq (map (λ (entry : ℕ × Member). entry.0) members) → (i : ℕ) (entry : ℕ × Member) → slice_get members i ≡ Some entry
    → lookup (nat_eq entry.0) members ≡ Some entry.1
unfolding IsDistinct
first_of_reference [] apart i entry at = absurd cc
first_of_reference (first ∷ members) apart zero entry at =
    let same : first ≡ entry = cc in
    subst (λ (one : ℕ × Member). lookup (nat_eq one.0) (first ∷ members) ≡ Some one.1) same
    (cond-true (nat_eq first.0 first.0) (Some first.1) (lookup (nat_eq first.0) members) (eq-eqb first.0 first.0 refl))
first_of_reference (first ∷ members) apart (suc i) entry at = by (nat_eq entry.0 first.0) refl (first_of_reference members apart.1 i entry at)
  where
    by : (b : Bool) → nat_eq entry.0 first.0 ≡ b → lookup (nat_eq entry.0) members ≡ Some entry.1 → cond b (Some first.1) (lookup (nat_eq entry.0) members) ≡ Some entry.1
    by false e rest = rest
    by true e rest =
        let away = all_at (λ (other : ℕ). nat_eq first.0 other ≡ false) (map (λ (one : ℕ × Member). one.0) members) i entry.0 apart.0 (mapped_at (λ (one : ℕ × Member). one.0) members i entry at) in
        absurd (let no : true ≡ false = sym (eq-eqb first.0 entry.0 (sym (eqb-true entry.0 first.0 e))) ∙ away in cc)
