-- Items of lists by their places, and what holds of each.
use Rattle.std.proofs.Common.{◌≡◌, ℕ, zero, suc, ◌+◌, ◌<◌, Bool, true, false, List, [], ◌∷◌, map, Option, Some, refl, ap, sym, ◌∙◌, subst, arith}
use Rattle.std.proofs.lemmas.Bool.{false≢true}
use Rattle.std.specs.Prelude.{slice_get}
use Rattle.std.specs.List.{AllByRecursion, IsDistinct, enumerate_from, list_all, range_with_len}
use Rattle.std.specs.Cmp.Lexicographic.{pointwise}

pub some_same : {X : Type 0} {o : Option X} {x y : X} → o ≡ Some x → o ≡ Some y → x ≡ y
some_same {x = x} {y = y} h k = let got : Some x ≡ Some y = sym h ∙ k in cc

-- ---- places

pub get_enumerated : {X : Type 0} (n : ℕ) (xs : List X) (k : ℕ) (x : X) → slice_get xs k ≡ Some x → (at : ℕ) × (at ≡ n + k) × (slice_get (enumerate_from n xs) k ≡ Some (at, x))
get_enumerated n [] k x h = absurd cc
get_enumerated n (y ∷ ys) zero x h = let same : y ≡ x = cc in (n, omega arith, ap (λ z. Some (n, z)) same)
get_enumerated n (y ∷ ys) (suc k) x h =
    let rest = get_enumerated (n + 1) ys k x h in
    (rest.0, rest.1 ∙ omega arith, rest.2)

pub enumerated_get : {X : Type 0} (n : ℕ) (xs : List X) (k : ℕ) (pair : ℕ × X) → slice_get (enumerate_from n xs) k ≡ Some pair → (pair.0 ≡ n + k) × (slice_get xs k ≡ Some pair.1)
enumerated_get n [] k pair h = absurd cc
enumerated_get {X = X} n (x ∷ xs) zero pair h =
    let first : ℕ × X = (n, x) in
    let got : Some first ≡ Some pair = h in
    let same : first ≡ pair = cc in
    let place : pair.0 ≡ n + 0 = sym (ap (λ (p : ℕ × X). p.0) same) ∙ omega arith in
    (place, ap (λ (p : ℕ × X). Some p.1) same)
enumerated_get n (x ∷ xs) (suc k) pair h =
    let rest = enumerated_get (n + 1) xs k pair h in
    (rest.0 ∙ omega arith, rest.1)

pub get_range : (n count k : ℕ) → k < count → (at : ℕ) × (at ≡ n + k) × (slice_get (range_with_len n count) k ≡ Some at)
get_range n zero k lt = absurd (omega (arith, lt))
get_range n (suc count) zero lt = (n, omega arith, refl)
get_range n (suc count) (suc k) lt =
    let rest = get_range (n + 1) count k (omega (arith, lt)) in
    (rest.0, rest.1 ∙ omega arith, rest.2)

-- ---- what holds of each item

pub all_at : {X : Type 0} (P : X → Type 0) (xs : List X) (i : ℕ) (x : X) → AllByRecursion P xs → slice_get xs i ≡ Some x → P x
all_at P [] i x all h = absurd cc
all_at P (y ∷ ys) zero x all h = let same : y ≡ x = cc in subst P same all.0
all_at P (y ∷ ys) (suc i) x all h = all_at P ys i x all.1 h

pub all_mapped : {X Y : Type 0} (P : Y → Type 0) (f : X → Y) (xs : List X) → AllByRecursion (λ x. P (f x)) xs → AllByRecursion P (map f xs)
all_mapped P f [] h = tt
all_mapped P f (x ∷ xs) h = (h.0, all_mapped P f xs h.1)

-- ---- tests of each item

pub all_enumerated : {X : Type 0} (p : ℕ × X → Bool) (n : ℕ) (xs : List X) → ((i : ℕ) (x : X) → slice_get xs i ≡ Some x → p (n + i, x) ≡ true) → list_all p (enumerate_from n xs) ≡ true
all_enumerated p n [] h = refl
all_enumerated p n (x ∷ xs) h =
    let here : n + 0 ≡ n = omega arith in
    let first : p (n, x) ≡ true = subst (λ (m : ℕ). p (m, x) ≡ true) here (h 0 x refl) in
    let rest = all_enumerated p (n + 1) xs (λ i y at. let there : n + suc i ≡ n + 1 + i = omega arith in subst (λ (m : ℕ). p (m, y) ≡ true) there (h (suc i) y at)) in
    rw (first, rest) refl

-- what is made of each item of a list matches it
pub match_made : {X Y : Type 0} (m : X → Y → Bool) (f : Y → X) (ys : List Y) → ((k : ℕ) (y : Y) → slice_get ys k ≡ Some y → m (f y) y ≡ true) → pointwise m (map f ys) ys ≡ true
match_made m f [] h = refl
match_made m f (y ∷ ys) h =
    let first = h 0 y refl in
    let rest = match_made m f ys (λ k z at. h (suc k) z at) in
    rw (first, rest) refl

-- ---- items that differ

not_at : {K : Type 0} (eq : K → K → Bool) (k : K) (ks : List K) (j : ℕ) (other : K) → AllByRecursion (λ x. eq k x ≡ false) ks → slice_get ks j ≡ Some other → eq k other ≡ false
not_at eq k [] j other all h = absurd cc
not_at eq k (x ∷ ks) zero other all h = let same : x ≡ other = cc in subst (λ y. eq k y ≡ false) same all.0
not_at eq k (x ∷ ks) (suc j) other all h = not_at eq k ks j other all.1 h

-- each of them stands in one place
pub one_place : {K : Type 0} (eq : K → K → Bool) → ((x : K) → eq x x ≡ true) → (ks : List K) → IsDistinct eq ks → (i j : ℕ) (x : K) → slice_get ks i ≡ Some x → slice_get ks j ≡ Some x → i ≡ j
unfolding IsDistinct
one_place eq same [] apart i j x h k = absurd cc
one_place eq same (y ∷ ks) apart zero zero x h k = refl
one_place eq same (y ∷ ks) apart zero (suc j) x h k = let is : y ≡ x = cc in absurd (false≢true (sym (not_at eq y ks j x apart.0 k) ∙ ap (eq y) (sym is) ∙ same y))
one_place eq same (y ∷ ks) apart (suc i) zero x h k = let is : y ≡ x = cc in absurd (false≢true (sym (not_at eq y ks i x apart.0 h) ∙ ap (eq y) (sym is) ∙ same y))
one_place eq same (y ∷ ks) apart (suc i) (suc j) x h k = ap suc (one_place eq same ks apart.1 i j x h k)
