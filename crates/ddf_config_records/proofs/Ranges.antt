-- Lists that are made of a range, and the first that is there in them.
use Rattle.std.proofs.Common.{◌≡◌, ℕ, zero, suc, ◌+◌, ◌<◌, List, length, map, Option, Some, None, refl, sym, ◌∙◌, ap, arith}
use Rattle.std.specs.Prelude.{slice_get}
use Rattle.std.specs.Option.{option_or}
use Rattle.std.specs.List.{range_with_len}
use Rattle.ddf_lemmas.proofs.Lists.{placed_all}
use Rattle.ddf_lemmas.proofs.Options.{none_of_both}
use Rattle.ddf_bytes.specs.Choices.{first_of}

abbrev some : {X : Type 0} → X → Option X
some x = Some x

pub some_is : {X : Type 0} (x y : X) → some x ≡ some y → x ≡ y
some_is x y e = cc

-- ---- the first

first_found_from : {X : Type 0} (f : ℕ → Option X) (k i n : ℕ) (x : X) → first_of (map f (range_with_len k i)) ≡ None → i < n → f (k + i) ≡ Some x → first_of (map f (range_with_len k n)) ≡ Some x
first_found_from f k i zero x none lt h = absurd (omega arith)
first_found_from f k zero (suc n) x none lt h =
    let here : k ≡ k + 0 = omega arith in
    ap (λ o. option_or o (first_of (map f (range_with_len (k + 1) n)))) (ap f here ∙ h)
first_found_from {X} f k (suc i) (suc n) x none lt h =
    let parts = none_of_both (f k) (first_of (map f (range_with_len (k + 1) i))) none in
    let there : k + suc i ≡ k + 1 + i = omega arith in
    ap (λ o. option_or o (first_of (map f (range_with_len (k + 1) n)))) parts.0
    ∙ first_found_from f (k + 1) i n x parts.1 (omega arith) (ap f (sym there) ∙ h)

pub first_found : {X : Type 0} (f : ℕ → Option X) (i n : ℕ) (x : X) → first_of (map f (range_with_len 0 i)) ≡ None → i < n → f i ≡ Some x → first_of (map f (range_with_len 0 n)) ≡ Some x
first_found f i n x none lt h =
    let here : 0 + i ≡ i = omega arith in
    first_found_from f 0 i n x none lt (ap f here ∙ h)

none_more_from : {X : Type 0} (f : ℕ → Option X) (k i : ℕ) → first_of (map f (range_with_len k i)) ≡ None → f (k + i) ≡ None → first_of (map f (range_with_len k (suc i))) ≡ None
none_more_from f k zero none h =
    let here : k ≡ k + 0 = omega arith in
    ap (λ o. option_or o None) (ap f here ∙ h)
none_more_from f k (suc i) none h =
    let parts = none_of_both (f k) (first_of (map f (range_with_len (k + 1) i))) none in
    let there : k + suc i ≡ k + 1 + i = omega arith in
    ap (λ o. option_or o (first_of (map f (range_with_len (k + 1) (suc i))))) parts.0 ∙ none_more_from f (k + 1) i parts.1 (ap f (sym there) ∙ h)

pub none_more : {X : Type 0} (f : ℕ → Option X) (i : ℕ) → first_of (map f (range_with_len 0 i)) ≡ None → f i ≡ None → first_of (map f (range_with_len 0 (i + 1))) ≡ None
none_more f i none h =
    let here : 0 + i ≡ i = omega arith in
    let next : i + 1 ≡ suc i = omega arith in
    ap (λ (n : ℕ). first_of (map f (range_with_len 0 n))) next ∙ none_more_from f 0 i none (ap f here ∙ h)

each_none_from : {X : Type 0} (f : ℕ → Option X) (k n : ℕ) → first_of (map f (range_with_len k n)) ≡ None → (i : ℕ) → i < n → f (k + i) ≡ None
each_none_from f k zero h i lt = absurd (omega arith)
each_none_from f k (suc n) h zero lt =
    let parts = none_of_both (f k) (first_of (map f (range_with_len (k + 1) n))) h in
    let here : k + 0 ≡ k = omega arith in
    ap f here ∙ parts.0
each_none_from f k (suc n) h (suc i) lt =
    let parts = none_of_both (f k) (first_of (map f (range_with_len (k + 1) n))) h in
    let there : k + suc i ≡ k + 1 + i = omega arith in
    ap f there ∙ each_none_from f (k + 1) n parts.1 i (omega arith)

pub each_none : {X : Type 0} (f : ℕ → Option X) (n : ℕ) → first_of (map f (range_with_len 0 n)) ≡ None → (i : ℕ) → i < n → f i ≡ None
each_none f n h i lt =
    let here : i ≡ 0 + i = omega arith in
    ap f here ∙ each_none_from f 0 n h i lt

none_from : {X : Type 0} (f : ℕ → Option X) (k n : ℕ) → ((i : ℕ) → i < n → f (k + i) ≡ None) → first_of (map f (range_with_len k n)) ≡ None
none_from f k zero h = refl
none_from f k (suc n) h =
    let here : k ≡ k + 0 = omega arith in
    ap (λ o. option_or o (first_of (map f (range_with_len (k + 1) n)))) (ap f here ∙ h 0 (omega arith))
    ∙ none_from f (k + 1) n (λ i lt. let there : k + 1 + i ≡ k + suc i = omega arith in ap f there ∙ h (suc i) (omega arith))

pub none_first : {X : Type 0} (f : ℕ → Option X) (n : ℕ) → ((i : ℕ) → i < n → f i ≡ None) → first_of (map f (range_with_len 0 n)) ≡ None
none_first f n h = none_from f 0 n (λ i lt. let here : 0 + i ≡ i = omega arith in ap f here ∙ h i lt)

-- ---- an item of a list

get_from : {X : Type 0} (f : ℕ → X) (k n i : ℕ) (x : X) → slice_get (map f (range_with_len k n)) i ≡ Some x → (i < n) × (f (k + i) ≡ x)
get_from f k zero i x h = absurd cc
get_from f k (suc n) zero x h =
    let here : k + 0 ≡ k = omega arith in
    (omega arith, ap f here ∙ some_is (f k) x h)
get_from f k (suc n) (suc i) x h =
    let rest = get_from f (k + 1) n i x h in
    let lt = rest.0 in
    let there : k + suc i ≡ k + 1 + i = omega arith in
    (omega arith, ap f there ∙ rest.1)

pub get_made : {X : Type 0} (f : ℕ → X) (n i : ℕ) (x : X) → slice_get (map f (range_with_len 0 n)) i ≡ Some x → (i < n) × (f i ≡ x)
get_made f n i x h =
    let parts = get_from f 0 n i x h in
    let here : i ≡ 0 + i = omega arith in
    (parts.0, ap f here ∙ parts.1)

-- a list whose items are what a function gives
pub made_all : {X : Type 0} (f : ℕ → X) (xs : List X) → ((i : ℕ) (x : X) → slice_get xs i ≡ Some x → f i ≡ x) → map f (range_with_len 0 (length xs)) ≡ xs
made_all f xs h = placed_all f 0 xs (λ i x e. let here : 0 + i ≡ i = omega arith in ap f here ∙ h i x e)

-- the first of what two functions give, which give the same
same_from : {X Y : Type 0} (g : X → Option Y) (h : ℕ → Option Y) (f : ℕ → X) (k n : ℕ) → ((i : ℕ) → i < n → g (f (k + i)) ≡ h (k + i)) → first_of (map g (map f (range_with_len k n))) ≡ first_of (map h (range_with_len k n))
same_from g h f k zero same = refl
same_from g h f k (suc n) same =
    let here : k ≡ k + 0 = omega arith in
    let back : k + 0 ≡ k = omega arith in
    ap (λ o. option_or o (first_of (map g (map f (range_with_len (k + 1) n))))) (ap (λ (i : ℕ). g (f i)) here ∙ same 0 (omega arith) ∙ ap h back)
    ∙ ap (option_or (h k)) (same_from g h f (k + 1) n (λ i lt.
    let there : k + 1 + i ≡ k + suc i = omega arith in
    ap (λ (j : ℕ). g (f j)) there ∙ same (suc i) (omega arith) ∙ ap h (sym there)))

pub same_first : {X Y : Type 0} (g : X → Option Y) (h : ℕ → Option Y) (f : ℕ → X) (n : ℕ) → ((i : ℕ) → i < n → g (f i) ≡ h i) → first_of (map g (map f (range_with_len 0 n))) ≡ first_of (map h (range_with_len 0 n))
same_first g h f n same = same_from g h f 0 n (λ i lt. let here : 0 + i ≡ i = omega arith in ap (λ (j : ℕ). g (f j)) here ∙ same i lt ∙ ap h (sym here))
