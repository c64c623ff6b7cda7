-- Lists of which the items that pass a test are kept, and what is found in lists.
use Rattle.std.proofs.Common.{◌≡◌, Bool, true, false, ◌&&◌, List, [], ◌∷◌, Option, Some, None, refl, sym, ap, ◌∙◌, subst}
use Rattle.std.proofs.lemmas.Bool.{false≢true, cond-false, cond-true}
use Rattle.std.specs.Prelude.{filter, find}
use Rattle.std.specs.List.{AllByRecursion}
use Rattle.std.specs.Option.{option_or}
use Rattle.ddf_group.specs.Pairs.{first_pair, first_with}

-- ---- what a test keeps

-- The first item that is kept is the first that passes.
pub find_kept : {X : Type 0} (test : X → Bool) (xs : List X) (first : X) (rest : List X) → filter test xs ≡ first ∷ rest → find test xs ≡ Some first
find_kept test [] first rest h = absurd cc
find_kept {X = X} test (x ∷ xs) first rest h = go (find_kept test xs first rest) (test x) refl
  where
    go : (filter test xs ≡ first ∷ rest → find test xs ≡ Some first) → (b : Bool) → test x ≡ b → find test (x ∷ xs) ≡ Some first
    go later true e =
        let kept : x ∷ filter test xs ≡ first ∷ rest = sym (cond-true (test x) (x ∷ filter test xs) (filter test xs) e) ∙ h in
        let same : x ≡ first = cc in
        rw e (ap (λ (y : X). Some y) same)
    go later false e = rw e (later (sym (cond-false (test x) (x ∷ filter test xs) (filter test xs) e) ∙ h))

-- Where nothing is kept, nothing passes.
pub find_none : {X : Type 0} (test : X → Bool) (xs : List X) → filter test xs ≡ [] → find test xs ≡ None
find_none test [] h = refl
find_none test (x ∷ xs) h = go (find_none test xs) (test x) refl
  where
    go : (filter test xs ≡ [] → find test xs ≡ None) → (b : Bool) → test x ≡ b → find test (x ∷ xs) ≡ None
    go later true e = let kept : x ∷ filter test xs ≡ [] = sym (cond-true (test x) (x ∷ filter test xs) (filter test xs) e) ∙ h in absurd cc
    go later false e = rw e (later (sym (cond-false (test x) (x ∷ filter test xs) (filter test xs) e) ∙ h))

-- What each item has that passes one test and fails another is had by those that the first keeps, where none passes both.
pub all_kept : {X : Type 0} (P : X → Type 0) (test other : X → Bool) (xs : List X) → ((x : X) → test x ≡ true → other x ≡ false → P x)
    → find (λ x. other x && test x) xs ≡ None → AllByRecursion P (filter test xs)
all_kept P test other [] has none = tt
all_kept P test other (x ∷ xs) has none = go (all_kept P test other xs has) (test x) refl (other x) refl
  where
    go : (find (λ y. other y && test y) xs ≡ None → AllByRecursion P (filter test xs)) → (b : Bool) → test x ≡ b → (c : Bool) → other x ≡ c → AllByRecursion P (filter test (x ∷ xs))
    go later true e true f =
        let both : (other x && test x) ≡ true = rw (e, f) refl in
        let found : Some x ≡ None = sym (cond-true (other x && test x) (Some x) (find (λ y. other y && test y) xs) both) ∙ none in
        absurd cc
    go later true e false f =
        let fails : (other x && test x) ≡ false = rw f refl in
        let rest = later (sym (cond-false (other x && test x) (Some x) (find (λ y. other y && test y) xs) fails) ∙ none) in
        rw e (has x e f, rest)
    go later false e true f =
        let fails : (other x && test x) ≡ false = rw (e, f) refl in
        let rest = later (sym (cond-false (other x && test x) (Some x) (find (λ y. other y && test y) xs) fails) ∙ none) in
        rw e rest
    go later false e false f =
        let fails : (other x && test x) ≡ false = rw f refl in
        let rest = later (sym (cond-false (other x && test x) (Some x) (find (λ y. other y && test y) xs) fails) ∙ none) in
        rw e rest

-- What those have that a test keeps, where it keeps the first.
with_first : {X : Type 0} (P : X → Type 0) (test : X → Bool) (x : X) (xs : List X) → test x ≡ true → AllByRecursion P (filter test (x ∷ xs)) → AllByRecursion P (x ∷ filter test xs)
with_first {X = X} P test x xs e all = subst (λ (some : List X). AllByRecursion P some) (cond-true (test x) (x ∷ filter test xs) (filter test xs) e) all

-- What those have that a test keeps, where it doesn't keep the first.
without_first : {X : Type 0} (P : X → Type 0) (test : X → Bool) (x : X) (xs : List X) → test x ≡ false → AllByRecursion P (filter test (x ∷ xs)) → AllByRecursion P (filter test xs)
without_first {X = X} P test x xs e all = subst (λ (some : List X). AllByRecursion P some) (cond-false (test x) (x ∷ filter test xs) (filter test xs) e) all

-- What each item has that one test keeps is had by those that another keeps, where these pass the first.
pub all_among : {X : Type 0} (P : X → Type 0) (test among : X → Bool) (xs : List X) → AllByRecursion (λ x. among x ≡ true) (filter test xs)
    → AllByRecursion P (filter among xs) → AllByRecursion P (filter test xs)
all_among P test among [] are all = tt
all_among P test among (x ∷ xs) are all = go (all_among P test among xs) (test x) refl (among x) refl
  where
    go : (AllByRecursion (λ y. among y ≡ true) (filter test xs) → AllByRecursion P (filter among xs) → AllByRecursion P (filter test xs))
        → (b : Bool) → test x ≡ b → (c : Bool) → among x ≡ c → AllByRecursion P (filter test (x ∷ xs))
    go later true e true f =
        let ours = with_first (λ y. among y ≡ true) test x xs e are in
        let theirs = with_first P among x xs f all in
        rw e (theirs.0, later ours.1 theirs.1)
    go later true e false f =
        let ours = with_first (λ y. among y ≡ true) test x xs e are in
        absurd (false≢true (sym f ∙ ours.0))
    go later false e true f =
        let ours = without_first (λ y. among y ≡ true) test x xs e are in
        let theirs = with_first P among x xs f all in
        rw e (later ours theirs.1)
    go later false e false f =
        let ours = without_first (λ y. among y ≡ true) test x xs e are in
        let theirs = without_first P among x xs f all in
        rw e (later ours theirs)

-- ---- what is found of no item

-- Where nothing is found of a list, nothing is found of any of its items.
none_with : {X Y : Type 0} (test : X → Option Y) (xs : List X) → first_with test xs ≡ None → AllByRecursion (λ x. test x ≡ None) xs
none_with test [] h = tt
none_with {Y = Y} test (x ∷ xs) h = by (λ rest. none_with test xs rest) (test x) refl h
  where
    by : (first_with test xs ≡ None → AllByRecursion (λ y. test y ≡ None) xs) → (found : Option Y) → test x ≡ found
        → option_or found (first_with test xs) ≡ None → AllByRecursion (λ y. test y ≡ None) (x ∷ xs)
    by later None e h = (e, later h)
    by later (Some y) e h = absurd cc

-- Where nothing is found of a list's pairs, nothing is found of its first item with another one.
pub none_pair : {X Y : Type 0} (test : X → X → Option Y) (x : X) (xs : List X) → first_pair test (x ∷ xs) ≡ None → AllByRecursion (λ y. test x y ≡ None) xs
none_pair test x xs h = none_with (test x) xs (neither (first_with (test x) xs) (first_pair test xs) h)
  where
    neither : {Y : Type 0} (one other : Option Y) → option_or one other ≡ None → one ≡ None
    neither None other h = refl
    neither (Some y) other h = absurd cc
