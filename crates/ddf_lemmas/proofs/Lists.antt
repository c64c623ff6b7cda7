-- What follows from lists.
use Rattle.std.proofs.Common.{Bool, List, None, Option, Some, [], add-zero, ap, arith, cond, drop, false, filter_map, get_or, inl, inr, length, length-take-le, map, not, refl, replicate, subst, suc, sym, take, true, zero, zero-add, ℕ, ⊎_elim, ◌&&◌, ◌++◌, ◌+◌, ◌-◌, ◌<◌, ◌||◌, ◌∙◌, ◌∷◌, ◌≡◌, ◌≢◌, ◌≤◌, ◌⊎◌}
use Rattle.std.proofs.lemmas.Bool.{and_parts, cond-false, cond-true, false≢true, le-leb, ne_eqb, or_parts}
use Rattle.std.proofs.lemmas.Cmp.{nat_list_eq_equiv}
use Rattle.std.proofs.lemmas.List.{drop_at, get_or-append-add, get_or_append_left, length-drop, take_at}
use Rattle.std.proofs.lemmas.List.FromFn.{get_or-range_with_len, length-range_with_len}
use Rattle.std.proofs.lemmas.List.Sums.{sum_by-cons}
use Rattle.std.proofs.lemmas.Option.{slice_get-get_or}
use Rattle.std.specs.Cmp.Lexicographic.{pointwise}
use Rattle.std.specs.List.{AllByRecursion, cons_option, enumerate_from, list_all, list_any, range_with_len, sum_by, zip}
use Rattle.std.specs.Map.{lookup}
use Rattle.std.specs.Prelude.{count_by, filter, find, if◌then◌else◌, nat_le, option_and_then, option_map, slice_get, slice_index, slice_index_or, slice_set, ◌==◌}
use Rattle.std.specs.Simd.Lanes.{fold_l}
use Rattle.std.specs.Str.{bytes_eq}

pub append_parts : (a b c d : List ℕ) → length a ≡ length c → a ++ b ≡ c ++ d → (a ≡ c) × (b ≡ d)
append_parts a b c d len e =
    let first : a ≡ c = sym (take_at a b (length a) refl) ∙ ap (take (length a)) e ∙ take_at c d (length a) (sym len) in
    let second : b ≡ d = sym (drop_at a b (length a) refl) ∙ ap (drop (length a)) e ∙ drop_at c d (length a) (sym len) in
    (first, second)

pub zero_first : (n s : ℕ) → slice_index (replicate n 0) s ≡ 0
zero_first zero s = refl
zero_first (suc n) zero = refl
zero_first (suc n) (suc s) = zero_first n s

pub all_both : {X : Type 0} (P Q : X → Type 0) (xs : List X) → AllByRecursion P xs → AllByRecursion Q xs → AllByRecursion (λ x. P x × Q x) xs
all_both P Q [] h k = tt
all_both P Q (x ∷ xs) h k = ((h.0, k.0), all_both P Q xs h.1 k.1)

pub placed_all : {X : Type 0} (f : ℕ → X) (k : ℕ) (xs : List X) → ((i : ℕ) (x : X) → slice_get xs i ≡ Some x → f (k + i) ≡ x) → map f (range_with_len k (length xs)) ≡ xs
placed_all f k [] h = refl
placed_all {X} f k (x ∷ xs) h =
    let here : k ≡ k + 0 = omega arith in
    let first : f k ≡ x = ap f here ∙ h 0 x refl in
    let rest = placed_all f (k + 1) xs (λ i y e. let there : k + 1 + i ≡ k + suc i = omega arith in ap f there ∙ h (suc i) y e) in
    ap (λ (y : X). y ∷ map f (range_with_len (k + 1) (length xs))) first ∙ ap (λ (l : List X). x ∷ l) rest

pub none_any : {X : Type 0} (p : X → Bool) (xs : List X) (i : ℕ) (x : X) → list_any p xs ≡ false → slice_get xs i ≡ Some x → p x ≡ false
none_any p [] i x h at = absurd cc
none_any p (y ∷ ys) zero x h at = let same : y ≡ x = cc in rw same at (or_parts (p y) (list_any p ys) h).0
none_any p (y ∷ ys) (suc i) x h at = none_any p ys i x (or_parts (p y) (list_any p ys) h).1 at

pub slice_get-range : (a n i : ℕ) → i < n → slice_get (range_with_len a n) i ≡ Some (a + i)
slice_get-range a n i below =
    let within : i < length (range_with_len a n) = rw length-range_with_len below in
    slice_get-get_or (range_with_len a n) i 0 within ∙ ap Some (get_or-range_with_len a n i 0 below)

pub same_map : (one other : ℕ → List ℕ) (start count : ℕ) → ((l : ℕ) → start ≤ l → l < start + count → one l ≡ other l) → map one (range_with_len start count) ≡ map other (range_with_len start count)
same_map one other start zero same = refl
same_map one other start (suc count) same =
    let first : one start ≡ other start = same start (omega arith) (omega arith) in
    let rest = same_map one other (start + 1) count (λ l from below. same l (omega (arith, from)) (omega (arith, below))) in
    rw (first, rest) refl

pub all_replicate : {X : Type 0} (P : X → Type 0) (n : ℕ) (x : X) → P x → AllByRecursion P (replicate n x)
all_replicate P zero x h = tt
all_replicate P (suc n) x h = (h, all_replicate P n x h)

pub some_at_place : {X : Type 0} (xs : List X) (i : ℕ) → i < length xs → (x : X) × (slice_get xs i ≡ Some x)
some_at_place [] i lt = absurd (omega (arith, lt))
some_at_place (x ∷ xs) zero lt = (x, refl)
some_at_place (x ∷ xs) (suc i) lt = some_at_place xs i (omega (arith, lt))

pub length_of_rest : (out : List (List ℕ)) (at : ℕ) → length (take (length out - at) (drop at out)) ≡ length out - at
length_of_rest out at = length-take-le (length out - at) (drop at out) (omega (arith, length-drop at out))

pub all_from : {X : Type 0} (P : X → Type 0) (xs : List X) → ((i : ℕ) (x : X) → slice_get xs i ≡ Some x → P x) → AllByRecursion P xs
all_from P [] h = tt
all_from P (x ∷ xs) h = (h 0 x refl, all_from P xs (λ i y at. h (suc i) y at))

pub earlier_of : {X : Type 0} (xs : List X) (x d : X) (s : ℕ) → s < length xs → get_or (xs ++ x ∷ []) s d ≡ get_or xs s d
earlier_of xs x d s lt = get_or_append_left xs (x ∷ []) d s lt

pub last_of : {X : Type 0} (xs : List X) (x d : X) → get_or (xs ++ x ∷ []) (length xs) d ≡ x
last_of xs x d = ap (λ (n : ℕ). get_or (xs ++ x ∷ []) n d) (sym (add-zero (length xs))) ∙ get_or-append-add xs (x ∷ []) 0 d

pub first_all : {X : Type 0} (P : X → Type 0) (xs ys : List X) → AllByRecursion P (xs ++ ys) → AllByRecursion P xs
first_all P [] ys all = tt
first_all P (x ∷ xs) ys all = (all.0, first_all P xs ys all.1)

pub second_all : {X : Type 0} (P : X → Type 0) (xs ys : List X) → AllByRecursion P (xs ++ ys) → AllByRecursion P ys
second_all P [] ys all = all
second_all P (x ∷ xs) ys all = second_all P xs ys all.1

pub bytes_same : (bytes : List ℕ) → bytes_eq bytes bytes ≡ true
bytes_same bytes = nat_list_eq_equiv.refl bytes

pub slice_get-append_right : {X : Type 0} (xs ys : List X) (i : ℕ) → slice_get (xs ++ ys) (length xs + i) ≡ slice_get ys i
slice_get-append_right [] ys i = let e : 0 + i ≡ i = omega arith in rw e refl
slice_get-append_right (x ∷ xs) ys i =
    let e : suc (length xs) + i ≡ suc (length xs + i) = omega arith in rw e (slice_get-append_right xs ys i)

pub range_at : (members i : ℕ) → i < members → slice_get (range_with_len 0 members) i ≡ Some i
range_at members i below = slice_get-range 0 members i below ∙ ap Some (zero-add i)

pub slice_get-append_left : {X : Type 0} (xs ys : List X) (i : ℕ) → i < length xs → slice_get (xs ++ ys) i ≡ slice_get xs i
slice_get-append_left [] ys i below = absurd (omega arith)
slice_get-append_left (x ∷ xs) ys zero below = refl
slice_get-append_left (x ∷ xs) ys (suc i) below = slice_get-append_left xs ys i (omega arith)

pub range_next : (a n : ℕ) → range_with_len a (suc n) ≡ range_with_len a n ++ (a + n) ∷ []
range_next a zero = ap (λ x. x ∷ []) (sym (add-zero a))
range_next a (suc n) =
    let same : a + 1 + n ≡ a + suc n = omega arith in
    ap (λ rest. a ∷ rest) (range_next (a + 1) n ∙ ap (λ x. range_with_len (a + 1) n ++ x ∷ []) same)

pub list_all_from : {X : Type 0} (p : X → Bool) (xs : List X) → ((i : ℕ) (x : X) → slice_get xs i ≡ Some x → p x ≡ true) → list_all p xs ≡ true
list_all_from p [] h = refl
list_all_from p (x ∷ xs) h =
    let first = h 0 x refl in
    let rest = list_all_from p xs (λ i y at. h (suc i) y at) in
    rw (first, rest) refl

pub list_all_read : {X : Type 0} (p : X → Bool) (xs : List X) (a : ℕ) (x : X) → list_all p xs ≡ true → slice_get xs a ≡ Some x → p x ≡ true
list_all_read p [] a x h at = absurd cc
list_all_read p (y ∷ ys) zero x h at = let same : y ≡ x = cc in sym (ap p same) ∙ (and_parts (p y) (list_all p ys) h).0
list_all_read p (y ∷ ys) (suc a) x h at = list_all_read p ys a x (and_parts (p y) (list_all p ys) h).1 at

pub found_passes : {X : Type 0} (p : X → Bool) (xs : List X) (x : X) → find p xs ≡ Some x → p x ≡ true
found_passes p [] x e = absurd (cc)
found_passes {X} p (y ∷ ys) x e = by (p y) refl (found_passes p ys x) e
  where
    by : (b : Bool) → p y ≡ b → (find p ys ≡ Some x → p x ≡ true) → cond b (Some y) (find p ys) ≡ Some x → p x ≡ true
    by true at rest h = let same : y ≡ x = cc in subst (λ (z : X). p z ≡ true) same at
    by false at rest h = rest h

pub zip_matches : {X Y : Type 0} (same : X → Y → Bool) (xs : List X) (ys : List Y) → length xs ≡ length ys → list_all (λ pair. same pair.0 pair.1) (zip xs ys) ≡ pointwise same xs ys
zip_matches same [] [] h = refl
zip_matches same [] (y ∷ ys) h = absurd (omega (arith, h))
zip_matches same (x ∷ xs) [] h = absurd (omega (arith, h))
zip_matches same (x ∷ xs) (y ∷ ys) h = let rest : length xs ≡ length ys = omega (arith, h) in ap (λ b. same x y && b) (zip_matches same xs ys rest)

pub none_is : {X : Type 0} (p : X → Bool) (xs : List X) → not (list_any p xs) ≡ list_all (λ x. not (p x)) xs
none_is p [] = refl
none_is p (x ∷ xs) = by (p x) (none_is p xs)
  where
    by : (b : Bool) → not (list_any p xs) ≡ list_all (λ y. not (p y)) xs → not (b || list_any p xs) ≡ (not b && list_all (λ y. not (p y)) xs)
    by true rest = refl
    by false rest = rest

pub same_lookup : {K X : Type 0} (test other : K → Bool) → ((k : K) → test k ≡ other k) → (es : List (K × X)) → lookup test es ≡ lookup other es
same_lookup test other agree [] = refl
same_lookup {K} {X} test other agree (e ∷ es) =
    ap (λ (b : Bool). cond b (Some e.1) (lookup test es)) (agree e.0) ∙ ap (λ (rest : Option X). cond (other e.0) (Some e.1) rest) (same_lookup test other agree es)

pub all_append : {X : Type 0} (P : X → Type 0) (xs ys : List X) → AllByRecursion P xs → AllByRecursion P ys → AllByRecursion P (xs ++ ys)
all_append P [] ys h k = k
all_append P (x ∷ xs) ys h k = (h.0, all_append P xs ys h.1 k)

pub all_weaken : {X : Type 0} (P Q : X → Type 0) → ((x : X) → P x → Q x) → (xs : List X) → AllByRecursion P xs → AllByRecursion Q xs
all_weaken P Q f [] all = tt
all_weaken P Q f (x ∷ xs) all = (f x all.0, all_weaken P Q f xs all.1)

pub all_filter : {X : Type 0} (P : X → Type 0) (p : X → Bool) (xs : List X) → AllByRecursion P xs → AllByRecursion P (filter p xs)
all_filter P p [] all = tt
all_filter P p (x ∷ xs) all = by (p x) (all_filter P p xs all.1)
  where
    by : (b : Bool) → AllByRecursion P (filter p xs) → AllByRecursion P (cond b (x ∷ filter p xs) (filter p xs))
    by true rest = (all.0, rest)
    by false rest = rest

pub all_taken : {X : Type 0} (P : X → Type 0) (n : ℕ) (xs : List X) → AllByRecursion P xs → AllByRecursion P (take n xs)
all_taken P zero xs h = tt
all_taken P (suc n) [] h = tt
all_taken P (suc n) (x ∷ xs) h = (h.0, all_taken P n xs h.1)

pub all_fail : {X : Type 0} (test : X → Bool) (xs : List X) → filter test xs ≡ [] → AllByRecursion (λ x. test x ≡ false) xs
all_fail test [] none = tt
all_fail test (x ∷ xs) none = go (all_fail test xs) (test x) refl
  where
    go : (filter test xs ≡ [] → AllByRecursion (λ x. test x ≡ false) xs) → (b : Bool) → test x ≡ b → AllByRecursion (λ x. test x ≡ false) (x ∷ xs)
    go later true is = absurd (let some : x ∷ filter test xs ≡ [] = rw is at none in cc)
    go later false is = (is, later (rw is at none))

pub filter_none : {X : Type 0} (p : X → Bool) (xs : List X) → ((x : X) → p x ≡ false) → filter p xs ≡ []
filter_none p [] h = refl
filter_none p (x ∷ xs) h = cond-false (p x) (x ∷ filter p xs) (filter p xs) (h x) ∙ filter_none p xs h

pub mapped_at : {X Y : Type 0} (f : X → Y) (xs : List X) (k : ℕ) (x : X) → slice_get xs k ≡ Some x → slice_get (map f xs) k ≡ Some (f x)
mapped_at f [] k x e = absurd (cc)
mapped_at f (y ∷ xs) zero x e = let same : y ≡ x = cc in ap (λ z. Some (f z)) same
mapped_at f (y ∷ xs) (suc k) x e = mapped_at f xs k x e

pub in_map : {X Y : Type 0} (f : X → Y) (xs : List X) (k : ℕ) (y : Y) → slice_get (map f xs) k ≡ Some y → (x : X) × (slice_get xs k ≡ Some x) × (f x ≡ y)
in_map f [] k y e = absurd (cc)
in_map f (x ∷ xs) zero y e = (x, refl, cc)
in_map f (x ∷ xs) (suc k) y e = in_map f xs k y e

pub in_second : {X : Type 0} (xs ys : List X) (k : ℕ) (x : X) → slice_get ys k ≡ Some x → (j : ℕ) × (slice_get (xs ++ ys) j ≡ Some x)
in_second [] ys k x e = (k, e)
in_second (z ∷ xs) ys k x e = let rest = in_second xs ys k x e in (suc rest.0, rest.1)

pub get_filter_map : {X Y : Type 0} (f : X → Option Y) (xs : List X) (k : ℕ) (x : X) (y : Y) → slice_get xs k ≡ Some x → f x ≡ Some y → (n : ℕ) × (slice_get (filter_map f xs) n ≡ Some y)
get_filter_map f [] k x y h is = absurd cc
get_filter_map {Y = Y} f (z ∷ xs) zero x y h is =
    let same : z ≡ x = cc in
    let first : f z ≡ Some y = ap f same ∙ is in
    (0, ap (λ o. slice_get (cons_option o (filter_map f xs)) 0) first)
get_filter_map {Y = Y} f (z ∷ xs) (suc k) x y h is = go (get_filter_map f xs k x y h is) (f z)
  where
    go : (n : ℕ) × (slice_get (filter_map f xs) n ≡ Some y) → (o : Option Y) → (n : ℕ) × (slice_get (cons_option o (filter_map f xs)) n ≡ Some y)
    go rest None = rest
    go rest (Some w) = (suc rest.0, rest.1)

pub first_get : {A : Type 0} (xs ys : List A) (k : ℕ) (x : A) → slice_get xs k ≡ Some x → slice_get (xs ++ ys) k ≡ Some x
first_get [] ys k x e = absurd cc
first_get (y ∷ xs) ys zero x e = e
first_get (y ∷ xs) ys (suc k) x e = first_get xs ys k x e

pub any_place : {X : Type 0} (p : X → Bool) (xs : List X) → list_any p xs ≡ true → (k : ℕ) × (x : X) × (slice_get xs k ≡ Some x) × (p x ≡ true)
any_place p [] is = absurd (false≢true is)
any_place {X} p (y ∷ xs) is = by (p y) refl is (any_place p xs)
  where
    by : (b : Bool) → p y ≡ b → (b || list_any p xs) ≡ true → (list_any p xs ≡ true → (k : ℕ) × (x : X) × (slice_get xs k ≡ Some x) × (p x ≡ true)) → (k : ℕ) × (x : X) × (slice_get (y ∷ xs) k ≡ Some x) × (p x ≡ true)
    by true here is rest = (0, y, refl, here)
    by false here is rest = let at = rest is in (suc at.0, at.1, at.2, at.3)

pub range_get : (from count k j : ℕ) → slice_get (range_with_len from count) k ≡ Some j → (j ≡ from + k) × (k < count)
range_get from zero k j h = absurd cc
range_get from (suc count) zero j h = let same : from ≡ j = cc in (sym same ∙ omega arith, omega arith)
range_get from (suc count) (suc k) j h = let rest = range_get (from + 1) count k j h in (rest.0 ∙ omega arith, omega (arith, rest.1))

pub kept_passes : {X : Type 0} (p : X → Bool) (xs : List X) (i : ℕ) (x : X) → slice_get (filter p xs) i ≡ Some x → p x ≡ true
kept_passes p [] i x h = absurd cc
kept_passes {X = X} p (y ∷ ys) i x h = go (λ j. kept_passes p ys j x) (p y) refl i h
  where
    go : ((j : ℕ) → slice_get (filter p ys) j ≡ Some x → p x ≡ true) → (b : Bool) → p y ≡ b → (i : ℕ) → slice_get (cond b (y ∷ filter p ys) (filter p ys)) i ≡ Some x → p x ≡ true
    go later true e zero h = let same : y ≡ x = cc in ap p (sym same) ∙ e
    go later true e (suc i) h = later i h
    go later false e i h = later i h

pub found_place : {X : Type 0} (test : X → Bool) (xs : List X) (x : X) → find test xs ≡ Some x → (place : ℕ) × (slice_get xs place ≡ Some x) × (test x ≡ true)
found_place test [] x e = absurd cc
found_place test (first ∷ xs) x e = by (λ rest. found_place test xs x rest) (test first) refl e
  where
    by : (later : find test xs ≡ Some x → (place : ℕ) × (slice_get xs place ≡ Some x) × (test x ≡ true)) (b : Bool) → test first ≡ b → cond b (Some first) (find test xs) ≡ Some x
        → (place : ℕ) × (slice_get (first ∷ xs) place ≡ Some x) × (test x ≡ true)
    by later true is e = let same : first ≡ x = cc in (0, ap Some same, ap test (sym same) ∙ is)
    by later false is e = let rest = later e in (suc rest.0, rest.1, rest.2)

pub filter_pass : {X : Type 0} (test : X → Bool) (xs : List X) → AllByRecursion (λ x. test x ≡ true) (filter test xs)
filter_pass test [] = tt
filter_pass {X = X} test (x ∷ xs) = by (test x) refl (filter_pass test xs)
  where
    by : (b : Bool) → test x ≡ b → AllByRecursion (λ y. test y ≡ true) (filter test xs) → AllByRecursion (λ y. test y ≡ true) (cond b (x ∷ filter test xs) (filter test xs))
    by true e rest = (e, rest)
    by false e rest = rest

pub filter_get : {X : Type 0} (test : X → Bool) (xs : List X) (k : ℕ) (x : X) → slice_get (filter test xs) k ≡ Some x → (j : ℕ) × (slice_get xs j ≡ Some x)
filter_get test [] k x at = absurd cc
filter_get {X = X} test (y ∷ ys) k x at = by (λ i later. filter_get test ys i x later) (test y) refl k at
  where
    by : ((i : ℕ) → slice_get (filter test ys) i ≡ Some x → (j : ℕ) × (slice_get ys j ≡ Some x)) → (b : Bool) → test y ≡ b → (i : ℕ) → slice_get (filter test (y ∷ ys)) i ≡ Some x
        → (j : ℕ) × (slice_get (y ∷ ys) j ≡ Some x)
    by rest true e zero here = (0, sym (ap (λ (l : List X). slice_get l 0) (cond-true (test y) (y ∷ filter test ys) (filter test ys) e)) ∙ here)
    by rest true e (suc i) here = let later = rest i (sym (ap (λ (l : List X). slice_get l (suc i)) (cond-true (test y) (y ∷ filter test ys) (filter test ys) e)) ∙ here) in (suc later.0, later.1)
    by rest false e i here = let later = rest i (sym (ap (λ (l : List X). slice_get l i) (cond-false (test y) (y ∷ filter test ys) (filter test ys) e)) ∙ here) in (suc later.0, later.1)

pub filtered_passes : {X : Type 0} (test : X → Bool) (xs : List X) (k : ℕ) (x : X) → slice_get xs k ≡ Some x → test x ≡ true → (j : ℕ) × (slice_get (filter test xs) j ≡ Some x)
filtered_passes test [] k x at passes = absurd cc
filtered_passes {X = X} test (first ∷ xs) zero x at passes =
    let same : first ≡ x = cc in
    (0, ap (λ (b : Bool). slice_get (cond b (first ∷ filter test xs) (filter test xs)) 0) (ap test same ∙ passes) ∙ at)
filtered_passes {X = X} test (first ∷ xs) (suc k) x at passes = by (test first) (filtered_passes test xs k x at passes)
  where
    by : (b : Bool) → (j : ℕ) × (slice_get (filter test xs) j ≡ Some x) → (j : ℕ) × (slice_get (cond b (first ∷ filter test xs) (filter test xs)) j ≡ Some x)
    by true found = (suc found.0, found.1)
    by false found = found

pub filter_all : {X Y Z : Type 0} (f : X → Option Y) (g : Z → X) (h : Z → Y) (zs : List Z) → ((k : ℕ) (z : Z) → slice_get zs k ≡ Some z → f (g z) ≡ Some (h z)) → filter_map f (map g zs) ≡ map h zs
filter_all f g h [] each = refl
filter_all {Y = Y} f g h (z ∷ zs) each =
    ap (λ (found : Option Y). cons_option found (filter_map f (map g zs))) (each 0 z refl)
    ∙ ap (λ (rest : List Y). h z ∷ rest) (filter_all f g h zs (λ k. each (suc k)))

pub second_get : {X : Type 0} (xs ys : List X) (k : ℕ) (x : X) → slice_get ys k ≡ Some x → slice_get (xs ++ ys) (length xs + k) ≡ Some x
second_get [] ys k x e = let same : 0 + k ≡ k = omega arith in ap (slice_get ys) same ∙ e
second_get (y ∷ xs) ys k x e = let same : suc (length xs) + k ≡ suc (length xs + k) = omega arith in ap (slice_get (y ∷ (xs ++ ys))) same ∙ second_get xs ys k x e

pub set_else : {X : Type 0} (xs : List X) (i j : ℕ) (x : X) → j ≢ i → slice_get (slice_set xs i x) j ≡ slice_get xs j
set_else [] i j x differ = refl
set_else (y ∷ ys) zero zero x differ = absurd (differ refl)
set_else (y ∷ ys) zero (suc j) x differ = refl
set_else (y ∷ ys) (suc i) zero x differ = refl
set_else (y ∷ ys) (suc i) (suc j) x differ = set_else ys i j x (λ (same : j ≡ i). differ (ap suc same))

pub none_found : {X : Type 0} (test : X → Bool) (xs : List X) → find test xs ≡ None → (i : ℕ) (x : X) → slice_get xs i ≡ Some x → test x ≡ false
none_found test [] h i x at = absurd cc
none_found {X = X} test (y ∷ ys) h i x at = by (none_found test ys) (test y) refl h i at
  where
    by : (find test ys ≡ None → (k : ℕ) (z : X) → slice_get ys k ≡ Some z → test z ≡ false) → (b : Bool) → test y ≡ b → cond b (Some y) (find test ys) ≡ None
        → (k : ℕ) → slice_get (y ∷ ys) k ≡ Some x → test x ≡ false
    by later true e h k at = absurd cc
    by later false e h zero at = let same : y ≡ x = cc in subst (λ (z : X). test z ≡ false) same e
    by later false e h (suc k) at = later h k x at

pub some_found : {X : Type 0} (test : X → Bool) (xs : List X) (place : ℕ) (x : X) → slice_get xs place ≡ Some x → test x ≡ true → (y : X) × (find test xs ≡ Some y)
some_found test [] place x at passes = absurd cc
some_found {X = X} test (y ∷ ys) place x at passes = by (test y) refl (some_found test ys) place at
  where
    by : (b : Bool) → test y ≡ b → ((n : ℕ) (z : X) → slice_get ys n ≡ Some z → test z ≡ true → (w : X) × (find test ys ≡ Some w)) → (n : ℕ) → slice_get (y ∷ ys) n ≡ Some x
        → (w : X) × (cond b (Some y) (find test ys) ≡ Some w)
    by true e later n is = (y, refl)
    by false e later zero is = let same : y ≡ x = cc in absurd (false≢true (sym e ∙ ap test same ∙ passes))
    by false e later (suc n) is = later n x is passes

pub map_alike : {X Y : Type 0} (f g : X → Y) (xs : List X) → ((k : ℕ) (x : X) → slice_get xs k ≡ Some x → f x ≡ g x) → map f xs ≡ map g xs
map_alike f g [] same = refl
map_alike f g (x ∷ xs) same = ap (λ y. y ∷ map f xs) (same 0 x refl) ∙ ap (λ l. g x ∷ l) (map_alike f g xs (λ k y at. same (suc k) y at))

pub none_kept : {X : Type 0} (test : X → Bool) (xs : List X) → ((k : ℕ) (x : X) → slice_get xs k ≡ Some x → test x ≡ false) → filter test xs ≡ []
none_kept test [] fails = refl
none_kept test (x ∷ xs) fails = cond-false (test x) (x ∷ filter test xs) (filter test xs) (fails 0 x refl) ∙ none_kept test xs (λ k. fails (suc k))

pub map_empty : {X Y : Type 0} (f : X → Y) (xs : List X) → map f xs ≡ [] → xs ≡ []
map_empty f [] h = refl
map_empty f (x ∷ xs) h = absurd cc

pub filter_whole : {X : Type 0} (test : X → Bool) (xs : List X) → AllByRecursion (λ x. test x ≡ true) xs → filter test xs ≡ xs
filter_whole test [] all = refl
filter_whole {X = X} test (x ∷ xs) all =
    cond-true (test x) (x ∷ filter test xs) (filter test xs) all.0 ∙ ap (λ (rest : List X). x ∷ rest) (filter_whole test xs all.1)

pub all_unmapped : {X Y : Type 0} (P : Y → Type 0) (f : X → Y) (xs : List X) → AllByRecursion P (map f xs) → AllByRecursion (λ x. P (f x)) xs
all_unmapped P f [] all = tt
all_unmapped P f (x ∷ xs) all = (all.0, all_unmapped P f xs all.1)

pub comes_first : {X Y : Type 0} (f : X → Option Y) (test : X → Bool) (xs : List X) (y : Y) → option_and_then f (find test xs) ≡ Some y → (rest : List Y) × (filter_map f (filter test xs) ≡ y ∷ rest)
comes_first f test [] y h = absurd cc
comes_first {X = X} {Y = Y} f test (x ∷ xs) y h = by (test x) (comes_first f test xs y) h
  where
    by : (b : Bool) → (option_and_then f (find test xs) ≡ Some y → (rest : List Y) × (filter_map f (filter test xs) ≡ y ∷ rest))
        → option_and_then f (cond b (Some x) (find test xs)) ≡ Some y → (rest : List Y) × (filter_map f (cond b (x ∷ filter test xs) (filter test xs)) ≡ y ∷ rest)
    by true later is = (filter_map f (filter test xs), ap (λ (found : Option Y). cons_option found (filter_map f (filter test xs))) is)
    by false later is = later is

pub few_places : (count element : ℕ) (every two : Bool) → nat_le 2 count ≡ two → (every && two) ≡ false → length (if every then range_with_len 0 count else element ∷ []) ≤ 1
few_places count element false two is alone = omega arith
few_places zero element true two is alone = omega arith
few_places (suc zero) element true two is alone = omega arith
few_places (suc (suc count)) element true two is alone =
    let more : nat_le 2 (suc (suc count)) ≡ true = le-leb 2 (suc (suc count)) (omega arith) in absurd (true_not_false (sym more ∙ is ∙ alone))
  where
    true_not_false : true ≡ false → ⊥
    true_not_false e = cc

pub in_either : {X : Type 0} (xs ys : List X) (k : ℕ) (x : X) → slice_get (xs ++ ys) k ≡ Some x
    → ((j : ℕ) × (slice_get xs j ≡ Some x)) ⊎ ((j : ℕ) × (slice_get ys j ≡ Some x))
in_either [] ys k x e = inr (k, e)
in_either (z ∷ xs) ys zero x e = inl (0, e)
in_either (z ∷ xs) ys (suc k) x e = ⊎_elim (λ front. inl (suc front.0, front.1)) (λ back. inr back) (in_either xs ys k x e)

pub same_some_bytes : (o : Option (List ℕ)) (one other : List ℕ) → o ≡ Some one → o ≡ Some other → one ≡ other
same_some_bytes None one other a b = absurd (cc)
same_some_bytes (Some bytes) one other a b = cc

pub cons_keeps : {Y : Type 0} (o p : Option Y) (q r : Option (List Y)) (all : List Y) → ((y : Y) → o ≡ Some y → p ≡ Some y) → ((ys : List Y) → q ≡ Some ys → r ≡ Some ys)
    → option_and_then (λ y. option_map (λ ys. y ∷ ys) q) o ≡ Some all → option_and_then (λ y. option_map (λ ys. y ∷ ys) r) p ≡ Some all
cons_keeps None p q r all keep rest e = absurd (cc)
cons_keeps (Some y) p None r all keep rest e = absurd (cc)
cons_keeps (Some y) p (Some ys) r all keep rest e =
    ap (option_and_then (λ y. option_map (λ ys. y ∷ ys) r)) (keep y refl) ∙ ap (option_map (λ ys. y ∷ ys)) (rest ys refl) ∙ e

pub range-append : (a n m : ℕ) → range_with_len a (n + m) ≡ range_with_len a n ++ range_with_len (a + n) m
range-append a zero m =
    let e : zero + m ≡ m = omega arith in
    let f : a ≡ a + zero = omega arith in
    ap (range_with_len a) e ∙ ap (λ b. range_with_len b m) f
range-append a (suc n) m =
    let e : suc n + m ≡ suc (n + m) = omega arith in
    let f : a + 1 + n ≡ a + suc n = omega arith in
    ap (range_with_len a) e ∙ ap (λ l. a ∷ l) (range-append (a + 1) n m ∙ ap (λ b. range_with_len (a + 1) n ++ range_with_len b m) f)

pub filter_not_in_range : (position first count : ℕ) → ((k : ℕ) → first ≤ k → k < first + count → k ≢ position) → filter (λ other. not (other == position)) (range_with_len first count) ≡ range_with_len first count
filter_not_in_range position first zero apart = refl
filter_not_in_range position first (suc count) apart =
    ap (λ b. if not b then first ∷ filter (λ other. not (other == position)) (range_with_len (first + 1) count) else filter (λ other. not (other == position)) (range_with_len (first + 1) count))
    (ne_eqb first position (apart first (omega arith) (omega arith)))
    ∙ ap (λ l. first ∷ l) (filter_not_in_range position (first + 1) count (λ k low high. apart k (omega arith) (omega arith)))

pub all_map : {X : Type 0} (p : X → Bool) (xs : List X) → list_all p xs ≡ list_all (λ b. b) (map p xs)
all_map p [] = refl
all_map p (x ∷ xs) = ap (λ b. p x && b) (all_map p xs)

pub any_map : {X : Type 0} (p : X → Bool) (xs : List X) → list_any p xs ≡ list_any (λ b. b) (map p xs)
any_map p [] = refl
any_map p (x ∷ xs) = ap (λ b. p x || b) (any_map p xs)

pub count_map : {X : Type 0} (p : X → Bool) (xs : List X) → count_by (λ x. not (p x)) xs ≡ count_by (λ b. not b) (map p xs)
count_map p [] = refl
count_map p (x ∷ xs) =
    sum_by-cons (λ y. if not (p y) then 1 else 0) x xs ∙ ap (λ (n : ℕ). (if not (p x) then 1 else 0) + n) (count_map p xs)
    ∙ sym (sum_by-cons (λ b. if not b then 1 else 0) (p x) (map p xs))

pub fold-append : (f : List ℕ → List ℕ → List ℕ) (a : List ℕ) (xs ys : List (List ℕ)) → fold_l f a (xs ++ ys) ≡ fold_l f (fold_l f a xs) ys
fold-append f a [] ys = refl
fold-append f a (x ∷ xs) ys = fold-append f (f a x) xs ys

pub at_first : {X : Type 0} (xs : List X) (i : ℕ) (x : X) → slice_get xs i ≡ Some x → (y : X) × (slice_get xs 0 ≡ Some y)
at_first [] i x e = absurd (cc)
at_first (y ∷ xs) i x e = (y, refl)

pub touch_count : (touched : List Bool) (slot : ℕ) → length (slice_set touched slot true) ≡ length touched
touch_count [] slot = refl
touch_count (b ∷ bs) zero = refl
touch_count (b ∷ bs) (suc slot) = ap suc (touch_count bs slot)

pub zeros_sum : (f : ℕ → ℕ) (xs : List ℕ) → ((x : ℕ) → f x ≡ 0) → sum_by f xs ≡ 0
zeros_sum f [] none = refl
zeros_sum f (x ∷ xs) none = sum_by-cons f x xs ∙ (let a = none x in let b = zeros_sum f xs none in omega (arith, a, b))

pub get_last : {X : Type 0} (ys : List X) (x : X) → slice_get (ys ++ x ∷ []) (length ys) ≡ Some x
get_last [] x = refl
get_last (y ∷ ys) x = get_last ys x

pub range_below : (count : ℕ) → range_with_len 0 (suc count) ≡ range_with_len 0 count ++ count ∷ []
range_below count = let here : 0 + count ≡ count = omega arith in range_next 0 count ∙ ap (λ (n : ℕ). range_with_len 0 count ++ n ∷ []) here

pub none_passes : {X : Type 0} (test : X → Bool) → ((x : X) → test x ≡ false) → (xs : List X) → filter test xs ≡ []
none_passes test fails [] = refl
none_passes test fails (x ∷ xs) = rw (fails x, none_passes test fails xs) refl

pub not_empty : {X : Type 0} (x : X) (xs : List X) → [] ≡ x ∷ xs → ⊥
not_empty x xs e = cc

pub same_first : {X : Type 0} (a b : X) (xs ys : List X) → a ∷ xs ≡ b ∷ ys → a ≡ b
same_first a b xs ys e = cc

pub same_rest : {X : Type 0} (a b : X) (xs ys : List X) → a ∷ xs ≡ b ∷ ys → xs ≡ ys
same_rest a b xs ys e = cc

pub any_none : {X : Type 0} (p : X → Bool) (xs : List X) → list_any p xs ≡ false → (k : ℕ) (x : X) → slice_get xs k ≡ Some x → p x ≡ false
any_none p [] e k x at = absurd (cc)
any_none p (y ∷ ys) e zero x at = let same : y ≡ x = cc in subst (λ z. p z ≡ false) same (or_parts (p y) (list_any p ys) e).0
any_none p (y ∷ ys) e (suc k) x at = any_none p ys (or_parts (p y) (list_any p ys) e).1 k x at

pub last_found : {X : Type 0} (test : ℕ → Bool) (entries others : List (ℕ × X)) → lookup test entries ≡ None → lookup test (entries ++ others) ≡ lookup test others
last_found test [] others none = refl
last_found {X = X} test (entry ∷ entries) others none = by (test entry.0) none (last_found test entries others)
  where
    by : (b : Bool) → cond b (Some entry.1) (lookup test entries) ≡ None → (lookup test entries ≡ None → lookup test (entries ++ others) ≡ lookup test others)
        → cond b (Some entry.1) (lookup test (entries ++ others)) ≡ lookup test others
    by true e rest = absurd (cc)
    by false e rest = rest e

pub numbered_same : {X : Type 0} (test : X → Bool) (made : (ℕ × X) → X) (from : ℕ) (xs : List X) → ((k : ℕ) (x : X) → slice_get xs k ≡ Some x → test (made (from + k, x)) ≡ test x)
    → map test (map made (enumerate_from from xs)) ≡ map test xs
numbered_same test made from [] same = refl
numbered_same {X = X} test made from (x ∷ xs) same =
    let first : from + 0 ≡ from = omega arith in
    ap (λ (b : Bool). b ∷ map test (map made (enumerate_from (from + 1) xs))) (ap (λ (n : ℕ). test (made (n, x))) (sym first) ∙ same 0 x refl)
    ∙ ap (λ (rest : List Bool). test x ∷ rest)
    (numbered_same test made (from + 1) xs (λ k one at. ap (λ (n : ℕ). test (made (n, one))) (moved k) ∙ same (suc k) one at))
  where
    moved : (k : ℕ) → (from + 1) + k ≡ from + suc k
    moved k = omega arith

pub set_true_other : (unplugged : List Bool) (slot s : ℕ) → s ≢ slot → slice_index_or (slice_set unplugged slot true) s false ≡ true → slice_index_or unplugged s false ≡ true
set_true_other [] slot s apart is = is
set_true_other (one ∷ others) zero zero apart is = absurd (apart refl)
set_true_other (one ∷ others) zero (suc s) apart is = is
set_true_other (one ∷ others) (suc slot) zero apart is = is
set_true_other (one ∷ others) (suc slot) (suc s) apart is = set_true_other others slot s (λ same. apart (ap suc same)) is
