-- Tests on lists, and what follows of each item.
use Rattle.std.proofs.Common.{◌≡◌, ℕ, Bool, true, ◌&&◌, List, [], ◌∷◌, map, refl}
use Rattle.std.proofs.lemmas.Bool.{and_parts, false≢true}
use Rattle.std.proofs.lemmas.Slice.Eq.{bytes_eq-Decides}
use Rattle.std.specs.List.{AllByRecursion, list_all}
use Rattle.std.specs.Str.{bytes_eq}
use Rattle.std.specs.Cmp.Lexicographic.{pointwise}

pub same_bytes : (xs ys : List ℕ) → bytes_eq xs ys ≡ true → xs ≡ ys
same_bytes xs ys h = (bytes_eq-Decides xs ys).0 h

pub and_three : (a b c : Bool) → (a && b && c) ≡ true → (a ≡ true) × (b ≡ true) × (c ≡ true)
and_three a b c h =
    let last = and_parts (a && b) c h in
    let two = and_parts a b last.0 in
    (two.0, two.1, last.1)

pub and_four : (a b c d : Bool) → (a && b && c && d) ≡ true → (a ≡ true) × (b ≡ true) × (c ≡ true) × (d ≡ true)
and_four a b c d h =
    let last = and_parts (a && b && c) d h in
    let three = and_three a b c last.0 in
    (three.0, three.1, three.2, last.1)

pub and_five : (a b c d e : Bool) → (a && b && c && d && e) ≡ true → (a ≡ true) × (b ≡ true) × (c ≡ true) × (d ≡ true) × (e ≡ true)
and_five a b c d e h =
    let last = and_parts (a && b && c && d) e h in
    let four = and_four a b c d last.0 in
    (four.0, four.1, four.2, four.3, last.1)

-- each item passes
pub each_passes : {X : Type 0} (p : X → Bool) (xs : List X) → list_all p xs ≡ true → AllByRecursion (λ x. p x ≡ true) xs
each_passes p [] h = tt
each_passes p (x ∷ xs) h =
    let parts = and_parts (p x) (list_all p xs) h in
    (parts.0, each_passes p xs parts.1)

-- what holds of each item of one list for each of another holds the other way round
firsts : {X Y : Type 0} (P : X → Y → Type 0) (y : Y) (ys : List Y) (xs : List X) → AllByRecursion (λ x. AllByRecursion (P x) (y ∷ ys)) xs → AllByRecursion (λ x. P x y) xs
firsts P y ys [] h = tt
firsts P y ys (x ∷ xs) h = (h.0.0, firsts P y ys xs h.1)

rests : {X Y : Type 0} (P : X → Y → Type 0) (y : Y) (ys : List Y) (xs : List X) → AllByRecursion (λ x. AllByRecursion (P x) (y ∷ ys)) xs → AllByRecursion (λ x. AllByRecursion (P x) ys) xs
rests P y ys [] h = tt
rests P y ys (x ∷ xs) h = (h.0.1, rests P y ys xs h.1)

pub swap_all : {X Y : Type 0} (P : X → Y → Type 0) (xs : List X) (ys : List Y) → AllByRecursion (λ x. AllByRecursion (P x) ys) xs → AllByRecursion (λ y. AllByRecursion (λ x. P x y) xs) ys
swap_all P xs [] h = tt
swap_all P xs (y ∷ ys) h = (firsts P y ys xs h, swap_all P xs ys (rests P y ys xs h))

-- two lists that match, item by item, where what holds of each item of the second makes it that of the first
pub map_matches : {X Y : Type 0} (m : X → Y → Bool) (P : Y → Type 0) (f : X → Y) → ((x : X) (y : Y) → m x y ≡ true → P y → f x ≡ y)
    → (xs : List X) (ys : List Y) → pointwise m xs ys ≡ true → AllByRecursion P ys → map f xs ≡ ys
map_matches m P f same [] [] h all = refl
map_matches m P f same [] (y ∷ ys) h all = absurd (false≢true h)
map_matches m P f same (x ∷ xs) [] h all = absurd (false≢true h)
map_matches m P f same (x ∷ xs) (y ∷ ys) h all =
    let parts = and_parts (m x y) (pointwise m xs ys) h in
    let first : f x ≡ y = same x y parts.0 all.0 in
    let rest : map f xs ≡ ys = map_matches m P f same xs ys parts.1 all.1 in
    rw (first, rest) refl

-- by two tests
pub map_matches_both : {X Y : Type 0} (m n : X → Y → Bool) (f : X → Y) → ((x : X) (y : Y) → m x y ≡ true → n x y ≡ true → f x ≡ y)
    → (xs : List X) (ys : List Y) → pointwise m xs ys ≡ true → pointwise n xs ys ≡ true → map f xs ≡ ys
map_matches_both m n f same [] [] h k = refl
map_matches_both m n f same [] (y ∷ ys) h k = absurd (false≢true h)
map_matches_both m n f same (x ∷ xs) [] h k = absurd (false≢true h)
map_matches_both m n f same (x ∷ xs) (y ∷ ys) h k =
    let parts = and_parts (m x y) (pointwise m xs ys) h in
    let more = and_parts (n x y) (pointwise n xs ys) k in
    let first : f x ≡ y = same x y parts.0 more.0 in
    let rest : map f xs ≡ ys = map_matches_both m n f same xs ys parts.1 more.1 in
    rw (first, rest) refl

-- lists that match item by item by a test of equality are equal
pub match_same : {X : Type 0} (m : X → X → Bool) → ((x y : X) → m x y ≡ true → x ≡ y) → (xs ys : List X) → pointwise m xs ys ≡ true → xs ≡ ys
match_same m same [] [] h = refl
match_same m same [] (y ∷ ys) h = absurd (false≢true h)
match_same m same (x ∷ xs) [] h = absurd (false≢true h)
match_same m same (x ∷ xs) (y ∷ ys) h =
    let parts = and_parts (m x y) (pointwise m xs ys) h in
    let first : x ≡ y = same x y parts.0 in
    let rest : xs ≡ ys = match_same m same xs ys parts.1 in
    rw (first, rest) refl
