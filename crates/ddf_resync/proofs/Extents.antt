-- The sectors that a resync sets are sectors of the array's extents, each of them once.
use Rattle.std.proofs.Common.{◌≡◌, ◌∙◌, ⊎_elim, ℕ, zero, suc, ◌+◌, ◌*◌, ◌/◌, ◌<◌, ◌≤◌, Bool, true, false, List, [], ◌∷◌, Option, Some, None, refl, sym, ap, subst, arith, map, length, slice_get}
use Rattle.std.specs.Prelude.{◌==◌, if◌then◌else◌}
use Rattle.std.specs.List.{range_with_len, sum_by}
use Rattle.std.proofs.lemmas.Bool.{cases_lt, eqb-true, eq-eqb}
use Rattle.std.proofs.lemmas.List.Sums.{sum_by-cons}
use Rattle.ddf_lemmas.proofs.Lists.{zeros_sum, some_at_place}
use Rattle.ddf_lemmas.proofs.Options.{some_is}
use Rattle.ddf_primary.specs.Cells.{depth_of, parity_member}
use Rattle.ddf_primary.specs.Cells as cells_of
use Rattle.ddf_primary.proofs.ShapeFacts.{cell_facts, depth_le}
use Rattle.ddf_primary.proofs.Needs.{parity_below, some_members, some_parity}
use Rattle.ddf_array.specs.declared.part.Part.{Part}
use Rattle.ddf_array.specs.declared.site.Site.{Site}
use Rattle.ddf_array.specs.Levels.{keeps_parity}
use Rattle.ddf_array.specs.Rows.{block_at}
use Rattle.ddf_array.specs.Volume.{Volume, IsVolume, capacity}
use Rattle.ddf_cells.specs.CellsOn.{cell_on, how_many, over_element, places_at}
use Rattle.ddf_cells.proofs.CopiesOn.{block_at_sits, sits_block_at}
use Rattle.ddf_cells.proofs.OnCells.{on_cell, sector_below}
use Rattle.ddf_resync.proofs.SeveralCells.{sum_of}
use Rattle.ddf_resync.specs.Several.{copied_on, extent_sectors, extents_of, has_other, parity_of, resync_sectors}

-- ---- sums over ranges

le_range : (f g : ℕ → ℕ) (a n : ℕ) → ((k : ℕ) → a ≤ k → k < a + n → f k ≤ g k) → sum_by f (range_with_len a n) ≤ sum_by g (range_with_len a n)
le_range f g a zero le = omega arith
le_range f g a (suc n) le =
    let rest = le_range f g (a + 1) n (λ k above below. le k (omega (arith, above)) (omega (arith, below))) in
    let here = le a (omega arith) (omega arith) in
    omega (arith, rest, here, sum_by-cons f a (range_with_len (a + 1) n), sum_by-cons g a (range_with_len (a + 1) n))

at_least : (f : ℕ → ℕ) (a n x : ℕ) → a ≤ x → x < a + n → f x ≤ sum_by f (range_with_len a n)
at_least f a zero x above below = absurd (omega (arith, above, below))
at_least f a (suc n) x above below =
    let cons = sum_by-cons f a (range_with_len (a + 1) n) in
    ⊎_elim
    (λ (later : a < x). let rest = at_least f (a + 1) n x (omega (arith, later)) (omega (arith, below)) in omega (arith, rest, cons))
    (λ (now : x ≤ a). let same : x ≡ a = omega (arith, now, above) in let here : f x ≡ f a = ap f same in omega (arith, here, cons))
    (cases_lt a x)

all_ones : (f : ℕ → ℕ) (a n : ℕ) → ((k : ℕ) → f k ≤ 1) → sum_by f (range_with_len a n) ≤ n
all_ones f a zero le = omega arith
all_ones f a (suc n) le = let rest = all_ones f (a + 1) n le in omega (arith, rest, le a, sum_by-cons f a (range_with_len (a + 1) n))

-- one of which is none
less_one : (f : ℕ → ℕ) (a n x : ℕ) → ((k : ℕ) → f k ≤ 1) → a ≤ x → x < a + n → f x ≡ 0 → sum_by f (range_with_len a n) + 1 ≤ n
less_one f a zero x le above below none = absurd (omega (arith, above, below))
less_one f a (suc n) x le above below none =
    let cons = sum_by-cons f a (range_with_len (a + 1) n) in
    ⊎_elim
    (λ (later : a < x). let rest = less_one f (a + 1) n x le (omega (arith, later)) (omega (arith, below)) none in omega (arith, rest, le a, cons))
    (λ (now : x ≤ a).
    let same : x ≡ a = omega (arith, now, above) in
    let here : f a ≡ 0 = ap f (sym same) ∙ none in
    let rest = all_ones f (a + 1) n le in
    omega (arith, rest, here, cons))
    (cases_lt a x)

every : (m a n : ℕ) → sum_by (λ k. m) (range_with_len a n) ≡ n * m
every m a zero = let none : 0 * m ≡ 0 = omega arith in sym none
every m a (suc n) = let rest = every m (a + 1) n in let cons = sum_by-cons (λ k. m) a (range_with_len (a + 1) n) in let more : suc n * m ≡ m + n * m = omega arith in omega (arith, rest, cons, more)

exchange : (f : ℕ → ℕ → ℕ) (xs ys : List ℕ) → sum_by (λ x. sum_by (f x) ys) xs ≡ sum_by (λ y. sum_by (λ x. f x y) xs) ys
exchange f [] ys = sym (zeros_sum (λ y. sum_by (λ x. f x y) []) ys (λ y. refl))
exchange f (x ∷ xs) ys =
    let rest = exchange f xs ys in
    let cons = sum_by-cons (λ z. sum_by (f z) ys) x xs in
    let both = sum_of (λ y. sum_by (λ z. f z y) (x ∷ xs)) (f x) (λ y. sum_by (λ z. f z y) xs) ys (λ y. sum_by-cons (λ z. f z y) x xs) in
    omega (arith, rest, cons, both)

-- ---- one number among others

abbrev hit : Option ℕ → ℕ → ℕ
hit None b = 0
hit (Some c) b = if c == b then 1 else 0

abbrev is_there : Option ℕ → ℕ
is_there None = 0
is_there (Some c) = 1

most_one : (o : Option ℕ) → is_there o ≤ 1
most_one None = omega arith
most_one (Some c) = omega arith

equal_or : (c b : ℕ) → (c ≡ b → ⊥) → hit (Some c) b ≡ 0
equal_or c b differ = by (c == b) refl
  where
    by : (t : Bool) → (c == b) ≡ t → hit (Some c) b ≡ 0
    by true is = absurd (differ (eqb-true c b is))
    by false is = ap (λ t. if t then 1 else 0) is

hit_here : (c b : ℕ) → c ≡ b → hit (Some c) b ≡ 1
hit_here c b same = ap (λ t. if t then 1 else 0) (eq-eqb c b same)

hit_most : (c b : ℕ) → hit (Some c) b ≤ 1
hit_most c b = by (c == b) refl
  where
    by : (t : Bool) → (c == b) ≡ t → hit (Some c) b ≤ 1
    by true is = let here : hit (Some c) b ≡ 1 = ap (λ t. if t then 1 else 0) is in omega (arith, here)
    by false is = let here : hit (Some c) b ≡ 0 = ap (λ t. if t then 1 else 0) is in omega (arith, here)

hits_none : (c a n : ℕ) → c < a → sum_by (hit (Some c)) (range_with_len a n) ≡ 0
hits_none c a zero before = refl
hits_none c a (suc n) before =
    let rest = hits_none c (a + 1) n (omega (arith, before)) in
    let here = equal_or c a (λ same. omega (arith, before, same)) in
    let cons = sum_by-cons (hit (Some c)) a (range_with_len (a + 1) n) in
    omega (arith, rest, here, cons)

hits_once : (c a n : ℕ) → sum_by (hit (Some c)) (range_with_len a n) ≤ 1
hits_once c a zero = omega arith
hits_once c a (suc n) =
    let cons = sum_by-cons (hit (Some c)) a (range_with_len (a + 1) n) in
    ⊎_elim
    (λ (later : a < c). let rest = hits_once c (a + 1) n in let here = equal_or c a (λ same. omega (arith, later, same)) in omega (arith, rest, here, cons))
    (λ (passed : c ≤ a). let rest = hits_none c (a + 1) n (omega (arith, passed)) in omega (arith, rest, hit_most c a, cons))
    (cases_lt a c)

hits : (o : Option ℕ) (a n : ℕ) → sum_by (hit o) (range_with_len a n) ≤ is_there o
hits None a n = let none = zeros_sum (hit None) (range_with_len a n) (λ x. refl) in omega (arith, none)
hits (Some c) a n = hits_once c a n

-- ---- the cells of a position

abbrev number : Option Site → ℕ
number None = 0
number (Some one) = 1

many_cons : (one : Option Site) (others : List (Option Site)) → how_many (one ∷ others) ≡ number one + how_many others
many_cons None others = let none : how_many others ≡ 0 + how_many others = omega arith in none
many_cons (Some one) others = refl

many_sum : (f : ℕ → Option Site) (a n : ℕ) → how_many (map f (range_with_len a n)) ≡ sum_by (λ b. number (f b)) (range_with_len a n)
many_sum f a zero = refl
many_sum f a (suc n) =
    many_cons (f a) (map f (range_with_len (a + 1) n)) ∙ ap (λ m. number (f a) + m) (many_sum f (a + 1) n) ∙ sym (sum_by-cons (λ b. number (f b)) a (range_with_len (a + 1) n))

module _ (v : Volume) (known : IsVolume v) (element : ℕ) (part : Part) (is_part : slice_get v.parts element ≡ Some part) where
  abbrev on : (position x : ℕ) → Option ℕ
  on position x = block_at v element position x

  one_hit : (position b : ℕ) (o : Option Site) → cell_on v element position b ≡ o → number o ≤ sum_by (λ x. hit (on position x) b) (range_with_len 0 (depth_of part.shape))
  one_hit position b None at = omega arith
  one_hit position b (Some one) at =
      let cell = on_cell v known element position b one at in
      let same : cell.sits.part ≡ part = some_is (sym cell.sits.is_part ∙ is_part) in
      let below : cell.sector < depth_of part.shape = subst (λ (q : Part). cell.sector < depth_of q.shape) same (sector_below v known element position cell.sector b cell.sits) in
      let here : hit (block_at v element position cell.sector) b ≡ 1 = ap (λ o. hit o b) (sits_block_at v known element position cell.sector b cell.sits) ∙ hit_here b b refl in
      let sum = at_least (λ x. hit (block_at v element position x) b) 0 (depth_of part.shape) cell.sector (omega arith) (omega (arith, below)) in
      omega (arith, here, sum)

  copied_le : (position b : ℕ) (several : Bool) (o : Option Site) → number (if several then o else None) ≤ number o
  copied_le position b true o = omega arith
  copied_le position b false o = omega arith

  -- a position has no more of them than sectors with blocks
  cells_le : (position : ℕ) → how_many (map (copied_on v element position) (range_with_len 0 (capacity v))) ≤ sum_by (λ x. is_there (on position x)) (range_with_len 0 (depth_of part.shape))
  cells_le position =
      let blocks = range_with_len 0 (capacity v) in
      let xs = range_with_len 0 (depth_of part.shape) in
      let all = many_sum (copied_on v element position) 0 (capacity v) in
      let each = le_range (λ b. number (copied_on v element position b)) (λ b. sum_by (λ x. hit (on position x) b) xs) 0 (capacity v)
      (λ b above below. let less = copied_le position b (has_other v b) (cell_on v element position b) in let one = one_hit position b (cell_on v element position b) refl in omega (arith, less, one)) in
      let swapped = exchange (λ b x. hit (on position x) b) blocks xs in
      let ones = le_range (λ x. sum_by (λ b. hit (on position x) b) blocks) (λ x. is_there (on position x)) 0 (depth_of part.shape) (λ x above below. hits (on position x) 0 (capacity v)) in
      omega (arith, all, each, swapped, ones)

  -- ---- all positions

  abbrev sum_on : ℕ
  sum_on = sum_by (λ x. sum_by (λ position. is_there (on position x)) (range_with_len 0 (length part.places))) (range_with_len 0 (depth_of part.shape))

  places_are : places_at v.parts element ≡ length part.places
  places_are = ap (λ (found : Option Part). elim found [ None ↦ 0 | Some p ↦ length p.places ]) is_part

  cells_all : over_element (λ e position. how_many (map (copied_on v e position) (range_with_len 0 (capacity v)))) v.parts element ≤ sum_on
  cells_all =
      let n = length part.places in
      let xs = range_with_len 0 (depth_of part.shape) in
      let cells : ℕ → ℕ = λ position. how_many (map (copied_on v element position) (range_with_len 0 (capacity v))) in
      let all : over_element (λ e position. how_many (map (copied_on v e position) (range_with_len 0 (capacity v)))) v.parts element ≡ sum_by cells (range_with_len 0 n) = ap (λ m. sum_by cells (range_with_len 0 m)) places_are in
      let each = le_range cells (λ position. sum_by (λ x. is_there (on position x)) xs) 0 n (λ position above below. cells_le position) in
      let swapped = exchange (λ position x. is_there (on position x)) (range_with_len 0 n) xs in
      omega (arith, all, each, swapped)

  -- where parity is kept, one position of each row holds no block
  no_block : (position x : ℕ) → parity_member part.shape (x / part.shape.strip) ≡ Some position → (o : Option ℕ) → block_at v element position x ≡ o → is_there o ≡ 0
  no_block position x parity None at = refl
  no_block position x parity (Some b) at =
      let sits = block_at_sits v known element position x b at in
      let same : sits.part ≡ part = some_is (sym sits.is_part ∙ is_part) in
      let holds : cells_of.Holds part.shape position x sits.inner = subst (λ (q : Part). cells_of.Holds q.shape position x sits.inner) same sits.on_position in
      absurd ((cell_facts part.shape (known.are_parts element part is_part).shape_is).no_parity position x sits.inner holds parity)

  with_parity : keeps_parity part.shape.layout ≡ true → sum_on + depth_of part.shape ≤ depth_of part.shape * length part.places
  with_parity keep =
      let n = length part.places in
      let d = depth_of part.shape in
      let shape = known.are_parts element part is_part in
      let on_each : ℕ → ℕ = λ x. sum_by (λ position. is_there (block_at v element position x)) (range_with_len 0 n) in
      let each = le_range (λ x. on_each x + 1) (λ x. n) 0 d
      (λ x above below.
      let parity = some_parity part.shape.layout part.shape.members (x / part.shape.strip) keep in
      let inside = parity_below part.shape.layout part.shape.members (x / part.shape.strip) parity.0 (some_members part.shape.layout part.shape.members shape.shape_is.members_taken) parity.1 in
      less_one (λ position. is_there (block_at v element position x)) 0 n parity.0 (λ position. most_one (block_at v element position x)) (omega arith) (omega (arith, inside, shape.has_places))
      (no_block parity.0 x parity.1 (block_at v element parity.0 x) refl)) in
      let split = sum_of (λ x. on_each x + 1) on_each (λ x. 1) (range_with_len 0 d) (λ x. refl) in
      let ones = every 1 0 d in
      let all = every n 0 d in
      let once : d * 1 ≡ d = omega arith in
      omega (arith, each, split, ones, all, once)

  plain : sum_on ≤ depth_of part.shape * length part.places
  plain =
      let n = length part.places in
      let d = depth_of part.shape in
      let each = le_range (λ x. sum_by (λ position. is_there (block_at v element position x)) (range_with_len 0 n)) (λ x. n) 0 d
      (λ x above below. all_ones (λ position. is_there (block_at v element position x)) 0 n (λ position. most_one (block_at v element position x))) in
      let all = every n 0 d in
      omega (arith, each, all)

  within : (n d b : ℕ) → d ≤ b → d * n ≤ n * b
  within n zero b le = omega arith
  within n (suc d) zero le = absurd (omega (arith, le))
  within n (suc d) (suc b) le = let rest = within n d b (omega (arith, le)) in let a : suc d * n ≡ n + d * n = omega arith in let c : n * suc b ≡ n + n * b = omega arith in omega (arith, rest, a, c)

  in_part : (keep : Bool) → keeps_parity part.shape.layout ≡ keep → sum_on + (if keep then depth_of part.shape else 0) ≤ length part.places * part.shape.blocks
  in_part keep is =
      let deep_le = within (length part.places) (depth_of part.shape) part.shape.blocks (depth_le part.shape.layout part.shape.strip part.shape.blocks) in
      by keep is deep_le
    where
      by : (b : Bool) → keeps_parity part.shape.layout ≡ b → depth_of part.shape * length part.places ≤ length part.places * part.shape.blocks → sum_on + (if b then depth_of part.shape else 0) ≤ length part.places * part.shape.blocks
      by true is le = let with = with_parity is in omega (arith, with, le)
      by false is le = let with = plain in omega (arith, with, le)

  element_le : over_element (λ e position. how_many (map (copied_on v e position) (range_with_len 0 (capacity v)))) v.parts element + parity_of (Some part) ≤ extents_of (Some part)
  element_le = let cells = cells_all in let inside = in_part (keeps_parity part.shape.layout) refl in omega (arith, cells, inside)

pub sectors_in_extents : (v : Volume) → IsVolume v → resync_sectors v ≤ extent_sectors v
sectors_in_extents v known =
    let cells : ℕ → ℕ → ℕ = λ e position. how_many (map (copied_on v e position) (range_with_len 0 (capacity v))) in
    let n = length v.parts in
    let both = sum_of (λ e. over_element cells v.parts e + parity_of (slice_get v.parts e)) (over_element cells v.parts) (λ e. parity_of (slice_get v.parts e)) (range_with_len 0 n) (λ e. refl) in
    let each = le_range (λ e. over_element cells v.parts e + parity_of (slice_get v.parts e)) (λ e. extents_of (slice_get v.parts e)) 0 n
    (λ e above below.
    let part = some_at_place v.parts e (omega (arith, below)) in
    let le = element_le v known e part.0 part.1 in
    let a : parity_of (slice_get v.parts e) ≡ parity_of (Some part.0) = ap parity_of part.1 in
    let b : extents_of (slice_get v.parts e) ≡ extents_of (Some part.0) = ap extents_of part.1 in
    omega (arith, le, a, b)) in
    omega (arith, both, each)
