-- The used rows of a table, as many as fit, and unused ones.
use Rattle.std.proofs.Common.{◌≡◌, ℕ, zero, suc, ◌+◌, ◌-◌, Bool, true, false, cond, List, [], ◌∷◌, ◌++◌, length, filter, take, replicate, Option, Some, None, refl, sym, ap, ◌∙◌, subst, arith}
use Rattle.std.specs.Prelude.{is_some}
use Rattle.std.specs.List.{AllByRecursion, IsDistinct, cons_option, filter_map}
use Rattle.std.proofs.lemmas.List.{length-append, length-replicate}
use Rattle.ddf_lemmas.proofs.Lists.{all_filter, all_taken}
use Rattle.ddf_tables.specs.Rows.{HaveOwnNames}
use Rattle.ddf_moving.specs.Copies.{filled}

-- ---- each of them

all_behind : {X : Type 0} (P : X → Type 0) (xs : List X) (count : ℕ) (x : X) → AllByRecursion P xs → P x → AllByRecursion P (xs ++ replicate count x)
all_behind P [] zero x all one = tt
all_behind P [] (suc count) x all one = (one, all_behind P [] count x tt one)
all_behind P (y ∷ ys) count x all one = (all.0, all_behind P ys count x all.1 one)

-- a fact of each row is one of each row that is filled in
pub all_filled : {Row : Type 0} (P : Row → Type 0) (p : Row → Bool) (unused : Row) (max : ℕ) (rows : List Row) → AllByRecursion P rows → P unused → AllByRecursion P (filled unused max (filter p rows))
all_filled P p unused max rows all one =
    all_behind P (take max (filter p rows)) (max - length (filter p rows)) unused (all_taken P max (filter p rows) (all_filter P p rows all)) one

length_taken : {X : Type 0} (n : ℕ) (xs : List X) → length (take n xs) + (n - length xs) ≡ n
length_taken zero xs = omega arith
length_taken (suc n) [] = omega arith
length_taken (suc n) (x ∷ xs) = let rest = length_taken n xs in omega (arith, rest)

pub length_filled : {Row : Type 0} (unused : Row) (max : ℕ) (rows : List Row) → length (filled unused max rows) ≡ max
length_filled unused max rows =
    let taken = length_taken max rows in
    let more = length-replicate (max - length rows) unused in
    length-append (take max rows) (replicate (max - length rows) unused) ∙ omega (arith, taken, more)

-- ---- their names

distinct_taken : {Name : Type 0} (eq : Name → Name → Bool) (n : ℕ) (names : List Name) → IsDistinct eq names → IsDistinct eq (take n names)
unfolding IsDistinct
distinct_taken eq zero names all = tt
distinct_taken eq (suc n) [] all = tt
distinct_taken eq (suc n) (name ∷ names) all = (all_taken (λ other. eq name other ≡ false) n names all.0, distinct_taken eq n names all.1)

module _ {Row Name : Type 0} (used : Row → Bool) (name_of : Row → Option Name) (agree : (row : Row) → used row ≡ is_some (name_of row)) (unused : Row) (nameless : name_of unused ≡ None) where
  none_named : (count : ℕ) → filter_map name_of (replicate count unused) ≡ []
  none_named zero = refl
  none_named (suc count) = rw nameless (none_named count)

  -- so many rows that are kept, with unused ones behind them, have the first names of the kept ones
  abbrev HaveFirst : (count : ℕ) → List Row → List Name → Type 0
  HaveFirst count kept names = (n : ℕ) → filter_map name_of (take n kept ++ replicate count unused) ≡ take n names

  one_more : (count : ℕ) (row : Row) (kept : List Row) (names : List Name) → HaveFirst count kept names → (name : Option Name) → name_of row ≡ name
      → HaveFirst count (cond (used row) (row ∷ kept) kept) (cons_option name names)
  one_more count row kept names first None is n = let out : used row ≡ false = agree row ∙ ap (λ (o : Option Name). is_some o) is in rw out (first n)
  one_more count row kept names first (Some name) is zero = none_named count
  one_more count row kept names first (Some name) is (suc n) =
      let stays : used row ≡ true = agree row ∙ ap (λ (o : Option Name). is_some o) is in
      rw (stays, is) (ap (λ (all : List Name). name ∷ all) (first n))

  -- the names of the rows that are filled in are the first ones
  names_kept : (count : ℕ) (rows : List Row) → HaveFirst count (filter used rows) (filter_map name_of rows)
  names_kept count [] zero = none_named count
  names_kept count [] (suc n) = none_named count
  names_kept count (row ∷ rows) n = one_more count row (filter used rows) (filter_map name_of rows) (names_kept count rows) (name_of row) refl n

  pub names_filled : (eq : Name → Name → Bool) (is_no_name : Name → Bool) (max : ℕ) (rows : List Row) → HaveOwnNames name_of eq is_no_name rows → HaveOwnNames name_of eq is_no_name (filled unused max (filter used rows))
  names_filled eq is_no_name max rows own =
      let same = sym (names_kept (max - length (filter used rows)) rows max) in
      record {
        each_names = subst (AllByRecursion (λ name. is_no_name name ≡ false)) same (all_taken (λ name. is_no_name name ≡ false) max (filter_map name_of rows) own.each_names);
        all_differ = subst (IsDistinct eq) same (distinct_taken eq max (filter_map name_of rows) own.all_differ);
      }
