-- Tables that are built of the used entries, in order.
use Rattle.std.proofs.Common.{◌≡◌, ℕ, Bool, List, [], ◌∷◌, ◌++◌, Option, Some, None, refl, ap, sym, ◌∙◌, subst, map, filter_map, option_map, IfSome, suc, ◌-◌, arith, append_assoc, append-nil, ◌+◌, ◌<◌, length, drop, get_or, add-one}
use Rattle.std.proofs.Math.Seq.{drop-cons}
use Rattle.std.specs.Cmp.{IsEquivalence}
use Rattle.std.specs.List.{IsDistinct, cons_option, flat_map, range_with_len}
use Rattle.std.specs.Map.{lookup, keys_of}
use Rattle.std.specs.Option.{option_to_list}
use Rattle.ddf_config.proofs.Entries.{fresh}

pub keys_are : {K X V : Type 0} (key : X → K) (value : X → V) (xs : List X) → keys_of (map (λ x. (key x, value x)) xs) ≡ map key xs
keys_are key value [] = refl
keys_are key value (x ∷ xs) = ap (λ ks. key x ∷ ks) (keys_are key value xs)

-- what is used of a row goes behind what is there
grown : {X E : Type 0} (entry : X → E) (done : List E) (rest : List X) (all : List E) (o : Option X) → done ++ map entry (cons_option o rest) ≡ all → (done ++ option_to_list (option_map entry o)) ++ map entry rest ≡ all
grown entry done rest all None h = ap (λ l. l ++ map entry rest) (append-nil done) ∙ h
grown entry done rest all (Some x) h = append_assoc done (entry x ∷ []) (map entry rest) ∙ h

fresh_one : {X K V : Type 0} (eq : K → K → Bool) (laws : IsEquivalence eq) (key : X → K) (value : X → V) (done : List (K × V)) (rest xs : List X) (o : Option X) → IsDistinct eq (map key xs)
    → done ++ map (λ x. (key x, value x)) (cons_option o rest) ≡ map (λ x. (key x, value x)) xs → IfSome o (λ x. lookup (eq (key x)) done ≡ None)
fresh_one eq laws key value done rest xs None distinct parts = tt
fresh_one {X = X} {K = K} {V = V} eq laws key value done rest xs (Some x) distinct parts =
    let entry : X → K × V = λ y. (key y, value y) in
    fresh eq laws done (map entry (x ∷ rest)) (map entry xs) (key x) (value x) (map entry rest)
    (subst (λ ks. IsDistinct eq ks) (sym (keys_are key value xs)) distinct) parts refl

module _ {R X K V : Type 0} (eq : K → K → Bool) (laws : IsEquivalence eq) (used : R → Option X) (key : X → K) (value : X → V) (rows : List R) (i : ℕ) (d : R) (below : i < length rows)
    (done : List (K × V)) (parts : done ++ map (λ x. (key x, value x)) (filter_map used (drop i rows)) ≡ map (λ x. (key x, value x)) (filter_map used rows)) where
  here : drop i rows ≡ get_or rows i d ∷ drop (i + 1) rows
  here = drop-cons rows i d below ∙ ap (λ (n : ℕ). get_or rows i d ∷ drop n rows) (sym (add-one i))

  there : (row : R) → row ≡ get_or rows i d → done ++ map (λ x. (key x, value x)) (cons_option (used row) (filter_map used (drop (i + 1) rows))) ≡ map (λ x. (key x, value x)) (filter_map used rows)
  there row is =
      ap (λ (r : R). done ++ map (λ x. (key x, value x)) (cons_option (used r) (filter_map used (drop (i + 1) rows)))) is
      ∙ ap (λ (l : List R). done ++ map (λ x. (key x, value x)) (filter_map used l)) (sym here) ∙ parts

  -- the key of the next used row is new
  pub fresh_row : (row : R) → row ≡ get_or rows i d → IsDistinct eq (map key (filter_map used rows)) → IfSome (used row) (λ x. lookup (eq (key x)) done ≡ None)
  fresh_row row is distinct = fresh_one eq laws key value done (filter_map used (drop (i + 1) rows)) (filter_map used rows) (used row) distinct (there row is)

  -- and it goes behind the others
  pub grows : (row : R) → row ≡ get_or rows i d → (done ++ option_to_list (option_map (λ x. (key x, value x)) (used row))) ++ map (λ x. (key x, value x)) (filter_map used (drop (i + 1) rows)) ≡ map (λ x. (key x, value x)) (filter_map used rows)
  grows row is = grown (λ x. (key x, value x)) done (filter_map used (drop (i + 1) rows)) (map (λ x. (key x, value x)) (filter_map used rows)) (used row) (there row is)

-- one more of what is made of rising numbers goes behind what is there
pub made_on : {X : Type 0} (f : ℕ → X) (done all : List X) (i n : ℕ) → i < n → done ++ map f (range_with_len i (n - i)) ≡ all → (done ++ f i ∷ []) ++ map f (range_with_len (i + 1) (n - (i + 1))) ≡ all
made_on f done all i n below parts =
    let rest : n - i ≡ suc (n - (i + 1)) = omega arith in
    append_assoc done (f i ∷ []) (map f (range_with_len (i + 1) (n - (i + 1)))) ∙ ap (λ (k : ℕ). done ++ map f (range_with_len i k)) (sym rest) ∙ parts

-- so do the lists that are made of rising numbers
pub made_flat : {X : Type 0} (f : ℕ → List X) (done all : List X) (i n : ℕ) → i < n → done ++ flat_map f (range_with_len i (n - i)) ≡ all → (done ++ f i) ++ flat_map f (range_with_len (i + 1) (n - (i + 1))) ≡ all
made_flat f done all i n below parts =
    let rest : n - i ≡ suc (n - (i + 1)) = omega arith in
    append_assoc done (f i) (flat_map f (range_with_len (i + 1) (n - (i + 1)))) ∙ ap (λ (k : ℕ). done ++ flat_map f (range_with_len i k)) (sym rest) ∙ parts
