-- Maps that are rebuilt entry by entry.
use Rattle.std.proofs.Common.{◌≡◌, ℕ, Bool, true, false, List, [], ◌∷◌, ◌++◌, Option, Some, None, option_map, IfSome, refl, sym, ap, subst, ◌∙◌, cond, filter_map, length, take, get_or, option_to_list, ◌+◌, ◌<◌, append_assoc}
use Rattle.std.proofs.lemmas.List.{take_more}
use Rattle.std.proofs.lemmas.List.Elements.{filter_map-append}
use Rattle.std.specs.Cmp.{IsEquivalence}
use Rattle.std.specs.List.{IsDistinct, AllByRecursion, cons_option}
use Rattle.std.specs.Map.{lookup, keys_of}
use Rattle.std.proofs.lemmas.Bool.{cond-false}
use Rattle.std.proofs.lemmas.Map.Keys.{IsDistinct-head, IsDistinct-tail, IsDistinct-cons}
use Rattle.ddf_config.specs.Entries.{changed_entries}

pub all_at : {K X : Type 0} (P : K → Type 0) (done : List (K × X)) (k : K) (x : X) (rest : List (K × X)) → AllByRecursion P (keys_of (done ++ (k, x) ∷ rest)) → P k
all_at P [] k x rest h = h.0
all_at P (e ∷ done) k x rest h = all_at P done k x rest h.1

module _ {K X : Type 0} (eq : K → K → Bool) (laws : IsEquivalence eq) where
  -- with distinct keys, no entry before another has its key
  pub absent_before : (done : List (K × X)) (k : K) (x : X) (rest : List (K × X)) → IsDistinct eq (keys_of (done ++ (k, x) ∷ rest)) → lookup (eq k) done ≡ None
  absent_before [] k x rest distinct = refl
  absent_before (e ∷ done) k x rest distinct =
      let others = keys_of (done ++ (k, x) ∷ rest) in
      let apart : eq e.0 k ≡ false = all_at (λ y. eq e.0 y ≡ false) done k x rest (IsDistinct-head eq e.0 others distinct) in
      cond-false _ _ _ (laws.symm k e.0 ∙ apart) ∙ absent_before done k x rest (IsDistinct-tail eq e.0 others distinct)

  -- the key of the next entry is new among those that were taken so far
  pub fresh : (done rest all : List (K × X)) (k : K) (x : X) (tail : List (K × X)) → IsDistinct eq (keys_of all) → done ++ rest ≡ all → rest ≡ (k, x) ∷ tail → lookup (eq k) done ≡ None
  fresh done rest all k x tail distinct parts next =
      let whole : done ++ (k, x) ∷ tail ≡ all = ap (λ l. done ++ l) (sym next) ∙ parts in
      absent_before done k x tail (subst (λ es. IsDistinct eq (keys_of es)) (sym whole) distinct)

module _ {K X : Type 0} (change : K → X → Option X) where
  pub all_changed : (P : K → Type 0) (es : List (K × X)) → AllByRecursion P (keys_of es) → AllByRecursion P (keys_of (changed_entries change es))
  all_changed P [] h = h
  all_changed P (e ∷ es) h = by (change e.0 e.1) (all_changed P es h.1)
    where
      by : (r : Option X) → AllByRecursion P (keys_of (changed_entries change es)) → AllByRecursion P (keys_of (cons_option (option_map (λ value. (e.0, value)) r) (changed_entries change es)))
      by None tail = tail
      by (Some x) tail = (h.0, tail)

  pub distinct_changed : (eq : K → K → Bool) (es : List (K × X)) → IsDistinct eq (keys_of es) → IsDistinct eq (keys_of (changed_entries change es))
  distinct_changed eq [] h = h
  distinct_changed eq (e ∷ es) h =
      by (change e.0 e.1) (distinct_changed eq es (IsDistinct-tail eq e.0 (keys_of es) h))
    where
      by : (r : Option X) → IsDistinct eq (keys_of (changed_entries change es)) → IsDistinct eq (keys_of (cons_option (option_map (λ value. (e.0, value)) r) (changed_entries change es)))
      by None tail = tail
      by (Some x) tail = IsDistinct-cons eq e.0 _ (all_changed (λ y. eq e.0 y ≡ false) es (IsDistinct-head eq e.0 (keys_of es) h)) tail

  pub changed_some : (k : K) (x y : X) (rest : List (K × X)) → change k x ≡ Some y → changed_entries change ((k, x) ∷ rest) ≡ (k, y) ∷ changed_entries change rest
  changed_some k x y rest e = ap (λ r. cons_option (option_map (λ value. (k, value)) r) (changed_entries change rest)) e

  pub changed_none : (k : K) (x : X) (rest : List (K × X)) → change k x ≡ None → changed_entries change ((k, x) ∷ rest) ≡ changed_entries change rest
  changed_none k x rest e = ap (λ r. cons_option (option_map (λ value. (k, value)) r) (changed_entries change rest)) e

-- one more entry of the front part goes to the back of it
pub front_grows : {X : Type 0} (done : List X) (x : X) (rest all : List X) → done ++ x ∷ rest ≡ all → (done ++ x ∷ []) ++ rest ≡ all
front_grows done x rest all e = append_assoc done (x ∷ []) rest ∙ e

module _ {K X : Type 0} (eq : K → K → Bool) (laws : IsEquivalence eq) (change : K → X → Option X) where
  pub rebuilt_fresh : (done rest all : List (K × X)) (k : K) (x y : X) (tail : List (K × X)) → IsDistinct eq (keys_of all) → done ++ changed_entries change rest ≡ changed_entries change all → rest ≡ (k, x) ∷ tail → change k x ≡ Some y → lookup (eq k) done ≡ None
  rebuilt_fresh done rest all k x y tail distinct parts next e =
      fresh eq laws done (changed_entries change rest) (changed_entries change all) k y (changed_entries change tail)
      (distinct_changed change eq all distinct) parts (ap (changed_entries change) next ∙ changed_some change k x y tail e)

  pub rebuilt_some : (done rest all : List (K × X)) (k : K) (x : X) (tail : List (K × X)) (r : Option X) → IsDistinct eq (keys_of all) → done ++ changed_entries change rest ≡ changed_entries change all → rest ≡ (k, x) ∷ tail → r ≡ change k x → IfSome r (λ _. lookup (eq k) done ≡ None)
  rebuilt_some done rest all k x tail None distinct parts next e = tt
  rebuilt_some done rest all k x tail (Some y) distinct parts next e =
      rebuilt_fresh done rest all k x y tail distinct parts next (sym e)

module _ {K X : Type 0} (change : K → X → Option X) where
  pub rebuilt_put : (done rest all : List (K × X)) (k : K) (x y : X) (tail : List (K × X)) → done ++ changed_entries change rest ≡ changed_entries change all → rest ≡ (k, x) ∷ tail → change k x ≡ Some y → (done ++ (k, y) ∷ []) ++ changed_entries change tail ≡ changed_entries change all
  rebuilt_put done rest all k x y tail parts next e =
      append_assoc done ((k, y) ∷ []) (changed_entries change tail)
      ∙ ap (λ l. done ++ l) (sym (ap (changed_entries change) next ∙ changed_some change k x y tail e))
      ∙ parts

  pub rebuilt_skip : (done rest all : List (K × X)) (k : K) (x : X) (tail : List (K × X)) → done ++ changed_entries change rest ≡ changed_entries change all → rest ≡ (k, x) ∷ tail → change k x ≡ None → done ++ changed_entries change tail ≡ changed_entries change all
  rebuilt_skip done rest all k x tail parts next e =
      ap (λ l. done ++ l) (sym (ap (changed_entries change) next ∙ changed_none change k x tail e)) ∙ parts

pub kept_list : {Y : Type 0} (r : Option Y) → cons_option r [] ≡ option_to_list r
kept_list None = refl
kept_list (Some y) = refl

pub filter_map_more : {X Y : Type 0} (h : X → Option Y) (xs : List X) (i : ℕ) (d : X) → i < length xs → filter_map h (take (i + 1) xs) ≡ filter_map h (take i xs) ++ option_to_list (h (get_or xs i d))
filter_map_more h xs i d below =
    ap (filter_map h) (take_more xs i d below) ∙ filter_map-append h (take i xs) (get_or xs i d ∷ [])
    ∙ ap (λ l. filter_map h (take i xs) ++ l) (kept_list (h (get_or xs i d)))

-- a key that no entry has isn't there after a change either
not_here : {K X : Type 0} (test : K → Bool) (e : K × X) (es : List (K × X)) → lookup test (e ∷ es) ≡ None → (test e.0 ≡ false) × (lookup test es ≡ None)
not_here test e es none = by (test e.0) refl none
  where
    by : (b : Bool) → test e.0 ≡ b → cond b (Some e.1) (lookup test es) ≡ None → (test e.0 ≡ false) × (lookup test es ≡ None)
    by true at h = absurd (cc)
    by false at h = (at, h)

absent_then : {K X : Type 0} (change : K → X → Option X) (test : K → Bool) (e : K × X) (es : List (K × X)) (r : Option X) → test e.0 ≡ false → lookup test (changed_entries change es) ≡ None → lookup test (cons_option (option_map (λ value. (e.0, value)) r) (changed_entries change es)) ≡ None
absent_then change test e es None apart rest = rest
absent_then change test e es (Some x) apart rest = cond-false _ _ _ apart ∙ rest

pub absent_changed : {K X : Type 0} (change : K → X → Option X) (test : K → Bool) (es : List (K × X)) → lookup test es ≡ None → lookup test (changed_entries change es) ≡ None
absent_changed change test [] none = refl
absent_changed change test (e ∷ es) none =
    let parts = not_here test e es none in
    absent_then change test e es (change e.0 e.1) parts.0 (absent_changed change test es parts.1)
