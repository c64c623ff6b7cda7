-- One more joining entry goes behind the others, whose keys none of the later ones has.
use Rattle.std.proofs.Common.{◌≡◌, ℕ, ◌+◌, ◌<◌, ◌^◌, Bool, false, cond, List, [], ◌∷◌, ◌++◌, length, Some, None, append_assoc, sym, ap, subst, ◌∙◌, arith, length-append}
use Rattle.std.proofs.lemmas.Bool.{cond-false}
use Rattle.std.proofs.lemmas.Map.Keys.{IsDistinct-head, IsDistinct-tail}
use Rattle.std.specs.Cmp.{IsEquivalence}
use Rattle.std.specs.Map.{keys_of, lookup}
use Rattle.std.specs.List.{AllByRecursion, IsDistinct}
use Rattle.ddf_config.specs.declared.member.Member.{Member}
use Rattle.ddf_config.specs.declared.array.Array.{Array}
use Rattle.ddf_import.specs.Joined.{number_of, numbered, with_number}

absent_both : {K X : Type 0} (test : K → Bool) (xs ys : List (K × X)) → lookup test xs ≡ None → lookup test ys ≡ None → lookup test (xs ++ ys) ≡ None
absent_both test [] ys none also = also
absent_both {K} {X} test (e ∷ xs) ys none also = by (test e.0) none (λ rest. absent_both test xs ys rest also)
  where
    by : (b : Bool) → cond b (Some e.1) (lookup test xs) ≡ None → (lookup test xs ≡ None → lookup test (xs ++ ys) ≡ None) → cond b (Some e.1) (lookup test (xs ++ ys)) ≡ None
    by false h rest = rest h
    by _ h rest = absurd cc

module _ {K X : Type 0} (eq : K → K → Bool) (laws : IsEquivalence eq) where
  fresh_behind : (after : List (K × X)) (k : K) (x : X) (rest : List (K × X)) → AllByRecursion (λ (e : K × X). lookup (eq e.0) after ≡ None) rest → AllByRecursion (λ key. eq k key ≡ false) (keys_of rest)
      → AllByRecursion (λ (e : K × X). lookup (eq e.0) (after ++ (k, x) ∷ []) ≡ None) rest
  fresh_behind after k x [] fresh away = tt
  fresh_behind after k x (e ∷ rest) fresh away = (
    absent_both (eq e.0) after ((k, x) ∷ []) fresh.0 (cond-false _ _ _ (laws.symm e.0 k ∙ away.0)),
    fresh_behind after k x rest fresh.1 away.1,
  )

  -- what holds of the entries that are left
  pub left_fresh : (after rest tail new : List (K × X)) (k : K) (x y : X) → rest ≡ (k, x) ∷ tail → new ≡ after ++ (k, y) ∷ [] → AllByRecursion (λ (e : K × X). lookup (eq e.0) after ≡ None) rest → IsDistinct eq (keys_of rest)
      → AllByRecursion (λ (e : K × X). lookup (eq e.0) new ≡ None) tail × IsDistinct eq (keys_of tail)
  left_fresh after rest tail new k x y next put fresh apart =
      let here = subst (AllByRecursion (λ (e : K × X). lookup (eq e.0) after ≡ None)) next fresh in
      let distinct = subst (λ (es : List (K × X)). IsDistinct eq (keys_of es)) next apart in (
        subst (λ (table : List (K × X)). AllByRecursion (λ (e : K × X). lookup (eq e.0) table ≡ None) tail) (sym put)
            (fresh_behind after k y tail here.1 (IsDistinct-head eq k (keys_of tail) distinct)),
        IsDistinct-tail eq k (keys_of tail) distinct,
      )

pub member_put : (after rest tail new all : List (ℕ × Member)) (k : ℕ) (member copy : Member) → rest ≡ (k, member) ∷ tail → copy ≡ member → new ≡ after ++ (k, copy) ∷ [] → after ++ rest ≡ all → new ++ tail ≡ all
member_put after rest tail new all k member copy next same put made =
    ap (λ l. l ++ tail) put ∙ append_assoc after ((k, copy) ∷ []) tail
    ∙ ap (λ (one : Member). after ++ ((k, one) ∷ tail)) same ∙ ap (λ l. after ++ l) (sym next) ∙ made

pub array_put : (after rest tail new all : List (List ℕ × Array)) (k : List ℕ) (array next : Array) (taken more : List ℕ) (number : ℕ) → rest ≡ (k, array) ∷ tail → next ≡ with_number array number → number ≡ number_of taken array.number
    → new ≡ after ++ (k, next) ∷ [] → more ≡ taken ++ number ∷ [] → after ++ numbered taken rest ≡ all → new ++ numbered more tail ≡ all
array_put after rest tail new all k array next taken more number is same given put pushed made =
    ap (λ l. l ++ numbered more tail) put ∙ append_assoc after ((k, next) ∷ []) (numbered more tail)
    ∙ ap (λ (one : Array). after ++ ((k, one) ∷ numbered more tail)) same
    ∙ ap (λ (l : List ℕ). after ++ ((k, with_number array number) ∷ numbered l tail)) pushed
    ∙ ap (λ (n : ℕ). after ++ ((k, with_number array n) ∷ numbered (taken ++ n ∷ []) tail)) given
    ∙ ap (λ (l : List (List ℕ × Array)). after ++ numbered taken l) (sym is) ∙ made

pub still_few : (rest tail : List (List ℕ × Array)) (k : List ℕ) (array : Array) (taken more : List ℕ) (number : ℕ) → rest ≡ (k, array) ∷ tail → more ≡ taken ++ number ∷ [] → length taken + length rest < 2 ^ 16 → length more + length tail < 2 ^ 16
still_few rest tail k array taken more number is pushed few =
    let one = ap (λ (l : List ℕ). length l) pushed ∙ length-append taken (number ∷ []) in
    let all = ap (λ (l : List (List ℕ × Array)). length l) is in
    omega (arith, one, all, few)
