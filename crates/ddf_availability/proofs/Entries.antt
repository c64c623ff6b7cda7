-- Tables whose entries change, stay or go, and others behind them.
use Rattle.std.proofs.Common.{◌≡◌, ◌∙◌, ℕ, zero, suc, ◌+◌, Bool, true, false, ◌||◌, cond, List, [], ◌∷◌, ◌++◌, map, Option, Some, None, append_assoc, refl, sym, ap, subst, arith}
use Rattle.std.proofs.lemmas.Bool.{or_left, or_right}
use Rattle.std.proofs.lemmas.Cmp.{nat_list_eq_equiv}
use Rattle.std.proofs.lemmas.List.{append-nil}
use Rattle.std.proofs.lemmas.Map.Keys.{IsDistinct-cons, IsDistinct-head, IsDistinct-push, IsDistinct-tail}
use Rattle.std.specs.Prelude.{option_map, slice_get}
use Rattle.std.specs.List.{AllByRecursion, IsDistinct, cons_option, enumerate_from, list_any}
use Rattle.std.specs.Map.{keys_of, lookup}
use Rattle.ddf_config.specs.declared.array.Array.{Array}
use Rattle.ddf_config.specs.Entries.{changed_entries}
use Rattle.ddf_config.specs.Members.{same_guid}
use Rattle.ddf_import.specs.Joined.{number_of, numbered, with_number}
use Rattle.ddf_import.proofs.Steps.{left_fresh}
use Rattle.ddf_availability.proofs.Tables.{numbered_get}

-- ---- lists

pub mapped_get : {X Y : Type 0} (f : X → Y) (k : ℕ) (xs : List X) (x : X) → slice_get xs k ≡ Some x → slice_get (map f xs) k ≡ Some (f x)
mapped_get f k [] x at = absurd cc
mapped_get f zero (y ∷ xs) x at = let same : y ≡ x = cc in ap (λ one. Some (f one)) same
mapped_get f (suc k) (y ∷ xs) x at = mapped_get f k xs x at

pub numbered_first : {X Y : Type 0} (f : (ℕ × X) → Y) (k : ℕ) (xs : List X) (x : X) → slice_get xs k ≡ Some x → slice_get (map f (enumerate_from 0 xs)) k ≡ Some (f (k, x))
numbered_first f k xs x at = let number : 0 + k ≡ k = omega arith in numbered_get f 0 k xs x at ∙ ap (λ (n : ℕ). Some (f (n, x))) number

-- ---- look-ups

module _ {K X : Type 0} where
  passed : (test : K → Bool) (k : K) (made : Option X) (rest : List (K × X)) → test k ≡ false → lookup test (cons_option (option_map (λ (x : X). (k, x)) made) rest) ≡ lookup test rest
  passed test k None rest away = refl
  passed test k (Some x) rest away = ap (λ (b : Bool). cond b (Some x) (lookup test rest)) away

  -- What is found stays found where the change keeps it.
  pub found_kept : (f : K → X → Option X) (P : X → Type 0) (test : K → Bool) (es : List (K × X)) (x : X) → lookup test es ≡ Some x → ((k : K) → test k ≡ true → (y : X) × (f k x ≡ Some y) × P y)
      → (y : X) × (lookup test (changed_entries f es) ≡ Some y) × P y
  found_kept f P test [] x h each = absurd cc
  found_kept f P test (e ∷ es) x h each = by (test e.0) refl h (λ later. found_kept f P test es x later each)
    where
      first : test e.0 ≡ true → e.1 ≡ x → (y : X) × (lookup test (changed_entries f (e ∷ es)) ≡ Some y) × P y
      first is same =
          let made = each e.0 is in (
            made.0,
            ap (λ (one : Option X). lookup test (cons_option (option_map (λ (value : X). (e.0, value)) one) (changed_entries f es))) (ap (f e.0) same ∙ made.1)
                ∙ ap (λ (b : Bool). cond b (Some made.0) (lookup test (changed_entries f es))) is,
            made.2,
          )

      by : (b : Bool) → test e.0 ≡ b → cond b (Some e.1) (lookup test es) ≡ Some x → (lookup test es ≡ Some x → (y : X) × (lookup test (changed_entries f es) ≡ Some y) × P y)
          → (y : X) × (lookup test (changed_entries f (e ∷ es)) ≡ Some y) × P y
      by true is at later = let same : e.1 ≡ x = cc in first is same
      by false is at later = let found = later at in (found.0, passed test e.0 (f e.0 e.1) (changed_entries f es) is ∙ found.1, found.2)

  -- What none has none has then.
  pub none_kept : (f : K → X → Option X) (test : K → Bool) (es : List (K × X)) → lookup test es ≡ None → lookup test (changed_entries f es) ≡ None
  none_kept f test [] h = refl
  none_kept f test (e ∷ es) h = by (test e.0) refl h (none_kept f test es)
    where
      by : (b : Bool) → test e.0 ≡ b → cond b (Some e.1) (lookup test es) ≡ None → (lookup test es ≡ None → lookup test (changed_entries f es) ≡ None) → lookup test (changed_entries f (e ∷ es)) ≡ None
      by true is at later = absurd cc
      by false is at later = passed test e.0 (f e.0 e.1) (changed_entries f es) is ∙ later at

  pub found_front : (test : K → Bool) (xs ys : List (K × X)) (x : X) → lookup test xs ≡ Some x → lookup test (xs ++ ys) ≡ Some x
  found_front test [] ys x h = absurd cc
  found_front test (e ∷ xs) ys x h = by (test e.0) h (found_front test xs ys x)
    where
      by : (b : Bool) → cond b (Some e.1) (lookup test xs) ≡ Some x → (lookup test xs ≡ Some x → lookup test (xs ++ ys) ≡ Some x) → cond b (Some e.1) (lookup test (xs ++ ys)) ≡ Some x
      by true at later = at
      by false at later = later at

  pub any_found : (p : K × X → Bool) (test : K → Bool) (es : List (K × X)) (x : X) → lookup test es ≡ Some x → ((k : K) → test k ≡ true → p (k, x) ≡ true) → list_any p es ≡ true
  any_found p test [] x h each = absurd cc
  any_found p test (e ∷ es) x h each = by (test e.0) refl h (λ later. any_found p test es x later each)
    where
      by : (b : Bool) → test e.0 ≡ b → cond b (Some e.1) (lookup test es) ≡ Some x → (lookup test es ≡ Some x → list_any p es ≡ true) → (p e || list_any p es) ≡ true
      by true is at later =
          let same : e.1 ≡ x = cc in
          or_left (p e) (list_any p es) (ap (λ (one : X). p (e.0, one)) same ∙ each e.0 is)
      by false is at later = or_right (p e) (list_any p es) (later at)

  -- ---- keys

  none_any : (test : K → Bool) (es : List (K × X)) → lookup test es ≡ None → list_any test (keys_of es) ≡ false
  none_any test [] h = refl
  none_any test (e ∷ es) h = by (test e.0) h (none_any test es)
    where
      by : (b : Bool) → cond b (Some e.1) (lookup test es) ≡ None → (lookup test es ≡ None → list_any test (keys_of es) ≡ false) → (b || list_any test (keys_of es)) ≡ false
      by true at later = absurd cc
      by false at later = later at

  keys_both : (es fs : List (K × X)) → keys_of (es ++ fs) ≡ keys_of es ++ keys_of fs
  keys_both [] fs = refl
  keys_both (e ∷ es) fs = ap (λ keys. e.0 ∷ keys) (keys_both es fs)

  kept_away : (f : K → X → Option X) (test : K → Bool) (es : List (K × X)) → AllByRecursion (λ k. test k ≡ false) (keys_of es) → AllByRecursion (λ k. test k ≡ false) (keys_of (changed_entries f es))
  kept_away f test [] all = tt
  kept_away f test (e ∷ es) all = by (f e.0 e.1) (kept_away f test es all.1)
    where
      by : (made : Option X) → AllByRecursion (λ k. test k ≡ false) (keys_of (changed_entries f es))
          → AllByRecursion (λ k. test k ≡ false) (keys_of (cons_option (option_map (λ (value : X). (e.0, value)) made) (changed_entries f es)))
      by None rest = rest
      by (Some y) rest = (all.0, rest)

  pub kept_apart : (eq : K → K → Bool) (f : K → X → Option X) (es : List (K × X)) → IsDistinct eq (keys_of es) → IsDistinct eq (keys_of (changed_entries f es))
  kept_apart eq f [] apart = apart
  kept_apart eq f (e ∷ es) apart = by (f e.0 e.1) (kept_apart eq f es (IsDistinct-tail eq e.0 (keys_of es) apart))
    where
      by : (made : Option X) → IsDistinct eq (keys_of (changed_entries f es)) → IsDistinct eq (keys_of (cons_option (option_map (λ (value : X). (e.0, value)) made) (changed_entries f es)))
      by None rest = rest
      by (Some y) rest = IsDistinct-cons eq e.0 (keys_of (changed_entries f es)) (kept_away f (eq e.0) es (IsDistinct-head eq e.0 (keys_of es) apart)) rest

-- ---- GUIDs of arrays

pub one_more : (arrays : List (List ℕ × Array)) (guid : List ℕ) (array : Array) → IsDistinct same_guid (keys_of arrays) → lookup (same_guid guid) arrays ≡ None
    → IsDistinct same_guid (keys_of (arrays ++ (guid, array) ∷ []))
one_more arrays guid array apart none =
    subst (λ (keys : List (List ℕ)). IsDistinct same_guid keys) (sym (keys_both arrays ((guid, array) ∷ [])))
    (IsDistinct-push nat_list_eq_equiv (keys_of arrays) guid apart (none_any (same_guid guid) arrays none))

-- Arrays that join get numbers, and keep their GUIDs.
pub joined_apart : (taken : List ℕ) (joining arrays : List (List ℕ × Array)) → IsDistinct same_guid (keys_of arrays) → IsDistinct same_guid (keys_of joining)
    → AllByRecursion (λ (entry : List ℕ × Array). lookup (same_guid entry.0) arrays ≡ None) joining → IsDistinct same_guid (keys_of (arrays ++ numbered taken joining))
joined_apart taken [] arrays apart own fresh = subst (λ (es : List (List ℕ × Array)). IsDistinct same_guid (keys_of es)) (sym (append-nil arrays)) apart
joined_apart taken (e ∷ joining) arrays apart own fresh =
    let next = with_number e.1 (number_of taken e.1.number) in
    let more = taken ++ number_of taken e.1.number ∷ [] in
    let left = left_fresh same_guid nat_list_eq_equiv arrays (e ∷ joining) joining (arrays ++ (e.0, next) ∷ []) e.0 e.1 next refl refl fresh own in
    subst (λ (es : List (List ℕ × Array)). IsDistinct same_guid (keys_of es)) (append_assoc arrays ((e.0, next) ∷ []) (numbered more joining))
    (joined_apart more joining (arrays ++ (e.0, next) ∷ []) (one_more arrays e.0 next apart fresh.0) left.1 left.0)
