-- Records in lists of records, one after another.
use Rattle.std.proofs.Common.{◌≡◌, ℕ, zero, suc, ◌+◌, ◌<◌, Bool, true, false, List, [], ◌∷◌, ◌++◌, length, Option, Some, None, refl, ap, sym, ◌∙◌, subst, arith}
use Rattle.std.proofs.lemmas.Bool.{and_parts, cond-false, cond-true}
use Rattle.std.proofs.lemmas.List.Folds.{find-append}
use Rattle.std.specs.Prelude.{slice_get, filter, filter_map, find, is_some}
use Rattle.std.specs.Option.{option_or}
use Rattle.std.specs.List.{AllByRecursion, enumerate_from, list_all, range_with_len}
use Rattle.std.proofs.lemmas.Option.{slice_get_within}
use Rattle.ddf_lemmas.proofs.Options.{none_from_not_some}
use Rattle.ddf_config_records.specs.declared.notes.SlotNote.{SlotNote}
use Rattle.ddf_config.specs.ElementValue.{ElementValue as ElementPlan}
use Rattle.ddf_view.specs.View.{View, HeldRecord, is_element, find_held, find_note}
use Rattle.ddf_view.specs.Reading.{elements_in}

-- what is found has what each has
pub find_has : {X : Type 0} (P : X → Type 0) (t : X → Bool) (xs : List X) (x : X) → AllByRecursion P xs → find t xs ≡ Some x → P x
find_has P t [] x all h = absurd cc
find_has P t (y ∷ ys) x all h = go (find_has P t ys x all.1) (t y) refl
  where
    go : (find t ys ≡ Some x → P x) → (b : Bool) → t y ≡ b → P x
    go later true e = let same : y ≡ x = (let got : Some y ≡ Some x = sym (cond-true (t y) (Some y) (find t ys) e) ∙ h in cc) in subst P same all.0
    go later false e = later (sym (cond-false (t y) (Some y) (find t ys) e) ∙ h)

-- the note of the first record is the first note
pub note_found : (array : List ℕ) (index : ℕ) (xs ys : List HeldRecord) (held : HeldRecord) (note : SlotNote) → find_held array index xs ≡ Some held → held.note ≡ Some note
    → find_note array index (xs ++ ys) ≡ Some note
note_found array index [] ys held note h n = absurd cc
note_found array index (x ∷ xs) ys held note h n = go (λ found. note_found array index xs ys held note found n) (is_element array index x) refl
  where
    go : (find_held array index xs ≡ Some held → find_note array index (xs ++ ys) ≡ Some note) → (b : Bool) → is_element array index x ≡ b → find_note array index ((x ∷ xs) ++ ys) ≡ Some note
    go later true e =
        let got : Some x ≡ Some held = sym (cond-true (is_element array index x) (Some x) (find_held array index xs) e) ∙ h in
        let same : x ≡ held = cc in
        let has : x.note ≡ Some note = ap (λ (one : HeldRecord). one.note) same ∙ n in
        rw (e, has) refl
    go later false e =
        let rest = later (sym (cond-false (is_element array index x) (Some x) (find_held array index xs) e) ∙ h) in
        rw e rest

-- none in any is none in all
pub none_in_all : (array : List ℕ) (index : ℕ) (views : List View) → AllByRecursion (λ view. find_held array index view.elements ≡ None) views
    → find_held array index (elements_in views) ≡ None
none_in_all array index [] all = refl
none_in_all array index (view ∷ views) all =
    find-append (is_element array index) view.elements (elements_in views)
    ∙ ap (λ o. option_or o (find_held array index (elements_in views))) all.0
    ∙ none_in_all array index views all.1

-- ---- lists with their places

pub list_all_at : {X : Type 0} (p : ℕ × X → Bool) (k : ℕ) (xs : List X) (i : ℕ) (x : X) → list_all p (enumerate_from k xs) ≡ true → slice_get xs i ≡ Some x → p (k + i, x) ≡ true
list_all_at p k [] i x h at = absurd cc
list_all_at p k (y ∷ ys) zero x h at =
    let parts = and_parts (p (k, y)) (list_all p (enumerate_from (k + 1) ys)) h in
    let same : y ≡ x = cc in
    let here : k + 0 ≡ k = omega arith in
    rw here (subst (λ z. p (k, z) ≡ true) same parts.0)
list_all_at p k (y ∷ ys) (suc i) x h at =
    let parts = and_parts (p (k, y)) (list_all p (enumerate_from (k + 1) ys)) h in
    let there : k + suc i ≡ k + 1 + i = omega arith in
    rw there (list_all_at p (k + 1) ys i x parts.1 at)

-- the least element that isn't None, and that all before it are
pub record IsLeast (k : ℕ) (plans : List (Option ElementPlan)) (pair : ℕ × Option ElementPlan) (j : ℕ) : Type 0 where
  pub place : pair.0 ≡ k + j
  pub at : slice_get plans j ≡ Some pair.1
  pub there : is_some pair.1 ≡ true
  pub others : (i : ℕ) → i < j → slice_get plans i ≡ Some None

pub least_from : (k : ℕ) (plans : List (Option ElementPlan)) (pair : ℕ × Option ElementPlan) → find (λ one. is_some one.1) (enumerate_from k plans) ≡ Some pair → (j : ℕ) × IsLeast k plans pair j
least_from k [] pair h = absurd cc
least_from k (plan ∷ plans) pair h = go (least_from (k + 1) plans pair) (is_some plan) refl
  where
    go : (find (λ one. is_some one.1) (enumerate_from (k + 1) plans) ≡ Some pair → (j : ℕ) × IsLeast (k + 1) plans pair j) → (b : Bool) → is_some plan ≡ b → (j : ℕ) × IsLeast k (plan ∷ plans) pair j
    go later true e =
        let first : ℕ × Option ElementPlan = (k, plan) in
        let got : Some first ≡ Some pair = sym (cond-true (is_some plan) (Some first) (find (λ one. is_some one.1) (enumerate_from (k + 1) plans)) e) ∙ h in
        let same : first ≡ pair = cc in
        let place : pair.0 ≡ k + 0 = sym (ap (λ (p : ℕ × Option ElementPlan). p.0) same) ∙ omega arith in
        let is : plan ≡ pair.1 = ap (λ (p : ℕ × Option ElementPlan). p.1) same in
        (0, record { place = place; at = ap (λ (o : Option ElementPlan). Some o) is; there = sym (ap is_some is) ∙ e; others = λ i lt. absurd (omega (arith, lt)) })
    go later false e =
        let first : ℕ × Option ElementPlan = (k, plan) in
        let rest = later (sym (cond-false (is_some plan) (Some first) (find (λ one. is_some one.1) (enumerate_from (k + 1) plans)) e) ∙ h) in
        let is = rest.1 in
        (suc rest.0, record { place = is.place ∙ omega arith; at = is.at; there = is.there; others = λ i lt. other rest.0 is.others i lt })
      where
        other : (j : ℕ) → ((i : ℕ) → i < j → slice_get plans i ≡ Some None) → (i : ℕ) → i < suc j → slice_get (plan ∷ plans) i ≡ Some None
        other j others zero lt = ap (λ (o : Option ElementPlan). Some o) (none_from_not_some plan e)
        other j others (suc i) lt = others i (omega (arith, lt))

-- ---- lists of which each item is treated alike

pub filter_same : {X : Type 0} (p q : X → Bool) (xs : List X) → AllByRecursion (λ x. p x ≡ q x) xs → filter p xs ≡ filter q xs
filter_same p q [] h = refl
filter_same p q (x ∷ xs) h = let rest = filter_same p q xs h.1 in rw (h.0, rest) refl

filter_map_from : {Y : Type 0} (f g : ℕ → Option Y) (k n : ℕ) → ((i : ℕ) → i < n → f (k + i) ≡ g (k + i)) → filter_map f (range_with_len k n) ≡ filter_map g (range_with_len k n)
filter_map_from f g k zero h = refl
filter_map_from f g k (suc n) h =
    let here : k + 0 ≡ k = omega arith in
    let first : f k ≡ g k = sym (ap f here) ∙ h 0 (omega arith) ∙ ap g here in
    let rest = filter_map_from f g (k + 1) n (λ i lt. let there : k + 1 + i ≡ k + suc i = omega arith in ap f there ∙ h (suc i) (omega (arith, lt)) ∙ sym (ap g there)) in
    rw (first, rest) refl

pub filter_map_same : {Y : Type 0} (f g : ℕ → Option Y) (n : ℕ) → ((i : ℕ) → i < n → f i ≡ g i) → filter_map f (range_with_len 0 n) ≡ filter_map g (range_with_len 0 n)
filter_map_same f g n h = filter_map_from f g 0 n (λ i lt. let here : 0 + i ≡ i = omega arith in ap f here ∙ h i lt ∙ sym (ap g here))

pub place_within : {X : Type 0} (xs : List X) (i : ℕ) (x : X) → slice_get xs i ≡ Some x → i < length xs
place_within xs i x h = slice_get_within xs i x h
