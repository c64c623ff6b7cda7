-- The notes of an element and its record give the element back.
use Rattle.std.proofs.Common.{◌≡◌, ℕ, zero, suc, ◌+◌, ◌<◌, Bool, true, false, not, cond, eqb, List, [], ◌∷◌, map, Option, Some, None, refl, ap, sym, ◌∙◌, arith, ⊎_elim}
use Rattle.std.proofs.lemmas.Bool.{eqb-true, eq-eqb, ne_eqb, true_from_ne_false, cases_eq, cond-false, cond-true}
use Rattle.std.specs.Prelude.{slice_get, filter, find}
use Rattle.std.specs.Option.{option_map_or}
use Rattle.std.specs.List.{enumerate_from}
use Rattle.std.proofs.Math.Bool.{not-not}
use Rattle.ddf_config_records.specs.declared.place.Place.{Place}
use Rattle.ddf_config_records.specs.ElementValue.{ElementValue}
use Rattle.ddf_config_records.specs.Bits.{is_among}
use Rattle.ddf_config.specs.ElementValue.{ElementValue as ElementPlan}
use Rattle.ddf_config.specs.declared.element.Position.{Position}
use Rattle.ddf_view.specs.Reading.{plan_of, position_of, row_of}
use Rattle.ddf_view.proofs.Shown.{make_plan, make_position}
use Rattle.ddf_rewrite.specs.Elements.{place_in}
use Rattle.ddf_rewrite.specs.Notes.{note_of, out_of_sync, rebuilt}
use Rattle.ddf_rewrite.specs.Readable.{OneRebuilt}

-- ---- the positions out of sync

abbrev pub lags : ℕ × Position → Bool
lags pair = not pair.1.synced

abbrev pub places_from : ℕ → List Position → List ℕ
places_from n positions = map (λ pair. pair.0) (filter lags (enumerate_from n positions))

pub later_places : (p n : ℕ) (positions : List Position) → p < n → is_among (places_from n positions) p ≡ false
later_places p n [] lt = refl
later_places p n (x ∷ positions) lt = go (later_places p (n + 1) positions (omega (arith, lt))) x.synced refl
  where
    go : is_among (places_from (n + 1) positions) p ≡ false → (b : Bool) → x.synced ≡ b → is_among (places_from n (x ∷ positions)) p ≡ false
    go rest true e = rw e rest
    go rest false e =
        let apart : eqb p n ≡ false = ne_eqb p n (λ same. absurd (omega (arith, lt, same))) in
        rw (e, apart) rest

among_places : (n : ℕ) (positions : List Position) (k : ℕ) (x : Position) → slice_get positions k ≡ Some x → is_among (places_from n positions) (n + k) ≡ not x.synced
among_places n [] k x h = absurd cc
among_places n (y ∷ positions) zero x h =
    let same : y ≡ x = cc in
    go y.synced refl ∙ ap (λ (p : Position). not p.synced) same
  where
    go : (b : Bool) → y.synced ≡ b → is_among (places_from n (y ∷ positions)) (n + 0) ≡ not y.synced
    go true e = rw e (later_places (n + 0) (n + 1) positions (omega arith))
    go false e = let here : eqb (n + 0) n ≡ true = eq-eqb (n + 0) n (omega arith) in rw (e, here) refl
among_places n (y ∷ positions) (suc k) x h = go (among_places (n + 1) positions k x h) y.synced refl
  where
    go : is_among (places_from (n + 1) positions) (n + 1 + k) ≡ not x.synced → (b : Bool) → y.synced ≡ b → is_among (places_from n (y ∷ positions)) (n + suc k) ≡ not x.synced
    go rest true e =
        let there : n + suc k ≡ n + 1 + k = omega arith in
        let is : is_among (places_from n (y ∷ positions)) (n + 1 + k) ≡ not x.synced = rw e rest in
        ap (λ (p : ℕ). is_among (places_from n (y ∷ positions)) p) there ∙ is
    go rest false e =
        let there : n + suc k ≡ n + 1 + k = omega arith in
        let apart : eqb (n + 1 + k) n ≡ false = ne_eqb (n + 1 + k) n (λ same. absurd (omega (arith, same))) in
        let is : is_among (places_from n (y ∷ positions)) (n + 1 + k) ≡ not x.synced = rw (e, apart) rest in
        ap (λ (p : ℕ). is_among (places_from n (y ∷ positions)) p) there ∙ is

-- ---- the row of a rebuild

abbrev is_rebuilt : ℕ × Position → Bool
is_rebuilt pair = not (eqb pair.1.row 0)

found_from : (n : ℕ) (positions : List Position) (pair : ℕ × Position) → find is_rebuilt (enumerate_from n positions) ≡ Some pair → (k : ℕ) × (pair.0 ≡ n + k) × (slice_get positions k ≡ Some pair.1) × (eqb pair.1.row 0 ≡ false)
found_from n [] pair h = absurd cc
found_from n (x ∷ positions) pair h = go (found_from (n + 1) positions pair) (eqb x.row 0) refl
  where
    go : (find is_rebuilt (enumerate_from (n + 1) positions) ≡ Some pair → (k : ℕ) × (pair.0 ≡ n + 1 + k) × (slice_get positions k ≡ Some pair.1) × (eqb pair.1.row 0 ≡ false)) → (b : Bool) → eqb x.row 0 ≡ b
        → (k : ℕ) × (pair.0 ≡ n + k) × (slice_get (x ∷ positions) k ≡ Some pair.1) × (eqb pair.1.row 0 ≡ false)
    go later true e =
        let no_test : is_rebuilt (n, x) ≡ false = ap not e in
        let rest = later (sym (cond-false (is_rebuilt (n, x)) (Some (n, x)) (find is_rebuilt (enumerate_from (n + 1) positions)) no_test) ∙ h) in
        (suc rest.0, rest.1 ∙ omega arith, rest.2, rest.3)
    go later false e =
        let first : ℕ × Position = (n, x) in
        let test : is_rebuilt first ≡ true = ap not e in
        let got : Some first ≡ Some pair = sym (cond-true (is_rebuilt first) (Some first) (find is_rebuilt (enumerate_from (n + 1) positions)) test) ∙ h in
        let same : first ≡ pair = cc in
        let place : pair.0 ≡ n + 0 = sym (ap (λ (q : ℕ × Position). q.0) same) ∙ omega arith in
        (0, place, ap (λ (q : ℕ × Position). Some q.1) same, sym (ap (λ (q : ℕ × Position). eqb q.1.row 0) same) ∙ e)

none_rebuilt : (n : ℕ) (positions : List Position) → find is_rebuilt (enumerate_from n positions) ≡ None → (k : ℕ) (x : Position) → slice_get positions k ≡ Some x → x.row ≡ 0
none_rebuilt n [] h k x at = absurd cc
none_rebuilt n (y ∷ positions) h k x at = go (none_rebuilt (n + 1) positions) (eqb y.row 0) refl k at
  where
    go : (find is_rebuilt (enumerate_from (n + 1) positions) ≡ None → (k : ℕ) (x : Position) → slice_get positions k ≡ Some x → x.row ≡ 0) → (b : Bool) → eqb y.row 0 ≡ b → (k : ℕ) → slice_get (y ∷ positions) k ≡ Some x → x.row ≡ 0
    go later true e zero at = let same : y ≡ x = cc in sym (ap (λ (p : Position). p.row) same) ∙ eqb-true y.row 0 e
    go later true e (suc k) at =
        let no_test : is_rebuilt (n, y) ≡ false = ap not e in
        later (sym (cond-false (is_rebuilt (n, y)) (Some (n, y)) (find is_rebuilt (enumerate_from (n + 1) positions)) no_test) ∙ h) k x at
    go later false e k at =
        let first : ℕ × Position = (n, y) in
        let test : is_rebuilt first ≡ true = ap not e in
        let got : Some first ≡ None = sym (cond-true (is_rebuilt first) (Some first) (find is_rebuilt (enumerate_from (n + 1) positions)) test) ∙ h in
        absurd cc

both_same : (b : Bool) (n : ℕ) → cond b n n ≡ n
both_same true n = refl
both_same false n = refl

row_noted : (copied : Bool) (plan : ElementPlan) → OneRebuilt plan → (k : ℕ) (x : Position) → slice_get plan.positions k ≡ Some x → row_of (Some (note_of copied plan)) k ≡ x.row
row_noted copied plan one k x at = go (rebuilt plan) refl
  where
    go : (o : Option (ℕ × Position)) → rebuilt plan ≡ o → cond (eqb (option_map_or (λ pair. pair.0) (rebuilt plan) 0xFFFF) k) (option_map_or (λ pair. pair.1.row) (rebuilt plan) 0) 0 ≡ x.row
    go None e =
        let zero_row = none_rebuilt 0 plan.positions e k x at in
        rw e (both_same (eqb 0xFFFF k) 0 ∙ sym zero_row)
    go (Some pair) e =
        let there = found_from 0 plan.positions pair e in
        let place : pair.0 ≡ there.0 = there.1 ∙ omega arith in
        rw e (⊎_elim
        (λ (same : pair.0 ≡ k).
        let here : there.0 ≡ k = sym place ∙ same in
        let got : Some pair.1 ≡ Some x = sym there.2 ∙ ap (λ (i : ℕ). slice_get plan.positions i) here ∙ at in
        let is : pair.1 ≡ x = cc in
        cond-true (eqb pair.0 k) pair.1.row 0 (eq-eqb pair.0 k same) ∙ ap (λ (p : Position). p.row) is)
        (λ (apart : pair.0 ≡ k → ⊥).
        let zero_row : x.row ≡ 0 = eqb-true x.row 0 (true_from_ne_false (eqb x.row 0) (λ rebuilt_too. apart (place ∙ one there.0 k pair.1 x there.2 at there.3 rebuilt_too))) in
        cond-false (eqb pair.0 k) pair.1.row 0 (ne_eqb pair.0 k apart) ∙ sym zero_row)
        (cases_eq pair.0 k))

-- ---- the element

position_noted : (copied : Bool) (plan : ElementPlan) → OneRebuilt plan → (k : ℕ) (x : Position) → slice_get plan.positions k ≡ Some x → position_of [] (Some (note_of copied plan)) k (place_in x) ≡ x
unfolding make_position
position_noted copied plan one k x at =
    let here : 0 + k ≡ k = omega arith in
    let synced : not (is_among (out_of_sync plan) k) ≡ x.synced = ap (λ (i : ℕ). not (is_among (out_of_sync plan) i)) (sym here) ∙ ap not (among_places 0 plan.positions k x at) ∙ not-not x.synced in
    let row = row_noted copied plan one k x at in
    let made : make_position x.reference x.start (not (is_among (out_of_sync plan) k)) (row_of (Some (note_of copied plan)) k) ≡ make_position x.reference x.start x.synced x.row =
    ap (λ (s : Bool). make_position x.reference x.start s (row_of (Some (note_of copied plan)) k)) synced ∙ ap (λ (r : ℕ). make_position x.reference x.start x.synced r) row in
    made

map_places : (f : ℕ → Place → Position) (n : ℕ) (positions : List Position) → ((k : ℕ) (x : Position) → slice_get positions k ≡ Some x → f (n + k) (place_in x) ≡ x)
    → map (λ pair. f pair.0 pair.1) (enumerate_from n (map place_in positions)) ≡ positions
map_places f n [] h = refl
map_places f n (x ∷ positions) h =
    let here : n + 0 ≡ n = omega arith in
    let first : f n (place_in x) ≡ x = ap (λ (i : ℕ). f i (place_in x)) (sym here) ∙ h 0 x refl in
    let rest = map_places f (n + 1) positions (λ k y at. let there : n + 1 + k ≡ n + suc k = omega arith in ap (λ (i : ℕ). f i (place_in y)) there ∙ h (suc k) y at) in
    rw (first, rest) refl

-- a record has the fields of an element
pub record HasPlan (element : ElementValue) (plan : ElementPlan) : Type 0 where
  pub level : element.level ≡ plan.level
  pub qualifier : element.qualifier ≡ plan.qualifier
  pub strip : element.strip ≡ plan.strip
  pub blocks : element.blocks ≡ plan.blocks
  pub members : element.members ≡ map place_in plan.positions

pub plan_noted : (copied : Bool) (plan : ElementPlan) (element : ElementValue) → OneRebuilt plan → HasPlan element plan → plan_of [] (Some (note_of copied plan)) element ≡ plan
unfolding plan_of make_plan
plan_noted copied plan element one has =
    let f = position_of [] (Some (note_of copied plan)) in
    let positions : map (λ pair. f pair.0 pair.1) (enumerate_from 0 element.members) ≡ plan.positions =
    ap (λ (members : List Place). map (λ pair. f pair.0 pair.1) (enumerate_from 0 members)) has.members
    ∙ map_places f 0 plan.positions (λ k x at. let here : 0 + k ≡ k = omega arith in ap (λ (i : ℕ). f i (place_in x)) here ∙ position_noted copied plan one k x at) in
    let level = has.level in
    let qualifier = has.qualifier in
    let strip = has.strip in
    let blocks = has.blocks in
    let made : make_plan element.level element.qualifier element.strip element.blocks plan.stand_in (map (λ pair. f pair.0 pair.1) (enumerate_from 0 element.members)) ≡ make_plan plan.level plan.qualifier plan.strip plan.blocks plan.stand_in plan.positions =
    rw (level, qualifier, strip, blocks, positions) refl in
    made
