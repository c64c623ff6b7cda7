-- What a view gives of a configuration by the records that it holds.
use Rattle.std.proofs.Common.{◌≡◌, ℕ, zero, suc, ◌+◌, ◌≤◌, Bool, true, ◌&&◌, eqb, List, [], ◌∷◌, length, Option, Some, None, refl, ap, sym, ◌∙◌, subst, arith, ◌⊎◌, ⊎_elim, inl}
use Rattle.std.proofs.lemmas.Bool.{eq-eqb, false≢true}
use Rattle.std.specs.Prelude.{slice_get, find, is_some}
use Rattle.std.specs.Option.{option_map_or}
use Rattle.std.specs.List.{enumerate_from, list_all}
use Rattle.std.specs.Cmp.Lexicographic.{pointwise}
use Rattle.ddf_lemmas.proofs.Lists.{list_all_from}
use Rattle.ddf_config_records.specs.ElementValue.{ElementValue}
use Rattle.ddf_config_records.proofs.Ranges.{none_first}
use Rattle.ddf_config.specs.Configuration.{Configuration}
use Rattle.ddf_config.specs.ElementValue.{ElementValue as ElementPlan}
use Rattle.ddf_config.specs.declared.array.Array.{Array}
use Rattle.ddf_config.specs.declared.element.Position.{Position}
use Rattle.ddf_view.specs.Reading.{naming_record, plan_of}
use Rattle.ddf_view.specs.Shows.{gives_element, gives_elements, gives_if_held, gives_numbers, holds, holds_all, least_element, names_numbers, same_plan, same_position}
use Rattle.ddf_view.specs.View.{HeldRecord, find_held}
use Rattle.ddf_view.proofs.Finds.{least_from, place_within}
use Rattle.ddf_view.proofs.AlikeCopies.{flag_again}
use Rattle.ddf_rewrite.specs.Notes.{note_of}
use Rattle.ddf_rewrite.specs.Readable.{AreRebuilt, HasOwnNames}
use Rattle.ddf_rewrite.specs.Wanted.{Wanted, all_wanted}
use Rattle.ddf_rewrite.proofs.Lists.{all_enumerated}
use Rattle.ddf_rewrite.proofs.Holdings.{IsPlanned, has_plan}
use Rattle.ddf_rewrite.proofs.Plans.{plan_noted}
use Rattle.ddf_rewrite.proofs.AllWanted.{is_wanted, wanted_place}

-- ---- tests that a value passes with itself

position_again : (p : Position) → same_position p p ≡ true
position_again p =
    let reference : eqb p.reference p.reference ≡ true = eq-eqb p.reference p.reference refl in
    let start : eqb p.start p.start ≡ true = eq-eqb p.start p.start refl in
    let row : eqb p.row p.row ≡ true = eq-eqb p.row p.row refl in
    rw (reference, start, flag_again p.synced, row) refl

positions_again : (xs : List Position) → pointwise same_position xs xs ≡ true
positions_again [] = refl
positions_again (x ∷ xs) = let rest = positions_again xs in rw (position_again x, rest) refl

pub plan_again : (p : ElementPlan) → same_plan true p p ≡ true
plan_again p =
    let level : eqb p.level p.level ≡ true = eq-eqb p.level p.level refl in
    let qualifier : eqb p.qualifier p.qualifier ≡ true = eq-eqb p.qualifier p.qualifier refl in
    let strip : eqb p.strip p.strip ≡ true = eq-eqb p.strip p.strip refl in
    let blocks : eqb p.blocks p.blocks ≡ true = eq-eqb p.blocks p.blocks refl in
    let stand_in : eqb p.stand_in p.stand_in ≡ true = eq-eqb p.stand_in p.stand_in refl in
    rw (level, qualifier, strip, blocks, stand_in, positions_again p.positions) refl

-- ---- what a view has of a configuration

-- Each record that it holds of a complete element gives it, of no other element it holds one, and the record of the least element of an
-- array names how many there are.
pub record GivesAll (config : Configuration) (elements : List HeldRecord) : Type 0 where
  pub given : (n : ℕ) (wanted : Wanted) → slice_get (all_wanted config) n ≡ Some wanted → option_map_or (λ held. gives_element held (Some wanted.plan)) (find_held wanted.guid wanted.index elements) true ≡ true
  pub none : (guid : List ℕ) (index : ℕ) → ((n : ℕ) (wanted : Wanted) → slice_get (all_wanted config) n ≡ Some wanted → wanted.guid ≡ guid → wanted.index ≡ index → ⊥) → find_held guid index elements ≡ None
  pub numbers : (a : ℕ) (entry : List ℕ × Array) (pair : ℕ × Option ElementPlan) → slice_get config.arrays a ≡ Some entry → least_element entry.1.elements ≡ Some pair → names_numbers elements entry pair ≡ true

-- Of each complete element it holds a record with its note, and of no other one.
pub record HasAll (config : Configuration) (elements : List HeldRecord) : Type 0 where
  pub found : (n : ℕ) (wanted : Wanted) → slice_get (all_wanted config) n ≡ Some wanted
      → (copied : Bool) × (element : ElementValue) × (find_held wanted.guid wanted.index elements ≡ Some (record { element = element; note = Some (note_of copied wanted.plan) })) × IsPlanned wanted element
  pub none : (guid : List ℕ) (index : ℕ) → ((n : ℕ) (wanted : Wanted) → slice_get (all_wanted config) n ≡ Some wanted → wanted.guid ≡ guid → wanted.index ≡ index → ⊥) → find_held guid index elements ≡ None

-- It holds a record of each complete element.
abbrev pub HoldsEach : Configuration → List HeldRecord → Type 0
HoldsEach config elements = (n : ℕ) (wanted : Wanted) → slice_get (all_wanted config) n ≡ Some wanted → is_some (find_held wanted.guid wanted.index elements) ≡ true

pub all_held : (config : Configuration) (elements : List HeldRecord) → HasAll config elements → HoldsEach config elements
all_held config elements has n wanted at = ap (λ o. is_some o) (has.found n wanted at).2

-- an element that is None isn't wanted
pub not_wanted : (config : Configuration) (a i : ℕ) (entry : List ℕ × Array) → HasOwnNames config → slice_get config.arrays a ≡ Some entry → (slice_get entry.1.elements i ≡ Some None) ⊎ (length entry.1.elements ≤ i)
    → (n : ℕ) (wanted : Wanted) → slice_get (all_wanted config) n ≡ Some wanted → wanted.guid ≡ entry.0 → wanted.index ≡ i → ⊥
not_wanted config a i entry names at none n wanted h guid index =
    let is = wanted_place config n wanted h in
    let same : is.entry ≡ entry = names.guids is.a a is.entry entry is.at at (sym is.guid_is ∙ guid) in
    let there : slice_get entry.1.elements i ≡ Some (Some wanted.plan) = ap (λ (e : List ℕ × Array). slice_get e.1.elements i) (sym same) ∙ ap (λ (j : ℕ). slice_get is.entry.1.elements j) (sym index) ∙ is.there in
    ⊎_elim (λ (e : slice_get entry.1.elements i ≡ Some None). let got : Some None ≡ Some (Some wanted.plan) = sym e ∙ there in absurd cc)
    (λ (le : length entry.1.elements ≤ i). absurd (let lt = place_within entry.1.elements i (Some wanted.plan) there in omega (arith, le, lt))) none

-- ---- the elements of an array

given_element : (config : Configuration) (elements : List HeldRecord) (a i : ℕ) (entry : List ℕ × Array) (plan : Option ElementPlan) → HasOwnNames config → GivesAll config elements
    → slice_get config.arrays a ≡ Some entry → slice_get entry.1.elements i ≡ Some plan → gives_if_held elements entry.0 (i, plan) ≡ true
given_element config elements a i entry None names gives at there =
    let none = gives.none entry.0 i (not_wanted config a i entry names at (inl there)) in
    ap (λ o. option_map_or (λ (held : HeldRecord). gives_element held None) o true) none
given_element config elements a i entry (Some plan) names gives at there =
    let wanted = is_wanted config a i entry plan at there in
    gives.given wanted.0 (record { guid = entry.0; array = entry.1; index = i; plan = plan }) wanted.1

held_element : (config : Configuration) (elements : List HeldRecord) (a i : ℕ) (entry : List ℕ × Array) (plan : Option ElementPlan) → HoldsEach config elements → slice_get config.arrays a ≡ Some entry → slice_get entry.1.elements i ≡ Some plan
    → holds elements entry.0 (i, plan) ≡ true
held_element config elements a i entry None each at there = refl
held_element config elements a i entry (Some plan) each at there =
    let wanted = is_wanted config a i entry plan at there in
    each wanted.0 (record { guid = entry.0; array = entry.1; index = i; plan = plan }) wanted.1

pub no_element : (plans : List (Option ElementPlan)) (n : ℕ) → find (λ pair. is_some pair.1) (enumerate_from n plans) ≡ None → (i : ℕ) (plan : Option ElementPlan) → slice_get plans i ≡ Some plan → plan ≡ None
no_element [] n h i plan at = absurd cc
no_element (None ∷ plans) n h zero plan at = let same : None ≡ plan = cc in sym same
no_element (None ∷ plans) n h (suc i) plan at = no_element plans (n + 1) h i plan at
no_element (Some first ∷ plans) n h i plan at = absurd cc

given_numbers : (config : Configuration) (elements : List HeldRecord) (a : ℕ) (entry : List ℕ × Array) → HasOwnNames config → GivesAll config elements → slice_get config.arrays a ≡ Some entry → gives_numbers elements entry ≡ true
unfolding naming_record
given_numbers config elements a entry names gives at = go (least_element entry.1.elements) refl
  where
    go : (o : Option (ℕ × Option ElementPlan)) → least_element entry.1.elements ≡ o → gives_numbers elements entry ≡ true
    go None e =
        let none = none_first (λ index. find_held entry.0 index elements) 16 (λ i lt. gives.none entry.0 i (λ n wanted h guid index.
        let is = wanted_place config n wanted h in
        let same : is.entry ≡ entry = names.guids is.a a is.entry entry is.at at (sym is.guid_is ∙ guid) in
        let there : slice_get entry.1.elements wanted.index ≡ Some (Some wanted.plan) = ap (λ (x : List ℕ × Array). slice_get x.1.elements wanted.index) (sym same) ∙ is.there in
        let gone : Some wanted.plan ≡ None = no_element entry.1.elements 0 e wanted.index (Some wanted.plan) there in
        absurd cc)) in
        rw (e, none) refl
    go (Some pair) e = let is = gives.numbers a entry pair at e in rw e is

-- what is held of each complete element, with its note, gives it
pub all_given : (config : Configuration) (elements : List HeldRecord) → AreRebuilt config → HasAll config elements → GivesAll config elements
all_given config elements rebuilt has = record {
  given = λ n wanted at.
      let found = has.found n wanted at in
      let same : plan_of [] (Some (note_of found.0 wanted.plan)) found.1 ≡ wanted.plan = plan_noted found.0 wanted.plan found.1 (rebuilt n wanted at) (has_plan wanted found.1 found.3) in
      ap (λ o. option_map_or (λ (held : HeldRecord). gives_element held (Some wanted.plan)) o true) found.2
      ∙ ap (λ (p : ElementPlan). same_plan true p wanted.plan) same ∙ plan_again wanted.plan;
  none = has.none;
  numbers = λ a entry pair at e.
      let least = least_from 0 entry.1.elements pair e in
      let place : pair.0 ≡ least.0 = least.1.place ∙ omega arith in
      pair_numbers a entry at pair least.0 place least.1.at least.1.there;
}
  where
    numbers : (a : ℕ) (entry : List ℕ × Array) → slice_get config.arrays a ≡ Some entry → (j : ℕ) (plan : ElementPlan) → slice_get entry.1.elements j ≡ Some (Some plan) → names_numbers elements entry (j, Some plan) ≡ true
    numbers a entry at j plan there =
        let wanted = is_wanted config a j entry plan at there in
        let found = has.found wanted.0 (record { guid = entry.0; array = entry.1; index = j; plan = plan }) wanted.1 in
        let count : eqb found.1.elements (length entry.1.elements) ≡ true = eq-eqb found.1.elements (length entry.1.elements) found.3.count in
        let level : eqb found.1.secondary entry.1.secondary ≡ true = eq-eqb found.1.secondary entry.1.secondary found.3.secondary in
        ap (λ o. option_map_or (λ (held : HeldRecord). eqb held.element.elements (length entry.1.elements) && eqb held.element.secondary entry.1.secondary) o true) found.2 ∙ rw (count, level) refl

    pair_numbers : (a : ℕ) (entry : List ℕ × Array) → slice_get config.arrays a ≡ Some entry → (pair : ℕ × Option ElementPlan) (j : ℕ) → pair.0 ≡ j → slice_get entry.1.elements j ≡ Some pair.1 → is_some pair.1 ≡ true
        → names_numbers elements entry pair ≡ true
    pair_numbers a entry at (place, None) j is there some = absurd (false≢true some)
    pair_numbers a entry at (place, Some plan) j is there some = ap (λ (n : ℕ). names_numbers elements entry (n, Some plan)) is ∙ numbers a entry at j plan there

pub elements_given : (config : Configuration) (elements : List HeldRecord) → HasOwnNames config → GivesAll config elements → list_all (gives_elements elements) config.arrays ≡ true
elements_given config elements names gives = list_all_from (gives_elements elements) config.arrays (λ a entry at.
    let numbers = given_numbers config elements a entry names gives at in
    let each : list_all (gives_if_held elements entry.0) (enumerate_from 0 entry.1.elements) ≡ true = all_enumerated (gives_if_held elements entry.0) 0 entry.1.elements (λ i plan there.
    let here : 0 + i ≡ i = omega arith in
    subst (λ (n : ℕ). gives_if_held elements entry.0 (n, plan) ≡ true) (sym here) (given_element config elements a i entry plan names gives at there)) in
    rw (numbers, each) refl)

pub elements_held : (config : Configuration) (elements : List HeldRecord) → HoldsEach config elements → list_all (holds_all elements) config.arrays ≡ true
elements_held config elements each = list_all_from (holds_all elements) config.arrays (λ a entry at.
    all_enumerated (holds elements entry.0) 0 entry.1.elements (λ i plan there.
    let here : 0 + i ≡ i = omega arith in
    subst (λ (n : ℕ). holds elements entry.0 (n, plan) ≡ true) (sym here) (held_element config elements a i entry plan each at there)))
