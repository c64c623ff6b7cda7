-- What a change that names one array makes of it.
use Rattle.std.proofs.Common.{◌≡◌, ◌∙◌, inl, inr, ℕ, zero, suc, ◌+◌, ◌<◌, Bool, true, false, List, [], ◌∷◌, Option, Some, None, refl, sym, ap, subst, arith, nat_eq, map, slice_get}
use Rattle.std.specs.Prelude.{option_map, if◌then◌else◌}
use Rattle.std.specs.List.{enumerate_from}
use Rattle.std.proofs.lemmas.Bool.{eq-eqb, eqb-true, ne_eqb}
use Rattle.ddf_config.specs.declared.array.Array.{Array}
use Rattle.ddf_config.specs.declared.element.Position.{Position}
use Rattle.ddf_config.specs.ElementValue.{ElementValue, with_positions}
use Rattle.ddf_plan.specs.declared.change.Change.{Change}
use Rattle.ddf_plan.specs.declared.change.Change.TheVariants.{Begin, Progress, Finish, Return}
use Rattle.ddf_plan.specs.Arrays.{element_after, part_after, position_after, rebuilding}
use Rattle.ddf_plan.specs.Mark.{marked, rewound, unmarked, without_row, without_rows}
use Rattle.ddf_plan.specs.Rebuild.{new_position, progressed, returned}
use Rattle.ddf_repair.proofs.Marks.{marked_is}
use Rattle.ddf_data_array.specs.Changing.{changed_item}
use Rattle.ddf_data_group.specs.Clearing.{AreMovedParts, IsInSync, IsMovedArray, IsNotedArray, IsSameButMark, element_in_sync, element_noted, position_in_sync, position_moved, position_noted}
use Rattle.ddf_data_group.specs.Lessening.{AllStay, AreLessParts, AreLessPositions, AreStaying, IsLessArray, IsLessElement, IsLessPart, IsLessPosition, IsStaying}
use Rattle.ddf_data_group.proofs.Moving.{moved_parts}

-- ---- the mark

pub unmarked_same : (init : ℕ) (array : Array) → IsSameButMark array (unmarked init array)
unmarked_same init array = record { same_secondary = refl; same_elements = refl }

pub positions_without : (positions : List Position) → AreLessPositions positions (map without_row positions)
positions_without [] = tt
positions_without (position ∷ positions) = (inr (refl, refl, refl, inl refl), positions_without positions)

pub parts_without : (known : List (Option ElementValue)) → AreLessParts known (map (option_map without_rows) known)
parts_without [] = tt
parts_without (None ∷ known) = (tt, parts_without known)
parts_without (Some element ∷ known) =
    (record { same_level = refl; same_qualifier = refl; same_strip = refl; same_blocks = refl; less = positions_without element.positions }, parts_without known)

pub marked_less : (array : Array) → IsLessArray array (marked array)
marked_less array = record { same_secondary = refl; mark_is = inl (marked_is array); less = parts_without array.elements }

pub rewound_less : (array : Array) → IsLessArray array (rewound array)
rewound_less array = record { same_secondary = refl; mark_is = inr refl; less = parts_without array.elements }

pub positions_stay : (current : ℕ → Bool) (positions : List Position) → AreStaying current positions (map without_row positions)
positions_stay current [] = tt
positions_stay current (position ∷ positions) = (inr (refl, refl, refl), positions_stay current positions)

rewound_at : (known : List (Option ElementValue)) (element : ℕ) (before after : ElementValue) → slice_get known element ≡ Some (Some before) → slice_get (map (option_map without_rows) known) element ≡ Some (Some after) → without_rows before ≡ after
rewound_at [] element before after at there = absurd (cc)
rewound_at (None ∷ known) zero before after at there = absurd (cc)
rewound_at (Some one ∷ known) zero before after at there =
    let same : one ≡ before = cc in
    let next : without_rows one ≡ after = cc in
    ap without_rows (sym same) ∙ next
rewound_at (part ∷ known) (suc element) before after at there = rewound_at known element before after at there

pub rewound_stays : (current : ℕ → Bool) (array : Array) → AllStay current array.elements (rewound array).elements
rewound_stays current array element before after at there =
    subst (λ (x : ElementValue). AreStaying current before.positions x.positions) (rewound_at array.elements element before after at there) (positions_stay current before.positions)

-- ---- a position by its number

-- what stands at a place of a list with its numbers
numbered : {X Y : Type 0} (f : ℕ × X → Y) (a : ℕ) (xs : List X) (k : ℕ) (x : X) (y : Y) → slice_get xs k ≡ Some x → slice_get (map f (enumerate_from a xs)) k ≡ Some y → f (a + k, x) ≡ y
numbered f a [] k x y at there = absurd (cc)
numbered f a (z ∷ xs) zero x y at there =
    let same : z ≡ x = cc in
    let number : a + 0 ≡ a = omega arith in
    let value : f (a, z) ≡ y = cc in
    ap (λ (n : ℕ). f (n, x)) number ∙ ap (λ (w : _). f (a, w)) (sym same) ∙ value
numbered f a (z ∷ xs) (suc k) x y at there =
    let number : a + suc k ≡ a + 1 + k = omega arith in
    ap (λ (n : ℕ). f (n, x)) number ∙ numbered f (a + 1) xs k x y at there

module _ (revertible : Bool) (change : Change) where
  less_from : (a : ℕ) (positions : List Position) → ((number : ℕ) (old : Position) → IsLessPosition old (position_after change number old))
      → AreLessPositions positions (map (λ pair. position_after change pair.0 pair.1) (enumerate_from a positions))
  less_from a [] less = tt
  less_from a (position ∷ positions) less = (less a position, less_from (a + 1) positions less)

  element_less : ((number : ℕ) (old : Position) → IsLessPosition old (position_after change number old)) → (element : ElementValue) → IsLessElement element (element_after revertible change element)
  element_less less element = record { same_level = refl; same_qualifier = refl; same_strip = refl; same_blocks = refl; less = less_from 0 element.positions less }

  same_less : (element : ElementValue) → IsLessElement element element
  same_less element = record { same_level = refl; same_qualifier = refl; same_strip = refl; same_blocks = refl; less = same_positions element.positions }
    where
      same_positions : (positions : List Position) → AreLessPositions positions positions
      same_positions [] = tt
      same_positions (position ∷ positions) = (inr (refl, refl, refl, inr refl), same_positions positions)

  part_less : ((number : ℕ) (old : Position) → IsLessPosition old (position_after change number old)) → (b : Bool) (part : Option ElementValue) → IsLessPart part (if b then option_map (element_after revertible change) part else part)
  part_less less true None = tt
  part_less less true (Some element) = element_less less element
  part_less less false None = tt
  part_less less false (Some element) = same_less element

  parts_less : ((number : ℕ) (old : Position) → IsLessPosition old (position_after change number old)) → (named a : ℕ) (known : List (Option ElementValue))
      → AreLessParts known (map (part_after revertible change named) (enumerate_from a known))
  parts_less less named a [] = tt
  parts_less less named a (part ∷ known) = (part_less less (nat_eq named a) part, parts_less less named (a + 1) known)

  pub rebuilding_less : ((number : ℕ) (old : Position) → IsLessPosition old (position_after change number old)) → (named : ℕ) (array : Array) → IsLessArray array (rebuilding revertible change named array)
  rebuilding_less less named array = record { same_secondary = refl; mark_is = inr refl; less = parts_less less named 0 array.elements }

  module _ (is_current : ℕ → Bool) where
    stay_from : (a : ℕ) (positions : List Position) → ((k : ℕ) (old : Position) → slice_get positions k ≡ Some old → IsStaying is_current old (position_after change (a + k) old))
        → AreStaying is_current positions (map (λ pair. position_after change pair.0 pair.1) (enumerate_from a positions))
    stay_from a [] stays = tt
    stay_from a (position ∷ positions) stays = (
      (let number : a + 0 ≡ a = omega arith in subst (λ (n : ℕ). IsStaying is_current position (position_after change n position)) number (stays 0 position refl)),
      stay_from (a + 1) positions (λ k old at.
          let number : a + suc k ≡ a + 1 + k = omega arith in subst (λ (n : ℕ). IsStaying is_current old (position_after change n old)) number (stays (suc k) old at)),
    )

    same_stay : (positions : List Position) → AreStaying is_current positions positions
    same_stay [] = tt
    same_stay (position ∷ positions) = (inr (refl, refl, refl), same_stay positions)

    -- of the named element each position stays, where it does by its number
    pub rebuilding_stays : (named : ℕ) (array : Array)
        → ((plan : ElementValue) (k : ℕ) (old : Position) → slice_get array.elements named ≡ Some (Some plan) → slice_get plan.positions k ≡ Some old → IsStaying is_current old (position_after change k old))
        → AllStay is_current array.elements (rebuilding revertible change named array).elements
    rebuilding_stays named array stays k before after at there =
        by (nat_eq named k) refl (sym (ap (λ (n : ℕ). part_after revertible change named (n, Some before)) zeroth) ∙ numbered (part_after revertible change named) 0 array.elements k (Some before) (Some after) at there)
      where
        zeroth : 0 + k ≡ k
        zeroth = omega arith

        by : (b : Bool) → nat_eq named k ≡ b → (if b then option_map (element_after revertible change) (Some before) else Some before) ≡ Some after → AreStaying is_current before.positions after.positions
        by true is e =
            let same : named ≡ k = eqb-true named k is in
            let made : element_after revertible change before ≡ after = cc in
            subst (λ (x : ElementValue). AreStaying is_current before.positions x.positions) made
            (stay_from 0 before.positions (λ j old is_old.
            let first : 0 + j ≡ j = omega arith in
            subst (λ (n : ℕ). IsStaying is_current old (position_after change n old)) (sym first) (stays before j old (ap (slice_get array.elements) same ∙ at) is_old)))
        by false is e = let made : before ≡ after = cc in subst (λ (x : ElementValue). AreStaying is_current before.positions x.positions) made (same_stay before.positions)

-- ---- a rebuild begins

begun_less_by : (b : Bool) (reference start : ℕ) (old : Position) → IsLessPosition old (if b then new_position reference start else old)
begun_less_by true reference start old = inl (refl, refl)
begun_less_by false reference start old = inr (refl, refl, refl, inr refl)

pub begun_less : (revertible : Bool) (guid : List ℕ) (element position reference start : ℕ) (array : Array) → IsLessArray array (rebuilding revertible (Begin guid element position reference start) element array)
begun_less revertible guid element position reference start array =
    rebuilding_less revertible (Begin guid element position reference start) (λ number old. begun_less_by (nat_eq position number) reference start old) element array

begun_stays_by : (c : ℕ → Bool) (b : Bool) (reference start : ℕ) (old : Position) → (b ≡ true → (old.synced ≡ false) × (c old.reference ≡ false)) → IsStaying c old (if b then new_position reference start else old)
begun_stays_by c true reference start old vacant = let is = vacant refl in inl (refl, is.0, is.1)
begun_stays_by c false reference start old vacant = inr (refl, refl, refl)

pub begun_stays : (revertible : Bool) (c : ℕ → Bool) (guid : List ℕ) (element position reference start : ℕ) (array : Array)
    → ((plan : ElementValue) (old : Position) → slice_get array.elements element ≡ Some (Some plan) → slice_get plan.positions position ≡ Some old → (old.synced ≡ false) × (c old.reference ≡ false))
    → AllStay c array.elements (rebuilding revertible (Begin guid element position reference start) element array).elements
begun_stays revertible c guid element position reference start array vacant =
    rebuilding_stays revertible (Begin guid element position reference start) c element array (λ plan k old at is_old.
    begun_stays_by c (nat_eq position k) reference start old (λ same. vacant plan old at (ap (slice_get plan.positions) (eqb-true position k same) ∙ is_old)))

-- ---- it is done

later_same : {X : Type 0} (f : X → X) (n a : ℕ) (xs : List X) → n < a → map (λ (pair : ℕ × X). if nat_eq n pair.0 then f pair.1 else pair.1) (enumerate_from a xs) ≡ xs
later_same f n a [] less = refl
later_same f n a (x ∷ xs) less =
    ap (λ (b : Bool). (if b then f x else x) ∷ map (λ (pair : ℕ × _). if nat_eq n pair.0 then f pair.1 else pair.1) (enumerate_from (a + 1) xs)) (ne_eqb n a (λ same. omega (arith, same, less)))
    ∙ ap (λ l. x ∷ l) (later_same f n (a + 1) xs (omega (arith, less)))

-- the item of this number is changed, and no other
numbered_change : {X : Type 0} (f : X → X) (n a k : ℕ) (xs : List X) → n ≡ a + k → map (λ (pair : ℕ × X). if nat_eq n pair.0 then f pair.1 else pair.1) (enumerate_from a xs) ≡ changed_item f k xs
numbered_change f n a k [] is = refl
numbered_change f n a zero (x ∷ xs) is =
    let here : n ≡ a = omega (arith, is) in
    ap (λ (b : Bool). (if b then f x else x) ∷ map (λ (pair : ℕ × _). if nat_eq n pair.0 then f pair.1 else pair.1) (enumerate_from (a + 1) xs)) (eq-eqb n a here)
    ∙ ap (λ l. f x ∷ l) (later_same f n (a + 1) xs (omega (arith, here)))
numbered_change f n a (suc k) (x ∷ xs) is =
    ap (λ (b : Bool). (if b then f x else x) ∷ map (λ (pair : ℕ × _). if nat_eq n pair.0 then f pair.1 else pair.1) (enumerate_from (a + 1) xs)) (ne_eqb n a (λ same. omega (arith, same, is)))
    ∙ ap (λ l. x ∷ l) (numbered_change f n (a + 1) k xs (omega (arith, is)))

-- of the named element each position is made, and of no other
module _ (revertible : Bool) (change : Change) (g : ElementValue → ElementValue) (same : (plan : ElementValue) → element_after revertible change plan ≡ g plan) where
  part_by : (b : Bool) (part : Option ElementValue) → (if b then option_map (element_after revertible change) part else part) ≡ (if b then option_map g part else part)
  part_by true None = refl
  part_by true (Some plan) = ap Some (same plan)
  part_by false part = refl

  each : (element : ℕ) (known : List (Option ElementValue)) (a : ℕ)
      → map (part_after revertible change element) (enumerate_from a known) ≡ map (λ (pair : ℕ × Option ElementValue). if nat_eq element pair.0 then option_map g pair.1 else pair.1) (enumerate_from a known)
  each element [] a = refl
  each element (part ∷ known) a =
      ap (λ (x : Option ElementValue). x ∷ map (part_after revertible change element) (enumerate_from (a + 1) known)) (part_by (nat_eq element a) part)
      ∙ ap (λ l. (if nat_eq element a then option_map g part else part) ∷ l) (each element known (a + 1))

  pub all_made : (element : ℕ) (known : List (Option ElementValue)) → map (part_after revertible change element) (enumerate_from 0 known) ≡ changed_item (option_map g) element known
  all_made element known = let first : element ≡ 0 + element = omega arith in each element known 0 ∙ numbered_change (option_map g) element 0 element known first

pub finished_synced : (guid : List ℕ) (element position : ℕ) (array : Array) → IsInSync element position array (rebuilding false (Finish guid element position) element array)
finished_synced guid element position array = record {
  same_secondary = refl;
  same_mark = refl;
  elements_are =
      let own : position ≡ 0 + position = omega arith in
      all_made false (Finish guid element position) (element_in_sync position) (λ plan. ap (with_positions plan) (numbered_change position_in_sync position 0 position plan.positions own)) element array.elements;
}

-- ---- it goes on

-- no rows count behind the position
later_rows : (n row a : ℕ) (xs : List Position) → n < a → map (λ (pair : ℕ × Position). progressed n row pair.0 pair.1) (enumerate_from a xs) ≡ map (position_noted 0) xs
later_rows n row a [] less = refl
later_rows n row a (x ∷ xs) less =
    ap (λ (b : Bool). position_noted (if b then row else 0) x ∷ map (λ (pair : ℕ × Position). progressed n row pair.0 pair.1) (enumerate_from (a + 1) xs)) (ne_eqb n a (λ same. omega (arith, same, less)))
    ∙ ap (λ l. position_noted 0 x ∷ l) (later_rows n row (a + 1) xs (omega (arith, less)))

rows_change : (n row a k : ℕ) (xs : List Position) → n ≡ a + k
    → map (λ (pair : ℕ × Position). progressed n row pair.0 pair.1) (enumerate_from a xs) ≡ changed_item (position_noted row) k (map (position_noted 0) xs)
rows_change n row a k [] is = refl
rows_change n row a zero (x ∷ xs) is =
    let here : n ≡ a = omega (arith, is) in
    ap (λ (b : Bool). position_noted (if b then row else 0) x ∷ map (λ (pair : ℕ × Position). progressed n row pair.0 pair.1) (enumerate_from (a + 1) xs)) (eq-eqb n a here)
    ∙ ap (λ l. position_noted row x ∷ l) (later_rows n row (a + 1) xs (omega (arith, here)))
rows_change n row a (suc k) (x ∷ xs) is =
    ap (λ (b : Bool). position_noted (if b then row else 0) x ∷ map (λ (pair : ℕ × Position). progressed n row pair.0 pair.1) (enumerate_from (a + 1) xs)) (ne_eqb n a (λ same. omega (arith, same, is)))
    ∙ ap (λ l. position_noted 0 x ∷ l) (rows_change n row (a + 1) k xs (omega (arith, is)))

pub progressed_noted : (guid : List ℕ) (element position row : ℕ) (array : Array) → IsNotedArray element position row array (rebuilding false (Progress guid element position row) element array)
progressed_noted guid element position row array = record {
  same_secondary = refl;
  same_mark = refl;
  elements_are =
      let own : position ≡ 0 + position = omega arith in
      all_made false (Progress guid element position row) (element_noted position row) (λ plan. ap (with_positions plan) (rows_change position row 0 position plan.positions own)) element array.elements;
}

-- ---- it goes back

returned_by : (b : Bool) (reference start : ℕ) (old : Position)
    → ◌≡◌ {A = Position} (if b then record (if b then new_position reference start else old) { synced = true; row = 0 } else (if b then new_position reference start else old)) (if b then position_moved reference start old else old)
returned_by true reference start old = refl
returned_by false reference start old = refl

returned_all : (n reference start a : ℕ) (xs : List Position) → map (λ (pair : ℕ × Position). returned n reference start pair.0 pair.1) (enumerate_from a xs)
    ≡ map (λ (pair : ℕ × Position). if nat_eq n pair.0 then position_moved reference start pair.1 else pair.1) (enumerate_from a xs)
returned_all n reference start a [] = refl
returned_all n reference start a (x ∷ xs) =
    ap (λ y. y ∷ map (λ (pair : ℕ × Position). returned n reference start pair.0 pair.1) (enumerate_from (a + 1) xs)) (returned_by (nat_eq n a) reference start x)
    ∙ ap (λ l. (if nat_eq n a then position_moved reference start x else x) ∷ l) (returned_all n reference start (a + 1) xs)

pub returned_moved : (guid : List ℕ) (element position reference start : ℕ) (array : Array) → IsMovedArray element position reference start array (rebuilding false (Return guid element position reference start) element array)
returned_moved guid element position reference start array =
    let own : position ≡ 0 + position = omega arith in
    let change = Return guid element position reference start in
    record {
      same_secondary = refl;
      same_mark = refl;
      moved = subst (AreMovedParts element position reference start array.elements) (sym (all_made false change (element_after false change) (λ plan. refl) element array.elements))
          (moved_parts (element_after false change) position reference start (λ plan. record {
            same_level = refl;
            same_qualifier = refl;
            same_strip = refl;
            same_blocks = refl;
            positions_are = returned_all position reference start 0 plan.positions ∙ numbered_change (position_moved reference start) position 0 position plan.positions own;
          }) element array.elements);
    }
