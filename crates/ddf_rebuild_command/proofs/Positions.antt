-- A position of an array, and what the changes of a rebuild make of it.
use Rattle.std.proofs.Common.{◌≡◌, ℕ, zero, suc, ◌+◌, Bool, true, false, cond, List, [], ◌∷◌, length, map, Option, Some, None, option_map, refl, sym, ap, subst, ◌∙◌, if◌then◌else◌, arith}
use Rattle.std.proofs.lemmas.Bool.{and_parts, eq-eqb}
use Rattle.std.proofs.lemmas.List.{length-map}
use Rattle.std.proofs.lemmas.List.FromFn.{length-enumerate_from}
use Rattle.std.specs.Prelude.{option_and_then, slice_get}
use Rattle.std.specs.List.{enumerate_from}
use Rattle.std.specs.Map.{lookup}
use Rattle.std.specs.Option.{option_eq}
use Rattle.std.specs.Result.{result_ok}
use Rattle.std.specs.Cmp.Lexicographic.{pointwise}
use Rattle.ddf_primary.specs.Levels.{shape_of}
use Rattle.ddf_config.specs.declared.array.Array.{Array}
use Rattle.ddf_config.specs.declared.element.Position.{Position}
use Rattle.ddf_config.specs.Configuration.{Configuration}
use Rattle.ddf_config.specs.ElementValue.{ElementValue}
use Rattle.ddf_config.specs.Entries.{changed_entries}
use Rattle.ddf_config.specs.Extents.{extents}
use Rattle.ddf_config.specs.Members.{same_guid}
use Rattle.ddf_config.specs.Shapes.{element_shape, strip_sectors}
use Rattle.ddf_config.specs.States.{array_with_low, is_marked}
use Rattle.ddf_plan.specs.declared.change.Change.{Change}
use Rattle.ddf_plan.specs.declared.change.Change.TheVariants.{Begin, Finish, Progress, Return}
use Rattle.ddf_plan.specs.Standing.{takes_revertible}
use Rattle.ddf_plan.specs.Arrays.{array_after, arrays_after, element_after, kept_and_added, named_after, names, part_after, position_after, rebuilding}
use Rattle.ddf_plan.specs.Changes.{changed, changed_at}
use Rattle.ddf_plan.specs.Members.{members_after}
use Rattle.ddf_plan.specs.Rebuild.{element_at}
use Rattle.ddf_plan.specs.Same.{same_array, same_element, same_member, same_position, same_tables}
use Rattle.ddf_repair.proofs.Usable.{both_changed, one_after}
use Rattle.ddf_repair.proofs.Marks.{keeps_mark}

-- ---- lists

numbered_at : {X Y : Type 0} (f : (ℕ × X) → Y) (xs : List X) (n k m : ℕ) (x : X) → m ≡ n + k → slice_get xs k ≡ Some x → slice_get (map f (enumerate_from n xs)) k ≡ Some (f (m, x))
numbered_at f [] n k m x number at = absurd cc
numbered_at f (y ∷ xs) n zero m x number at =
    let same : y ≡ x = cc in
    let first : n ≡ m = omega (arith, number) in
    ap (λ z. Some (f (n, z))) same ∙ ap (λ k. Some (f (k, x))) first
numbered_at f (y ∷ xs) n (suc k) m x number at = numbered_at f xs (n + 1) k m x (omega (arith, number)) at

both_at : {X Y : Type 0} (same : X → Y → Bool) (xs : List X) (ys : List Y) (k : ℕ) (x : X) (y : Y) → pointwise same xs ys ≡ true → slice_get xs k ≡ Some x → slice_get ys k ≡ Some y → same x y ≡ true
both_at same [] ys k x y all at other = absurd cc
both_at same (x ∷ xs) [] k one y all at other = absurd cc
both_at same (x ∷ xs) (y ∷ ys) zero one another all at other =
    let here : x ≡ one = cc in
    let there : y ≡ another = cc in
    ap (λ z. same z another) (sym here) ∙ ap (same x) (sym there) ∙ (and_parts (same x y) (pointwise same xs ys) all).0
both_at same (x ∷ xs) (y ∷ ys) (suc k) one another all at other = both_at same xs ys k one another (and_parts (same x y) (pointwise same xs ys) all).1 at other

-- the array of a table that a test finds, and what a change of each makes of it
pub record IsFoundAt (made : List ℕ → Array → Array) (test : List ℕ → Bool) (entries : List (List ℕ × Array)) (array : Array) : Type 0 where
  pub place : ℕ
  pub guid : List ℕ
  pub passes : test guid ≡ true
  pub is_at : slice_get entries place ≡ Some (guid, array)
  pub next_found : lookup test (changed_entries (λ g a. Some (made g a)) entries) ≡ Some (made guid array)
  pub next_at : slice_get (changed_entries (λ g a. Some (made g a)) entries) place ≡ Some (guid, made guid array)

found_at : (made : List ℕ → Array → Array) (test : List ℕ → Bool) (entries : List (List ℕ × Array)) (array : Array) → lookup test entries ≡ Some array → IsFoundAt made test entries array
found_at made test [] array found = absurd cc
found_at made test (entry ∷ entries) array found = by (test entry.0) refl (found_at made test entries array) found
  where
    by : (b : Bool) → test entry.0 ≡ b → (lookup test entries ≡ Some array → IsFoundAt made test entries array) → cond b (Some entry.1) (lookup test entries) ≡ Some array
        → IsFoundAt made test (entry ∷ entries) array
    by true e later is =
        let own : entry.1 ≡ array = cc in
        record {
          place = 0;
          guid = entry.0;
          passes = e;
          is_at = ap (λ (one : Array). Some (entry.0, one)) own;
          next_found =
              ap (λ (b : Bool). cond b (Some (made entry.0 entry.1)) (lookup test (changed_entries (λ g a. Some (made g a)) entries))) e
              ∙ ap (λ (one : Array). Some (made entry.0 one)) own;
          next_at = ap (λ (one : Array). Some (entry.0, made entry.0 one)) own;
        }
    by false e later is =
        let rest = later is in
        record {
          place = suc rest.place;
          guid = rest.guid;
          passes = rest.passes;
          is_at = rest.is_at;
          next_found = ap (λ (b : Bool). cond b (Some (made entry.0 entry.1)) (lookup test (changed_entries (λ g a. Some (made g a)) entries))) e ∙ rest.next_found;
          next_at = rest.next_at;
        }

-- ---- a position

-- This is the position of an array, by the array's GUID and the numbers of the element and the position.
pub record IsHeld (config : Configuration) (guid : List ℕ) (element position : ℕ) (held : Position) : Type 0 where
  pub array : Array
  pub is_array : lookup (same_guid guid) config.arrays ≡ Some array
  pub plan : ElementValue
  pub is_plan : element_at array element ≡ Some plan
  pub is_held : slice_get plan.positions position ≡ Some held

-- A change of an element of the array: it makes something of each of its positions, by their numbers.
pub record IsOfElement (config : Configuration) (guid : List ℕ) (element : ℕ) (change : Change) : Type 0 where
  pub table_is : arrays_after config change ≡ changed_entries (λ g a. Some (one_after config change (extents (kept_and_added config change)) g a)) config.arrays
  pub names_is : (other : List ℕ) → names change other ≡ same_guid guid other
  pub after_is : (array : Array) → named_after (takes_revertible config change) change array ≡ rebuilding (takes_revertible config change) change element array

pub element_there : (array : Array) (element : ℕ) (plan : ElementValue) → element_at array element ≡ Some plan → slice_get array.elements element ≡ Some (Some plan)
element_there array element plan e = by (slice_get array.elements element) e
  where
    by : (found : Option (Option ElementValue)) → ◌≡◌ {A = Option ElementValue} (elim found [ None ↦ None | Some part ↦ part ]) (Some plan) → found ≡ Some (Some plan)
    by None e = absurd cc
    by (Some part) e = ap (λ (one : Option ElementValue). Some one) e

module _ (config : Configuration) (guid : List ℕ) (element : ℕ) (change : Change) (is : IsOfElement config guid element change) (position : ℕ) (held : Position)
    (before : IsHeld config guid element position held) where
  abbrev made : List ℕ → Array → Array
  made = one_after config change (extents (kept_and_added config change))

  found : IsFoundAt made (same_guid guid) config.arrays before.array
  found = found_at made (same_guid guid) config.arrays before.array before.is_array

  abbrev next : Array
  next = made found.guid before.array

  elements_are : next.elements ≡ map (part_after (takes_revertible config change) change element) (enumerate_from 0 before.array.elements)
  elements_are =
      ap (λ (b : Bool). (if b then named_after (takes_revertible config change) change before.array else before.array).elements) (is.names_is found.guid ∙ found.passes)
      ∙ ap (λ (one : Array). one.elements) (is.after_is before.array)

  next_part : slice_get next.elements element ≡ Some (Some (element_after (takes_revertible config change) change before.plan))
  next_part =
      ap (λ (parts : List (Option ElementValue)). slice_get parts element) elements_are
      ∙ numbered_at (part_after (takes_revertible config change) change element) before.array.elements 0 element element (Some before.plan) (omega arith) (element_there before.array element before.plan before.is_plan)
      ∙ ap (λ (b : Bool). Some (if b then option_map (element_after (takes_revertible config change) change) (Some before.plan) else Some before.plan)) (eq-eqb element element refl)

  next_position : slice_get (element_after (takes_revertible config change) change before.plan).positions position ≡ Some (position_after change position held)
  next_position = numbered_at (λ pair. position_after change pair.0 pair.1) before.plan.positions 0 position position held (omega arith) before.is_held

  -- Behind the change it is what the change makes of it.
  pub held_after : (sequence : ℕ) → IsHeld (changed_at config change sequence) guid element position (position_after change position held)
  held_after sequence = record {
    array = next;
    is_array = ap (lookup (same_guid guid)) is.table_is ∙ found.next_found;
    plan = element_after (takes_revertible config change) change before.plan;
    is_plan = ap (λ (part : Option (Option ElementValue)). elim part [ None ↦ None | Some one ↦ one ]) next_part;
    is_held = next_position;
  }

  -- Behind the change the array has these elements, and its secondary level.
  pub array_after_is : (array : Array) → lookup (same_guid guid) (arrays_after config change) ≡ Some array
      → (array.elements ≡ map (part_after (takes_revertible config change) change element) (enumerate_from 0 before.array.elements)) × (array.secondary ≡ before.array.secondary)
  array_after_is array there =
      let both : Some next ≡ Some array = sym found.next_found ∙ ap (lookup (same_guid guid)) (sym is.table_is) ∙ there in
      let same : next ≡ array = cc in (
        ap (λ (one : Array). one.elements) (sym same) ∙ elements_are,
        ap (λ (one : Array). one.secondary) (sym same)
            ∙ ap (λ (b : Bool). (if b then named_after (takes_revertible config change) change before.array else before.array).secondary) (is.names_is found.guid ∙ found.passes)
            ∙ ap (λ (one : Array). one.secondary) (is.after_is before.array),
      )

  -- The element keeps its shape.
  pub shape_after : (array : Array) (plan : ElementValue) → lookup (same_guid guid) (arrays_after config change) ≡ Some array → element_at array element ≡ Some plan
      → element_shape (length array.elements) plan ≡ element_shape (length before.array.elements) before.plan
  shape_after array plan there known =
      let both : Some next ≡ Some array = sym found.next_found ∙ ap (lookup (same_guid guid)) (sym is.table_is) ∙ there in
      let same : next ≡ array = cc in
      let plans : Some (Some (element_after (takes_revertible config change) change before.plan)) ≡ Some (Some plan) =
      sym next_part ∙ ap (λ (one : Array). slice_get one.elements element) same ∙ element_there array element plan known in
      let plan_is : element_after (takes_revertible config change) change before.plan ≡ plan = cc in
      let count : length next.elements ≡ length before.array.elements =
      ap length elements_are ∙ length-map (enumerate_from 0 before.array.elements) (part_after (takes_revertible config change) change element) ∙ length-enumerate_from 0 before.array.elements in
      let members : length (element_after (takes_revertible config change) change before.plan).positions ≡ length before.plan.positions =
      length-map (enumerate_from 0 before.plan.positions) (λ pair. position_after change pair.0 pair.1) ∙ length-enumerate_from 0 before.plan.positions in
      ap (λ (one : Array). element_shape (length one.elements) plan) (sym same) ∙ ap (element_shape (length next.elements)) (sym plan_is)
      ∙ ap (λ (n : ℕ). element_shape n (element_after (takes_revertible config change) change before.plan)) count
      ∙ ap (λ (n : ℕ). option_and_then (λ strip. result_ok (shape_of before.plan.level before.plan.qualifier n strip before.plan.blocks)) (strip_sectors (length before.array.elements) before.plan)) members

  -- The array keeps its mark.
  pub marked_after : (array : Array) → lookup (same_guid guid) (arrays_after config change) ≡ Some array → is_marked array ≡ is_marked before.array
  marked_after array there =
      let both : Some next ≡ Some array = sym found.next_found ∙ ap (lookup (same_guid guid)) (sym is.table_is) ∙ there in
      let same : next ≡ array = cc in
      ap is_marked (sym same)
      ∙ keeps_mark (members_after config change) (extents (kept_and_added config change)) (if names change found.guid then named_after (takes_revertible config change) change before.array else before.array)
      ∙ ap (λ (b : Bool). is_marked (if b then named_after (takes_revertible config change) change before.array else before.array)) (is.names_is found.guid ∙ found.passes)
      ∙ ap is_marked (is.after_is before.array)

  -- Where the change leaves the configuration as it is, it leaves the position so.
  pub same_held : same_tables config (changed config change) ≡ true → same_position held (position_after change position held) ≡ true
  unfolding same_tables
  same_held same =
      let arrays = (and_parts (pointwise same_member config.members (members_after config change)) (pointwise same_array config.arrays (arrays_after config change)) same).1 in
      let here : same_array (found.guid, before.array) (found.guid, next) ≡ true =
      both_at same_array config.arrays (changed_entries (λ g a. Some (made g a)) config.arrays) found.place (found.guid, before.array) (found.guid, next)
      (subst (λ (entries : List (List ℕ × Array)). pointwise same_array config.arrays entries ≡ true) is.table_is arrays) found.is_at found.next_at in
      let parts : pointwise (option_eq same_element) before.array.elements next.elements ≡ true = (and_parts _ _ here).1 in
      let both : same_element before.plan (element_after (takes_revertible config change) change before.plan) ≡ true =
      both_at (option_eq same_element) before.array.elements next.elements element (Some before.plan) (Some (element_after (takes_revertible config change) change before.plan)) parts
      (element_there before.array element before.plan before.is_plan) next_part in
      let positions : pointwise same_position before.plan.positions (element_after (takes_revertible config change) change before.plan).positions ≡ true = (and_parts _ _ both).1 in
      both_at same_position before.plan.positions (element_after (takes_revertible config change) change before.plan).positions position held (position_after change position held) positions before.is_held next_position

-- ---- the changes of a rebuild

module _ (config : Configuration) (guid : List ℕ) (element position : ℕ) where
  pub begins : (reference start : ℕ) → IsOfElement config guid element (Begin guid element position reference start)
  begins reference start = record {
    table_is =
        both_changed (λ g. array_with_low (members_after config (Begin guid element position reference start)) (extents (kept_and_added config (Begin guid element position reference start))))
        (array_after (takes_revertible config (Begin guid element position reference start)) (members_after config (Begin guid element position reference start)) (Begin guid element position reference start)) config.arrays;
    names_is = λ other. refl;
    after_is = λ array. refl;
  }

  pub progresses : (row : ℕ) → IsOfElement config guid element (Progress guid element position row)
  progresses row = record {
    table_is =
        both_changed (λ g. array_with_low (members_after config (Progress guid element position row)) (extents (kept_and_added config (Progress guid element position row))))
        (array_after false (members_after config (Progress guid element position row)) (Progress guid element position row)) config.arrays;
    names_is = λ other. refl;
    after_is = λ array. refl;
  }

  pub finishes : IsOfElement config guid element (Finish guid element position)
  finishes = record {
    table_is =
        both_changed (λ g. array_with_low (members_after config (Finish guid element position)) (extents (kept_and_added config (Finish guid element position))))
        (array_after false (members_after config (Finish guid element position)) (Finish guid element position)) config.arrays;
    names_is = λ other. refl;
    after_is = λ array. refl;
  }

  pub returns : (reference start : ℕ) → IsOfElement config guid element (Return guid element position reference start)
  returns reference start = record {
    table_is =
        both_changed (λ g. array_with_low (members_after config (Return guid element position reference start)) (extents (kept_and_added config (Return guid element position reference start))))
        (array_after false (members_after config (Return guid element position reference start)) (Return guid element position reference start)) config.arrays;
    names_is = λ other. refl;
    after_is = λ array. refl;
  }
