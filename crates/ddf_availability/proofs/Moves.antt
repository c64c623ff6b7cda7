-- A position that goes to another disk: one extent of all is another one, and no other is.
use Rattle.std.proofs.Common.{◌≡◌, ℕ, zero, suc, ◌+◌, ◌<◌, Bool, true, false, cond, List, [], ◌∷◌, ◌++◌, map, Option, Some, None, option_map, nat_eq, append_assoc, refl, sym, ap, subst, ◌∙◌, if◌then◌else◌, arith, eq-eqb}
use Rattle.std.proofs.lemmas.Cmp.{nat_list_eq_equiv}
use Rattle.std.proofs.lemmas.Map.Keys.{IsDistinct-head, IsDistinct-tail}
use Rattle.std.specs.Prelude.{slice_get}
use Rattle.std.specs.Map.{keys_of, lookup}
use Rattle.std.specs.List.{AllByRecursion, IsDistinct, enumerate_from, flat_map}
use Rattle.ddf_lemmas.proofs.Tests.{less_test}
use Rattle.ddf_config.specs.declared.element.Position.{Position}
use Rattle.ddf_config.specs.declared.array.Array.{Array}
use Rattle.ddf_config.specs.declared.extent.Extent.{Extent}
use Rattle.ddf_config.specs.Configuration.{Configuration}
use Rattle.ddf_config.specs.ElementValue.{ElementValue}
use Rattle.ddf_config.specs.Entries.{changed_entries}
use Rattle.ddf_config.specs.Extents.{array_extents, extent, extents, part_extents}
use Rattle.ddf_config.specs.Members.{same_guid}
use Rattle.ddf_config.specs.States.{array_with_low}
use Rattle.ddf_plan.specs.declared.change.Change.{Change}
use Rattle.ddf_plan.specs.declared.change.Change.TheVariants.{Return}
use Rattle.ddf_plan.specs.Rebuild.{new_position, returned}
use Rattle.ddf_plan.specs.Members.{members_after}
use Rattle.ddf_plan.specs.Arrays.{array_after, arrays_after, element_after, kept_and_added, named_after, part_after}
use Rattle.ddf_repair.proofs.Replaced.{IsReplaced, front, here}
use Rattle.ddf_repair.proofs.Usable.{both_changed, one_after}

-- ---- one extent in the place of another

pub record IsMoved (old found : Extent) (before after : List Extent) : Type 0 where
  pub pre : List Extent
  pub post : List Extent
  pub was : before ≡ pre ++ old ∷ post
  pub is : after ≡ pre ++ found ∷ post

moved_here : (old found : Extent) (post after : List Extent) → after ≡ post → IsMoved old found (old ∷ post) (found ∷ after)
moved_here old found post after e = record { pre = []; post = post; was = refl; is = ap (λ rest. found ∷ rest) e }

moved_front : (old found : Extent) (xs before after : List Extent) → IsMoved old found before after → IsMoved old found (xs ++ before) (xs ++ after)
moved_front old found xs before after moved = record {
  pre = xs ++ moved.pre;
  post = moved.post;
  was = ap (λ l. xs ++ l) moved.was ∙ sym (append_assoc xs moved.pre (old ∷ moved.post));
  is = ap (λ l. xs ++ l) moved.is ∙ sym (append_assoc xs moved.pre (found ∷ moved.post));
}

moved_behind : (old found : Extent) (ys others before after : List Extent) → others ≡ ys → IsMoved old found before after → IsMoved old found (before ++ ys) (after ++ others)
moved_behind old found ys others before after tail moved = record {
  pre = moved.pre;
  post = moved.post ++ ys;
  was = ap (λ l. l ++ ys) moved.was ∙ append_assoc moved.pre (old ∷ moved.post) ys;
  is = ap (λ l. l ++ others) moved.is ∙ append_assoc moved.pre (found ∷ moved.post) others ∙ ap (λ l. moved.pre ++ (found ∷ (moved.post ++ l))) tail;
}

pub replaced : (old found : Extent) (before after : List Extent) → IsMoved old found before after → IsReplaced found before after
replaced old found before after moved =
    subst (λ (l : List Extent). IsReplaced found l after) (sym moved.was)
    (subst (λ (l : List Extent). IsReplaced found (moved.pre ++ old ∷ moved.post) l) (sym moved.is)
    (front found moved.pre (old ∷ moved.post) (found ∷ moved.post) (here found old moved.post moved.post refl)))

-- ---- numbers

more_test : (a b : ℕ) → b < a → nat_eq a b ≡ false
more_test a b more = grind arith

-- ---- positions

abbrev pub moved_position : (disk start : ℕ) → Position
moved_position disk start = record { reference = disk; start = start; synced = true; row = 0 }

returned_by : (b : Bool) (disk start : ℕ) (old : Position)
    → ◌≡◌ {A = Position} (if b then record (if b then new_position disk start else old) { synced = true; row = 0 } else (if b then new_position disk start else old)) (if b then moved_position disk start else old)
returned_by true disk start old = refl
returned_by false disk start old = refl

pub returned_is : (position disk start number : ℕ) (old : Position) → returned position disk start number old ≡ (if nat_eq position number then moved_position disk start else old)
returned_is position disk start number old = returned_by (nat_eq position number) disk start old

module _ (guid : List ℕ) (element position disk start : ℕ) where
  abbrev change : Change
  change = Return guid element position disk start

  abbrev found : ℕ → Extent
  found blocks = extent blocks (moved_position disk start)

  abbrev positions_from : ℕ → List Position → List Position
  positions_from n positions = map (λ pair. returned position disk start pair.0 pair.1) (enumerate_from n positions)

  stays : (n : ℕ) (one : Position) → nat_eq position n ≡ false → returned position disk start n one ≡ one
  stays n one other = returned_is position disk start n one ∙ ap (λ (b : Bool). if b then moved_position disk start else one) other

  goes : (n : ℕ) (one : Position) → nat_eq position n ≡ true → returned position disk start n one ≡ moved_position disk start
  goes n one same = returned_is position disk start n one ∙ ap (λ (b : Bool). if b then moved_position disk start else one) same

  later_positions : (blocks n : ℕ) (positions : List Position) → position < n → map (extent blocks) (positions_from n positions) ≡ map (extent blocks) positions
  later_positions blocks n [] less = refl
  later_positions blocks n (one ∷ positions) less =
      ap (λ (first : Position). extent blocks first ∷ map (extent blocks) (positions_from (n + 1) positions)) (stays n one (less_test position n less))
      ∙ ap (λ rest. extent blocks one ∷ rest) (later_positions blocks (n + 1) positions (omega (arith, less)))

  positions_moved : (blocks n k : ℕ) (positions : List Position) (held : Position) → position ≡ n + k → slice_get positions k ≡ Some held
      → IsMoved (extent blocks held) (found blocks) (map (extent blocks) positions) (map (extent blocks) (positions_from n positions))
  positions_moved blocks n k [] held number at = absurd cc
  positions_moved blocks n zero (one ∷ positions) held number at =
      let same : one ≡ held = cc in
      subst (λ (old : Position). IsMoved (extent blocks old) (found blocks) (extent blocks one ∷ map (extent blocks) positions) (map (extent blocks) (positions_from n (one ∷ positions)))) same
      (subst (λ (new : Position). IsMoved (extent blocks one) (found blocks) (extent blocks one ∷ map (extent blocks) positions) (extent blocks new ∷ map (extent blocks) (positions_from (n + 1) positions)))
      (sym (goes n one (eq-eqb position n (omega (arith, number)))))
      (moved_here (extent blocks one) (found blocks) (map (extent blocks) positions) (map (extent blocks) (positions_from (n + 1) positions)) (later_positions blocks (n + 1) positions (omega (arith, number)))))
  positions_moved blocks n (suc k) (one ∷ positions) held number at =
      subst (λ (new : Position). IsMoved (extent blocks held) (found blocks) (extent blocks one ∷ map (extent blocks) positions) (extent blocks new ∷ map (extent blocks) (positions_from (n + 1) positions)))
      (sym (stays n one (more_test position n (omega (arith, number)))))
      (moved_front (extent blocks held) (found blocks) (extent blocks one ∷ []) (map (extent blocks) positions) (map (extent blocks) (positions_from (n + 1) positions))
      (positions_moved blocks (n + 1) k positions held (omega (arith, number)) at))

  -- ---- elements

  abbrev parts_from : ℕ → List (Option ElementValue) → List (Option ElementValue)
  parts_from n parts = map (part_after false change element) (enumerate_from n parts)

  later_parts : (n : ℕ) (parts : List (Option ElementValue)) → element < n → flat_map part_extents (parts_from n parts) ≡ flat_map part_extents parts
  later_parts n [] less = refl
  later_parts n (part ∷ parts) less =
      ap (λ (b : Bool). part_extents (if b then option_map (element_after false change) part else part) ++ flat_map part_extents (parts_from (n + 1) parts)) (less_test element n less)
      ∙ ap (λ rest. part_extents part ++ rest) (later_parts (n + 1) parts (omega (arith, less)))

  element_moved : (plan one : ElementValue) (held : Position) → one ≡ plan → slice_get plan.positions position ≡ Some held
      → IsMoved (extent plan.blocks held) (found plan.blocks) (part_extents (Some one)) (part_extents (Some (element_after false change one)))
  element_moved plan one held same at =
      subst (λ (it : ElementValue). IsMoved (extent it.blocks held) (found it.blocks) (part_extents (Some one)) (part_extents (Some (element_after false change one)))) same
      (positions_moved one.blocks 0 position one.positions held (omega arith) (ap (λ (it : ElementValue). slice_get it.positions position) same ∙ at))

  parts_moved : (n k : ℕ) (parts : List (Option ElementValue)) (plan : ElementValue) (held : Position) → element ≡ n + k → slice_get parts k ≡ Some (Some plan) → slice_get plan.positions position ≡ Some held
      → IsMoved (extent plan.blocks held) (found plan.blocks) (flat_map part_extents parts) (flat_map part_extents (parts_from n parts))
  parts_moved n k [] plan held number there at = absurd cc
  parts_moved n zero (None ∷ parts) plan held number there at = absurd cc
  parts_moved n zero (Some one ∷ parts) plan held number there at =
      let same : one ≡ plan = cc in
      subst (λ (b : Bool). IsMoved (extent plan.blocks held) (found plan.blocks) (part_extents (Some one) ++ flat_map part_extents parts)
      (part_extents (if b then Some (element_after false change one) else Some one) ++ flat_map part_extents (parts_from (n + 1) parts)))
      (sym (eq-eqb element n (omega (arith, number))))
      (moved_behind (extent plan.blocks held) (found plan.blocks) (flat_map part_extents parts) (flat_map part_extents (parts_from (n + 1) parts)) (part_extents (Some one)) (part_extents (Some (element_after false change one)))
      (later_parts (n + 1) parts (omega (arith, number))) (element_moved plan one held same at))
  parts_moved n (suc k) (part ∷ parts) plan held number there at =
      subst (λ (b : Bool). IsMoved (extent plan.blocks held) (found plan.blocks) (part_extents part ++ flat_map part_extents parts)
      (part_extents (if b then option_map (element_after false change) part else part) ++ flat_map part_extents (parts_from (n + 1) parts)))
      (sym (more_test element n (omega (arith, number))))
      (moved_front (extent plan.blocks held) (found plan.blocks) (part_extents part) (flat_map part_extents parts) (flat_map part_extents (parts_from (n + 1) parts))
      (parts_moved (n + 1) k parts plan held (omega (arith, number)) there at))

  -- ---- the table

  module _ (config : Configuration) (all : List Extent) where
    abbrev made : List ℕ → Array → Array
    made = one_after config change all

    pub array_moved : (key : List ℕ) (array : Array) (plan : ElementValue) (held : Position) → same_guid guid key ≡ true → slice_get array.elements element ≡ Some (Some plan) → slice_get plan.positions position ≡ Some held
        → IsMoved (extent plan.blocks held) (found plan.blocks) (array_extents array) (array_extents (made key array))
    array_moved key array plan held own there at =
        subst (λ (b : Bool). IsMoved (extent plan.blocks held) (found plan.blocks) (array_extents array) (array_extents (if b then named_after false change array else array))) (sym own)
        (parts_moved 0 element array.elements plan held (omega arith) there at)

    pub array_stays : (key : List ℕ) (array : Array) → same_guid guid key ≡ false → array_extents (made key array) ≡ array_extents array
    array_stays key array other = ap (λ (b : Bool). array_extents (if b then named_after false change array else array)) other

    others_stay : (es : List (List ℕ × Array)) → AllByRecursion (λ key. same_guid guid key ≡ false) (keys_of es) → extents (changed_entries (λ g a. Some (made g a)) es) ≡ extents es
    others_stay [] away = refl
    others_stay (e ∷ es) away =
        ap (λ own. own ++ extents (changed_entries (λ g a. Some (made g a)) es)) (array_stays e.0 e.1 away.0)
        ∙ ap (λ rest. array_extents e.1 ++ rest) (others_stay es away.1)

    away : (key : List ℕ) → same_guid guid key ≡ true → (keys : List (List ℕ)) → AllByRecursion (λ y. same_guid key y ≡ false) keys → AllByRecursion (λ y. same_guid guid y ≡ false) keys
    away key is [] h = tt
    away key is (y ∷ ys) h = (nat_list_eq_equiv.congr guid key y is ∙ h.0, away key is ys h.1)

    all_moved : (es : List (List ℕ × Array)) (array : Array) (plan : ElementValue) (held : Position) → IsDistinct same_guid (keys_of es) → lookup (same_guid guid) es ≡ Some array
        → slice_get array.elements element ≡ Some (Some plan) → slice_get plan.positions position ≡ Some held
        → IsMoved (extent plan.blocks held) (found plan.blocks) (extents es) (extents (changed_entries (λ g a. Some (made g a)) es))
    all_moved [] array plan held apart found_is there at = absurd cc
    all_moved (e ∷ es) array plan held apart found_is there at =
        by (same_guid guid e.0) refl found_is (λ later. all_moved es array plan held (IsDistinct-tail same_guid e.0 (keys_of es) apart) later there at)
      where
        by : (b : Bool) → same_guid guid e.0 ≡ b → cond b (Some e.1) (lookup (same_guid guid) es) ≡ Some array
            → (lookup (same_guid guid) es ≡ Some array → IsMoved (extent plan.blocks held) (found plan.blocks) (extents es) (extents (changed_entries (λ g a. Some (made g a)) es)))
            → IsMoved (extent plan.blocks held) (found plan.blocks) (array_extents e.1 ++ extents es) (array_extents (made e.0 e.1) ++ extents (changed_entries (λ g a. Some (made g a)) es))
        by true is is_first rest =
            let equal : e.1 ≡ array = cc in
            moved_behind (extent plan.blocks held) (found plan.blocks) (extents es) (extents (changed_entries (λ g a. Some (made g a)) es)) (array_extents e.1) (array_extents (made e.0 e.1))
            (others_stay es (away e.0 is (keys_of es) (IsDistinct-head same_guid e.0 (keys_of es) apart)))
            (array_moved e.0 e.1 plan held is (ap (λ (one : Array). slice_get one.elements element) equal ∙ there) at)
        by false is is_first rest =
            subst (λ (own : List Extent). IsMoved (extent plan.blocks held) (found plan.blocks) (array_extents e.1 ++ extents es) (own ++ extents (changed_entries (λ g a. Some (made g a)) es)))
            (sym (array_stays e.0 e.1 is))
            (moved_front (extent plan.blocks held) (found plan.blocks) (array_extents e.1) (extents es) (extents (changed_entries (λ g a. Some (made g a)) es)) (rest is_first))

  -- ---- the configuration

  abbrev pub made_in : Configuration → List ℕ → Array → Array
  made_in config = one_after config (Return guid element position disk start) (extents (kept_and_added config (Return guid element position disk start)))

  pub table_is : (config : Configuration) → arrays_after config (Return guid element position disk start) ≡ changed_entries (λ g a. Some (made_in config g a)) config.arrays
  table_is config = both_changed (λ g. array_with_low (members_after config change) (extents (kept_and_added config change))) (array_after false (members_after config change) change) config.arrays

  pub moved_in : (config : Configuration) (array : Array) (plan : ElementValue) (held : Position) → IsDistinct same_guid (keys_of config.arrays) → lookup (same_guid guid) config.arrays ≡ Some array
      → slice_get array.elements element ≡ Some (Some plan) → slice_get plan.positions position ≡ Some held
      → IsMoved (extent plan.blocks held) (extent plan.blocks (moved_position disk start)) (extents config.arrays) (extents (arrays_after config (Return guid element position disk start)))
  moved_in config array plan held apart is there at =
      subst (λ (table : List (List ℕ × Array)). IsMoved (extent plan.blocks held) (found plan.blocks) (extents config.arrays) (extents table)) (sym (table_is config))
      (all_moved config (extents (kept_and_added config change)) config.arrays array plan held apart is there at)
