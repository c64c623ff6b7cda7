-- Where a rebuild begins on another disk one extent is replaced, and no other.
use Rattle.std.proofs.Common.{◌≡◌, ℕ, suc, ◌+◌, ◌<◌, Bool, true, false, cond, List, [], ◌∷◌, ◌++◌, map, Option, Some, None, option_map, nat_eq, refl, sym, ap, subst, ◌∙◌, if◌then◌else◌, arith}
use Rattle.std.proofs.lemmas.Bool.{eqb-true}
use Rattle.std.proofs.lemmas.Cmp.{nat_list_eq_equiv}
use Rattle.std.proofs.lemmas.Map.Keys.{IsDistinct-head, IsDistinct-tail}
use Rattle.std.specs.Prelude.{slice_get}
use Rattle.std.specs.Map.{keys_of, lookup}
use Rattle.std.specs.List.{AllByRecursion, IsDistinct, enumerate_from, flat_map}
use Rattle.ddf_lemmas.proofs.Tests.{less_test}
use Rattle.ddf_config.specs.declared.element.Position.{Position}
use Rattle.ddf_config.specs.declared.array.Array.{Array}
use Rattle.ddf_config.specs.declared.extent.Extent.{Extent}
use Rattle.ddf_config.specs.Configuration.{Configuration}
use Rattle.ddf_config.specs.ElementValue.{ElementValue}
use Rattle.ddf_config.specs.Entries.{changed_entries}
use Rattle.ddf_config.specs.Extents.{array_extents, extent, extents, part_extents}
use Rattle.ddf_config.specs.Members.{same_guid}
use Rattle.ddf_plan.specs.declared.change.Change.{Change}
use Rattle.ddf_plan.specs.declared.change.Change.TheVariants.{Begin}
use Rattle.ddf_plan.specs.Rebuild.{element_at, new_position}
use Rattle.ddf_plan.specs.Standing.{takes_revertible}
use Rattle.ddf_plan.specs.Arrays.{element_after, named_after, part_after, position_after}
use Rattle.ddf_repair.proofs.Replaced.{IsReplaced, behind, front, here, same}
use Rattle.ddf_repair.proofs.Usable.{one_after}

module _ (guid : List ℕ) (element position reference start : ℕ) where
  abbrev change : Change
  change = Begin guid element position reference start

  -- ---- positions

  later_positions : (blocks n : ℕ) (positions : List Position) → position < n → map (extent blocks) (map (λ pair. position_after change pair.0 pair.1) (enumerate_from n positions)) ≡ map (extent blocks) positions
  later_positions blocks n [] less = refl
  later_positions blocks n (one ∷ positions) less =
      ap (λ (b : Bool). extent blocks (if b then new_position reference start else one) ∷ map (extent blocks) (map (λ pair. position_after change pair.0 pair.1) (enumerate_from (n + 1) positions))) (less_test position n less)
      ∙ ap (λ rest. extent blocks one ∷ rest) (later_positions blocks (n + 1) positions (omega (arith, less)))

  positions_replaced : (blocks n : ℕ) (positions : List Position)
      → IsReplaced (extent blocks (new_position reference start)) (map (extent blocks) positions) (map (extent blocks) (map (λ pair. position_after change pair.0 pair.1) (enumerate_from n positions)))
  positions_replaced blocks n [] = same _ _ _ refl
  positions_replaced blocks n (one ∷ positions) = by (nat_eq position n) refl (positions_replaced blocks (n + 1) positions)
    where
      by : (b : Bool) → nat_eq position n ≡ b
          → IsReplaced (extent blocks (new_position reference start)) (map (extent blocks) positions) (map (extent blocks) (map (λ pair. position_after change pair.0 pair.1) (enumerate_from (n + 1) positions)))
          → IsReplaced (extent blocks (new_position reference start)) (extent blocks one ∷ map (extent blocks) positions)
          (extent blocks (if b then new_position reference start else one) ∷ map (extent blocks) (map (λ pair. position_after change pair.0 pair.1) (enumerate_from (n + 1) positions)))
      by true e rest =
          let number = eqb-true position n e in
          here (extent blocks (new_position reference start)) (extent blocks one) (map (extent blocks) positions)
          (map (extent blocks) (map (λ pair. position_after change pair.0 pair.1) (enumerate_from (n + 1) positions))) (later_positions blocks (n + 1) positions (omega (arith, number)))
      by false e rest =
          front (extent blocks (new_position reference start)) (extent blocks one ∷ []) (map (extent blocks) positions)
          (map (extent blocks) (map (λ pair. position_after change pair.0 pair.1) (enumerate_from (n + 1) positions))) rest

  -- ---- elements

  later_parts : (revertible : Bool) (n : ℕ) (parts : List (Option ElementValue)) → element < n → flat_map part_extents (map (part_after revertible change element) (enumerate_from n parts)) ≡ flat_map part_extents parts
  later_parts revertible n [] less = refl
  later_parts revertible n (part ∷ parts) less =
      ap (λ (b : Bool). part_extents (if b then option_map (element_after revertible change) part else part) ++ flat_map part_extents (map (part_after revertible change element) (enumerate_from (n + 1) parts))) (less_test element n less)
      ∙ ap (λ rest. part_extents part ++ rest) (later_parts revertible (n + 1) parts (omega (arith, less)))

  parts_replaced : (revertible : Bool) (blocks n : ℕ) (parts : List (Option ElementValue)) → ((k : ℕ) (plan : ElementValue) → element ≡ n + k → slice_get parts k ≡ Some (Some plan) → plan.blocks ≡ blocks)
      → IsReplaced (extent blocks (new_position reference start)) (flat_map part_extents parts) (flat_map part_extents (map (part_after revertible change element) (enumerate_from n parts)))
  parts_replaced revertible blocks n [] known = same _ _ _ refl
  parts_replaced revertible blocks n (part ∷ parts) known =
      by (nat_eq element n) refl
      (parts_replaced revertible blocks (n + 1) parts (λ k plan number at. known (suc k) plan (omega (arith, number)) at))
    where
      at_part : (one : Option ElementValue) → ((plan : ElementValue) → one ≡ Some plan → plan.blocks ≡ blocks)
          → IsReplaced (extent blocks (new_position reference start)) (part_extents one) (part_extents (option_map (element_after revertible change) one))
      at_part None same_blocks = same _ _ _ refl
      at_part (Some plan) same_blocks =
          subst (λ (count : ℕ). IsReplaced (extent count (new_position reference start)) (part_extents (Some plan)) (part_extents (option_map (element_after revertible change) (Some plan)))) (same_blocks plan refl)
          (positions_replaced plan.blocks 0 plan.positions)

      by : (b : Bool) → nat_eq element n ≡ b
          → IsReplaced (extent blocks (new_position reference start)) (flat_map part_extents parts) (flat_map part_extents (map (part_after revertible change element) (enumerate_from (n + 1) parts)))
          → IsReplaced (extent blocks (new_position reference start)) (part_extents part ++ flat_map part_extents parts)
          (part_extents (if b then option_map (element_after revertible change) part else part) ++ flat_map part_extents (map (part_after revertible change element) (enumerate_from (n + 1) parts)))
      by true e rest =
          let number = eqb-true element n e in
          behind (extent blocks (new_position reference start)) (flat_map part_extents parts) (flat_map part_extents (map (part_after revertible change element) (enumerate_from (n + 1) parts)))
          (part_extents part) (part_extents (option_map (element_after revertible change) part)) (later_parts revertible (n + 1) parts (omega (arith, number)))
          (at_part part (λ plan is. known 0 plan (omega (arith, number)) (ap (λ (one : Option ElementValue). Some one) is)))
      by false e rest =
          front (extent blocks (new_position reference start)) (part_extents part) (flat_map part_extents parts) (flat_map part_extents (map (part_after revertible change element) (enumerate_from (n + 1) parts))) rest

  known_blocks : (array : Array) (plan : ElementValue) → element_at array element ≡ Some plan → (k : ℕ) (other : ElementValue) → element ≡ 0 + k → slice_get array.elements k ≡ Some (Some other) → other.blocks ≡ plan.blocks
  known_blocks array plan known k other number at =
      let same_place : k ≡ element = omega (arith, number) in
      let there : element_at array element ≡ Some other =
      ap (λ (part : Option (Option ElementValue)). elim part [ None ↦ None | Some one ↦ one ]) (ap (λ (n : ℕ). slice_get array.elements n) (sym same_place) ∙ at) in
      let both : Some other ≡ Some plan = sym there ∙ known in
      let equal : other ≡ plan = cc in
      ap (λ (one : ElementValue). one.blocks) equal

  -- ---- the table

  pub array_replaced : (config : Configuration) (all : List Extent) (named : List ℕ) (array : Array) (plan : ElementValue) → element_at array element ≡ Some plan
      → IsReplaced (extent plan.blocks (new_position reference start)) (array_extents array) (array_extents (one_after config change all named array))
  array_replaced config all named array plan known = by (same_guid guid named)
    where
      by : (b : Bool) → IsReplaced (extent plan.blocks (new_position reference start)) (array_extents array) (array_extents (if b then named_after (takes_revertible config change) change array else array))
      by true = parts_replaced (takes_revertible config change) plan.blocks 0 array.elements (known_blocks array plan known)
      by false = same _ _ _ refl

  others_stay : (config : Configuration) (all : List Extent) (es : List (List ℕ × Array)) → AllByRecursion (λ named. same_guid guid named ≡ false) (keys_of es)
      → extents (changed_entries (λ g a. Some (one_after config change all g a)) es) ≡ extents es
  others_stay config all [] away = refl
  others_stay config all (e ∷ es) away =
      ap (λ (b : Bool). array_extents (if b then named_after (takes_revertible config change) change e.1 else e.1) ++ extents (changed_entries (λ g a. Some (one_after config change all g a)) es)) away.0
      ∙ ap (λ rest. array_extents e.1 ++ rest) (others_stay config all es away.1)

  pub all_replaced : (config : Configuration) (all : List Extent) (es : List (List ℕ × Array)) (array : Array) (plan : ElementValue) → IsDistinct same_guid (keys_of es) → lookup (same_guid guid) es ≡ Some array
      → element_at array element ≡ Some plan → IsReplaced (extent plan.blocks (new_position reference start)) (extents es) (extents (changed_entries (λ g a. Some (one_after config change all g a)) es))
  all_replaced config all [] array plan apart there known = absurd cc
  all_replaced config all (e ∷ es) array plan apart there known =
      by (same_guid guid e.0) refl there (λ found. all_replaced config all es array plan (IsDistinct-tail same_guid e.0 (keys_of es) apart) found known)
    where
      away : same_guid guid e.0 ≡ true → (names_of : List (List ℕ)) → AllByRecursion (λ y. same_guid e.0 y ≡ false) names_of → AllByRecursion (λ y. same_guid guid y ≡ false) names_of
      away is [] h = tt
      away is (y ∷ ys) h = (nat_list_eq_equiv.congr guid e.0 y is ∙ h.0, away is ys h.1)

      by : (b : Bool) → same_guid guid e.0 ≡ b → cond b (Some e.1) (lookup (same_guid guid) es) ≡ Some array
          → (lookup (same_guid guid) es ≡ Some array → IsReplaced (extent plan.blocks (new_position reference start)) (extents es) (extents (changed_entries (λ g a. Some (one_after config change all g a)) es)))
          → IsReplaced (extent plan.blocks (new_position reference start)) (array_extents e.1 ++ extents es)
          (array_extents (one_after config change all e.0 e.1) ++ extents (changed_entries (λ g a. Some (one_after config change all g a)) es))
      by true is found rest =
          let equal : e.1 ≡ array = cc in
          behind (extent plan.blocks (new_position reference start)) (extents es) (extents (changed_entries (λ g a. Some (one_after config change all g a)) es))
          (array_extents e.1) (array_extents (one_after config change all e.0 e.1)) (others_stay config all es (away is (keys_of es) (IsDistinct-head same_guid e.0 (keys_of es) apart)))
          (array_replaced config all e.0 e.1 plan (ap (λ (one : Array). element_at one element) equal ∙ known))
      by false is found rest =
          subst (λ (own : List Extent). IsReplaced (extent plan.blocks (new_position reference start)) (array_extents e.1 ++ extents es) (own ++ extents (changed_entries (λ g a. Some (one_after config change all g a)) es)))
          (ap (λ (b : Bool). array_extents (if b then named_after (takes_revertible config change) change e.1 else e.1)) (sym is))
          (front (extent plan.blocks (new_position reference start)) (array_extents e.1) (extents es) (extents (changed_entries (λ g a. Some (one_after config change all g a)) es)) (rest found))
