-- The array that a `Create` adds, as it stands in the table after it.
use Rattle.std.proofs.Common.{◌≡◌, ℕ, Bool, true, false, not, ◌||◌, List, [], ◌∷◌, ◌++◌, Option, Some, None, Ok, map, cond, is_some, length, option_map, refl, sym, ap, ◌∙◌}
use Rattle.std.specs.Map.{lookup}
use Rattle.std.specs.List.{list_all, flat_map}
use Rattle.std.proofs.lemmas.Bool.{cond-true}
use Rattle.std.proofs.lemmas.Cmp.{nat_list_eq_equiv}
use Rattle.std.proofs.lemmas.List.{map-append}
use Rattle.ddf_lemmas.proofs.Tests.{or_second}
use Rattle.ddf_config.specs.declared.member.Member.{Member}
use Rattle.ddf_config.specs.declared.element.Position.{Position}
use Rattle.ddf_config.specs.declared.array.Array.{Array}
use Rattle.ddf_config.specs.declared.extent.Extent.{Extent}
use Rattle.ddf_config.specs.declared.seat.Seat.{Seat}
use Rattle.ddf_config.specs.declared.refusal.Refusal.{Refusal}
use Rattle.ddf_config.specs.declared.refusal.Refusal.TheVariants.{NameTaken, Shape, Clash, InUse}
use Rattle.ddf_config.specs.Configuration.{Configuration}
use Rattle.ddf_config.specs.ElementValue.{ElementValue}
use Rattle.ddf_config.specs.Entries.{changed_entries}
use Rattle.ddf_config.specs.Extents.{extent, part_extents, array_extents, extents}
use Rattle.ddf_config.specs.Members.{same_guid}
use Rattle.ddf_config.specs.Levels.{unserved_level}
use Rattle.ddf_config.specs.Refusals.{refuse_if}
use Rattle.ddf_config.specs.Shapes.{has_shapes, has_tiers}
use Rattle.ddf_config.specs.States.{array_with_low}
use Rattle.ddf_config.proofs.Entries.{absent_changed}
use Rattle.ddf_config.proofs.Firsts.{all_pass}
use Rattle.ddf_plan.specs.declared.change.Change.TheVariants.{Create}
use Rattle.ddf_plan.specs.Refusals.{not_current, refuse_first, spent}
use Rattle.ddf_plan.specs.Create.{element_strip, laid_position, laid_element, created, lies_clear}
use Rattle.ddf_plan.specs.Floors.{extents_refusal}
use Rattle.ddf_plan.specs.CreateRefusal.{references, is_taken, names_twice, is_no_shape, is_spare_disk}
use Rattle.ddf_plan.specs.Members.{members_after}
use Rattle.ddf_plan.specs.Arrays.{kept_array, kept_and_added}
use Rattle.ddf_plan.specs.Causes.{refusal_of}
use Rattle.ddf_plan.specs.Changes.{after, changed}
use Rattle.ddf_plan.proofs.Afters.{is_changed, new_guid}
use Rattle.ddf_plan.proofs.Clear.{parts_are_clear}

-- the last entry is found where no other has its key
found_last : {K X : Type 0} (g : K → X → X) (test : K → Bool) (es : List (K × X)) (k : K) (x : X) → lookup test es ≡ None → test k ≡ true → lookup test (changed_entries (λ key value. Some (g key value)) (es ++ (k, x) ∷ [])) ≡ Some (g k x)
found_last g test [] k x none here = cond-true _ _ _ here
found_last {K} {X} g test (e ∷ es) k x none here = by (test e.0) (λ rest. found_last g test es k x rest here) none
  where
    by : (b : Bool) → (lookup test es ≡ None → lookup test (changed_entries (λ key value. Some (g key value)) (es ++ (k, x) ∷ [])) ≡ Some (g k x)) → cond b (Some e.1) (lookup test es) ≡ None → cond b (Some (g e.0 e.1)) (lookup test (changed_entries (λ key value. Some (g key value)) (es ++ (k, x) ∷ []))) ≡ Some (g k x)
    by true rest h = absurd (cc)
    by false rest h = rest h

pub not_refused : (holds : Bool) (refusal : Refusal) → refuse_if holds refusal ≡ None → holds ≡ false
not_refused true refusal h = absurd (cc)
not_refused false refusal h = refl

-- a position keeps its disk
module _ (members : List (ℕ × Member)) (all : List Extent) where
  positions_kept : (strip blocks : ℕ) (positions : List Position) → map (λ (one : Extent). one.reference) (map (extent blocks) (map (laid_position members all strip blocks) positions)) ≡ map (λ (one : Extent). one.reference) (map (extent blocks) positions)
  positions_kept strip blocks [] = refl
  positions_kept strip blocks (position ∷ positions) = ap (λ l. position.reference ∷ l) (positions_kept strip blocks positions)

  references_kept : (elements : ℕ) (parts : List (Option ElementValue)) → map (λ (one : Extent). one.reference) (flat_map part_extents (map (option_map (laid_element members all elements)) parts)) ≡ map (λ (one : Extent). one.reference) (flat_map part_extents parts)
  references_kept elements [] = refl
  references_kept elements (None ∷ parts) = references_kept elements parts
  references_kept elements (Some element ∷ parts) =
      map-append (λ (one : Extent). one.reference)
      (map (extent element.blocks) (map (laid_position members all (element_strip elements element) element.blocks) element.positions))
      (flat_map part_extents (map (option_map (laid_element members all elements)) parts))
      ∙ ap (λ l. l ++ map (λ (one : Extent). one.reference) (flat_map part_extents (map (option_map (laid_element members all elements)) parts)))
      (positions_kept (element_strip elements element) element.blocks element.positions)
      ∙ ap (λ l. map (λ (one : Extent). one.reference) (map (extent element.blocks) element.positions) ++ l) (references_kept elements parts)
      ∙ sym (map-append (λ (one : Extent). one.reference) (map (extent element.blocks) element.positions) (flat_map part_extents parts))

-- the array in the table is the created one with its low state
module _ (config next : Configuration) (guid : List ℕ) (array made : Array) (seats : List Seat) (e : after config (Create guid array) seats ≡ Ok next) (found : lookup (same_guid guid) next.arrays ≡ Some made) where
  abbrev low : Array → Array
  low = array_with_low (members_after config (Create guid array)) (extents (kept_and_added config (Create guid array)))

  in_table : lookup (same_guid guid) (changed config (Create guid array)).arrays ≡ Some (low (created config.members (extents config.arrays) array))
  in_table =
      found_last (λ key value. low value) (same_guid guid)
      (changed_entries (kept_array false (members_after config (Create guid array)) (Create guid array)) config.arrays) guid
      (created config.members (extents config.arrays) array)
      (absent_changed (kept_array false (members_after config (Create guid array)) (Create guid array)) (same_guid guid) config.arrays
      (new_guid config (Create guid array) seats (is_changed config next (Create guid array) seats e).0))
      (nat_list_eq_equiv.refl guid)

  pub is_created : made ≡ low (created config.members (extents config.arrays) array)
  is_created =
      let there = sym (ap (λ (to : Configuration). lookup (same_guid guid) to.arrays) (is_changed config next (Create guid array) seats e).1) ∙ in_table in
      cc

  no_refusal : refusal_of config (Create guid array) seats ≡ None
  no_refusal = (is_changed config next (Create guid array) seats e).0

  pub made_is_clear : list_all (lies_clear config.members (extents config.arrays)) (array_extents made) ≡ true
  unfolding extents_refusal
  made_is_clear =
      ap (λ (a : Array). list_all (lies_clear config.members (extents config.arrays)) (array_extents a)) is_created
      ∙ parts_are_clear config [] seats (length array.elements) array.elements
      (all_pass
      (not_current config seats (references array)
      ∷ refuse_if (is_taken config array.name) NameTaken
      ∷ unserved_level guid array
      ∷ refuse_if (is_no_shape array) Shape
      ∷ refuse_if (is_some (lookup (same_guid guid) config.arrays)) (Clash guid)
      ∷ refuse_first seats (is_spare_disk config) InUse (references array)
      ∷ [])
      (extents_refusal config (Create guid array) [] seats)
      (spent config.sequence 1 ∷ []) no_refusal)

  pub made_names_none_twice : names_twice (references made) ≡ false
  made_names_none_twice =
      ap (λ (a : Array). names_twice (references a)) is_created
      ∙ ap names_twice (references_kept config.members (extents config.arrays) (length array.elements) array.elements)
      ∙ or_second (not (has_shapes array) || not (has_tiers array)) (names_twice (references array))
      (not_refused (is_no_shape array) Shape
      (all_pass
      (not_current config seats (references array)
      ∷ refuse_if (is_taken config array.name) NameTaken
      ∷ unserved_level guid array
      ∷ [])
      (refuse_if (is_no_shape array) Shape)
      (refuse_if (is_some (lookup (same_guid guid) config.arrays)) (Clash guid)
      ∷ refuse_first seats (is_spare_disk config) InUse (references array)
      ∷ extents_refusal config (Create guid array) [] seats
      ∷ spent config.sequence 1
      ∷ [])
      no_refusal))
