-- The word of an array that was created.
use Rattle.std.proofs.Common.{◌≡◌, ◌∙◌, ℕ, Bool, true, false, List, [], ◌∷◌, ◌++◌, Option, Some, None, Ok, cond, find, is_some, option_map, refl, sym, ap}
use Rattle.std.specs.Map.{lookup}
use Rattle.std.specs.List.{list_any}
use Rattle.std.specs.Option.{option_and_then}
use Rattle.std.proofs.lemmas.Bool.{cond-true, cond-false, or_parts, or_from}
use Rattle.std.proofs.lemmas.Cmp.{nat_list_eq_equiv}
use Rattle.std.proofs.lemmas.Slice.Eq.{bytes_eq-Decides}
use Rattle.ddf_config.specs.declared.member.Member.{Member}
use Rattle.ddf_config.specs.declared.array.Array.{Array}
use Rattle.ddf_config.specs.declared.extent.Extent.{Extent}
use Rattle.ddf_config.specs.declared.seat.Seat.{Seat}
use Rattle.ddf_config.specs.declared.refusal.Refusal.{Refusal}
use Rattle.ddf_config.specs.declared.refusal.Refusal.TheVariants.{Clash, InUse, NameTaken, Shape}
use Rattle.ddf_config.specs.Configuration.{Configuration}
use Rattle.ddf_config.specs.Entries.{changed_entries}
use Rattle.ddf_config.specs.Extents.{extents}
use Rattle.ddf_config.specs.Levels.{unserved_level}
use Rattle.ddf_config.specs.Members.{same_guid}
use Rattle.ddf_config.specs.Refusals.{refuse_if}
use Rattle.ddf_config.specs.States.{all_with_low, array_with_low}
use Rattle.ddf_config.proofs.Firsts.{all_pass}
use Rattle.ddf_name.specs.Names.{is_place_name, name_text}
use Rattle.ddf_plan.specs.declared.change.Change.TheVariants.{Create}
use Rattle.ddf_plan.specs.Arrays.{kept_and_added, kept_array}
use Rattle.ddf_plan.specs.Changes.{after}
use Rattle.ddf_plan.specs.Create.{created}
use Rattle.ddf_plan.specs.CreateRefusal.{has_named, is_taken, is_no_shape, is_spare_disk, references}
use Rattle.ddf_plan.specs.Floors.{extents_refusal}
use Rattle.ddf_plan.specs.Members.{members_after}
use Rattle.ddf_plan.specs.Refusals.{not_current, refuse_first, spent}
use Rattle.ddf_plan.proofs.Afters.{is_changed}
use Rattle.ddf_request.specs.Named.{has_printed_name, named_array, named_guid, printed_or_placed, with_array}

abbrev Entry : Type 0
Entry = List ℕ × Array

-- ---- the last array of a table is named where no other has its word

-- what a new array leaves of the others
module _ (members : List (ℕ × Member)) (guid : List ℕ) (array : Array) (word : List ℕ) where
  none_kept : (entries : List Entry) → list_any (has_printed_name word) entries ≡ false
      → list_any (has_printed_name word) (changed_entries (kept_array false members (Create guid array)) entries) ≡ false
  none_kept [] none = refl
  none_kept (entry ∷ entries) none =
      let parts = or_parts (has_printed_name word entry) (list_any (has_printed_name word) entries) none in
      or_from _ _ parts.0 (none_kept entries parts.1)

-- low states keep names
module _ (members : List (ℕ × Member)) (all : List Extent) where
  found_last : (word : List ℕ) (entries : List Entry) (guid : List ℕ) (array : Array) → list_any (has_printed_name word) entries ≡ false
      → has_printed_name word (guid, array) ≡ true
      → find (has_printed_name word) (all_with_low members all (entries ++ (guid, array) ∷ [])) ≡ Some (guid, array_with_low members all array)
  found_last word [] guid array none here = cond-true _ _ _ here
  found_last word (entry ∷ entries) guid array none here =
      let parts = or_parts (has_printed_name word entry) (list_any (has_printed_name word) entries) none in
      cond-false _ _ _ parts.0 ∙ found_last word entries guid array parts.1 here

  -- and the array is there
  is_there : (guid : List ℕ) (entries : List Entry) (array : Array) → is_some (lookup (same_guid guid) (all_with_low members all (entries ++ (guid, array) ∷ []))) ≡ true
  is_there guid [] array = ap is_some (cond-true _ _ _ (nat_list_eq_equiv.refl guid))
  is_there guid (entry ∷ entries) array = by (same_guid guid entry.0) (lookup (same_guid guid) (all_with_low members all (entries ++ (guid, array) ∷ []))) (is_there guid entries array)
    where
      by : (here : Bool) (others : Option Array) → is_some others ≡ true → is_some (cond here (Some (array_with_low members all entry.1)) others) ≡ true
      by true others later = refl
      by false others later = later

-- ---- behind its creation

module _ (config next : Configuration) (guid : List ℕ) (array : Array) (seats : List Seat) (e : after config (Create guid array) seats ≡ Ok next) where
  abbrev made : Array
  made = created config.members (extents config.arrays) array

  abbrev others : List Entry
  others = changed_entries (kept_array false (members_after config (Create guid array)) (Create guid array)) config.arrays

  -- the arrays behind it
  arrays_are : all_with_low (members_after config (Create guid array)) (extents (kept_and_added config (Create guid array))) (others ++ (guid, made) ∷ []) ≡ next.arrays
  arrays_are = ap (λ (to : Configuration). to.arrays) (is_changed config next (Create guid array) seats e).1

  not_refused : (holds : Bool) (refusal : Refusal) → refuse_if holds refusal ≡ None → holds ≡ false
  not_refused true refusal h = absurd (cc)
  not_refused false refusal h = refl

  is_new_name : has_named config array.name ≡ false
  is_new_name =
      (or_parts (is_place_name array.name) (has_named config array.name)
      (not_refused (is_taken config array.name) NameTaken
      (all_pass (not_current config seats (references array) ∷ []) (refuse_if (is_taken config array.name) NameTaken)
      (unserved_level guid array
      ∷ refuse_if (is_no_shape array) Shape
      ∷ refuse_if (is_some (lookup (same_guid guid) config.arrays)) (Clash guid)
      ∷ refuse_first seats (is_spare_disk config) InUse (references array)
      ∷ extents_refusal config (Create guid array) [] seats
      ∷ spent config.sequence 1
      ∷ [])
      (is_changed config next (Create guid array) seats e).0))).1

  -- its printed name is a word for it
  pub is_named : named_guid next.arrays (name_text array.name) ≡ Some guid
  is_named =
      let word = name_text array.name in
      let members = members_after config (Create guid array) in
      let found = found_last members (extents (kept_and_added config (Create guid array))) word others guid made (none_kept members guid array word config.arrays is_new_name)
      ((bytes_eq-Decides word word).1 refl) in
      ap (λ (arrays : List Entry). named_guid arrays word) (sym arrays_are)
      ∙ ap (λ (one : Option Entry). printed_or_placed (all_with_low members (extents (kept_and_added config (Create guid array))) (others ++ (guid, made) ∷ [])) word (option_map (λ (entry : Entry). entry.0) one)) found

  one_named : (array : Option Array) → is_some array ≡ true → option_map (λ (entry : Entry). entry.0) (option_map (λ (one : Array). (guid, one)) array) ≡ Some guid
  one_named None there = absurd (cc)
  one_named (Some one) there = refl

  -- the array that it names is there
  pub names_it : option_map (λ (entry : Entry). entry.0) (named_array next.arrays (name_text array.name)) ≡ Some guid
  names_it =
      let members = members_after config (Create guid array) in
      ap (λ (one : Option (List ℕ)). option_map (λ (entry : Entry). entry.0) (option_and_then (with_array next.arrays) one)) is_named
      ∙ one_named (lookup (same_guid guid) next.arrays)
      (ap (λ (arrays : List Entry). is_some (lookup (same_guid guid) arrays)) (sym arrays_are) ∙ is_there members (extents (kept_and_added config (Create guid array))) guid others made)
