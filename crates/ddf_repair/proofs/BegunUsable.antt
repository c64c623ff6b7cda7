-- An array that can be used can be used once a rebuild has begun on a spare.
use Rattle.std.proofs.Common.{◌≡◌, ℕ, Bool, true, false, not, ◌&&◌, cond, List, [], ◌∷◌, Option, Some, None, refl, sym, ap, subst, ◌∙◌, if◌then◌else◌}
use Rattle.std.proofs.lemmas.Bool.{and_from, and_parts, not-false}
use Rattle.std.proofs.lemmas.Cmp.{nat_list_eq_equiv}
use Rattle.std.proofs.lemmas.List.Folds.{list_all-append}
use Rattle.std.specs.Map.{keys_of, lookup}
use Rattle.std.specs.List.{IsDistinct, list_all, list_any}
use Rattle.ddf_lemmas.proofs.Lists.{none_is, same_lookup}
use Rattle.ddf_config.specs.declared.array.Array.{Array}
use Rattle.ddf_config.specs.declared.extent.Extent.{Extent}
use Rattle.ddf_config.specs.declared.refusal.Refusal.{Refusal}
use Rattle.ddf_config.specs.declared.refusal.Refusal.TheVariants.{Shape, Lost}
use Rattle.ddf_config.specs.declared.seat.Seat.{Seat}
use Rattle.ddf_config.specs.Configuration.{Configuration}
use Rattle.ddf_config.specs.ElementValue.{ElementValue}
use Rattle.ddf_config.specs.Entries.{changed_entries}
use Rattle.ddf_config.specs.Extents.{array_extents, extent, extents}
use Rattle.ddf_config.specs.Levels.{unserved_level}
use Rattle.ddf_config.specs.Members.{same_guid}
use Rattle.ddf_config.specs.Refusals.{first_refusal, refuse_if}
use Rattle.ddf_config.specs.Served.{is_served, lies_well, meets_extent}
use Rattle.ddf_config.specs.Shapes.{has_shapes, has_tiers}
use Rattle.ddf_config.specs.States.{array_with_low}
use Rattle.ddf_config.specs.Unusable.{is_served_on, passes_floor, unusable}
use Rattle.ddf_config.specs.Within.{is_complete}
use Rattle.ddf_plan.specs.declared.change.Change.{Change}
use Rattle.ddf_plan.specs.declared.change.Change.TheVariants.{Begin}
use Rattle.ddf_plan.specs.Rebuild.{element_at, new_position}
use Rattle.ddf_plan.specs.Members.{members_after}
use Rattle.ddf_plan.specs.Standing.{takes_revertible}
use Rattle.ddf_plan.specs.Arrays.{array_after, arrays_after, kept_and_added, named_after}
use Rattle.ddf_plan.specs.Create.{lies_clear}
use Rattle.ddf_repair.proofs.Begins.{IsFresh, element_is, extent_is, found_free, placed}
use Rattle.ddf_repair.proofs.BegunExtents.{all_replaced, array_replaced}
use Rattle.ddf_repair.proofs.Numbers.{tiers_kept}
use Rattle.ddf_repair.proofs.Replaced.{IsReplaced, is_clear, replaced_all, same, still_lie}
use Rattle.ddf_repair.proofs.Usable.{all_lie_kept, both_changed, looked_up, one_after, one_numbers}

-- ---- tests

pub three_none : (a : Option Refusal) (b c : Bool) → first_refusal (a ∷ refuse_if b Shape ∷ refuse_if c Lost ∷ []) ≡ None → (a ≡ None) × (b ≡ false) × (c ≡ false)
three_none None false false h = (refl, refl, refl)
three_none None false true h = absurd cc
three_none None true c h = absurd cc
three_none (Some refusal) b c h = absurd cc

-- what holds of all extents holds of those of an array
pub of_one : (p : Extent → Bool) (test : List ℕ → Bool) (es : List (List ℕ × Array)) (array : Array) → list_all p (extents es) ≡ true → lookup test es ≡ Some array → list_all p (array_extents array) ≡ true
of_one p test [] array all there = absurd cc
of_one p test (e ∷ es) array all there =
    by (test e.0) there (and_parts (list_all p (array_extents e.1)) (list_all p (extents es)) (sym (list_all-append p (array_extents e.1) (extents es)) ∙ all)) (of_one p test es array)
  where
    by : (b : Bool) → cond b (Some e.1) (lookup test es) ≡ Some array → (list_all p (array_extents e.1) ≡ true) × (list_all p (extents es) ≡ true)
        → (list_all p (extents es) ≡ true → lookup test es ≡ Some array → list_all p (array_extents array) ≡ true) → list_all p (array_extents array) ≡ true
    by true found parts rest = let equal : e.1 ≡ array = cc in ap (λ (one : Array). list_all p (array_extents one)) (sym equal) ∙ parts.0
    by false found parts rest = rest parts.1 found

module _ (config : Configuration) (guid : List ℕ) (element position reference start : ℕ) (seats : List Seat) (named : Array) (plan : ElementValue)
    (is_named : lookup (same_guid guid) config.arrays ≡ Some named) (known : element_at named element ≡ Some plan) (apart : IsDistinct same_guid (keys_of config.arrays))
    (clear : lies_clear config.members (extents config.arrays) (extent plan.blocks (new_position reference start)) ≡ true)
    (below : passes_floor seats (extent plan.blocks (new_position reference start)) ≡ false) where
  abbrev change : Change
  change = Begin guid element position reference start

  abbrev found : Extent
  found = extent plan.blocks (new_position reference start)

  abbrev low_all : List Extent
  low_all = extents (kept_and_added config change)

  begun_table : arrays_after config change ≡ changed_entries (λ g a. Some (one_after config change low_all g a)) config.arrays
  begun_table = both_changed (λ g. array_with_low (members_after config change) low_all) (array_after (takes_revertible config change) (members_after config change) change) config.arrays

  all_is : IsReplaced found (extents config.arrays) (extents (arrays_after config change))
  all_is =
      subst (λ (table : List (List ℕ × Array)). IsReplaced found (extents config.arrays) (extents table)) (sym begun_table)
      (all_replaced guid element position reference start config low_all config.arrays named plan apart is_named known)

  own_is : (asked key : List ℕ) (array : Array) → lookup (same_guid asked) config.arrays ≡ Some array → same_guid asked key ≡ true → IsReplaced found (array_extents array) (array_extents (one_after config change low_all key array))
  own_is asked key array there is = by (same_guid guid key) refl
    where
      by : (b : Bool) → same_guid guid key ≡ b → IsReplaced found (array_extents array) (array_extents (one_after config change low_all key array))
      by true own =
          let agree = λ (z : List ℕ). nat_list_eq_equiv.congr asked key z is ∙ sym (nat_list_eq_equiv.congr guid key z own) in
          let both : Some array ≡ Some named = sym there ∙ same_lookup (same_guid asked) (same_guid guid) agree config.arrays ∙ is_named in
          let equal : array ≡ named = cc in
          array_replaced guid element position reference start config low_all key array plan (ap (λ (one : Array). element_at one element) equal ∙ known)
      by false other = same found (array_extents array) (array_extents (one_after config change low_all key array)) (ap (λ (b : Bool). array_extents (if b then named_after (takes_revertible config change) change array else array)) other)

  pub begun_usable : (asked : List ℕ) (array : Array) → lookup (same_guid asked) config.arrays ≡ Some array → unusable config.members seats (extents config.arrays) asked array ≡ None
      → (next : Array) × (lookup (same_guid asked) (arrays_after config change) ≡ Some next) × (unusable (members_after config change) seats (extents (arrays_after config change)) asked next ≡ None)
  begun_usable asked array there usable =
      let at = looked_up (one_after config change low_all) (same_guid asked) config.arrays array there in
      let next = one_after config change low_all at.0 array in
      let keeps = one_numbers config change low_all at.0 array in
      let before = three_none (unserved_level asked array) (not (is_served_on config.members seats (extents config.arrays) array)) (not (is_complete array)) usable in
      let served = and_parts (is_served config.members (extents config.arrays) array) (not (list_any (passes_floor seats) (array_extents array))) (not-false (is_served_on config.members seats (extents config.arrays) array) before.1) in
      let lying = and_parts (has_shapes array && has_tiers array) (list_all (lies_well config.members (extents config.arrays)) (array_extents array)) served.0 in
      let shaped = and_parts (has_shapes array) (has_tiers array) lying.0 in
      let free = is_clear config.members (extents config.arrays) found clear in
      let mine = own_is asked at.0 array there at.1 in
      let none = of_one (λ other. not (meets_extent found other)) (same_guid asked) config.arrays array free.none there in
      let lie = all_lie_kept config change (extents (arrays_after config change)) (array_extents next)
      ∙ still_lie config.members found (extents config.arrays) (extents (arrays_after config change)) all_is free (array_extents array) (array_extents next) mine none lying.1 in
      let floors = none_is (passes_floor seats) (array_extents next)
      ∙ replaced_all (λ one. not (passes_floor seats one)) found (array_extents array) (array_extents next) mine (sym (none_is (passes_floor seats) (array_extents array)) ∙ served.1) (ap not below) in
      let now : is_served_on (members_after config change) seats (extents (arrays_after config change)) next ≡ true =
      and_from (has_shapes next && has_tiers next && list_all (lies_well (members_after config change) (extents (arrays_after config change))) (array_extents next)) (not (list_any (passes_floor seats) (array_extents next)))
      (and_from (has_shapes next && has_tiers next) (list_all (lies_well (members_after config change) (extents (arrays_after config change))) (array_extents next))
      (and_from (has_shapes next) (has_tiers next) (keeps.shapes ∙ shaped.0) (tiers_kept array next keeps ∙ shaped.1)) lie) floors in (
        next,
        ap (lookup (same_guid asked)) begun_table ∙ at.2,
        ap (λ (level : Option Refusal). first_refusal (level ∷ refuse_if (not (is_served_on (members_after config change) seats (extents (arrays_after config change)) next)) Shape ∷ refuse_if (not (is_complete next)) Lost ∷ [])) (keeps.levels asked ∙ before.0)
            ∙ ap (λ (b : Bool). first_refusal (None ∷ refuse_if (not b) Shape ∷ refuse_if (not (is_complete next)) Lost ∷ [])) now
            ∙ ap (λ (b : Bool). first_refusal (None ∷ None ∷ refuse_if (not b) Lost ∷ [])) (keeps.complete ∙ not-false (is_complete array) before.2),
      )

-- the same of the change that `begin` gives
pub fresh_usable : (config : Configuration) (guid : List ℕ) (seats : List Seat) (aside : List ℕ) (one : Change) (fresh : IsFresh config guid seats aside one) → IsDistinct same_guid (keys_of config.arrays)
    → (asked : List ℕ) (array : Array) → lookup (same_guid asked) config.arrays ≡ Some array → unusable config.members seats (extents config.arrays) asked array ≡ None
    → (next : Array) × (lookup (same_guid asked) (arrays_after config one) ≡ Some next) × (unusable (members_after config one) seats (extents (arrays_after config one)) asked next ≡ None)
fresh_usable config guid seats aside one fresh apart asked array there usable =
    let element = fresh.out.target.element in
    let position = fresh.out.target.position in
    let reference = fresh.found.reference in
    let start = fresh.found.start in
    let plan = (placed config guid seats aside one fresh).plan in
    let known = element_is config guid seats aside one fresh in
    let free = found_free config guid seats aside one fresh in
    let same_extent : fresh.found ≡ extent plan.blocks (new_position reference start) = extent_is config guid seats aside one fresh element position reference start fresh.array plan (sym fresh.change_is) fresh.is_array known in
    subst
    (λ (it : Change). (next : Array) × (lookup (same_guid asked) (arrays_after config it) ≡ Some next) × (unusable (members_after config it) seats (extents (arrays_after config it)) asked next ≡ None))
    fresh.change_is
    (begun_usable config guid element position reference start seats fresh.array plan fresh.is_array known apart
    (ap (λ (it : Extent). lies_clear config.members (extents config.arrays) it) (sym same_extent) ∙ free.clear)
    (ap (λ (it : Extent). passes_floor seats it) (sym same_extent) ∙ free.below)
    asked array there usable)
