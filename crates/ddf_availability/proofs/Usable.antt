-- An array that can be used can be used once a position has gone to another disk.
use Rattle.std.proofs.Common.{◌≡◌, ◌∙◌, ℕ, Bool, true, false, not, ◌&&◌, List, [], ◌∷◌, Option, Some, None, refl, sym, ap}
use Rattle.std.proofs.lemmas.Bool.{and_from, and_parts, not-false}
use Rattle.std.proofs.lemmas.Cmp.{nat_list_eq_equiv}
use Rattle.std.specs.Prelude.{slice_get}
use Rattle.std.specs.Map.{keys_of, lookup}
use Rattle.std.specs.List.{IsDistinct, list_all, list_any}
use Rattle.ddf_lemmas.proofs.Lists.{none_is, same_lookup}
use Rattle.ddf_config.specs.declared.array.Array.{Array}
use Rattle.ddf_config.specs.declared.element.Position.{Position}
use Rattle.ddf_config.specs.declared.extent.Extent.{Extent}
use Rattle.ddf_config.specs.declared.refusal.Refusal.{Refusal}
use Rattle.ddf_config.specs.declared.refusal.Refusal.TheVariants.{Shape, Lost}
use Rattle.ddf_config.specs.declared.seat.Seat.{Seat}
use Rattle.ddf_config.specs.Configuration.{Configuration}
use Rattle.ddf_config.specs.ElementValue.{ElementValue}
use Rattle.ddf_config.specs.Extents.{array_extents, extent, extents}
use Rattle.ddf_config.specs.Levels.{unserved_level}
use Rattle.ddf_config.specs.Members.{same_guid}
use Rattle.ddf_config.specs.Refusals.{first_refusal, refuse_if}
use Rattle.ddf_config.specs.Served.{is_served, lies_well, meets_extent}
use Rattle.ddf_config.specs.Shapes.{has_shapes, has_tiers}
use Rattle.ddf_config.specs.Unusable.{is_served_on, passes_floor, unusable}
use Rattle.ddf_config.specs.Within.{is_complete}
use Rattle.ddf_plan.specs.declared.change.Change.{Change}
use Rattle.ddf_plan.specs.declared.change.Change.TheVariants.{Return}
use Rattle.ddf_plan.specs.Arrays.{arrays_after, kept_and_added}
use Rattle.ddf_plan.specs.Create.{lies_clear}
use Rattle.ddf_plan.specs.Members.{members_after}
use Rattle.ddf_repair.proofs.Numbers.{tiers_kept}
use Rattle.ddf_repair.proofs.Replaced.{IsReplaced, is_clear, replaced_all, same, still_lie}
use Rattle.ddf_repair.proofs.Usable.{all_lie_kept, looked_up, one_numbers}
use Rattle.ddf_repair.proofs.BegunUsable.{of_one, three_none}
use Rattle.ddf_availability.proofs.Moves.{array_moved, array_stays, made_in, moved_in, moved_position, replaced, table_is}

-- ---- tests

-- an array that is found of a GUID is the one that a GUID of the same bytes names
pub one_array : (guid asked key : List ℕ) (es : List (List ℕ × Array)) (named array : Array) → lookup (same_guid guid) es ≡ Some named → lookup (same_guid asked) es ≡ Some array → same_guid asked key ≡ true → same_guid guid key ≡ true
    → named ≡ array
one_array guid asked key es named array is_named there is own =
    let agree = λ (z : List ℕ). nat_list_eq_equiv.congr asked key z is ∙ sym (nat_list_eq_equiv.congr guid key z own) in
    let both : Some array ≡ Some named = sym there ∙ same_lookup (same_guid asked) (same_guid guid) agree es ∙ is_named in
    cc

module _ (config : Configuration) (guid : List ℕ) (element position disk start : ℕ) (seats : List Seat) (named : Array) (plan : ElementValue) (held : Position)
    (is_named : lookup (same_guid guid) config.arrays ≡ Some named) (known : slice_get named.elements element ≡ Some (Some plan)) (is_held : slice_get plan.positions position ≡ Some held)
    (apart : IsDistinct same_guid (keys_of config.arrays))
    (clear : lies_clear config.members (extents config.arrays) (extent plan.blocks (moved_position disk start)) ≡ true)
    (below : passes_floor seats (extent plan.blocks (moved_position disk start)) ≡ false) where
  abbrev change : Change
  change = Return guid element position disk start

  abbrev found : Extent
  found = extent plan.blocks (moved_position disk start)

  abbrev made : List ℕ → Array → Array
  made = made_in guid element position disk start config

  all_is : IsReplaced found (extents config.arrays) (extents (arrays_after config change))
  all_is = replaced (extent plan.blocks held) found (extents config.arrays) (extents (arrays_after config change)) (moved_in guid element position disk start config named plan held apart is_named known is_held)

  own_is : (asked key : List ℕ) (array : Array) → lookup (same_guid asked) config.arrays ≡ Some array → same_guid asked key ≡ true → IsReplaced found (array_extents array) (array_extents (made key array))
  own_is asked key array there is = by (same_guid guid key) refl
    where
      by : (b : Bool) → same_guid guid key ≡ b → IsReplaced found (array_extents array) (array_extents (made key array))
      by true own =
          let equal = one_array guid asked key config.arrays named array is_named there is own in
          replaced (extent plan.blocks held) found (array_extents array) (array_extents (made key array))
          (array_moved guid element position disk start config (extents (kept_and_added config change)) key array plan held own (ap (λ (one : Array). slice_get one.elements element) (sym equal) ∙ known) is_held)
      by false other = same found (array_extents array) (array_extents (made key array)) (array_stays guid element position disk start config (extents (kept_and_added config change)) key array other)

  pub still_usable : (asked : List ℕ) (array : Array) → lookup (same_guid asked) config.arrays ≡ Some array → unusable config.members seats (extents config.arrays) asked array ≡ None
      → (next : Array) × (lookup (same_guid asked) (arrays_after config (Return guid element position disk start)) ≡ Some next)
      × (unusable (members_after config (Return guid element position disk start)) seats (extents (arrays_after config (Return guid element position disk start))) asked next ≡ None)
  still_usable asked array there usable =
      let at = looked_up made (same_guid asked) config.arrays array there in
      let next = made at.0 array in
      let keeps = one_numbers config change (extents (kept_and_added config change)) at.0 array in
      let before = three_none (unserved_level asked array) (not (is_served_on config.members seats (extents config.arrays) array)) (not (is_complete array)) usable in
      let served = and_parts (is_served config.members (extents config.arrays) array) (not (list_any (passes_floor seats) (array_extents array))) (not-false (is_served_on config.members seats (extents config.arrays) array) before.1) in
      let lying = and_parts (has_shapes array && has_tiers array) (list_all (lies_well config.members (extents config.arrays)) (array_extents array)) served.0 in
      let shaped = and_parts (has_shapes array) (has_tiers array) lying.0 in
      let free = is_clear config.members (extents config.arrays) found clear in
      let mine = own_is asked at.0 array there at.1 in
      let none = of_one (λ other. not (meets_extent found other)) (same_guid asked) config.arrays array free.none there in
      let lie = all_lie_kept config change (extents (arrays_after config change)) (array_extents next)
      ∙ still_lie config.members found (extents config.arrays) (extents (arrays_after config change)) all_is free (array_extents array) (array_extents next) mine none lying.1 in
      let floors = none_is (passes_floor seats) (array_extents next)
      ∙ replaced_all (λ one. not (passes_floor seats one)) found (array_extents array) (array_extents next) mine (sym (none_is (passes_floor seats) (array_extents array)) ∙ served.1) (ap not below) in
      let now : is_served_on (members_after config change) seats (extents (arrays_after config change)) next ≡ true =
      and_from (has_shapes next && has_tiers next && list_all (lies_well (members_after config change) (extents (arrays_after config change))) (array_extents next)) (not (list_any (passes_floor seats) (array_extents next)))
      (and_from (has_shapes next && has_tiers next) (list_all (lies_well (members_after config change) (extents (arrays_after config change))) (array_extents next))
      (and_from (has_shapes next) (has_tiers next) (keeps.shapes ∙ shaped.0) (tiers_kept array next keeps ∙ shaped.1)) lie) floors in (
        next,
        ap (lookup (same_guid asked)) (table_is guid element position disk start config) ∙ at.2,
        ap (λ (level : Option Refusal). first_refusal (level ∷ refuse_if (not (is_served_on (members_after config change) seats (extents (arrays_after config change)) next)) Shape ∷ refuse_if (not (is_complete next)) Lost ∷ [])) (keeps.levels asked ∙ before.0)
            ∙ ap (λ (b : Bool). first_refusal (None ∷ refuse_if (not b) Shape ∷ refuse_if (not (is_complete next)) Lost ∷ [])) now
            ∙ ap (λ (b : Bool). first_refusal (None ∷ None ∷ refuse_if (not b) Lost ∷ [])) (keeps.complete ∙ not-false (is_complete array) before.2),
      )
