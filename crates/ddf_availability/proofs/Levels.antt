-- An array of which a position goes from a disk that is here to another one is within its level where it was, and its state is the same.
use Rattle.std.proofs.Common.{◌≡◌, ◌∙◌, ℕ, ◌+◌, Bool, true, false, not, ◌&&◌, ◌==◌, List, map, nat_eq, nat_le, Option, Some, refl, sym, ap, subst, if◌then◌else◌, arith}
use Rattle.std.proofs.Math.Path.{fun_ext}
use Rattle.std.proofs.lemmas.Bool.{eqb-true}
use Rattle.std.proofs.lemmas.List.{length-map}
use Rattle.std.proofs.lemmas.List.FromFn.{length-enumerate_from}
use Rattle.std.specs.Prelude.{option_map, slice_get}
use Rattle.std.specs.List.{enumerate_from, list_any}
use Rattle.std.specs.Map.{lookup}
use Rattle.ddf_lemmas.proofs.Lists.{any_map, numbered_same}
use Rattle.ddf_primary.specs.Needs.{need_of}
use Rattle.ddf_config.specs.declared.array.Array.{Array}
use Rattle.ddf_config.specs.declared.element.Position.{Position}
use Rattle.ddf_config.specs.Configuration.{Configuration}
use Rattle.ddf_config.specs.ElementValue.{ElementValue}
use Rattle.ddf_config.specs.Members.{is_current, same_guid}
use Rattle.ddf_config.specs.States.{has_position_out, is_out, low_state}
use Rattle.ddf_config.specs.Within.{has_enough, has_enough_parts, is_available, is_mirrored, is_part_within, is_within}
use Rattle.ddf_config.proofs.Common.{enough_parts}
use Rattle.ddf_plan.specs.declared.change.Change.{Change}
use Rattle.ddf_plan.specs.declared.change.Change.TheVariants.{Return}
use Rattle.ddf_plan.specs.Arrays.{arrays_after, element_after, named_after, part_after}
use Rattle.ddf_plan.specs.Members.{members_after}
use Rattle.ddf_plan.specs.Rebuild.{returned}
use Rattle.ddf_repair.proofs.Usable.{looked_up}
use Rattle.ddf_array.proofs.Told.{enough_map}
use Rattle.ddf_availability.proofs.Moves.{made_in, moved_position, returned_is, table_is}
use Rattle.ddf_availability.proofs.Tables.{current_is}
use Rattle.ddf_availability.proofs.Usable.{one_array}

-- ---- lists of answers

any_same : {X : Type 0} (test : X → Bool) (xs ys : List X) → map test xs ≡ map test ys → list_any test xs ≡ list_any test ys
any_same test xs ys same = any_map test xs ∙ ap (list_any (λ b. b)) same ∙ sym (any_map test ys)

module _ (guid : List ℕ) (element position disk start : ℕ) where
  abbrev change : Change
  change = Return guid element position disk start

  -- ---- an element

  abbrev positions_after : List Position → List Position
  positions_after positions = map (λ pair. returned position disk start pair.0 pair.1) (enumerate_from 0 positions)

  positions_same : (test : Position → Bool) (positions : List Position) (held : Position) → slice_get positions position ≡ Some held → test (moved_position disk start) ≡ test held
      → map test (positions_after positions) ≡ map test positions
  positions_same test positions held is_held as_before = numbered_same test (λ pair. returned position disk start pair.0 pair.1) 0 positions one
    where
      one : (k : ℕ) (old : Position) → slice_get positions k ≡ Some old → test (returned position disk start (0 + k) old) ≡ test old
      one k old at = ap test (returned_is position disk start (0 + k) old) ∙ by (nat_eq position (0 + k)) refl
        where
          by : (b : Bool) → nat_eq position (0 + k) ≡ b → test (if b then moved_position disk start else old) ≡ test old
          by false e = refl
          by true e =
              let number : position ≡ k = (let same = eqb-true position (0 + k) e in omega (arith, same)) in
              let both : Some held ≡ Some old = sym is_held ∙ ap (slice_get positions) number ∙ at in
              let same : held ≡ old = cc in
              as_before ∙ ap test same

  plan_within : (available : Position → Bool) (plan : ElementValue) (held : Position) → slice_get plan.positions position ≡ Some held → available (moved_position disk start) ≡ available held
      → is_part_within available (Some (element_after false change plan)) ≡ is_part_within available (Some plan)
  plan_within available plan held is_held as_before =
      enough_map (need_of plan.level plan.qualifier) available (positions_after plan.positions)
      ∙ ap (has_enough (need_of plan.level plan.qualifier) (λ b. b)) (positions_same available plan.positions held is_held as_before)
      ∙ sym (enough_map (need_of plan.level plan.qualifier) available plan.positions)

  plan_out : (plan : ElementValue) (held : Position) → slice_get plan.positions position ≡ Some held → held.synced ≡ true
      → has_position_out (Some (element_after false change plan)) ≡ has_position_out (Some plan)
  plan_out plan held is_held synced = any_same is_out (positions_after plan.positions) plan.positions (positions_same is_out plan.positions held is_held (sym (ap not synced)))

  -- ---- an array

  abbrev parts_after : List (Option ElementValue) → List (Option ElementValue)
  parts_after parts = map (part_after false change element) (enumerate_from 0 parts)

  parts_same : (test : Option ElementValue → Bool) (parts : List (Option ElementValue)) (plan : ElementValue) → slice_get parts element ≡ Some (Some plan) → test (Some (element_after false change plan)) ≡ test (Some plan)
      → map test (parts_after parts) ≡ map test parts
  parts_same test parts plan is_plan as_before = numbered_same test (part_after false change element) 0 parts one
    where
      one : (k : ℕ) (part : Option ElementValue) → slice_get parts k ≡ Some part → test (part_after false change element (0 + k, part)) ≡ test part
      one k part at = by (nat_eq element (0 + k)) refl
        where
          by : (b : Bool) → nat_eq element (0 + k) ≡ b → test (if b then option_map (element_after false change) part else part) ≡ test part
          by false e = refl
          by true e =
              let number : element ≡ k = (let same = eqb-true element (0 + k) e in omega (arith, same)) in
              let both : Some (Some plan) ≡ Some part = sym is_plan ∙ ap (slice_get parts) number ∙ at in
              let same : Some plan ≡ part = cc in
              subst (λ (it : Option ElementValue). test (option_map (element_after false change) it) ≡ test it) same as_before

  named_within : (available : Position → Bool) (array : Array) (plan : ElementValue) (held : Position) → slice_get array.elements element ≡ Some (Some plan) → slice_get plan.positions position ≡ Some held
      → available (moved_position disk start) ≡ available held → is_within available (named_after false change array) ≡ is_within available array
  named_within available array plan held is_plan is_held as_before =
      ap (λ (n : ℕ). has_enough_parts (array.secondary == 0x01 && nat_le 2 n) (is_part_within available) (parts_after array.elements))
      (length-map (enumerate_from 0 array.elements) (part_after false change element) ∙ length-enumerate_from 0 array.elements)
      ∙ enough_parts (is_mirrored array) (is_part_within available) (parts_after array.elements) array.elements
      (parts_same (is_part_within available) array.elements plan is_plan (plan_within available plan held is_held as_before))

  named_out : (array : Array) (plan : ElementValue) (held : Position) → slice_get array.elements element ≡ Some (Some plan) → slice_get plan.positions position ≡ Some held → held.synced ≡ true
      → list_any has_position_out (named_after false change array).elements ≡ list_any has_position_out array.elements
  named_out array plan held is_plan is_held synced =
      any_same has_position_out (parts_after array.elements) array.elements (parts_same has_position_out array.elements plan is_plan (plan_out plan held is_held synced))

  -- ---- all arrays

  module _ (config : Configuration) (named : Array) (plan : ElementValue) (held : Position) (is_named : lookup (same_guid guid) config.arrays ≡ Some named)
      (is_plan : slice_get named.elements element ≡ Some (Some plan)) (is_held : slice_get plan.positions position ≡ Some held) (synced : held.synced ≡ true) where
    abbrev made : List ℕ → Array → Array
    made = made_in guid element position disk start config

    -- It is within its level where it was, as long as the position that goes to another disk is as available behind that, and as many of its positions are out of sync.
    record KeepsLevel (available : Position → Bool) (array next : Array) : Type 0 where
      pub within : is_within available next ≡ is_within available array
      pub out : list_any has_position_out next.elements ≡ list_any has_position_out array.elements

    level_by : (available : Position → Bool) → available (moved_position disk start) ≡ available held → (asked key : List ℕ) (array : Array) → lookup (same_guid asked) config.arrays ≡ Some array → same_guid asked key ≡ true
        → KeepsLevel available array (made key array)
    level_by available as_before asked key array there is = by (same_guid guid key) refl
      where
        by : (b : Bool) → same_guid guid key ≡ b → KeepsLevel available array (made key array)
        by false other = record {
          within = ap (λ (b : Bool). is_within available (if b then named_after false change array else array)) other;
          out = ap (λ (b : Bool). list_any has_position_out (if b then named_after false change array else array).elements) other;
        }
        by true own =
            let equal = one_array guid asked key config.arrays named array is_named there is own in
            let known : slice_get array.elements element ≡ Some (Some plan) = ap (λ (one : Array). slice_get one.elements element) (sym equal) ∙ is_plan in
            record {
              within =
                  ap (λ (b : Bool). is_within available (if b then named_after false change array else array)) own
                  ∙ named_within available array plan held known is_held as_before;
              out =
                  ap (λ (b : Bool). list_any has_position_out (if b then named_after false change array else array).elements) own
                  ∙ named_out array plan held known is_held synced;
            }

    pub within_kept : (available : Position → Bool) → available (moved_position disk start) ≡ available held → (asked : List ℕ) (array : Array) → lookup (same_guid asked) config.arrays ≡ Some array
        → (next : Array) × (lookup (same_guid asked) (arrays_after config (Return guid element position disk start)) ≡ Some next) × (is_within available next ≡ is_within available array)
    within_kept available as_before asked array there =
        let at = looked_up made (same_guid asked) config.arrays array there in
        (made at.0 array, ap (lookup (same_guid asked)) (table_is guid element position disk start config) ∙ at.2, (level_by available as_before asked at.0 array there at.1).within)

    available_is : is_available (members_after config change) ≡ is_available config.members
    available_is = fun_ext (λ (one : Position). ap (λ (b : Bool). one.synced && b) (current_is config guid element position disk start one.reference))

    -- The state that is recorded of it is the same, where the disk from which the position goes and the one to which it goes are current members.
    pub state_kept : is_current config.members held.reference ≡ true → is_current config.members disk ≡ true → (asked : List ℕ) (array : Array) → lookup (same_guid asked) config.arrays ≡ Some array
        → (next : Array) × (lookup (same_guid asked) (arrays_after config (Return guid element position disk start)) ≡ Some next)
        × (low_state (members_after config (Return guid element position disk start)) next ≡ low_state config.members array)
    state_kept from_current to_current asked array there =
        let at = looked_up made (same_guid asked) config.arrays array there in
        let next = made at.0 array in
        let as_before : is_available config.members (moved_position disk start) ≡ is_available config.members held =
        to_current ∙ sym (ap (λ (b : Bool). b && is_current config.members held.reference) synced ∙ from_current) in
        let keeps = level_by (is_available config.members) as_before asked at.0 array there at.1 in (
          next,
          ap (lookup (same_guid asked)) (table_is guid element position disk start config) ∙ at.2,
          ap (λ (available : Position → Bool). if not (is_within available next) then 4 else (if list_any has_position_out next.elements then 1 else 0)) available_is
              ∙ ap (λ (b : Bool). if not b then 4 else (if list_any has_position_out next.elements then 1 else 0)) keeps.within
              ∙ ap (λ (b : Bool). if not (is_within (is_available config.members) array) then 4 else (if b then 1 else 0)) keeps.out,
        )
