-- What a disk is for that gives a place back: by the change of its position, and by the end of its array.
use Rattle.std.proofs.Common.{◌≡◌, ◌∙◌, ℕ, zero, suc, ◌<◌, Bool, true, false, not, ◌&&◌, ◌||◌, ◌==◌, cond, List, [], ◌∷◌, ◌++◌, nat_eq, Option, Some, None, refl, sym, ap, arith, eq-eqb}
use Rattle.std.proofs.lemmas.Bool.{and_from, and_parts, eqb-true, false≢true, not_from_true}
use Rattle.std.specs.Prelude.{option_map, slice_get}
use Rattle.std.specs.List.{IsDistinct, cons_option, list_any}
use Rattle.std.specs.Map.{keys_of, lookup}
use Rattle.std.proofs.Math.Bool.{and-false}
use Rattle.std.proofs.lemmas.Map.Keys.{any_passes_from_place}
use Rattle.ddf_lemmas.proofs.Lists.{any_place}
use Rattle.ddf_config.specs.declared.array.Array.{Array}
use Rattle.ddf_config.specs.declared.element.Position.{Position}
use Rattle.ddf_config.specs.declared.extent.Extent.{Extent}
use Rattle.ddf_config.specs.declared.member.Member.{Member}
use Rattle.ddf_config.specs.declared.member.SpareUse.{SpareUse}
use Rattle.ddf_config.specs.declared.member.SpareUse.TheVariants.{No, Global, Revertible, Dedicated}
use Rattle.ddf_config.specs.Configuration.{Configuration}
use Rattle.ddf_config.specs.ElementValue.{ElementValue}
use Rattle.ddf_config.specs.Entries.{changed_entries}
use Rattle.ddf_config.specs.Extents.{extent, extents}
use Rattle.ddf_config.specs.Members.{is_current, is_spare, same_guid}
use Rattle.ddf_config.specs.States.{all_with_low}
use Rattle.ddf_plan.specs.declared.change.Change.TheVariants.{Delete, Return}
use Rattle.ddf_plan.specs.Arrays.{arrays_after, kept_and_added, kept_array}
use Rattle.ddf_plan.specs.Changes.{changed_at}
use Rattle.ddf_plan.specs.Delete.{use_without}
use Rattle.ddf_plan.specs.Members.{members_after}
use Rattle.ddf_plan.specs.Rebuild.{element_at, part_reference, reference_at}
use Rattle.ddf_plan.specs.Spare.{array_refers, holds_extent, position_refers}
use Rattle.ddf_plan.specs.Standing.{given_back, gives_up, has_stand_in, holds_beside, holds_one, is_given_back, is_held_by, is_left_by, is_stand_in, is_used_beside, part_stands_in, stands_in}
use Rattle.ddf_availability.specs.GoneBack.{IsOnDisk, StandsInAt, as_revertible, as_spare_without}
use Rattle.ddf_availability.proofs.Counted.{is_on, left_alone, left_more, on_arrays}
use Rattle.ddf_availability.proofs.Moves.{moved_in, moved_position}
use Rattle.ddf_availability.proofs.Tables.{member_found}

-- ---- spares

-- a spare stays what it is, and so does a disk that gives nothing back
spare_stays : (gives : Bool) (use_as : SpareUse) → is_spare use_as ≡ true → given_back gives use_as ≡ use_as
spare_stays gives No is = absurd (false≢true is)
spare_stays gives Global is = refl
spare_stays gives Revertible is = refl
spare_stays gives (Dedicated guids) is = refl

none_given : (use_as : SpareUse) → given_back false use_as ≡ use_as
none_given No = refl
none_given Global = refl
none_given Revertible = refl
none_given (Dedicated guids) = refl

-- a member is current where it isn't missing
current_by : (config : Configuration) (reference : ℕ) (member : Member) → lookup (nat_eq reference) config.members ≡ Some member → is_current config.members reference ≡ not member.missing
current_by config reference member there = ap (λ (one : Option Member). elim one [ None ↦ false | Some it ↦ not it.missing ]) there

-- ---- a position on a disk

module _ (config : Configuration) (guid : List ℕ) (element position reference : ℕ) where
  pub held_by : IsOnDisk config guid element position reference → is_held_by config guid element position reference ≡ true
  held_by on =
      let element_is : element_at on.array element ≡ Some on.plan = ap (λ (part : Option (Option ElementValue)). elim part [ None ↦ None | Some one ↦ one ]) on.is_plan in
      let reference_is : reference_at config guid element position ≡ Some on.held.reference =
      ap (λ (found : Option Array). elim found [ None ↦ None | Some array ↦ part_reference position (element_at array element) ]) on.is_array
      ∙ ap (part_reference position) element_is ∙ ap (option_map (λ (held : Position). held.reference)) on.is_held in
      ap (λ (one : Option ℕ). elim one [ None ↦ false | Some held ↦ nat_eq held reference ]) reference_is ∙ eq-eqb on.held.reference reference on.is_there

  pub on_disk : is_held_by config guid element position reference ≡ true → IsOnDisk config guid element position reference
  on_disk h = by_array (lookup (same_guid guid) config.arrays) refl h
    where
      by_held : (array : Array) (plan : ElementValue) → lookup (same_guid guid) config.arrays ≡ Some array → slice_get array.elements element ≡ Some (Some plan)
          → (held : Option Position) → slice_get plan.positions position ≡ held
          → (elim (option_map (λ (one : Position). one.reference) held) [ None ↦ false | Some one ↦ nat_eq one reference ]) ≡ true → IsOnDisk config guid element position reference
      by_held array plan is_array is_plan None e h = absurd (false≢true h)
      by_held array plan is_array is_plan (Some held) e h = record {
        array = array;
        plan = plan;
        held = held;
        is_array = is_array;
        is_plan = is_plan;
        is_held = e;
        is_there = eqb-true held.reference reference h;
      }

      by_part : (array : Array) → lookup (same_guid guid) config.arrays ≡ Some array → (part : Option (Option ElementValue)) → slice_get array.elements element ≡ part
          → (elim (part_reference position (elim part [ None ↦ None | Some one ↦ one ])) [ None ↦ false | Some one ↦ nat_eq one reference ]) ≡ true → IsOnDisk config guid element position reference
      by_part array is_array None e h = absurd (false≢true h)
      by_part array is_array (Some None) e h = absurd (false≢true h)
      by_part array is_array (Some (Some plan)) e h = by_held array plan is_array e (slice_get plan.positions position) refl h

      by_array : (found : Option Array) → lookup (same_guid guid) config.arrays ≡ found
          → (elim (elim found as (λ (one : Option Array). Option ℕ) [ None ↦ None | Some array ↦ part_reference position (element_at array element) ]) [ None ↦ false | Some one ↦ nat_eq one reference ]) ≡ true → IsOnDisk config guid element position reference
      by_array None e h = absurd (false≢true h)
      by_array (Some array) e h = by_part array e (slice_get array.elements element) refl h

-- ---- it goes to another disk

module _ (config : Configuration) (guid : List ℕ) (element position disk start sequence reference : ℕ) (member : Member) (there : lookup (nat_eq reference) config.members ≡ Some member) where
  abbrev gives : Bool
  gives = is_given_back config guid element position disk reference

  after_is : lookup (nat_eq reference) (members_after config (Return guid element position disk start)) ≡ Some (record member { spare = given_back gives member.spare })
  after_is = member_found config (Return guid element position disk start) reference member there

  spare_is : (use_as : SpareUse) → given_back gives member.spare ≡ use_as → lookup (nat_eq reference) (members_after config (Return guid element position disk start)) ≡ Some (record member { spare = use_as })
  spare_is use_as same = after_is ∙ ap (λ (one : SpareUse). Some (record member { spare = one })) same

  not_given : gives ≡ false → lookup (nat_eq reference) (members_after config (Return guid element position disk start)) ≡ Some member
  not_given none = spare_is member.spare (ap (λ (b : Bool). given_back b member.spare) none ∙ none_given member.spare)

  pub spare_kept : is_spare member.spare ≡ true → lookup (nat_eq reference) (members_after config (Return guid element position disk start)) ≡ Some member
  spare_kept is = spare_is member.spare (spare_stays gives member.spare is)

  pub missing_kept : member.missing ≡ true → lookup (nat_eq reference) (members_after config (Return guid element position disk start)) ≡ Some member
  missing_kept is =
      not_given
      (ap (λ (b : Bool). b && is_held_by config guid element position reference && not (nat_eq disk reference) && holds_one config reference)
      (current_by config reference member there ∙ not_from_true member.missing is))

  pub other_kept : (IsOnDisk config guid element position reference → ⊥) → lookup (nat_eq reference) (members_after config (Return guid element position disk start)) ≡ Some member
  other_kept away = by (is_held_by config guid element position reference) refl
    where
      by : (b : Bool) → is_held_by config guid element position reference ≡ b → lookup (nat_eq reference) (members_after config (Return guid element position disk start)) ≡ Some member
      by true is = absurd (away (on_disk config guid element position reference is))
      by false is =
          not_given
          (ap (λ (b : Bool). is_current config.members reference && b && not (nat_eq disk reference) && holds_one config reference) is
          ∙ ap (λ (b : Bool). b && not (nat_eq disk reference) && holds_one config reference) (and-false (is_current config.members reference)))

  module _ (apart : IsDistinct same_guid (keys_of config.arrays)) where
    module _ (on : IsOnDisk config guid element position reference) where
      was_on : is_on reference (extent on.plan.blocks on.held) ≡ true
      was_on = eq-eqb on.held.reference reference on.is_there

      pub alone_then : holds_extent (changed_at config (Return guid element position disk start) sequence) reference ≡ false → (nat_eq disk reference ≡ false) × (holds_one config reference ≡ true)
      alone_then none =
          left_alone (is_on reference) (extent on.plan.blocks on.held) (extent on.plan.blocks (moved_position disk start)) (extents config.arrays) (extents (arrays_after config (Return guid element position disk start)))
          (moved_in guid element position disk start config on.array on.plan on.held apart on.is_array on.is_plan on.is_held) was_on
          (sym (on_arrays reference (arrays_after config (Return guid element position disk start))) ∙ none)

      more_then : holds_extent (changed_at config (Return guid element position disk start) sequence) reference ≡ true → nat_eq disk reference ≡ false → holds_one config reference ≡ false
      more_then some =
          left_more (is_on reference) (extent on.plan.blocks on.held) (extent on.plan.blocks (moved_position disk start)) (extents config.arrays) (extents (arrays_after config (Return guid element position disk start)))
          (moved_in guid element position disk start config on.array on.plan on.held apart on.is_array on.is_plan on.is_held) was_on
          (sym (on_arrays reference (arrays_after config (Return guid element position disk start))) ∙ some)

    pub given_again : member.missing ≡ false → member.spare ≡ No → IsOnDisk config guid element position reference → holds_extent (changed_at config (Return guid element position disk start) sequence) reference ≡ false
        → lookup (nat_eq reference) (members_after config (Return guid element position disk start)) ≡ Some (as_revertible member)
    given_again here no_spare on none =
        let alone = alone_then on none in
        let is : gives ≡ true =
        and_from (gives_up config guid element position disk reference) (holds_one config reference)
        (and_from (is_current config.members reference && is_held_by config guid element position reference) (not (nat_eq disk reference))
        (and_from (is_current config.members reference) (is_held_by config guid element position reference)
        (current_by config reference member there ∙ ap not here) (held_by config guid element position reference on))
        (ap not alone.0))
        alone.1 in
        spare_is Revertible (ap (λ (b : Bool). given_back b member.spare) is ∙ ap (given_back true) no_spare)

    pub more_kept : holds_extent (changed_at config (Return guid element position disk start) sequence) reference ≡ true → lookup (nat_eq reference) (members_after config (Return guid element position disk start)) ≡ Some member
    more_kept some = by (is_held_by config guid element position reference) (nat_eq disk reference) refl refl
      where
        by : (b c : Bool) → is_held_by config guid element position reference ≡ b → nat_eq disk reference ≡ c → lookup (nat_eq reference) (members_after config (Return guid element position disk start)) ≡ Some member
        by false c is same =
            not_given
            (ap (λ (b : Bool). is_current config.members reference && b && not (nat_eq disk reference) && holds_one config reference) is
            ∙ ap (λ (b : Bool). b && not (nat_eq disk reference) && holds_one config reference) (and-false (is_current config.members reference)))
        by true true is same =
            not_given
            (ap (λ (b : Bool). is_current config.members reference && is_held_by config guid element position reference && not b && holds_one config reference) same
            ∙ ap (λ (b : Bool). b && holds_one config reference) (and-false (is_current config.members reference && is_held_by config guid element position reference)))
        by true false is same =
            not_given
            (ap (λ (b : Bool). gives_up config guid element position disk reference && b) (more_then (on_disk config guid element position reference is) some same)
            ∙ and-false (gives_up config guid element position disk reference))

-- ---- its array is no more

module _ (config : Configuration) (guid : List ℕ) (reference : ℕ) where
  above_zero : (n : ℕ) → 0 < n → (n == 0) ≡ false
  above_zero n above = grind arith

  not_zero : (n : ℕ) → (n ≡ 0 → ⊥) → (n == 0) ≡ false
  not_zero zero other = absurd (other refl)
  not_zero (suc n) other = above_zero (suc n) (omega arith)

  some_disk : (n : ℕ) → not (n == 0) ≡ true → n ≡ 0 → ⊥
  some_disk zero is e = false≢true is
  some_disk (suc n) is e = absurd cc

  pub stands : StandsInAt config guid reference → stands_in config guid reference ≡ true
  stands at =
      let plan = at.on.plan in
      let there : list_any (position_refers plan.stand_in) plan.positions ≡ true =
      any_passes_from_place (position_refers plan.stand_in) plan.positions at.position at.on.held at.on.is_held (eq-eqb at.on.held.reference plan.stand_in (at.on.is_there ∙ sym at.is_stand_in)) in
      let some : not (plan.stand_in == 0) ≡ true = ap not (ap (λ (n : ℕ). n == 0) at.is_stand_in ∙ not_zero reference at.is_disk) in
      let is : is_stand_in reference plan ≡ true =
      and_from (nat_eq plan.stand_in reference) (has_stand_in plan) (eq-eqb plan.stand_in reference at.is_stand_in)
      (and_from (not (plan.stand_in == 0)) (list_any (position_refers plan.stand_in) plan.positions) some there) in
      ap (λ (found : Option Array). elim found [ None ↦ false | Some array ↦ list_any (part_stands_in reference) array.elements ]) at.on.is_array
      ∙ any_passes_from_place (part_stands_in reference) at.on.array.elements at.element (Some plan) at.on.is_plan is

  pub stands_at : stands_in config guid reference ≡ true → StandsInAt config guid reference
  stands_at h = by_array (lookup (same_guid guid) config.arrays) refl h
    where
      by_part : (array : Array) → lookup (same_guid guid) config.arrays ≡ Some array → (k : ℕ) (part : Option ElementValue) → slice_get array.elements k ≡ Some part → part_stands_in reference part ≡ true
          → StandsInAt config guid reference
      by_part array is_array k None at is = absurd (false≢true is)
      by_part array is_array k (Some plan) at is =
          let parts = and_parts (nat_eq plan.stand_in reference) (has_stand_in plan) is in
          let both = and_parts (not (plan.stand_in == 0)) (list_any (position_refers plan.stand_in) plan.positions) parts.1 in
          let held = any_place (position_refers plan.stand_in) plan.positions both.1 in
          let is_stand_in = eqb-true plan.stand_in reference parts.0 in
          record {
            element = k;
            position = held.0;
            on = record {
              array = array;
              plan = plan;
              held = held.1;
              is_array = is_array;
              is_plan = at;
              is_held = held.2;
              is_there = eqb-true held.1.reference plan.stand_in held.3 ∙ is_stand_in;
            };
            is_stand_in = is_stand_in;
            is_disk = λ none. some_disk plan.stand_in both.0 (is_stand_in ∙ none);
          }

      by_array : (found : Option Array) → lookup (same_guid guid) config.arrays ≡ found → (elim found [ None ↦ false | Some array ↦ list_any (part_stands_in reference) array.elements ]) ≡ true → StandsInAt config guid reference
      by_array None e h = absurd (false≢true h)
      by_array (Some array) e h = let at = any_place (part_stands_in reference) array.elements h in by_part array e at.0 at.1 at.2 at.3

  -- the arrays that are left are those beside it
  left_are : (members : List (ℕ × Member)) (all : List Extent) (es : List (List ℕ × Array))
      → list_any (λ (entry : List ℕ × Array). array_refers reference entry.1) (all_with_low members all (changed_entries (kept_array false members (Delete guid)) es ++ [])) ≡ list_any (is_used_beside guid reference) es
  left_are members all [] = refl
  left_are members all (e ∷ es) = by (same_guid guid e.0) (left_are members all es)
    where
      rest_of : List (List ℕ × Array)
      rest_of = changed_entries (kept_array false members (Delete guid)) es

      by : (b : Bool) → list_any (λ (entry : List ℕ × Array). array_refers reference entry.1) (all_with_low members all (rest_of ++ [])) ≡ list_any (is_used_beside guid reference) es
          → list_any (λ (entry : List ℕ × Array). array_refers reference entry.1)
          (all_with_low members all (cons_option (option_map (λ (value : Array). (e.0, value)) (cond {A = Option Array} b None (Some e.1))) rest_of ++ []))
          ≡ ((not b && array_refers reference e.1) || list_any (is_used_beside guid reference) es)
      by true rest = rest
      by false rest = ap (λ (b : Bool). array_refers reference e.1 || b) rest

  pub beside_is : (sequence : ℕ) → holds_extent (changed_at config (Delete guid) sequence) reference ≡ holds_beside config guid reference
  beside_is sequence = left_are (members_after config (Delete guid)) (extents (kept_and_added config (Delete guid))) config.arrays

  module _ (sequence : ℕ) (member : Member) (there : lookup (nat_eq reference) config.members ≡ Some member) where
    left_is : lookup (nat_eq reference) (members_after config (Delete guid)) ≡ Some (record member { spare = use_without guid (given_back (is_left_by config guid reference) member.spare) })
    left_is = member_found config (Delete guid) reference member there

    use_is : (use_as : SpareUse) → given_back (is_left_by config guid reference) member.spare ≡ use_as → lookup (nat_eq reference) (members_after config (Delete guid)) ≡ Some (record member { spare = use_without guid use_as })
    use_is use_as same = left_is ∙ ap (λ (one : SpareUse). Some (record member { spare = use_without guid one })) same

    not_left : is_left_by config guid reference ≡ false → lookup (nat_eq reference) (members_after config (Delete guid)) ≡ Some (as_spare_without guid member)
    not_left none = use_is member.spare (ap (λ (b : Bool). given_back b member.spare) none ∙ none_given member.spare)

    pub left_again : member.missing ≡ false → member.spare ≡ No → StandsInAt config guid reference → holds_extent (changed_at config (Delete guid) sequence) reference ≡ false
        → lookup (nat_eq reference) (members_after config (Delete guid)) ≡ Some (as_revertible member)
    left_again here no_spare at none =
        let is : is_left_by config guid reference ≡ true =
        and_from (is_current config.members reference && stands_in config guid reference) (not (holds_beside config guid reference))
        (and_from (is_current config.members reference) (stands_in config guid reference) (current_by config reference member there ∙ ap not here) (stands at))
        (ap not (sym (beside_is sequence) ∙ none)) in
        use_is Revertible (ap (λ (b : Bool). given_back b member.spare) is ∙ ap (given_back true) no_spare)

    pub left_missing : member.missing ≡ true → lookup (nat_eq reference) (members_after config (Delete guid)) ≡ Some (as_spare_without guid member)
    left_missing is =
        not_left
        (ap (λ (b : Bool). b && stands_in config guid reference && not (holds_beside config guid reference)) (current_by config reference member there ∙ not_from_true member.missing is))

    pub left_spare : is_spare member.spare ≡ true → lookup (nat_eq reference) (members_after config (Delete guid)) ≡ Some (as_spare_without guid member)
    left_spare is = use_is member.spare (spare_stays (is_left_by config guid reference) member.spare is)

    pub left_other : (StandsInAt config guid reference → ⊥) → lookup (nat_eq reference) (members_after config (Delete guid)) ≡ Some (as_spare_without guid member)
    left_other away = by (stands_in config guid reference) refl
      where
        by : (b : Bool) → stands_in config guid reference ≡ b → lookup (nat_eq reference) (members_after config (Delete guid)) ≡ Some (as_spare_without guid member)
        by true is = absurd (away (stands_at is))
        by false is =
            not_left
            (ap (λ (b : Bool). is_current config.members reference && b && not (holds_beside config guid reference)) is
            ∙ ap (λ (b : Bool). b && not (holds_beside config guid reference)) (and-false (is_current config.members reference)))

    pub left_more_there : holds_extent (changed_at config (Delete guid) sequence) reference ≡ true → lookup (nat_eq reference) (members_after config (Delete guid)) ≡ Some (as_spare_without guid member)
    left_more_there some =
        not_left
        (ap (λ (b : Bool). is_current config.members reference && stands_in config guid reference && not b) (sym (beside_is sequence) ∙ some)
        ∙ and-false (is_current config.members reference && stands_in config guid reference))
