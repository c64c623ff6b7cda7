-- An array whose position gets a spare: it is within its level where it was, and the rows of the position are as many.
use Rattle.std.proofs.Common.{◌≡◌, ◌∙◌, ℕ, ◌+◌, Bool, true, false, ◌&&◌, ◌==◌, List, length, map, nat_eq, nat_le, Option, Some, Ok, refl, sym, ap, subst, arith, if◌then◌else◌}
use Rattle.std.proofs.lemmas.Bool.{eqb-true}
use Rattle.std.proofs.lemmas.List.{length-map}
use Rattle.std.proofs.lemmas.List.FromFn.{length-enumerate_from}
use Rattle.std.specs.Prelude.{is_some, option_map, slice_get}
use Rattle.std.specs.List.{enumerate_from}
use Rattle.ddf_lemmas.proofs.Lists.{numbered_same}
use Rattle.ddf_primary.specs.Needs.{need_of}
use Rattle.ddf_config.specs.declared.element.Position.{Position}
use Rattle.ddf_config.specs.declared.seat.Seat.{Seat}
use Rattle.ddf_config.specs.Configuration.{Configuration}
use Rattle.ddf_config.specs.ElementValue.{ElementValue}
use Rattle.ddf_config.specs.Seats.{floor_of}
use Rattle.ddf_config.specs.Shapes.{element_shape}
use Rattle.ddf_config.specs.Within.{has_enough, has_enough_parts, is_mirrored, is_part_within}
use Rattle.ddf_config.proofs.Common.{enough_parts}
use Rattle.ddf_plan.specs.declared.change.Change.{Change}
use Rattle.ddf_plan.specs.declared.change.Change.TheVariants.{Begin}
use Rattle.ddf_plan.specs.Standing.{takes_revertible}
use Rattle.ddf_plan.specs.Arrays.{element_after, part_after}
use Rattle.ddf_plan.specs.Changes.{changed_at}
use Rattle.ddf_plan.specs.Rebuild.{begun, new_position}
use Rattle.ddf_array.specs.declared.part.Part.{Part}
use Rattle.ddf_array.specs.Viewing.{is_array_within, is_seated, view_of}
use Rattle.ddf_array.specs.Volume.{Volume}
use Rattle.ddf_array.specs.Within.{is_within}
use Rattle.ddf_array.proofs.Told.{told_within}
use Rattle.ddf_array.proofs.Viewed.{from_view}
use Rattle.ddf_rebuild.specs.Target.{row_count}
use Rattle.ddf_rebuild_command.specs.Asked.{rows_in}
use Rattle.ddf_rebuild_command.proofs.Positions.{IsHeld, array_after_is, begins, element_there, shape_after}
use Rattle.ddf_rebuild_command.proofs.Steps.{held_begun}
use Rattle.ddf_rebuild_command.proofs.Views.{IsAt, is_at, rows_by}
use Rattle.ddf_array.proofs.Told.{enough_map}

-- ---- the array behind the change

module _ (config : Configuration) (guid : List ℕ) (element position reference start : ℕ) (seats : List Seat) (held : Position) (before : IsHeld config guid element position held) (out : held.synced ≡ false) where
  abbrev change : Change
  change = Begin guid element position reference start

  same_position : (k : ℕ) (old : Position) → slice_get before.plan.positions k ≡ Some old → is_seated seats (begun position reference start (0 + k) old) ≡ is_seated seats old
  same_position k old at = by (nat_eq position (0 + k)) refl
    where
      by : (b : Bool) → nat_eq position (0 + k) ≡ b → is_seated seats (if b then new_position reference start else old) ≡ is_seated seats old
      by false e = refl
      by true e =
          let number : position ≡ k = (let same = eqb-true position (0 + k) e in omega (arith, same)) in
          let both : Some held ≡ Some old = sym before.is_held ∙ ap (slice_get before.plan.positions) number ∙ at in
          let same : held ≡ old = cc in
          sym (ap (λ (b : Bool). b && is_some (floor_of seats old.reference)) (ap (λ (one : Position). one.synced) (sym same) ∙ out))

  same_plan : is_part_within (is_seated seats) (Some (element_after (takes_revertible config change) change before.plan)) ≡ is_part_within (is_seated seats) (Some before.plan)
  same_plan =
      enough_map (need_of before.plan.level before.plan.qualifier) (is_seated seats) (map (λ pair. begun position reference start pair.0 pair.1) (enumerate_from 0 before.plan.positions))
      ∙ ap (has_enough (need_of before.plan.level before.plan.qualifier) (λ b. b)) (numbered_same (is_seated seats) (λ pair. begun position reference start pair.0 pair.1) 0 before.plan.positions same_position)
      ∙ sym (enough_map (need_of before.plan.level before.plan.qualifier) (is_seated seats) before.plan.positions)

  same_part : (k : ℕ) (part : Option ElementValue) → slice_get before.array.elements k ≡ Some part
      → is_part_within (is_seated seats) (part_after (takes_revertible config change) change element (0 + k, part)) ≡ is_part_within (is_seated seats) part
  same_part k part at = by (nat_eq element (0 + k)) refl
    where
      by : (b : Bool) → nat_eq element (0 + k) ≡ b → is_part_within (is_seated seats) (if b then option_map (element_after (takes_revertible config change) change) part else part) ≡ is_part_within (is_seated seats) part
      by false e = refl
      by true e =
          let number : element ≡ k = (let same = eqb-true element (0 + k) e in omega (arith, same)) in
          let both : Some (Some before.plan) ≡ Some part = sym (element_there before.array element before.plan before.is_plan) ∙ ap (slice_get before.array.elements) number ∙ at in
          let same : Some before.plan ≡ part = cc in
          subst (λ (one : Option ElementValue). is_part_within (is_seated seats) (option_map (element_after (takes_revertible config change) change) one) ≡ is_part_within (is_seated seats) one) same same_plan

  module _ (sequence : ℕ) (next : Volume) (viewed : view_of (changed_at config change sequence) guid seats ≡ Ok next) where
    -- It is within its level where it was.
    pub still_within : is_within next ≡ is_array_within seats before.array
    still_within =
        let after = from_view (changed_at config change sequence) guid seats next viewed in
        let is = array_after_is config guid element change (begins config guid element position reference start) position held before after.array after.array_is in
        let count : length after.array.elements ≡ length before.array.elements =
        ap length is.0 ∙ length-map (enumerate_from 0 before.array.elements) (part_after (takes_revertible config change) change element) ∙ length-enumerate_from 0 before.array.elements in
        told_within (changed_at config change sequence) guid seats next after.array viewed after.array_is
        ∙ ap (λ (n : ℕ). has_enough_parts (n == 0x01 && nat_le 2 (length after.array.elements)) (is_part_within (is_seated seats)) after.array.elements) is.1
        ∙ ap (λ (n : ℕ). has_enough_parts (before.array.secondary == 0x01 && nat_le 2 n) (is_part_within (is_seated seats)) after.array.elements) count
        ∙ ap (has_enough_parts (is_mirrored before.array) (is_part_within (is_seated seats))) is.0
        ∙ enough_parts (is_mirrored before.array) (is_part_within (is_seated seats)) (map (part_after (takes_revertible config change) change element) (enumerate_from 0 before.array.elements)) before.array.elements
        (numbered_same (is_part_within (is_seated seats)) (part_after (takes_revertible config change) change element) 0 before.array.elements same_part)

    own : IsHeld (changed_at config change sequence) guid element position (new_position reference start)
    own = held_begun config guid element position reference start held before sequence

    there : IsAt (changed_at config change sequence) guid seats next element position (new_position reference start) own
    there = is_at (changed_at config change sequence) guid seats next viewed element position (new_position reference start) own

    still_shaped : element_shape (length before.array.elements) before.plan ≡ Some there.part.shape
    still_shaped =
        sym (shape_after config guid element change (begins config guid element position reference start) position held before own.array own.plan own.is_array own.is_plan) ∙ there.is_shape

    -- Its element has as many rows.
    pub still_rows : (part : Part) → slice_get next.parts element ≡ Some part → rows_in before.array element ≡ row_count part.shape
    still_rows part at =
        let both : Some there.part ≡ Some part = sym there.is_part ∙ at in
        let same : there.part ≡ part = cc in
        rows_by before.array element before.plan there.part.shape before.is_plan still_shaped ∙ ap (λ (one : Part). row_count one.shape) same
