-- The change of several slots, slot by slot.
use Rattle.std.proofs.Common.{◌≡◌, ◌≢◌, ℕ, ◌+◌, ◌<◌, ◌≤◌, List, Some, sym, ap, ◌∙◌, inl, inr, arith, subst}
use Rattle.std.proofs.lemmas.Bool.{cases_eq}
use Rattle.std.proofs.Math.Path.{fun_ext}
use Rattle.std.specs.Prelude.{slice_get}
use Rattle.ddf_bay.specs.State.{BayState, size_of}
use Rattle.ddf_bay.specs.Sectors.{Image}
use Rattle.ddf_bay.specs.Moments.{StopsLeave}
use Rattle.ddf_bay.proofs.Steps.{stops_then}
use Rattle.ddf_update.specs.declared.prepared.Prepared.{Prepared}
use Rattle.ddf_update.specs.Changes.{AreChanged, HasChanged, IsLeftChangingAll, MayChangeAll, SlotChange}
use Rattle.ddf_update.specs.Group.{AreSlots}
use Rattle.ddf_update.specs.Changes.{MayGet, anchor_after}
use Rattle.ddf_update.proofs.Getting.{HasGot, IsLeftGetting, get_again, has_old}
use Rattle.ddf_update.proofs.GroupSteps.{later_differs, some_place}

some_is : (x y : ℕ) → some_place x ≡ some_place y → x ≡ y
some_is x y e = cc

module _ {D : Type 0} (old : BayState D) (slots : List ℕ) (seat : ℕ → SlotChange) (updates : List Prepared) (are : AreSlots old.sizes slots) (may : MayChangeAll old slots seat updates)
    (now : BayState D) (same_sizes : now.sizes ≡ old.sizes) (count : ℕ) (so_far : AreChanged old now slots seat updates count) where
  -- the sectors of a slot whose turn has not come
  held_later : (place slot : ℕ) → count ≤ place → slice_get slots place ≡ Some slot → now.held slot ≡ old.held slot
  held_later place slot later at = fun_ext (λ l. so_far.others slot l (later_differs old.sizes slots are count place slot later at))

  -- what is left of a slot whose turn is over
  left_earlier : (image : Image) (place slot : ℕ) (update : Prepared) → place < count → slice_get slots place ≡ Some slot → slice_get updates place ≡ Some update
      → ((l : ℕ) → now.may_hold slot l (image slot l)) → HasChanged (size_of old slot) (old.held slot) (image slot) update (seat place)
  left_earlier image place slot update earlier at there left =
      let same : image slot ≡ now.held slot = fun_ext (λ l. so_far.are_settled place slot earlier at l (image slot l) (left l)) in
      subst (λ (sector : ℕ → List ℕ). HasChanged (size_of old slot) (old.held slot) sector update (seat place)) (sym same) (so_far.have_changed place slot update earlier at there)

  -- and of one whose turn has not come
  left_later : (image : Image) (place slot l : ℕ) → count ≤ place → slice_get slots place ≡ Some slot → now.may_hold slot l (image slot l) → image slot l ≡ old.held slot l
  left_later image place slot l later at left =
      (has_old old slot (seat place) (may.may_change place slot at)).is_settled l (image slot l) (so_far.others_left slot l (image slot l) (later_differs old.sizes slots are count place slot later at) left)

  module _ (slot : ℕ) (update : Prepared) (at : slice_get slots count ≡ Some slot) (there : slice_get updates count ≡ Some update) where
    other_slot : (place other : ℕ) → slice_get slots place ≡ Some other → place ≢ count → other ≢ slot
    other_slot place other here differ same = differ (are.differ place count slot (rw same at here) at)

    same_update : (other : Prepared) → slice_get updates count ≡ Some other → other ≡ update
    same_update other here = let both = sym here ∙ there in cc

    -- the slot's turn: it is as at the start
    pub may_now : MayGet (seat count).mode now slot (seat count)
    may_now =
        get_again (seat count).mode old now slot (seat count) same_sizes (held_later count slot (omega arith) at)
        (λ l bytes left. so_far.others_left slot l bytes (later_differs old.sizes slots are count count slot (omega arith) at) left)
        (may.may_change count slot at)

    -- a stop while it is written
    image_within : (image : Image) → IsLeftGetting (seat count).mode now slot update (seat count) image → IsLeftChangingAll old slots seat updates image
    image_within image left = record {
      turn = count;
      earlier = λ place other one earlier here own. left_earlier image place other one earlier here own
          (λ l. left.other_slots other l (other_slot place other here (λ (same : place ≡ count). absurd (omega (arith, earlier, same)))));
      here = λ other one here own.
          let slot_is : other ≡ slot = some_is other slot (sym here ∙ at) in
          rw (slot_is, same_update one own) (rw (same_sizes, held_later count slot (omega arith) at) at left.here);
      later = λ place other l behind here. left_later image place other l (omega (arith, behind)) here
          (left.other_slots other l (other_slot place other here (λ (same : place ≡ count). absurd (omega (arith, behind, same)))));
      others = λ s l none. so_far.others_left s l (image s l) (λ place earlier. none place) (left.other_slots s l (λ (same : s ≡ slot). none count (rw same at)));
    }

    pub change_stops : (next : BayState D) → StopsLeave old now (IsLeftChangingAll old slots seat updates)
        → StopsLeave now next (IsLeftGetting (seat count).mode now slot update (seat count))
        → StopsLeave old next (IsLeftChangingAll old slots seat updates)
    change_stops next before step = stops_then before step image_within

    pub change_done : (next : BayState D) → HasGot (anchor_after (seat count)) now next slot update (seat count) → AreChanged old next slots seat updates (count + 1)
    change_done next one =
        let held = held_later count slot (omega arith) at in
        record {
          have_changed = λ place other own lt here its. elim (cases_eq place count) [
            | inl same ↦
                let slot_is : other ≡ slot = some_is other slot (sym here ∙ ap (slice_get slots) same ∙ at) in
                let update_is = same_update own (sym (ap (slice_get updates) same) ∙ its) in
                let is_changed : HasChanged (size_of old slot) (old.held slot) (next.held slot) update (seat count) =
                record { are_both = rw same_sizes at one.are_both; outside = rw (same_sizes, held) at one.outside } in
                rw (same, slot_is, update_is) is_changed
            | inr differ ↦
                let held_is : next.held other ≡ now.held other = fun_ext (λ l. one.other_slots other l (other_slot place other here differ)) in
                rw held_is (so_far.have_changed place other own (omega (arith, lt, differ)) here its)
          ];
          are_settled = λ place other lt here. elim (cases_eq place count) [
            | inl same ↦ let slot_is : other ≡ slot = some_is other slot (sym here ∙ ap (slice_get slots) same ∙ at) in rw slot_is one.is_settled
            | inr differ ↦ λ l bytes left.
                so_far.are_settled place other (omega (arith, lt, differ)) here l bytes (one.others_left other l bytes (other_slot place other here differ) left) ∙ sym (one.other_slots other l (other_slot place other here differ))
          ];
          others = λ s l none.
              let differ : s ≢ slot = λ (same : s ≡ slot). none count (omega arith) (rw same at) in
              one.other_slots s l differ ∙ so_far.others s l (λ place lt. none place (omega (arith, lt)));
          others_left = λ s l bytes none left.
              let differ : s ≢ slot = λ (same : s ≡ slot). none count (omega arith) (rw same at) in
              so_far.others_left s l bytes (λ place lt. none place (omega (arith, lt))) (one.others_left s l bytes differ left);
        }
