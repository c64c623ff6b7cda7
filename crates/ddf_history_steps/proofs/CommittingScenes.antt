-- What the slots of a settled group show before a change is written, and behind it.
use Rattle.std.proofs.Common.{◌≡◌, ℕ, true, List, length, Some, ap, sym, ◌∙◌, inl, inr, subst}
use Rattle.std.proofs.Math.Path.{fun_ext}
use Rattle.std.specs.Prelude.{slice_get, slice_index}
use Rattle.ddf_bay.specs.Sectors.{Image}
use Rattle.ddf_bay.specs.State.{BayState, size_of}
use Rattle.ddf_copy.specs.declared.newest_copy.Newest.TheVariants as newests
use Rattle.ddf_copy.specs.Copies.{newest_of}
use Rattle.ddf_update.specs.declared.prepared.Prepared.{Prepared}
use Rattle.ddf_update.specs.Changes.{AreChanged, SlotChange}
use Rattle.ddf_update.specs.Group.{AreSlots}
use Rattle.ddf_view.specs.View.{View, view_of}
use Rattle.ddf_history.specs.Reading.Shown.{One}
use Rattle.ddf_history.specs.Scenes.{scene_of}
use Rattle.ddf_history.specs.Steps.{AreWritten}
use Rattle.ddf_history.proofs.Since.{which}
use Rattle.ddf_rewrite.proofs.Lists.{all_at}
use Rattle.ddf_seats.specs.declared.seated.Seated.{Seated}
use Rattle.ddf_recovery.specs.Committed.{HoldsGroup}
use Rattle.ddf_seats.specs.Group.{GroupValue}
use Rattle.ddf_assembly.specs.Reading.{HaveAnchors}
use Rattle.ddf_seats.specs.Seated.{seated}
use Rattle.ddf_assembly.specs.Settled.{IsLevelIn, IsSettledGroup}
use Rattle.ddf_history_steps.specs.Kept.{SaysOne, is_slot, unwritten}
use Rattle.ddf_history_steps.proofs.ShownCopies.{shows_newest, level_told}
use Rattle.ddf_history_steps.proofs.Slots.{not_placed, slot_placed}
use Rattle.ddf_history_steps.proofs.Stops.{changed_says, changed_shows, same_scene, scene_at, unwritten_else}

-- ---- before

-- The slot of a settled group's disk shows its copy, where it holds what the disks do.
pub seat_shows : {D : Type 0} (state : BayState D) (found : GroupValue) → IsSettledGroup found → HoldsGroup state found → HaveAnchors state.sizes found.newest
    → (image : Image) (place : ℕ) (disk : Seated) → slice_get (seated found) place ≡ Some disk → image disk.seat.slot ≡ state.held disk.seat.slot
    → scene_of state.sizes image disk.seat.slot ≡ One (view_of disk.copy)
seat_shows state found settled holds under image place disk at same =
    let slot = disk.seat.slot in
    let level = all_at (IsLevelIn found) (seated found) place disk settled.are_level at in
    let held = holds.are_held slot (newests.Level disk.copy) level.is_newest in
    let below = (under slot (newests.Level disk.copy) level.is_newest).0 in
    same_scene state.sizes image state.held slot same
    ∙ scene_at state.sizes state.held slot below
    ∙ shows_newest (size_of state slot) (state.held slot) held.anchor held.is_anchored
    ∙ level_told (newest_of (size_of state slot) (state.held slot) held.anchor) disk.copy held.is_newest

-- ---- behind

module _ {D : Type 0} (old now : BayState D) (slots : List ℕ) (seat : ℕ → SlotChange) (updates : List Prepared)
    (are : AreSlots old.sizes slots) (counted : length updates ≡ length slots) (same_sizes : now.sizes ≡ old.sizes)
    (changed : AreChanged old now slots seat updates (length slots)) where
  module _ (image : Image) (left : (s l : ℕ) → now.may_hold s l (image s l)) (new : ℕ → View)
      (news : (place slot : ℕ) → slice_get slots place ≡ Some slot → new slot ≡ view_of (seat place).new) where
    -- Each slot that was written shows its new copy.
    pub written_shows : (slot : ℕ) → is_slot slots slot ≡ true → scene_of now.sizes image slot ≡ One (new slot)
    written_shows slot here =
        let place = slot_placed slots slot here in
        changed_shows old now slots seat updates image new news are counted same_sizes changed left place.0 slot place.1

    -- So new copies were written to them, and to no other slot.
    pub changed_written : AreWritten (is_slot slots) new (scene_of old.sizes (unwritten old slots image)) (scene_of now.sizes image)
    changed_written slot = elim (which (is_slot slots slot)) [
      | inl here ↦ inr (here, inr (written_shows slot here))
      | inr none ↦ inl
          (ap (λ (sizes : List ℕ). scene_of sizes image slot) same_sizes
          ∙ same_scene old.sizes image (unwritten old slots image) slot (sym (unwritten_else old slots image slot none)))
    ]

    -- Each slot says one thing by both of its copies, where each did.
    pub all_say : ((slot : ℕ) → SaysOne (size_of old slot) (old.held slot)) → (slot : ℕ) → SaysOne (size_of now slot) (now.held slot)
    all_say says slot = elim (which (is_slot slots slot)) [
      | inl here ↦
          let place = slot_placed slots slot here in
          changed_says old now slots seat updates image new news are counted same_sizes changed left place.0 slot place.1
      | inr none ↦
          let same : now.held slot ≡ old.held slot = fun_ext (λ l. changed.others slot l (λ place below. not_placed slots slot none place)) in
          subst (λ (sizes : List ℕ). SaysOne (slice_index sizes slot) (now.held slot)) (sym same_sizes)
          (subst (SaysOne (size_of old slot)) (sym same) (says slot))
    ]
