-- What a stop leaves while recovery is written, and once it was, over what it leaves of slots that were synced.
use Rattle.std.proofs.Common.{◌≡◌, ℕ, Bool, true, List, length, Option, Some, refl, ap, sym, ◌∙◌, inl, inr, subst}
use Rattle.std.proofs.Math.Path.{fun_ext}
use Rattle.std.specs.Prelude.{slice_get, slice_index}
use Rattle.ddf_bay.specs.Sectors.{Image, IsLeft}
use Rattle.ddf_bay.specs.State.{BayState, size_of}
use Rattle.ddf_plan.specs.declared.change.Change.{Change}
use Rattle.ddf_update.specs.Changes.{AreChanged, IsLeftChangingAll}
use Rattle.ddf_update.specs.Group.{LieOnSlots}
use Rattle.ddf_view.specs.View.{View, view_of}
use Rattle.ddf_history.specs.Reading.Shown.{One}
use Rattle.ddf_history.specs.Issued.{Past}
use Rattle.ddf_history.specs.Groups.{groups}
use Rattle.ddf_history.specs.Scenes.{scene_of}
use Rattle.ddf_history.specs.Steps.{AreWritten}
use Rattle.ddf_history.proofs.Since.{which}
use Rattle.ddf_recovery.specs.Committed.{MayRecover, WasReadied, recovery_slots, recovery_updates}
use Rattle.ddf_seats.specs.Group.{GroupValue}
use Rattle.ddf_recovery.specs.Ready.{ReadyValue}
use Rattle.ddf_recovery.proofs.RecoveryWritten.{recovery_lies}
use Rattle.ddf_history_steps.specs.Kept.{SaysOne, is_slot, unwritten}
use Rattle.ddf_history_steps.proofs.Again.{bytes_say_one}
use Rattle.ddf_history_steps.proofs.RecoveringEntry.{IsTaken, sure_state}
use Rattle.ddf_history_steps.proofs.Slots.{not_placed, slot_placed}
use Rattle.ddf_history_steps.proofs.Stops.{AreInTurn, changed_left, changed_says, changed_shows, same_scene, stop_in_turn, stop_writes, unwritten_else, unwritten_left}

module _ (group : List ℕ) {D : Type 0} (past : Past (groups group)) (state : BayState D) (left : List Bool) (named : Option (List ℕ)) (found : GroupValue)
    (taken : IsTaken group past state left named found) (changes : List Change) (timestamp : ℕ) (ready : ReadyValue) (was : WasReadied found changes timestamp ready)
    (may : MayRecover state found ready) where
  -- the disks once the seats' slots are synced
  abbrev sure : BayState D
  sure = sure_state group past state left named found taken

  abbrev slots : List ℕ
  slots = recovery_slots ready

  -- an image with what the slots hold that are written
  abbrev pub before : Image → Image
  before image = unwritten sure slots image

  lies : LieOnSlots state.sizes slots (recovery_updates ready)
  lies = recovery_lies found changes timestamp ready was state.sizes taken.anchored

  -- Each slot says one thing by both of its copies.
  pub entry_says : (slot : ℕ) → SaysOne (size_of state slot) (state.held slot)
  entry_says slot = bytes_say_one (size_of state slot) (state.held slot) (taken.holds_bytes slot)

  -- A stop may leave what the slots hold.
  held_left : (s l : ℕ) → is_slot slots s ≡ true → sure.may_hold s l (sure.held s l)
  held_left s l is = (taken.is_left s l, λ place at. refl)

  -- ---- while recovery is written

  module _ (image : Image) (leaves : IsLeftChangingAll sure slots may.seat (recovery_updates ready) image) where
    -- The slots that aren't written are left as before.
    pub stop_left : IsLeft sure.may_hold (before image)
    stop_left = unwritten_left sure slots may.seat (recovery_updates ready) image held_left leaves

    -- Those that are show what they showed, or their new copies.
    pub stop_written : (new : ℕ → View) → ((place slot : ℕ) → slice_get slots place ≡ Some slot → new slot ≡ view_of (may.seat place).new)
        → AreWritten (is_slot slots) new (scene_of state.sizes (before image)) (scene_of state.sizes image)
    stop_written new news =
        stop_writes sure slots may.seat (recovery_updates ready) image lies.are_slots lies.counted may.may_change (λ place slot at. entry_says slot) leaves new news

    -- One after another.
    pub stop_turns : (new : ℕ → View) → ((place slot : ℕ) → slice_get slots place ≡ Some slot → new slot ≡ view_of (may.seat place).new)
        → AreInTurn slots new (scene_of state.sizes (before image)) (scene_of state.sizes image)
    stop_turns new news =
        stop_in_turn sure slots may.seat (recovery_updates ready) image lies.are_slots lies.counted may.may_change (λ place slot at. entry_says slot) leaves new news

  -- ---- once it was

  module _ (now : BayState D) (same_sizes : now.sizes ≡ state.sizes) (changed : AreChanged sure now slots may.seat (recovery_updates ready) (length slots)) where
    module _ (image : Image) (leaves : IsLeft now.may_hold image) (new : ℕ → View)
        (news : (place slot : ℕ) → slice_get slots place ≡ Some slot → new slot ≡ view_of (may.seat place).new) where
      -- The slots that weren't written are left as before.
      pub done_left : IsLeft sure.may_hold (before image)
      done_left = changed_left sure now slots may.seat (recovery_updates ready) image new news lies.are_slots lies.counted same_sizes changed leaves held_left

      -- Those that were show their new copies.
      pub done_shown : (slot : ℕ) → is_slot slots slot ≡ true → scene_of state.sizes image slot ≡ One (new slot)
      done_shown slot is =
          let at = slot_placed slots slot is in
          ap (λ (sizes : List ℕ). scene_of sizes image slot) (sym same_sizes)
          ∙ changed_shows sure now slots may.seat (recovery_updates ready) image new news lies.are_slots lies.counted same_sizes changed leaves at.0 slot at.1

      pub done_written : AreWritten (is_slot slots) new (scene_of state.sizes (before image)) (scene_of state.sizes image)
      done_written slot = elim (which (is_slot slots slot)) [
        | inl here ↦ inr (here, inr (done_shown slot here))
        | inr none ↦ inl (same_scene state.sizes image (before image) slot (sym (unwritten_else sure slots image slot none)))
      ]

      -- Each slot says one thing by both of its copies.
      pub done_says : (slot : ℕ) → SaysOne (size_of now slot) (now.held slot)
      done_says slot = elim (which (is_slot slots slot)) [
        | inl here ↦
            let at = slot_placed slots slot here in
            changed_says sure now slots may.seat (recovery_updates ready) image new news lies.are_slots lies.counted same_sizes changed leaves at.0 slot at.1
        | inr none ↦
            let same : now.held slot ≡ state.held slot = fun_ext (λ l. changed.others slot l (λ place below. not_placed slots slot none place)) in
            subst (λ (sector : ℕ → List ℕ). SaysOne (size_of now slot) sector) (sym same)
            (subst (λ (sizes : List ℕ). SaysOne (slice_index sizes slot) (state.held slot)) (sym same_sizes) (entry_says slot))
      ]
