-- A `label` is aside of another group's history.
use Rattle.std.proofs.Common.{◌≡◌, ℕ, Bool, true, false, List, refl, ap, sym, ◌∙◌, inl, inr, subst, arith, Some}
use Rattle.std.proofs.lemmas.Bool.{and_parts, false≢true}
use Rattle.std.specs.Prelude.{slice_get}
use Rattle.std.specs.Str.{bytes_eq}
use Rattle.ddf_bytes.specs.declared.stamp.Stamp.{Stamp}
use Rattle.ddf_header.specs.declared.kind.Revision.{Revision}
use Rattle.ddf_bay.specs.Moments.{StopsLeave}
use Rattle.ddf_bay.specs.Sectors.{Image, IsLeft}
use Rattle.ddf_bay.specs.State.{BayState}
use Rattle.ddf_config.specs.Configuration.{Configuration}
use Rattle.ddf_copy.specs.declared.copy.DiskCopy.{DiskCopy}
use Rattle.ddf_update.specs.Group.{AreSlots, IsLeftFoundingAll, slot_sizes}
use Rattle.ddf_update.specs.NewCopies.{group_of}
use Rattle.ddf_view.specs.View.{View, view_of}
use Rattle.ddf_history.specs.Reading.{IsCopyOf, Shown, stands}
use Rattle.ddf_history.specs.Reading.Shown.{Nothing, One}
use Rattle.ddf_history.specs.Issued.{IsSince}
use Rattle.ddf_history.specs.Calls.{IsAside}
use Rattle.ddf_history.specs.Groups.{disk_of, groups, has_current}
use Rattle.ddf_history.specs.History.{Moment}
use Rattle.ddf_history.specs.Scenes.{scene_of}
use Rattle.ddf_history_steps.specs.Kept.{is_slot}
use Rattle.ddf_history_steps.proofs.Founding.{view_at}
use Rattle.ddf_history_steps.proofs.FoundingCut.{beside, beside_left, blank_there, copy_there, same_shown}
use Rattle.ddf_history_steps.proofs.FoundingRows.{new_view}
use Rattle.ddf_history_steps.proofs.Slots.{not_placed, slot_placed}
use Rattle.ddf_command.specs.History.{OtherCall}
use Rattle.ddf_disk_commands.specs.Label.{label_copy, label_slots}
use Rattle.ddf_disk_commands.specs.LabelRefusal.{label_layout}
use Rattle.ddf_group_commands.specs.Others.{LeavesOthers}
use Rattle.ddf_disk_commands.proofs.Chosen.{chosen_once}

module _ {B : Type 0} {tells : Type 0} (told : tells) (disks : B → BayState B) (group : List ℕ)
    (only_now : (bay : B) (image : Image) → (disks bay).left_since (disks bay).moment image → IsLeft (disks bay).may_hold image)
    (old : Moment (groups group) B) (exit : B) (large : Bool) (revision : Revision) (stamp : Stamp) (named : List ℕ)
    (any_moment : StopsLeave (disks old.bay) (disks exit) (IsLeftFoundingAll (disks old.bay) (label_slots (disks old.bay).sizes named) (label_copy large revision stamp (disks old.bay).sizes named)))
    (is_held : IsLeft (disks old.bay).may_hold (disks old.bay).held)
    (another : bytes_eq group (group_of stamp) ≡ false)
    (aside : (image : Image) → IsLeft (disks old.bay).may_hold image → (slot : ℕ) → is_slot (label_slots (disks old.bay).sizes named) slot ≡ true
    → IsAside old.past slot (scene_of (disks old.bay).sizes image slot))
    (names_none : (place slot number : ℕ) (config : Configuration) → slice_get (label_slots (disks old.bay).sizes named) place ≡ Some slot → IsSince old.past.changes number config
    → has_current config (disk_of (view_of (label_copy large revision stamp (disks old.bay).sizes named place))) ≡ true → ⊥) where
  abbrev entry : BayState B
  entry = disks old.bay

  abbrev slots : List ℕ
  slots = label_slots entry.sizes named

  abbrev copy : ℕ → DiskCopy
  copy = label_copy large revision stamp entry.sizes named

  are : AreSlots entry.sizes slots
  are = chosen_once entry.sizes named

  -- what the copy at a place says
  abbrev says : (place : ℕ) → View
  says place = view_at (label_layout large entry.sizes named) revision stamp (slot_sizes entry.sizes slots) place

  module _ (image : Image) (left : IsLeftFoundingAll entry slots copy image) (slot : ℕ) (among : is_slot slots slot ≡ true) where
    abbrev shown : Shown View
    shown = scene_of entry.sizes image slot

    -- The disk is no member, whatever its slot shows then.
    with : ((one : View) → IsCopyOf shown one → stands (groups group) one ≡ true → ⊥)
        → ((one : View) (number : ℕ) (config : Configuration) → IsCopyOf shown one → IsSince old.past.changes number config → has_current config (disk_of one) ≡ true → ⊥)
        → IsAside old.past slot shown
    with stands_not names_not = record { no_member = (aside entry.held is_held slot among).no_member; shows_none = stands_not; names_none = names_not }

    as_before : ((l : ℕ) → entry.may_hold slot l (image slot l)) → IsAside old.past slot shown
    as_before may =
        subst (IsAside old.past slot) (sym (same_shown (label_layout large entry.sizes named) revision stamp entry slots are is_held image slot))
        (aside (beside (label_layout large entry.sizes named) revision stamp entry slots are is_held image slot)
        (beside_left (label_layout large entry.sizes named) revision stamp entry slots are is_held image slot may) slot among)

    blank_aside : shown ≡ Nothing → IsAside old.past slot shown
    blank_aside nothing =
        let none : (one : View) → IsCopyOf shown one → ⊥ = λ one is. absurd (subst (λ (shows : Shown View). IsCopyOf shows one) nothing is) in
        with (λ one is standing. none one is) (λ one number config is since current. none one is)

    -- Its copy is of the new group, and names a new disk.
    copy_aside : (place : ℕ) → slice_get slots place ≡ Some slot → shown ≡ One (says place) → IsAside old.past slot shown
    copy_aside place at there =
        let own : (one : View) → IsCopyOf shown one → one ≡ says place = λ one is. subst (λ (shows : Shown View). IsCopyOf shows one) there is in
        with
        (λ one is standing.
        let ours = (and_parts (bytes_eq group one.group) ((groups group).lists_current one (disk_of one)) standing).0 in
        false≢true (sym another ∙ sym (ap (λ (view : View). bytes_eq group view.group) (own one is)) ∙ ours))
        (λ one number config is since current.
        let same = own one is ∙ sym (new_view (label_layout large entry.sizes named) revision stamp (slot_sizes entry.sizes slots) place) in
        names_none place slot number config at since (ap (λ (view : View). has_current config (disk_of view)) (sym same) ∙ current))

    left_aside : IsAside old.past slot shown
    left_aside =
        let place = slot_placed slots slot among in
        elim (left.each place.0 slot place.1) [
          | inl before ↦ as_before before
          | inr now ↦ elim now [
            | inl blank ↦ blank_aside (blank_there (label_layout large entry.sizes named) revision stamp entry slots are is_held image place.0 slot place.1 blank)
            | inr both ↦ copy_aside place.0 place.1 (copy_there (label_layout large entry.sizes named) revision stamp entry slots are is_held image place.0 slot place.1 both)
          ]
        ]

  -- So is what a stop within the call leaves.
  stops_aside : (image : Image) → (disks exit).left_since entry.moment image → (slot : ℕ) → is_slot slots slot ≡ true → IsAside old.past slot (scene_of entry.sizes image slot)
  stops_aside image was_left slot among = elim (any_moment.since entry.moment image (omega arith) was_left) [
    | inl before ↦ aside image (only_now old.bay image before) slot among
    | inr founding ↦ left_aside image founding slot among
  ]

  leaves_others : LeavesOthers entry (disks exit) slots
  leaves_others = record {
    later = any_moment.later;
    since = λ t image le was_left. elim (any_moment.since t image le was_left) [
      | inl before ↦ inl before
      | inr founding ↦ inr (λ s l none. founding.others s l (not_placed slots s none))
    ];
  }

  abbrev call : OtherCall told disks group old
  call = record {
    exit = exit;
    written = slots;
    leaves_others = leaves_others;
    is_held = is_held;
    are_aside = λ image was_left slot among. inr (stops_aside image was_left slot among);
  }

  -- So it is a call that doesn't take the group.
  pub label_other : (call : OtherCall told disks group old) × (call.exit ≡ exit) × (call.written ≡ slots)
  label_other = (call, refl, refl)
