-- An import is admitted where both groups stand in histories of their own that know the same disks.
use Rattle.std.proofs.Common.{◌≡◌, ◌∙◌, ◌⊎◌, ℕ, ◌||◌, Bool, true, false, List, [], length, Option, Some, Ok, ap, sym, subst, inl, inr, refl}
use Rattle.std.proofs.lemmas.Bool.{false_from_ne_true}
use Rattle.ddf_lemmas.proofs.Lists.{in_map}
use Rattle.ddf_bay.specs.Sectors.{Image, IsLeft}
use Rattle.ddf_bay.specs.State.{BayState}
use Rattle.ddf_config.specs.declared.seat.Seat.{Seat}
use Rattle.ddf_config.specs.Configuration.{Configuration}
use Rattle.ddf_copy.specs.declared.newest_copy.Newest.{Newest}
use Rattle.ddf_import.specs.Joined.{without_lost}
use Rattle.ddf_view.specs.View.{View, view_of}
use Rattle.ddf_history.specs.Groups.{groups, has_current, disk_of}
use Rattle.ddf_history.specs.Issued.{IsSince, Past, is_away}
use Rattle.ddf_history.specs.Leaders.{seen}
use Rattle.ddf_history.specs.Promise.{IsKept}
use Rattle.ddf_history.specs.Reading.{IsCopyOf, Scene, ShowsGroup, Shown}
use Rattle.ddf_history.specs.Scenes.{scene_of}
use Rattle.ddf_history.proofs.Calls.{seen_copy, seen_read}
use Rattle.ddf_history.proofs.Since.{first_is_copy}
use Rattle.ddf_history.proofs.Sound.{groups_are_sound}
use Rattle.ddf_steps.specs.Committed.{slots_of}
use Rattle.ddf_seats.specs.Group.{GroupValue}
use Rattle.ddf_assembly.specs.Group.{group_of}
use Rattle.ddf_joining.specs.Joining.{config_joining}
use Rattle.ddf_assembly.specs.Slots.{newest_from}
use Rattle.ddf_history_steps.specs.Going.{IsAdmitted}
use Rattle.ddf_history_joins.specs.Joins.{AdmitsBoth, AdmitsCall}
use Rattle.ddf_history_steps.specs.Kept.{AreAllKept, is_read, is_slot}
use Rattle.ddf_history_steps.proofs.Begun.{assembled_since}
use Rattle.ddf_history_steps.proofs.Claimed as claims
use Rattle.ddf_history_steps.proofs.Slots.{slot_placed}
use Rattle.ddf_history_steps.proofs.Told.{found_name}

module _ (group former : List ℕ) {D : Type 0} (state : BayState D) (left : List Bool) (long : length left ≡ length state.sizes)
    (newest : List (Option Newest)) (read : newest ≡ newest_from state 0 left) (native other : GroupValue) (is_found : group_of newest (Some former) ≡ Ok other) (whole : other.absent ≡ [])
    (past : Past (groups group)) (none_back : (slot : ℕ) → past.returned slot ≡ false)
    (theirs : Past (groups former)) (admitted : IsAdmitted former theirs state left other) (same_disks : (slot : ℕ) → theirs.disk slot ≡ past.disk slot) where
  own : other.config.group ≡ former
  own = found_name newest former other is_found

  their_since : (number : ℕ) × IsSince theirs.changes number other.config
  their_since =
      assembled_since former state left newest long read theirs admitted.same_slots admitted.is_kept admitted.may_read admitted.member (Some former) other is_found own

  all_joins : config_joining other ≡ other.config
  all_joins = ap (without_lost other.config) whole

  -- The disk of each slot that joins is a member there, and the slot was read.
  member_at : (slot : ℕ) → is_slot (slots_of other.seats) slot ≡ true → (has_current other.config (theirs.disk slot) ≡ true) × (is_read left slot ≡ true)
  member_at slot joins =
      let at = slot_placed (slots_of other.seats) slot joins in
      let seat = in_map (λ (one : Seat). one.slot) other.seats at.0 slot at.1 in
      let copy = claims.seat_has former state left newest long read theirs admitted.same_slots admitted.is_kept admitted.may_read admitted.member (Some former) other is_found own at.0 seat.0 seat.1 in
      let claimed = claims.seats_claimed former state left newest long read theirs admitted.same_slots admitted.is_kept admitted.may_read admitted.member (Some former) other is_found own at.0 seat.0 copy.0 seat.1 copy.1 in
      let current = claims.claimed_is_current former state left newest long read theirs admitted.same_slots admitted.is_kept admitted.may_read admitted.member (Some former) other is_found own seat.0.slot (view_of copy.0) claimed in
      let first : IsCopyOf (seen (is_read left) (scene_of state.sizes state.held) seat.0.slot) (view_of copy.0) = first_is_copy (seen (is_read left) (scene_of state.sizes state.held) seat.0.slot) (view_of copy.0) claimed.is_first in
      let shown = seen_copy (is_read left seat.0.slot) (scene_of state.sizes state.held seat.0.slot) (view_of copy.0) first in
      let since = their_since in
      let named = admitted.is_kept.named seat.0.slot (view_of copy.0) shown (inr (since.0, other.config, since.1, current)) in (
        subst (λ (n : ℕ). has_current other.config (theirs.disk n) ≡ true) seat.2 (sym (ap (has_current other.config) named) ∙ current),
        subst (λ (n : ℕ). is_read left n ≡ true) seat.2 (seen_read (is_read left seat.0.slot) (scene_of state.sizes state.held seat.0.slot) (view_of copy.0) first),
      )

  neither : (a b : Bool) → a ≡ false → b ≡ false → (a || b) ≡ false
  neither true b is other_is = absurd cc
  neither false true is other_is = absurd cc
  neither false false is other_is = refl

  module _ (scene : Scene View) (kept : IsKept theirs scene) where
    here : (slot : ℕ) → is_slot (slots_of other.seats) slot ≡ true → is_away theirs slot ≡ false
    here slot joins =
        let at = member_at slot joins in
        let since = their_since in
        neither (theirs.lost slot) (theirs.returned slot) (admitted.may_read.not_lost slot at.1)
        (false_from_ne_true (theirs.returned slot) (λ back. (groups_are_sound former).not_both other.config (theirs.disk slot) at.0 (kept.gone slot since.0 other.config back since.1)))

    only_copy : (shown : Shown View) (one copy : View) → shown ≡ Shown.One one → IsCopyOf shown copy → copy ≡ one
    only_copy shown one copy same is = subst (λ (all : Shown View). IsCopyOf all copy) same is

    names_its_disk : (slot : ℕ) (copy : View) → IsCopyOf (scene slot) copy → (is_slot (slots_of other.seats) slot ≡ true) ⊎ (has_current (config_joining other) (disk_of copy) ≡ true)
        → disk_of copy ≡ theirs.disk slot
    names_its_disk slot copy is (inl joins) =
        let at = member_at slot joins in
        let since = their_since in
        elim (kept.each slot (here slot joins)) [
          | inl on ↦ ap disk_of (only_copy (scene slot) on.copy copy on.is_only is) ∙ on.names
          | inr (inl out) ↦ (out.shows_some since.0 other.config since.1 at.0).all copy is
          | inr (inr lag) ↦ lag.shows_some.all copy is
        ]
    names_its_disk slot copy is (inr current) =
        let since = their_since in
        kept.named slot copy is (inr (since.0, other.config, since.1, subst (λ (config : Configuration). has_current config (disk_of copy) ≡ true) all_joins current))

    module _ (none_out : (slot : ℕ) → is_away past slot ≡ false → ShowsGroup (groups group) (scene slot) → has_current native.config (past.disk slot) ≡ true) where
      admits_both : AdmitsBoth group past scene native other
      admits_both = record {
        names = λ slot copy is either. names_its_disk slot copy is either ∙ same_disks slot;
        alone = λ s t current same.
            let since = their_since in
            kept.alone s t since.0 other.config since.1
            (ap (has_current other.config) (same_disks s) ∙ subst (λ (config : Configuration). has_current config (past.disk s) ≡ true) all_joins current)
            (same_disks s ∙ same ∙ sym (same_disks t));
        unlisted = λ slot copy disk away is shows out current. absurd (let one : true ≡ false = sym (none_out slot away shows) ∙ out in cc);
        gone = λ slot back. absurd (let one : true ≡ false = sym back ∙ none_back slot in cc);
      }

  pub import_admitted : AreAllKept former theirs state
      → ((image : Image) → IsLeft state.may_hold image → (slot : ℕ) → is_away past slot ≡ false → ShowsGroup (groups group) (scene_of state.sizes image slot) → has_current native.config (past.disk slot) ≡ true)
      → AdmitsCall group past state native other
  import_admitted all none_out image leaves = admits_both (scene_of state.sizes image) (all image leaves) (none_out image leaves)
