-- The seats of a group that a call found, over the history that admits the call.
use Rattle.std.proofs.Common.{◌≡◌, ℕ, Bool, true, false, List, length, Option, Some, Ok, if◌then◌else◌, refl, subst}
use Rattle.std.specs.Prelude.{slice_get}
use Rattle.ddf_lemmas.proofs.Lists.{in_map}
use Rattle.ddf_bay.specs.State.{BayState}
use Rattle.ddf_config.specs.declared.seat.Seat.{Seat}
use Rattle.ddf_copy.specs.declared.newest_copy.Newest.{Newest}
use Rattle.ddf_history.specs.Groups.{Disk, groups, has_current}
use Rattle.ddf_history.specs.Issued.{IsSince, Past, leave_out}
use Rattle.ddf_history.proofs.Sound.{groups_are_sound}
use Rattle.ddf_seats.specs.Group.{GroupValue}
use Rattle.ddf_seats.specs.Leading.{some}
use Rattle.ddf_assembly.specs.Group.{group_of}
use Rattle.ddf_assembly.specs.Slots.{newest_from}
use Rattle.ddf_recovery.specs.Recovery.{config_recovered}
use Rattle.ddf_steps.specs.Committed.{slots_of}
use Rattle.ddf_history_steps.specs.Going.{IsAdmitted}
use Rattle.ddf_history_steps.specs.Kept.{is_read, is_slot}
use Rattle.ddf_history_steps.proofs.Slots.{slot_placed}
use Rattle.ddf_data_calls.specs.Floors.{HaveFloors}
use Rattle.ddf_data_calls.proofs.Recovered.{recovered_listed}
use Rattle.ddf_data_calls.proofs.Seats as seating

module _ (group : List ℕ) {D : Type 0} (state : BayState D) (past : Past (groups group)) (floor : ℕ → ℕ) (floors : HaveFloors group past state floor)
    (left : List Bool) (long : length left ≡ length state.sizes) (newest : List (Option Newest)) (read : newest ≡ newest_from state 0 left)
    (named : Option (List ℕ)) (found : GroupValue) (is_found : group_of newest named ≡ Ok found) (own : found.config.group ≡ group) (admitted : IsAdmitted group past state left found) where
  pub found_since : (number : ℕ) × IsSince past.changes number found.config
  found_since = seating.since group state left newest long read past admitted.same_slots admitted.is_kept admitted.may_read admitted.member named found is_found own

  -- What is known of the slot of a seat: it was read, it isn't lost and hasn't returned, and its disk is a current member of what was found, also once absent members are lost.
  pub record IsSeated (slot : ℕ) : Type 0 where
    pub was_read : is_read left slot ≡ true
    pub not_lost : past.lost slot ≡ false
    pub not_back : past.returned slot ≡ true → ⊥
    pub current : has_current found.config (past.disk slot) ≡ true
    pub current_then : has_current (config_recovered found) (past.disk slot) ≡ true

  same_disks : (absent : Bool) → (if absent then leave_out past (is_read left) found.config else past).disk ≡ past.disk
  same_disks true = refl
  same_disks false = refl

  at_place : (place : ℕ) (seat : Seat) → slice_get found.seats place ≡ Some seat → IsSeated seat.slot
  at_place place seat there =
      let listed =
      seating.seats_listed group state left newest long read past admitted.same_slots admitted.is_kept admitted.may_read admitted.member named found is_found own floor floors place seat there in
      let also =
      recovered_listed group state left newest long read past admitted.same_slots admitted.is_kept admitted.may_read admitted.member named found is_found own floor floors place seat there in
      let since = found_since in
      record {
        was_read = seating.seat_read group state left newest long read past admitted.same_slots admitted.is_kept admitted.may_read admitted.member named found is_found own place seat there;
        not_lost = listed.not_lost;
        not_back = λ back. (groups_are_sound group).not_both found.config (past.disk seat.slot) listed.is_current (admitted.is_kept.gone seat.slot since.0 found.config back since.1);
        current = listed.is_current;
        current_then = subst (λ (in_slot : ℕ → Disk). has_current (config_recovered found) (in_slot seat.slot) ≡ true) (same_disks (some found.absent)) also.is_current;
      }

  pub is_seated : (slot : ℕ) → is_slot (slots_of found.seats) slot ≡ true → IsSeated slot
  is_seated slot here =
      let placed = slot_placed (slots_of found.seats) slot here in
      let seat = in_map (λ (each : Seat). each.slot) found.seats placed.0 slot placed.1 in
      subst IsSeated seat.2 (at_place placed.0 seat.0 seat.1)
