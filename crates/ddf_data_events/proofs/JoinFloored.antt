-- The steps of an import write nothing below the floors of the slots.
use Rattle.std.proofs.Common.{◌≡◌, ◌∙◌, inl, ⊎_elim, ℕ, zero, suc, ◌+◌, Bool, List, [], ◌∷◌, ◌++◌, Option, Some, None, Ok, refl, ap, sym, subst, arith}
use Rattle.std.specs.Prelude.{option_to_list, slice_get}
use Rattle.ddf_lemmas.proofs.Lists.{all_from, first_get, in_either, in_second, mapped_at}
use Rattle.ddf_bay.specs.Sectors.{IsLeft}
use Rattle.ddf_bay.specs.State.{BayState, on_slot, size_of}
use Rattle.ddf_config.specs.declared.seat.Seat.{Seat}
use Rattle.ddf_copy.specs.declared.newest_copy.Newest.{Newest}
use Rattle.ddf_copy.specs.Copies.{newest_at}
use Rattle.ddf_rewrite.proofs.Lists.{all_at}
use Rattle.ddf_history.specs.Groups.{groups}
use Rattle.ddf_history.specs.Issued.{Past}
use Rattle.ddf_seats.specs.declared.seated.Seated.{Seated}
use Rattle.ddf_steps.specs.Committed.{slots_of}
use Rattle.ddf_seats.specs.Group.{GroupValue}
use Rattle.ddf_assembly.specs.Group.{group_of}
use Rattle.ddf_joining.specs.Joining.{join_config, join_disks, join_leaders, join_step, joining_of}
use Rattle.ddf_recovery.specs.Recovery.{disks_recovered, recovery_of}
use Rattle.ddf_seats.specs.Seated.{seated}
use Rattle.ddf_assembly.specs.Slots.{newest_from}
use Rattle.ddf_steps.specs.Steps.{Step}
use Rattle.ddf_joining.proofs.BothSides.{both_have}
use Rattle.ddf_seats.proofs.CommittedSeats.{seated_is}
use Rattle.ddf_assembly.proofs.SettledHeld.{newest_kept}
use Rattle.ddf_history_steps.proofs.Slots.{slot_is}
use Rattle.ddf_import_command.specs.Import.{import_steps}
use Rattle.ddf_data_calls.proofs.Seats.{newest_there}
use Rattle.ddf_data_events.specs.Joins.{HaveJoiningFloors}
use Rattle.ddf_write_commands.proofs.BelowSteps.{IsFloored}
use Rattle.ddf_write_commands.proofs.StepFloors.{HasFloorOf, HaveFloorsOf, after_floors, recovered_floors, recovery_floors}

module _ (timestamp : ℕ) (native other : GroupValue) where
  -- the disks of both groups
  abbrev pub of_both : List Seated
  of_both = seated native ++ seated other

  own_floors : (disks : List Seated) → HaveFloorsOf (seated native) disks → HaveFloorsOf of_both disks
  own_floors disks from place disk at =
      let own = from place disk at in
      record {
        place = own.place;
        before = own.before;
        is_there = first_get (seated native) (seated other) own.place own.before own.is_there;
        same_slot = own.same_slot;
        same_floor = own.same_floor;
      }

  its_floors : HaveFloorsOf of_both (seated other)
  its_floors place disk at =
      let there = in_second (seated native) (seated other) place disk at in
      record { place = there.0; before = disk; is_there = there.1; same_slot = refl; same_floor = refl }

  -- Each disk of the join has the floor of the one before it.
  join_floors : HaveFloorsOf of_both (join_step timestamp native other).disks
  unfolding join_step
  join_floors =
      after_floors of_both timestamp (join_leaders timestamp native other) (join_config native other) (join_disks timestamp native other) (λ place disk at.
      all_at (HasFloorOf of_both) (join_disks timestamp native other) place disk
      (both_have (HasFloorOf of_both) (disks_recovered timestamp native) (seated other)
      (all_from (HasFloorOf of_both) (disks_recovered timestamp native) (own_floors (disks_recovered timestamp native) (recovered_floors native timestamp)))
      (all_from (HasFloorOf of_both) (seated other) its_floors)) at)

  -- So has each of the recovery, and of both steps.
  pub steps_floors : (number : ℕ) (step : Step) → slice_get (import_steps (joining_of timestamp native other)) number ≡ Some step → HaveFloorsOf (seated native ++ seated other) step.disks
  steps_floors number step at = by (recovery_of timestamp native) refl number at
    where
      last : (k : ℕ) → slice_get (join_step timestamp native other ∷ []) k ≡ Some step → HaveFloorsOf of_both step.disks
      last zero here = let same : join_step timestamp native other ≡ step = cc in subst (λ (one : Step). HaveFloorsOf of_both one.disks) same join_floors
      last (suc k) none = absurd cc

      by : (next : Option Step) → recovery_of timestamp native ≡ next → (k : ℕ) → slice_get (option_to_list next ++ join_step timestamp native other ∷ []) k ≡ Some step → HaveFloorsOf of_both step.disks
      by None is k there = last k there
      by (Some one) is zero there = let same : one ≡ step = cc in own_floors step.disks (recovery_floors native timestamp step (is ∙ ap Some same))
      by (Some one) is (suc k) there = last k there

-- The disks of both groups have their floors.
module _ (group : List ℕ) {D : Type 0} (old : BayState D) (past : Past (groups group)) (floor : ℕ → ℕ) (also_left : List Bool) (also_newest : List (Option Newest)) (also_named : Option (List ℕ)) (native other : GroupValue)
    (also_read : also_newest ≡ newest_from old 0 also_left) (is_found_too : group_of also_newest also_named ≡ Ok other)
    (theirs : HaveJoiningFloors group past old floor other) (held : IsLeft old.may_hold old.held)
    (own : (place : ℕ) (disk : Seated) → slice_get (seated native) place ≡ Some disk → IsFloored (size_of old disk.seat.slot) floor disk) where
  its_floor : (place : ℕ) (disk : Seated) → slice_get (seated other) place ≡ Some disk → IsFloored (size_of old disk.seat.slot) floor disk
  its_floor place disk at =
      let sits = seated_is other place disk at in
      let slot = disk.seat.slot in
      let on = mapped_at (λ (seat : Seat). seat.slot) other.seats sits.place disk.seat sits.is_seat in
      let has = theirs slot (inl (slot_is (slots_of other.seats) sits.place slot on)) (old.held slot) (held slot) in
      let there : slice_get (newest_from old 0 also_left) slot ≡ Some (Some sits.found) =
      ap (λ (all : List (Option Newest)). slice_get all slot) (sym (newest_kept also_newest also_named other is_found_too ∙ also_read)) ∙ sits.is_found in
      let same_slot : 0 + slot ≡ slot = omega arith in
      let here = subst (λ (n : ℕ). on_slot newest_at old n ≡ Some sits.found) same_slot (newest_there old also_left 0 slot sits.found there) in
      record { same = has.same_floor sits.found disk.copy here sits.stands; within = has.within }

  pub both_floored : (place : ℕ) (disk : Seated) → slice_get (seated native ++ seated other) place ≡ Some disk → IsFloored (size_of old disk.seat.slot) floor disk
  both_floored place disk at = ⊎_elim (λ mine. own mine.0 disk mine.1) (λ its. its_floor its.0 disk its.1) (in_either (seated native) (seated other) place disk at)
