-- Where an import is written: to slots of seats of either group, none of which is one of both.
use Rattle.std.proofs.Common.{◌≡◌, ◌≢◌, ◌⊎◌, ℕ, ◌<◌, ◌^◌, ◌==◌, ◌&&◌, Bool, true, not, List, [], length, Some, inl, inr, ⊎_elim, refl, ap, sym, subst, ◌∙◌}
use Rattle.std.proofs.lemmas.Bool.{and_parts, eq-eqb, false≢true, not-true}
use Rattle.std.proofs.lemmas.List.{length-map}
use Rattle.std.specs.Prelude.{slice_get, slice_index}
use Rattle.std.specs.List.{AllByRecursion}
use Rattle.ddf_lemmas.proofs.Lists.{all_from, in_map, list_all_read, mapped_at, none_any}
use Rattle.ddf_bay.specs.State.{BayState}
use Rattle.ddf_bytes.specs.Counts.{Rose}
use Rattle.ddf_config.specs.declared.seat.Seat.{Seat}
use Rattle.ddf_rewrite.proofs.Lists.{all_at}
use Rattle.ddf_update.specs.Group.{IsOneOf, LieOnSlots}
use Rattle.ddf_update.specs.Prepared.{LiesOn}
use Rattle.ddf_update.proofs.Lies.{lies_on}
use Rattle.ddf_seats.specs.declared.seated.Seated.{Seated}
use Rattle.ddf_steps.specs.Committed.{HaveSlots, IsRewritten, slots_of}
use Rattle.ddf_recovery.specs.Committed.{WasReadied, recovery_slots, recovery_updates}
use Rattle.ddf_seats.specs.Group.{GroupValue, is_kept}
use Rattle.ddf_joining.specs.Importing.{AreApart, join_slots, join_updates, was_readied}
use Rattle.ddf_joining.specs.Joining.{join_config, join_disks, join_leaders}
use Rattle.ddf_joining.specs.JoinValue.{JoinValue}
use Rattle.ddf_assembly.specs.Reading.{HaveAnchors}
use Rattle.ddf_recovery.specs.Ready.{ReadyValue}
use Rattle.ddf_recovery.specs.Recovery.{disks_recovered}
use Rattle.ddf_seats.specs.Seated.{seated, seats_in}
use Rattle.ddf_steps.specs.Steps.{Step, disks_after, in_order}
use Rattle.ddf_steps.specs.Trying.{HasPlace}
use Rattle.ddf_seats.specs.Changing.{SlotsRise}
use Rattle.ddf_joining.proofs.BothOrder.{both_rise}
use Rattle.ddf_joining.proofs.BothSides.{both_have}
use Rattle.ddf_recovery.proofs.Committed.{seats_on_slots}
use Rattle.ddf_recovery.proofs.CommittedCopies.{standing_under}
use Rattle.ddf_recovery.proofs.CommittedReadied.{disks_rewritten}
use Rattle.ddf_seats.proofs.CommittedSeats.{seated_is}
use Rattle.ddf_joining.proofs.JoinReadied.{was}
use Rattle.ddf_steps.proofs.Ordered.{order_all, order_differ, order_from}
use Rattle.ddf_recovery.proofs.RecoveredGroup.{is_recovered}
use Rattle.ddf_recovery.proofs.RecoveryWritten.{recovered_anchored, recovery_lies, recovery_on_seats}
use Rattle.ddf_history_joins.proofs.JoinTaken.{recovered_on}
use Rattle.ddf_history_joins.proofs.JoinTries.{joining_is, step_is}
use Rattle.ddf_answer.specs.Call.{work_of}
use Rattle.ddf_group_commands.specs.GroupRead.{IsReadFrom}
use Rattle.ddf_import_command.specs.Import.{IsImportReady, IsJoinFault, import_asked, is_own}

seats_one : (seats : List Seat) (place : ℕ) (seat : Seat) → slice_get seats place ≡ Some seat → IsOneOf (slots_of seats) seat.slot
seats_one seats place seat at = record { place = place; is_there = mapped_at (λ (one : Seat). one.slot) seats place seat at }

-- the slot of each of a group's disks is there, and its copy can stand on it
seated_placed : (sizes : List ℕ) (group : GroupValue) → HaveAnchors sizes group.newest → AllByRecursion (HasPlace sizes) (seated group)
seated_placed sizes group have = all_from (HasPlace sizes) (seated group) (λ k disk at.
    let own = seated_is group k disk at in
    let here = have disk.seat.slot own.found own.is_found in
    record { there = here.0; anchor = here.1.anchor; under = standing_under (slice_index sizes disk.seat.slot) here.1.anchor own.found disk.copy own.stands here.1.under })

module _ {D : Type 0} (tells : Type 0) (old : BayState D) (native other : GroupValue) (timestamp : ℕ) (left_out : List Bool) (recovery : ReadyValue) (join : JoinValue)
    (from : IsReadFrom tells old native) (also : IsReadFrom tells old other) (time : timestamp < 2 ^ 32) (ready : IsImportReady timestamp left_out native other recovery join) where
  pub was_first : WasReadied native [] timestamp recovery
  was_first = was timestamp native other recovery join ready.is_readied ready.none_behind time from.assembled also.assembled ready.recovers ready.follows

  pub joining_seats : join.joining ≡ other.seats
  joining_seats = joining_is timestamp time native other recovery join ready.is_readied from.assembled also.assembled ready.recovers

  pub step_joined : join.one.step ≡ record { config = join_config native other; disks = disks_after timestamp (join_leaders timestamp native other) (join_config native other) (join_disks timestamp native other) }
  step_joined = step_is timestamp time native other recovery join ready.is_readied from.assembled also.assembled ready.recovers

  -- ---- slots apart

  kept_seat : (place : ℕ) (seat : Seat) → slice_get other.seats place ≡ Some seat → (is_kept native.newest seat.slot ≡ true) × (not (is_own native.seats seat.slot) ≡ true)
  kept_seat place seat at =
      and_parts (is_kept native.newest seat.slot) (not (is_own native.seats seat.slot))
      (list_all_read (λ (one : Seat). is_kept native.newest one.slot && not (is_own native.seats one.slot)) other.seats place seat ready.are_kept at)

  pub kept_each : (place : ℕ) (seat : Seat) → slice_get other.seats place ≡ Some seat → is_kept native.newest seat.slot ≡ true
  kept_each place seat at = (kept_seat place seat at).0

  -- No slot that joins is that of one of the group's disks.
  pub apart_before : (k : ℕ) (disk : Seated) → slice_get (seated other) k ≡ Some disk → (j : ℕ) (before : Seated) → slice_get (seated native) j ≡ Some before
      → before.seat.slot ≡ disk.seat.slot → ⊥
  apart_before k disk at j before there same =
      let its = seated_is other k disk at in
      let own = seated_is native j before there in
      let none = none_any (λ (seat : Seat). seat.slot == disk.seat.slot) native.seats own.place before.seat
      (not-true (is_own native.seats disk.seat.slot) (kept_seat its.place disk.seat its.is_seat).1) own.is_seat in
      false≢true (sym none ∙ ap (λ (slot : ℕ). slot == disk.seat.slot) same ∙ eq-eqb disk.seat.slot disk.seat.slot refl)

  pub are_apart : AreApart (disks_recovered timestamp native) (seated other)
  are_apart = all_from (λ (disk : Seated). AllByRecursion (λ (own : Seated). disk.seat.slot ≢ own.seat.slot) (disks_recovered timestamp native)) (seated other) (λ k disk at.
      all_from (λ (own : Seated). disk.seat.slot ≢ own.seat.slot) (disks_recovered timestamp native) (λ i own there same.
      let on = recovered_on timestamp native i own there in
      apart_before k disk at on.0 on.1 on.2 (on.3 ∙ sym same)))

  -- ---- where it is written

  -- the recovery can be written
  pub slots_there : HaveSlots old.sizes native.seats
  slots_there = seats_on_slots old.sizes native.seats from.seats

  pub first_lies : LieOnSlots old.sizes (recovery_slots recovery) (recovery_updates recovery)
  first_lies = recovery_lies native [] timestamp recovery was_first old.sizes from.under

  -- and the join behind it
  pub join_there : HaveSlots old.sizes join.joining
  join_there = subst (HaveSlots old.sizes) (sym joining_seats) (seats_on_slots old.sizes other.seats also.seats)

  behind_rises : SlotsRise (seats_in (disks_recovered timestamp native))
  behind_rises =
      let behind = is_recovered native [] timestamp recovery was_first in
      subst (λ (disks : List Seated). SlotsRise (seats_in disks)) behind.disks_are (subst SlotsRise (sym behind.is_settled.are_seated) behind.is_settled.slots_rise)

  behind_placed : AllByRecursion (HasPlace old.sizes) (disks_recovered timestamp native)
  behind_placed =
      let behind = is_recovered native [] timestamp recovery was_first in
      subst (AllByRecursion (HasPlace old.sizes)) behind.disks_are (seated_placed old.sizes _ (recovered_anchored native [] timestamp recovery was_first old.sizes from.under))

  rise : SlotsRise (seats_in (join_disks timestamp native other))
  rise =
      both_rise (disks_recovered timestamp native) (seated other) behind_rises (subst SlotsRise (sym also.assembled.are_seated) also.assembled.slots_rise) are_apart

  placed : AllByRecursion (HasPlace old.sizes) (join_disks timestamp native other)
  placed = both_have (HasPlace old.sizes) (disks_recovered timestamp native) (seated other) behind_placed (seated_placed old.sizes other also.under)

  pub join_lies : LieOnSlots old.sizes (join_slots join) (join_updates join)
  join_lies =
      let written = in_order join.one.step.disks in
      let have = order_all (HasPlace old.sizes) join.one.step.disks (ready.follows.have_places old.sizes placed) in
      let place_of = λ (place : ℕ) (disk : Seated) (at : slice_get written place ≡ Some disk). all_at (HasPlace old.sizes) written place disk have at in
      record {
        are_slots = record {
          there = λ place slot at.
              let found = in_map (λ (disk : Seated). disk.seat.slot) written place slot at in
              subst (λ (n : ℕ). n < length old.sizes) found.2 (place_of place found.0 found.1).there;
          differ = λ first second slot at again. order_differ join.one.step.disks (ready.follows.slots_rise rise) first second slot at again;
        };
        counted = ready.follows.are_prepared.counted ∙ sym (length-map written (λ (disk : Seated). disk.seat.slot));
        lie_on = λ place slot update at again.
            let found = in_map (λ (disk : Seated). disk.seat.slot) written place slot at in
            let here = place_of place found.0 found.1 in
            subst (λ (n : ℕ). LiesOn (slice_index old.sizes n) update) found.2
            (lies_on (slice_index old.sizes found.0.seat.slot) here.anchor found.0.copy found.0.last found.0.mode update here.under (ready.follows.are_prepared.each place found.0 update found.1 again));
      }

  -- ---- on slots of seats

  -- a disk is on a slot of a seat of either group
  abbrev IsOnSeat : Seated → Type 0
  IsOnSeat disk = IsOneOf (slots_of native.seats) disk.seat.slot ⊎ IsOneOf (slots_of other.seats) disk.seat.slot

  on_seats : AllByRecursion IsOnSeat (join_disks timestamp native other)
  on_seats = both_have IsOnSeat (disks_recovered timestamp native) (seated other)
      (all_from IsOnSeat (disks_recovered timestamp native) (λ k disk at.
      let on = recovered_on timestamp native k disk at in
      let own = seated_is native on.0 on.1 on.2 in
      inl (subst (λ (slot : ℕ). IsOneOf (slots_of native.seats) slot) on.3 (seats_one native.seats own.place on.1.seat own.is_seat))))
      (all_from IsOnSeat (seated other) (λ k disk at.
      let own = seated_is other k disk at in
      inr (seats_one other.seats own.place disk.seat own.is_seat)))

  written_on_seat : (slot : ℕ) → IsOneOf (join_slots join) slot → IsOneOf (slots_of native.seats) slot ⊎ IsOneOf (slots_of other.seats) slot
  written_on_seat slot one =
      let found = in_map (λ (disk : Seated). disk.seat.slot) (in_order join.one.step.disks) one.place slot one.is_there in
      let made = order_from join.one.step.disks one.place found.0 found.1 in
      let all = subst (λ (step : Step). AllByRecursion (IsRewritten (join_disks timestamp native other) step.config) step.disks) (sym step_joined)
      (disks_rewritten timestamp (join_leaders timestamp native other) (join_config native other) (join_disks timestamp native other)) in
      let is = all_at (IsRewritten (join_disks timestamp native other) join.one.step.config) join.one.step.disks made.0 found.0 all made.1 in
      subst (λ (n : ℕ). IsOneOf (slots_of native.seats) n ⊎ IsOneOf (slots_of other.seats) n) (ap (λ (seat : Seat). seat.slot) (sym is.same_seat) ∙ found.2)
      (all_at IsOnSeat (join_disks timestamp native other) is.place is.before on_seats is.is_there)

  -- A write or a sync of a seat's slot failed.
  fault_on : (new : BayState D) (slot : ℕ) → IsOneOf (slots_of native.seats) slot ⊎ IsOneOf (slots_of other.seats) slot → Rose (old.failed_writes slot) (new.failed_writes slot)
      → IsJoinFault (work_of tells old new) native other (import_asked timestamp left_out native other) slot
  fault_on new slot one rose = record {
    made = was_readied recovery join;
    are_asked = ready.are_asked;
    is_seat = one;
    there = ⊎_elim
        (λ own.
        let found = in_map (λ (seat : Seat). seat.slot) native.seats own.place slot own.is_there in
        subst (λ (n : ℕ). n < length old.sizes) found.2 (from.seats own.place found.0 found.1).0)
        (λ its.
        let found = in_map (λ (seat : Seat). seat.slot) other.seats its.place slot its.is_there in
        subst (λ (n : ℕ). n < length old.sizes) found.2 (also.seats its.place found.0 found.1).0)
        one;
    rose = rose;
  }

  -- in the recovery
  pub recover_failed : (new : BayState D) (slot : ℕ) → IsOneOf (slots_of native.seats) slot ⊎ IsOneOf (recovery_slots recovery) slot → Rose (old.failed_writes slot) (new.failed_writes slot)
      → IsJoinFault (work_of tells old new) native other (import_asked timestamp left_out native other) slot
  recover_failed new slot one rose = fault_on new slot (inl (⊎_elim (λ seat. seat) (recovery_on_seats native [] timestamp recovery was_first slot) one)) rose

  -- or in the join behind it
  pub join_failed : (middle new : BayState D) (slot : ℕ) → IsOneOf (slots_of join.joining) slot ⊎ IsOneOf (join_slots join) slot → middle.failed_writes ≡ old.failed_writes
      → Rose (middle.failed_writes slot) (new.failed_writes slot) → IsJoinFault (work_of tells old new) native other (import_asked timestamp left_out native other) slot
  join_failed middle new slot one same rose =
      fault_on new slot (⊎_elim (λ its. inr (subst (λ (seats : List Seat). IsOneOf (slots_of seats) slot) joining_seats its)) (written_on_seat slot) one)
      (subst (λ (counts : ℕ → ℕ). Rose (counts slot) (new.failed_writes slot)) same rose)
