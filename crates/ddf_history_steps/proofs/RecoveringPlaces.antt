-- The slots that recovery writes: those of seats whose disks pass a test.
use Rattle.std.proofs.Common.{◌≡◌, ℕ, Bool, true, false, not, List, map, Option, Some, None, refl, ap, sym, ◌∙◌, inl, inr, subst}
use Rattle.std.specs.Prelude.{filter, slice_get}
use Rattle.std.specs.Str.{bytes_eq}
use Rattle.ddf_lemmas.proofs.Lists.{filter_get, filter_pass, filtered_passes, in_map, mapped_at}
use Rattle.ddf_bay.specs.State.{BayState}
use Rattle.ddf_copy.specs.declared.copy.DiskCopy.{DiskCopy}
use Rattle.ddf_view.specs.View.{View, view_of}
use Rattle.ddf_rewrite.proofs.Lists.{all_at}
use Rattle.ddf_history.specs.Reading.{Scene, Shown, IsCopyOf}
use Rattle.ddf_history.specs.Issued.{Past}
use Rattle.ddf_history.specs.Steps.{OthersLast}
use Rattle.ddf_history.proofs.Since.{which}
use Rattle.ddf_history.specs.Groups.{groups}
use Rattle.ddf_seats.specs.declared.seated.Seated.{Seated}
use Rattle.ddf_recovery.specs.Committed.{MayRecover, disks_written, recovery_slots, slots_written}
use Rattle.ddf_steps.specs.Committed.{slots_of}
use Rattle.ddf_seats.specs.Group.{GroupValue}
use Rattle.ddf_steps.specs.Ready.{ReadyStep}
use Rattle.ddf_recovery.specs.Ready.{ReadyValue}
use Rattle.ddf_seats.specs.Seated.{seated, slots_in, is_adopted}
use Rattle.ddf_steps.specs.Steps.{in_order}
use Rattle.ddf_steps.proofs.Ordered.{adopted_last, order_at, order_from}
use Rattle.ddf_history.proofs.AnsweredTurned.{bytes_turned}
use Rattle.ddf_history_steps.specs.Kept.{is_slot}
use Rattle.ddf_history_steps.proofs.RecoveringEntry.{IsTaken, disk_seated, old, old_is}
use Rattle.ddf_history_steps.proofs.Slots.{slot_is as slot_among, slot_placed}
use Rattle.ddf_history_steps.proofs.Stops.{AreInTurn}

-- The group by which a disk's view is known is its header's.
pub view_group : (copy : DiskCopy) → (view_of copy).group ≡ copy.header.guid
unfolding view_of
view_group copy = refl

-- What is written is written to the slots of its disks.
pub slots_are : (next : Option ReadyStep) → slots_written next ≡ slots_in (disks_written next)
slots_are None = refl
slots_are (Some one) = refl

module _ (group : List ℕ) {D : Type 0} (past : Past (groups group)) (state : BayState D) (left : List Bool) (named : Option (List ℕ)) (found : GroupValue)
    (taken : IsTaken group past state left named found) (ready : ReadyValue) (may : MayRecover state found ready)
    -- it writes the disks of the seats that pass a test
    (test : Seated → Bool) (write : Seated → Seated) (same_seat : (disk : Seated) → (write disk).seat ≡ disk.seat)
    (disks_are : disks_written ready.recovery ≡ in_order (map write (filter test (seated found)))) where
  -- A slot that it writes is that of a seat whose disk passes, and gets what is made of that.
  pub record IsWrittenOn (slot : ℕ) : Type 0 where
    pub k : ℕ
    pub disk : Seated
    pub is_there : slice_get (seated found) k ≡ Some disk
    pub passes : test disk ≡ true
    pub slot_is : disk.seat.slot ≡ slot
    pub is_old : old group past state left named found taken slot ≡ disk.copy
    pub place : ℕ
    pub new_is : (may.seat place).new ≡ (write disk).copy
    pub slot_at : slice_get (recovery_slots ready) place ≡ Some slot
    pub disk_at : slice_get (in_order (map write (filter test (seated found)))) place ≡ Some (write disk)

  -- What stands at a place is such a slot.
  placed : (place slot : ℕ) → slice_get (recovery_slots ready) place ≡ Some slot → (on : IsWrittenOn slot) × (on.place ≡ place)
  placed place slot at =
      let disks = disks_written ready.recovery in
      let one = in_map (λ (disk : Seated). disk.seat.slot) disks place slot (ap (λ (slots : List ℕ). slice_get slots place) (sym (slots_are ready.recovery)) ∙ at) in
      let there : slice_get (in_order (map write (filter test (seated found)))) place ≡ Some one.0 = ap (λ (all : List Seated). slice_get all place) (sym disks_are) ∙ one.1 in
      let ordered = order_from (map write (filter test (seated found))) place one.0 there in
      let before = in_map write (filter test (seated found)) ordered.0 one.0 ordered.1 in
      let from = filter_get test (seated found) ordered.0 before.0 before.1 in
      let slot_is : before.0.seat.slot ≡ slot = ap (λ (seat : _). seat.slot) (sym (same_seat before.0)) ∙ ap (λ (disk : Seated). disk.seat.slot) before.2 ∙ one.2 in (
        record {
          k = from.0;
          disk = before.0;
          is_there = from.1;
          passes = all_at (λ (disk : Seated). test disk ≡ true) (filter test (seated found)) ordered.0 before.0 (filter_pass test (seated found)) before.1;
          slot_is = slot_is;
          is_old = ap (old group past state left named found taken) (sym slot_is) ∙ old_is group past state left named found taken from.0 before.0 from.1;
          place = place;
          new_is = may.news place one.0 one.1 ∙ ap (λ (disk : Seated). disk.copy) (sym before.2);
          slot_at = at;
          disk_at = there ∙ ap (λ (one : Seated). Some one) (sym before.2);
        },
        refl,
      )

  -- A slot that it writes has its seat.
  pub written_on : (slot : ℕ) → is_slot (recovery_slots ready) slot ≡ true → IsWrittenOn slot
  written_on slot is = let at = slot_placed (recovery_slots ready) slot is in (placed at.0 slot at.1).0

  -- So it is that of a seat.
  pub written_seated : (slot : ℕ) → is_slot (recovery_slots ready) slot ≡ true → is_slot (slots_of found.seats) slot ≡ true
  written_seated slot is =
      let on = written_on slot is in
      ap (is_slot (slots_of found.seats)) (sym on.slot_is) ∙ disk_seated group past state left named found taken on.k on.disk on.is_there

  -- The slot of each disk that passes is written.
  pub passes_written : (k : ℕ) (disk : Seated) → slice_get (seated found) k ≡ Some disk → test disk ≡ true → is_slot (recovery_slots ready) disk.seat.slot ≡ true
  passes_written k disk at is =
      let kept = filtered_passes test (seated found) k disk at is in
      let ordered = order_at (map write (filter test (seated found))) kept.0 (write disk) (mapped_at write (filter test (seated found)) kept.0 disk kept.1) in
      let there : slice_get (disks_written ready.recovery) ordered.0 ≡ Some (write disk) = ap (λ (all : List Seated). slice_get all ordered.0) disks_are ∙ ordered.1 in
      let slot : slice_get (recovery_slots ready) ordered.0 ≡ Some disk.seat.slot =
      ap (λ (slots : List ℕ). slice_get slots ordered.0) (slots_are ready.recovery)
      ∙ mapped_at (λ (one : Seated). one.seat.slot) (disks_written ready.recovery) ordered.0 (write disk) there
      ∙ ap (λ (seat : _). Some seat.slot) (same_seat disk) in
      slot_among (recovery_slots ready) ordered.0 disk.seat.slot slot

  -- A disk is adopted where its copy is of another group. Such disks are written last.
  module _ (adopts : (disk : Seated) → is_adopted (write disk) ≡ not (bytes_eq disk.copy.header.guid group))
      (new : ℕ → View) (scene after : Scene View)
      (shows_old : (slot : ℕ) → is_slot (recovery_slots ready) slot ≡ true → IsCopyOf (scene slot) (view_of (old group past state left named found taken slot)))
      (new_ours : (slot : ℕ) → is_slot (recovery_slots ready) slot ≡ true → bytes_eq group (new slot).group ≡ true)
      (turns : AreInTurn (recovery_slots ready) new scene after) where
    -- the copy of a slot is of the group where what it says is
    ours_alike : (slot : ℕ) (on : IsWrittenOn slot) → bytes_eq group (view_of (old group past state left named found taken slot)).group ≡ bytes_eq on.disk.copy.header.guid group
    ours_alike slot on =
        ap (bytes_eq group) (view_group (old group past state left named found taken slot) ∙ ap (λ (copy : DiskCopy). copy.header.guid) on.is_old)
        ∙ bytes_turned group on.disk.copy.header.guid

    pub others_last : OthersLast (groups group) (is_slot (recovery_slots ready)) new scene after
    others_last s t copy seat none only also alone ours =
        let on = written_on s seat in
        let other = written_on t also in
        let foreign : bytes_eq on.disk.copy.header.guid group ≡ false = elim (which (bytes_eq on.disk.copy.header.guid group)) [
          | inl is ↦ absurd (none (view_of (old group past state left named found taken s)) (shows_old s seat) (ours_alike s on ∙ is))
          | inr not_so ↦ not_so
        ] in
        let shown : view_of (old group past state left named found taken t) ≡ copy = subst (λ (it : Shown View). IsCopyOf it (view_of (old group past state left named found taken t))) alone (shows_old t also) in
        let own : bytes_eq other.disk.copy.header.guid group ≡ true = sym (ours_alike t other) ∙ ap (λ (view : View). bytes_eq group view.group) shown ∙ ours in
        let less = adopted_last (map write (filter test (seated found))) other.place on.place (write other.disk) (write on.disk) other.disk_at on.disk_at
        (adopts other.disk ∙ ap not own) (adopts on.disk ∙ ap not foreign) in
        turns on.place other.place s t on.slot_at other.slot_at less only
        (λ was. none (new s) (subst (λ (it : Shown View). IsCopyOf it (new s)) (sym was) refl) (new_ours s seat))

  -- The slots get what says as much as what is made of their old copies.
  module _ (make : DiskCopy → DiskCopy) (makes : (disk : Seated) → view_of (write disk).copy ≡ view_of (make disk.copy)) where
    pub new_views : (place slot : ℕ) → slice_get (recovery_slots ready) place ≡ Some slot
        → view_of (make (old group past state left named found taken slot)) ≡ view_of (may.seat place).new
    new_views place slot at =
        let on = placed place slot at in
        ap (λ (copy : DiskCopy). view_of (make copy)) on.0.is_old
        ∙ sym (makes on.0.disk)
        ∙ ap view_of (sym on.0.new_is)
        ∙ ap (λ (n : ℕ). view_of (may.seat n).new) on.1
