-- The slots that a join writes, those of both groups, and the copies that stand for them.
use Rattle.std.proofs.Common.{◌≡◌, ◌⊎◌, ℕ, true, List, Option, Some, None, ap, sym, ◌∙◌, subst}
use Rattle.std.specs.Prelude.{slice_get}
use Rattle.std.specs.List.{AllByRecursion}
use Rattle.std.specs.Option.{option_and_then}
use Rattle.ddf_lemmas.proofs.Lists.{all_from, in_map, mapped_at}
use Rattle.ddf_bay.specs.Moments.{IsSettled}
use Rattle.ddf_bay.specs.Sectors.{Image, IsLeft}
use Rattle.ddf_bay.specs.State.{BayState}
use Rattle.ddf_config.specs.declared.member.Member.{Member}
use Rattle.ddf_config.specs.declared.seat.Seat.{Seat}
use Rattle.ddf_config.specs.Configuration.{Configuration}
use Rattle.ddf_config.specs.Members.{is_current}
use Rattle.ddf_copy.specs.declared.copy.DiskCopy.{DiskCopy}
use Rattle.ddf_copy.specs.declared.newest_copy.Newest.{Newest}
use Rattle.ddf_copy.specs.Copies.{standing_copy}
use Rattle.ddf_copy.specs.Written.{CanBeCopy}
use Rattle.ddf_import.specs.Clash.{join_cause}
use Rattle.ddf_view.specs.View.{view_of}
use Rattle.ddf_rewrite.specs.Before.{Before}
use Rattle.ddf_rewrite.specs.Changing.{CanChange}
use Rattle.ddf_rewrite.specs.Copies.{changed_copy}
use Rattle.ddf_rewrite.proofs.Lists.{all_at}
use Rattle.ddf_history.specs.Groups.{Disk, disk_of, groups, has_current}
use Rattle.ddf_history.specs.Issued.{Past}
use Rattle.ddf_history.specs.Scenes.{scene_of}
use Rattle.ddf_seats.specs.declared.seated.Seated.{Seated}
use Rattle.ddf_steps.specs.Committed.{slots_of, synced}
use Rattle.ddf_seats.specs.Group.{GroupValue}
use Rattle.ddf_joining.specs.Importing.{IsJoinOf, join_slots, join_written}
use Rattle.ddf_joining.specs.Joining.{both_disks, config_joined, config_joining}
use Rattle.ddf_joining.specs.JoinValue.{JoinValue}
use Rattle.ddf_seats.specs.Seated.{seated, slots_in}
use Rattle.ddf_steps.specs.Steps.{Step, disks_after, in_order, stays_in}
use Rattle.ddf_joining.proofs.BothSides.{both_have, have_both}
use Rattle.ddf_seats.proofs.CommittedSeats.{seated_is}
use Rattle.ddf_seats.proofs.Lists.{get_within}
use Rattle.ddf_steps.proofs.Ordered.{order_at, order_from}
use Rattle.ddf_history.proofs.Common.{current_listed}
use Rattle.ddf_history_steps.specs.AtEnd.{IsAtEnd, IsMember}
use Rattle.ddf_history_joins.specs.Joins.{AdmitsJoin, BringsMembers}
use Rattle.ddf_history_steps.specs.Kept.{is_slot}
use Rattle.ddf_history_steps.proofs.CommittingSeats.{IsWritten, copy_found, copy_in, renewed, stays_written}
use Rattle.ddf_history_joins.proofs.JoinMembers.{joins_current, keeps_current, of_either}
use Rattle.ddf_history_steps.proofs.Slots.{slot_is, slot_placed}
use Rattle.ddf_history_steps.proofs.RecoveringLossEnd.{slots_same}

-- A join that may be written to the disks of a group that stands at the end of a history, and of another group.
pub record CanJoin (group : List ℕ) {D : Type 0} (past : Past (groups group)) (state : BayState D) (found other : GroupValue) (timestamp : ℕ) (leaders : Before) (join : JoinValue) : Type 0 where
  pub at_end : IsAtEnd group past state found
  pub is_join : IsJoinOf timestamp leaders found other join
  pub next_is : join.one.step.config ≡ config_joined found.config (config_joining other)
  pub free : join_cause found.config (config_joining other) ≡ None
  pub apart : (i j : ℕ) (one also : ℕ × Member) → slice_get found.config.members i ≡ Some one → slice_get found.config.members j ≡ Some also → one.0 ≡ also.0 → one ≡ also
  pub can_change : (place : ℕ) (disk : Seated) → slice_get (both_disks (seated found) (seated other)) place ≡ Some disk → stays_in join.one.step.config disk ≡ true
      → CanChange disk.copy leaders join.one.step.config timestamp
  pub are_copies : (place : ℕ) (disk : Seated) → slice_get (both_disks (seated found) (seated other)) place ≡ Some disk → stays_in join.one.step.config disk ≡ true
      → CanBeCopy (changed_copy disk.copy leaders join.one.step.config timestamp)
  pub brings : BringsMembers other
  pub admits : (image : Image) → IsLeft (synced state (slots_of join.joining)).may_hold image
      → AdmitsJoin group past (scene_of state.sizes image) (slots_of join.joining) (config_joining other) join.one.step.config

-- A slot of disks is one of them in order.
ordered_slot : (disks : List Seated) (slot : ℕ) → is_slot (slots_in disks) slot ≡ true → is_slot (slots_in (in_order disks)) slot ≡ true
ordered_slot disks slot here =
    let place = slot_placed (slots_in disks) slot here in
    let disk = in_map (λ (one : Seated). one.seat.slot) disks place.0 slot place.1 in
    let there = order_at disks place.0 disk.0 disk.1 in
    slot_is (slots_in (in_order disks)) there.0 slot (mapped_at (λ (one : Seated). one.seat.slot) (in_order disks) there.0 disk.0 there.1 ∙ ap Some disk.2)

module _ (group : List ℕ) {D : Type 0} (past : Past (groups group)) (state : BayState D) (found other : GroupValue) (timestamp : ℕ) (leaders : Before) (join : JoinValue)
    (can : CanJoin group past state found other timestamp leaders join) where
  abbrev next : Configuration
  next = join.one.step.config

  abbrev brought : Configuration
  brought = config_joining other

  abbrev both : List Seated
  both = both_disks (seated found) (seated other)

  abbrev new_disks : List Seated
  new_disks = disks_after timestamp leaders next both

  -- the disks with the joining slots synced
  abbrev sure : BayState D
  sure = synced state (slots_of join.joining)

  -- The disks of the step are these.
  pub disks_are : join_written join ≡ in_order (disks_after timestamp leaders join.one.step.config (both_disks (seated found) (seated other)))
  disks_are = ap (λ (step : Step). in_order step.disks) can.is_join.step

  -- ---- members

  as_joined : (disk : Disk) → has_current next disk ≡ has_current (config_joined found.config brought) disk
  as_joined disk = ap (λ (config : Configuration). has_current config disk) can.next_is

  pub stays_current : (disk : Disk) → has_current found.config disk ≡ true → has_current join.one.step.config disk ≡ true
  stays_current disk was = as_joined disk ∙ keeps_current found.config brought can.free can.apart disk was

  pub joins_too : (disk : Disk) → has_current (config_joining other) disk ≡ true → has_current join.one.step.config disk ≡ true
  joins_too disk now = as_joined disk ∙ joins_current found.config brought can.free can.apart disk now

  pub either_one : (disk : Disk) → has_current join.one.step.config disk ≡ true → (has_current found.config disk ≡ true) ⊎ (has_current (config_joining other) disk ≡ true)
  either_one disk now = of_either found.config brought can.free can.apart disk (sym (as_joined disk) ∙ now)

  -- The disk of each of both is a member behind it.
  are_members : AllByRecursion (IsMember next) both
  are_members =
      both_have (IsMember next) (seated found) (seated other)
      (all_from (IsMember next) (seated found) (λ k disk at.
      let is = can.at_end.are_members k disk at in
      record { same_reference = is.same_reference; is_current = stays_current (disk_of (view_of disk.copy)) is.is_current }))
      (all_from (IsMember next) (seated other) (λ k disk at.
      let is = can.brings.are_members k disk at in
      record { same_reference = is.same_reference; is_current = joins_too (disk_of (view_of disk.copy)) is.is_current }))

  pub is_member : (place : ℕ) (disk : Seated) → slice_get (both_disks (seated found) (seated other)) place ≡ Some disk → IsMember join.one.step.config disk
  is_member place disk at = all_at (IsMember next) both place disk are_members at

  -- So it stays.
  stays : (place : ℕ) (disk : Seated) → slice_get both place ≡ Some disk → stays_in next disk ≡ true
  stays place disk at =
      let is = is_member place disk at in
      ap (is_current next.members) is.same_reference ∙ current_listed next (disk_of (view_of disk.copy)) is.is_current

  -- ---- slots

  -- A disk stands at each place that is written.
  pub written_place : (place slot : ℕ) → slice_get (join_slots join) place ≡ Some slot
      → (made : Seated) × (slice_get (join_written join) place ≡ Some made) × (made.seat.slot ≡ slot)
  written_place place slot at = in_map (λ (disk : Seated). disk.seat.slot) (join_written join) place slot at

  -- It is one of both, with its new copy.
  pub made_is : (place : ℕ) (made : Seated) → slice_get (join_written join) place ≡ Some made
      → (j : ℕ) × (slice_get (disks_after timestamp leaders join.one.step.config (both_disks (seated found) (seated other))) j ≡ Some made)
  made_is place made at = order_from new_disks place made (ap (λ (all : List Seated). slice_get all place) (sym disks_are) ∙ at)

  pub written : (slot : ℕ) → is_slot (join_slots join) slot ≡ true → IsWritten (both_disks (seated found) (seated other)) leaders join.one.step.config timestamp slot
  written slot here =
      let place = slot_placed (join_slots join) slot here in
      let made = written_place place.0 slot place.1 in
      let from = made_is place.0 made.0 made.1 in
      let own = renewed both leaders next timestamp from.0 made.0 from.1 in
      record { made = made.0; renews = own; slot_is = ap (λ (disk : Seated). disk.seat.slot) own.is_made ∙ made.2 }

  -- The slot of each of both is written.
  all_written : AllByRecursion (λ disk. is_slot (join_slots join) disk.seat.slot ≡ true) both
  all_written = all_from (λ (disk : Seated). is_slot (join_slots join) disk.seat.slot ≡ true) both (λ place disk at.
      ap (λ (all : List Seated). is_slot (slots_in all) disk.seat.slot) disks_are
      ∙ ordered_slot new_disks disk.seat.slot (stays_written both leaders next timestamp place disk at (stays place disk at)))

  pub native_written : (k : ℕ) (disk : Seated) → slice_get (seated found) k ≡ Some disk → is_slot (join_slots join) disk.seat.slot ≡ true
  native_written k disk at =
      all_at (λ (one : Seated). is_slot (join_slots join) one.seat.slot ≡ true) (seated found) k disk
      (have_both (λ (one : Seated). is_slot (join_slots join) one.seat.slot ≡ true) (seated found) (seated other) all_written).0 at

  pub joining_written : (k : ℕ) (disk : Seated) → slice_get (seated other) k ≡ Some disk → is_slot (join_slots join) disk.seat.slot ≡ true
  joining_written k disk at =
      all_at (λ (one : Seated). is_slot (join_slots join) one.seat.slot ≡ true) (seated other) k disk
      (have_both (λ (one : Seated). is_slot (join_slots join) one.seat.slot ≡ true) (seated found) (seated other) all_written).1 at

  -- The slot of a disk that joins is a joining one.
  pub joining_slot : (k : ℕ) (disk : Seated) → slice_get (seated other) k ≡ Some disk → is_slot (slots_of join.joining) disk.seat.slot ≡ true
  joining_slot k disk at =
      let own = seated_is other k disk at in
      let there = ap (λ (seats : List Seat). slice_get seats own.place) can.is_join.joining ∙ own.is_seat in
      slot_is (slots_of join.joining) own.place disk.seat.slot (mapped_at (λ (seat : Seat). seat.slot) join.joining own.place disk.seat there)

  -- ---- copies

  -- the newest copy of a slot, by which a copy stands
  abbrev StandsIn : Seated → Type 0
  StandsIn disk = (newest : Newest) × (slice_get found.newest disk.seat.slot ≡ Some (Some newest)) × (standing_copy newest ≡ Some disk.copy)

  stand : AllByRecursion StandsIn both
  stand =
      both_have StandsIn (seated found) (seated other)
      (all_from StandsIn (seated found) (λ k disk at. let own = seated_is found k disk at in (own.found, own.is_found, own.stands)))
      (all_from StandsIn (seated other) (λ k disk at.
      let own = seated_is other k disk at in
      let same = all_at (λ (one : Seated). slice_get found.newest one.seat.slot ≡ slice_get other.newest one.seat.slot) (seated other) k disk can.is_join.same_newest at in
      (own.found, same ∙ own.is_found, own.stands)))

  pub stands_in : (place : ℕ) (disk : Seated) → slice_get (both_disks (seated found) (seated other)) place ≡ Some disk
      → (newest : Newest) × (slice_get found.newest disk.seat.slot ≡ Some (Some newest)) × (standing_copy newest ≡ Some disk.copy)
  stands_in place disk at = all_at StandsIn both place disk stand at

  -- The copy of each slot is its disk's.
  pub copy_is : (place : ℕ) (disk : Seated) → slice_get (both_disks (seated found) (seated other)) place ≡ Some disk → copy_in found.newest disk.seat.slot ≡ disk.copy
  copy_is place disk at =
      let own = stands_in place disk at in
      copy_found found.newest disk.seat.slot disk.copy (ap (λ (one : Option (Option Newest)). option_and_then (λ n. option_and_then standing_copy n) one) own.1 ∙ own.2)

  pub old_is : (slot : ℕ) (own : IsWritten (both_disks (seated found) (seated other)) leaders join.one.step.config timestamp slot)
      → copy_in found.newest slot ≡ own.renews.disk.copy
  old_is slot own = ap (copy_in found.newest) (sym own.slot_is) ∙ copy_is own.renews.place own.renews.disk own.renews.at

  -- What holds of the copy of each of both holds of the copy of each slot that is written.
  pub by_disk : (P : DiskCopy → Type 0)
      → ((place : ℕ) (disk : Seated) → slice_get (both_disks (seated found) (seated other)) place ≡ Some disk → stays_in join.one.step.config disk ≡ true → P disk.copy)
      → (slot : ℕ) → is_slot (join_slots join) slot ≡ true → P (copy_in found.newest slot)
  by_disk P each slot here =
      let own = written slot here in
      subst P (sym (old_is slot own)) (each own.renews.place own.renews.disk own.renews.at own.renews.stays)

  -- ---- what a stop leaves of them

  abbrev IsSure : Seated → Type 0
  IsSure disk = IsSettled sure.may_hold sure.held disk.seat.slot

  are_sure : AllByRecursion IsSure both
  are_sure =
      both_have IsSure (seated found) (seated other)
      (all_from IsSure (seated found) (λ k disk at l bytes left.
      let own = seated_is found k disk at in
      can.at_end.holds.are_settled own.place disk.seat (get_within found.seats disk.seat own.place own.is_seat) own.is_seat l bytes left.0))
      (all_from IsSure (seated other) (λ k disk at l bytes left.
      let place = slot_placed (slots_of join.joining) disk.seat.slot (joining_slot k disk at) in
      left.1 place.0 place.1))

  pub slot_sure : (slot : ℕ) → is_slot (join_slots join) slot ≡ true → IsSettled (synced state (slots_of join.joining)).may_hold state.held slot
  slot_sure slot here =
      let own = written slot here in
      subst (λ (s : ℕ). IsSettled sure.may_hold sure.held s) own.slot_is (all_at IsSure both own.renews.place own.renews.disk are_sure own.renews.at)

  -- A joining slot is written.
  pub joining_written_slot : (slot : ℕ) → is_slot (slots_of join.joining) slot ≡ true → is_slot (join_slots join) slot ≡ true
  joining_written_slot slot here =
      let same : slots_of join.joining ≡ slots_in (seated other) =
      ap slots_of can.is_join.joining ∙ sym (ap slots_of can.is_join.other_assembled.are_seated) ∙ slots_same (seated other) in
      let place = slot_placed (slots_of join.joining) slot here in
      let own = in_map (λ (disk : Seated). disk.seat.slot) (seated other) place.0 slot (sym (ap (λ (all : List ℕ). slice_get all place.0) same) ∙ place.1) in
      subst (λ (s : ℕ). is_slot (join_slots join) s ≡ true) own.2 (joining_written place.0 own.0 own.1)
