-- What a call knows that took a group from disks which a history admits.
use Rattle.std.proofs.Common.{◌≡◌, ℕ, Bool, true, false, List, [], length, Option, Some, Ok, refl, ap, sym, ◌∙◌, subst}
use Rattle.std.proofs.Math.Path.{fun_ext}
use Rattle.std.specs.Prelude.{slice_get, unwrap_or}
use Rattle.ddf_lemmas.proofs.Lists.{in_map, mapped_at}
use Rattle.ddf_bay.specs.Sectors.{Image, IsLeft}
use Rattle.ddf_bay.specs.State.{BayState}
use Rattle.ddf_config.specs.declared.seat.Seat.{Seat}
use Rattle.ddf_copy.specs.declared.copy.DiskCopy.{DiskCopy}
use Rattle.ddf_copy.specs.declared.newest_copy.Newest.{Newest}
use Rattle.ddf_plan.specs.Lose.{is_among}
use Rattle.ddf_view.specs.View.{View, view_of}
use Rattle.ddf_history.specs.Reading.{Scene}
use Rattle.ddf_history.specs.Issued.{Past, IsSince, is_away}
use Rattle.ddf_history.specs.Leaders.{seen}
use Rattle.ddf_history.specs.Promise.{IsKept}
use Rattle.ddf_history.specs.Answer.{IsClaimed}
use Rattle.ddf_history.specs.Calls.{IsAssembled, AreSure, NoneAbsent}
use Rattle.ddf_history.specs.Groups.{groups, has_current, disk_of}
use Rattle.ddf_history.specs.Scenes.{scene_of}
use Rattle.ddf_history.proofs.Assembling.{read_as}
use Rattle.ddf_history.proofs.Calls.{claims as members_claimed}
use Rattle.ddf_history.proofs.Sound.{groups_are_sound}
use Rattle.ddf_seats.specs.declared.seated.Seated.{Seated}
use Rattle.ddf_assembly.specs.Assembled.{IsAssembledGroup}
use Rattle.ddf_steps.specs.Committed.{slots_of, synced}
use Rattle.ddf_seats.specs.Group.{GroupValue, copy_at}
use Rattle.ddf_assembly.specs.Group.{group_of}
use Rattle.ddf_assembly.specs.Held.{AreHeldOn, StandUnder}
use Rattle.ddf_assembly.specs.Reading.{HaveAnchors}
use Rattle.ddf_seats.specs.Seated.{seated, seats_in}
use Rattle.ddf_assembly.specs.Slots.{newest_from}
use Rattle.ddf_recovery.proofs.Committed.{no_change}
use Rattle.ddf_seats.proofs.CommittedSeats.{seated_is}
use Rattle.ddf_history_steps.specs.AtEnd.{IsMember}
use Rattle.ddf_history_steps.specs.Going.{IsAdmitted}
use Rattle.ddf_history_steps.specs.Kept.{AreAllKept, HoldsBytes, is_read, is_slot}
use Rattle.ddf_history_steps.proofs.Begun.{IsMadeOf, assembled_kept, assembled_since}
use Rattle.ddf_history_steps.proofs.Claimed as claims
use Rattle.ddf_history_steps.proofs.Slots.{slot_is, slot_placed}
use Rattle.ddf_history_steps.proofs.Stops.{same_scene}

-- A call took this group from disks that its history admits.
pub record IsTaken (group : List ℕ) {D : Type 0} (past : Past (groups group)) (state : BayState D) (left : List Bool) (named : Option (List ℕ))
    (found : GroupValue) : Type 0 where
  pub kept : AreAllKept group past state
  pub admitted : IsAdmitted group past state left found
  -- the disks as they read are one of the images that a stop may leave
  pub is_left : IsLeft state.may_hold state.held
  pub holds_bytes : (slot : ℕ) → HoldsBytes (state.held slot)
  pub every_slot : length left ≡ length state.sizes
  pub is_found : group_of (newest_from state 0 left) named ≡ Ok found
  pub same_group : found.config.group ≡ group
  pub are_held : AreHeldOn state found.newest
  pub are_under : StandUnder state found.newest
  pub anchored : HaveAnchors state.sizes found.newest
  pub assembled : IsAssembledGroup found

module _ (group : List ℕ) {D : Type 0} (past : Past (groups group)) (state : BayState D) (left : List Bool) (named : Option (List ℕ)) (found : GroupValue)
    (taken : IsTaken group past state left named found) where
  -- what the disks showed
  abbrev pub held : Scene View
  held = scene_of state.sizes state.held

  abbrev newest : List (Option Newest)
  newest = newest_from state 0 left

  -- Each slot showed what it should.
  pub kept_held : IsKept past held
  kept_held = taken.admitted.is_kept

  -- It assembled the group's configuration, which was issued.
  pub assembled : IsAssembled past held (is_read left) found.config
  assembled =
      assembled_kept group state left newest taken.every_slot refl past taken.admitted.same_slots kept_held taken.admitted.may_read taken.admitted.member named
      found taken.is_found taken.same_group

  pub issued : (number : ℕ) × IsSince past.changes number found.config
  issued =
      assembled_since group state left newest taken.every_slot refl past taken.admitted.same_slots kept_held taken.admitted.may_read taken.admitted.member named
      found taken.is_found taken.same_group

  -- A claimed slot is that of a seat.
  pub claimed_seated : (slot : ℕ) (view : View) → IsClaimed (groups group) (seen (is_read left) held) slot view → is_slot (slots_of found.seats) slot ≡ true
  claimed_seated =
      claims.claimed_seated group state left newest taken.every_slot refl past taken.admitted.same_slots kept_held taken.admitted.may_read taken.admitted.member named
      found taken.is_found taken.same_group

  -- Its disk is a current member.
  pub claimed_is_current : (slot : ℕ) (view : View) → IsClaimed (groups group) (seen (is_read left) held) slot view → has_current found.config (disk_of view) ≡ true
  claimed_is_current =
      claims.claimed_is_current group state left newest taken.every_slot refl past taken.admitted.same_slots kept_held taken.admitted.may_read taken.admitted.member named
      found taken.is_found taken.same_group

  -- Where no member is absent each is claimed, and the slot of each is that of a seat.
  pub none_absent : found.absent ≡ [] → NoneAbsent (groups group) (is_read left) held found.config
  none_absent =
      claims.none_absent group state left newest taken.every_slot refl past taken.admitted.same_slots kept_held taken.admitted.may_read taken.admitted.member named
      found taken.is_found taken.same_group

  pub current_seated : found.absent ≡ [] → (slot : ℕ) → has_current found.config (past.disk slot) ≡ true → is_slot (slots_of found.seats) slot ≡ true
  current_seated =
      claims.current_seated group state left newest taken.every_slot refl past taken.admitted.same_slots kept_held taken.admitted.may_read taken.admitted.member named
      found taken.is_found taken.same_group

  -- A current member that isn't away, and was read, is claimed.
  pub member_claimed : (slot : ℕ) → is_away past slot ≡ false → is_read left slot ≡ true → has_current found.config (past.disk slot) ≡ true
      → (view : View) × IsClaimed (groups group) (seen (is_read left) held) slot view
  member_claimed slot here read now =
      let is = read_as (groups group) (groups_are_sound group) past held kept_held (is_read left) taken.admitted.may_read taken.admitted.member found.config
      assembled.is_read in
      members_claimed (groups group) (groups_are_sound group) past held (is_read left) found.config assembled is.0 is.1 is.3 is.4 is.5 slot here read now

  -- Its reference isn't absent.
  pub not_absent : (slot : ℕ) (view : View) → IsClaimed (groups group) (seen (is_read left) held) slot view → is_among found.absent view.reference ≡ false
  not_absent =
      claims.claimed_not_absent group state left newest taken.every_slot refl past taken.admitted.same_slots kept_held taken.admitted.may_read taken.admitted.member named
      found taken.is_found taken.same_group

  -- ---- the seats

  -- It is made of what was found.
  pub made : IsMadeOf newest (Some group) found
  made =
      claims.made group state left newest taken.every_slot refl past taken.admitted.same_slots kept_held taken.admitted.may_read taken.admitted.member named
      found taken.is_found taken.same_group

  -- The group's newest copies are those that were read.
  pub newest_is : found.newest ≡ newest
  newest_is =
      claims.newest_is group state left newest taken.every_slot refl past taken.admitted.same_slots kept_held taken.admitted.may_read taken.admitted.member named
      found taken.is_found taken.same_group

  -- the copy that stands for a slot
  abbrev pub old : ℕ → DiskCopy
  old slot = unwrap_or (copy_at found.newest slot) no_change.old

  module _ (k : ℕ) (disk : Seated) (at : slice_get (seated found) k ≡ Some disk) where
    -- The copy of a seat's disk stands for its slot.
    pub disk_copy : copy_at found.newest disk.seat.slot ≡ Some disk.copy
    disk_copy =
        claims.disk_copy group state left newest taken.every_slot refl past taken.admitted.same_slots kept_held taken.admitted.may_read taken.admitted.member named
        found taken.is_found taken.same_group k disk at

    pub old_is : old disk.seat.slot ≡ disk.copy
    old_is = ap (λ (one : Option DiskCopy). unwrap_or one no_change.old) disk_copy

    -- Its slot is that of a seat.
    pub disk_seated : is_slot (slots_of found.seats) disk.seat.slot ≡ true
    disk_seated =
        let own = seated_is found k disk at in
        slot_is (slots_of found.seats) own.place disk.seat.slot (mapped_at (λ (seat : Seat). seat.slot) found.seats own.place disk.seat own.is_seat)

    -- Its slot is claimed, by this copy.
    pub disk_claimed : IsClaimed (groups group) (seen (is_read left) held) disk.seat.slot (view_of disk.copy)
    disk_claimed =
        claims.disk_claimed group state left newest taken.every_slot refl past taken.admitted.same_slots kept_held taken.admitted.may_read taken.admitted.member named
        found taken.is_found taken.same_group k disk at

    -- The copy names the seat's reference.
    pub disk_reference : (view_of disk.copy).reference ≡ disk.seat.reference
    disk_reference =
        claims.disk_reference group state left newest taken.every_slot refl past taken.admitted.same_slots kept_held taken.admitted.may_read taken.admitted.member named
        found taken.is_found taken.same_group k disk at

    -- Its disk is a current member.
    pub disk_member : IsMember found.config disk
    disk_member =
        claims.disk_member group state left newest taken.every_slot refl past taken.admitted.same_slots kept_held taken.admitted.may_read taken.admitted.member named
        found taken.is_found taken.same_group k disk at

  -- A seat's disk is among the group's.
  pub record IsSeatOn (slot : ℕ) : Type 0 where
    pub place : ℕ
    pub disk : Seated
    pub is_there : slice_get (seated found) place ≡ Some disk
    pub slot_is : disk.seat.slot ≡ slot

  pub seat_on : (slot : ℕ) → is_slot (slots_of found.seats) slot ≡ true → IsSeatOn slot
  seat_on slot is =
      let placed = slot_placed (slots_of found.seats) slot is in
      let seat = in_map (λ (one : Seat). one.slot) found.seats placed.0 slot placed.1 in
      let there : slice_get (seats_in (seated found)) placed.0 ≡ Some seat.0 = ap (λ (seats : List Seat). slice_get seats placed.0) taken.assembled.are_seated ∙ seat.1 in
      let disk = in_map (λ (one : Seated). one.seat) (seated found) placed.0 seat.0 there in
      record { place = placed.0; disk = disk.0; is_there = disk.1; slot_is = ap (λ (one : Seat). one.slot) disk.2 ∙ seat.2 }

  -- So the copy that stands for its slot claims it.
  pub seat_claimed : (slot : ℕ) → is_slot (slots_of found.seats) slot ≡ true → IsClaimed (groups group) (seen (is_read left) held) slot (view_of (old slot))
  seat_claimed slot is =
      let on = seat_on slot is in
      subst (λ (n : ℕ). IsClaimed (groups group) (seen (is_read left) held) n (view_of (old n))) on.slot_is
      (subst (λ (copy : DiskCopy). IsClaimed (groups group) (seen (is_read left) held) on.disk.seat.slot (view_of copy)) (sym (old_is on.place on.disk on.is_there))
      (disk_claimed on.place on.disk on.is_there))

  -- ---- once the seats' slots are synced

  abbrev pub sure_state : BayState D
  sure_state = synced state (slots_of found.seats)

  module _ (image : Image) (leaves : IsLeft sure_state.may_hold image) where
    -- A stop leaves of them what they hold.
    pub seat_sure : (slot : ℕ) → is_slot (slots_of found.seats) slot ≡ true → image slot ≡ state.held slot
    seat_sure slot is =
        let placed = slot_placed (slots_of found.seats) slot is in
        fun_ext (λ l. (leaves slot l).1 placed.0 placed.1)

    pub are_sure : AreSure (groups group) (is_read left) held (scene_of state.sizes image)
    are_sure slot copy claimed = same_scene state.sizes image state.held slot (seat_sure slot (claimed_seated slot copy claimed))

    -- Each slot shows what it should.
    pub sure_kept : IsKept past (scene_of state.sizes image)
    sure_kept = taken.kept image (λ s l. (leaves s l).0)
