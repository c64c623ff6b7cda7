-- The seats of a group that a call found, over the history that admits the call.
use Rattle.std.proofs.Common.{◌≡◌, ◌∙◌, ◌⊎◌, inl, inr, ℕ, zero, suc, ◌+◌, ◌<◌, Bool, true, false, not, ◌&&◌, List, [], ◌∷◌, length, find, Option, Some, None, Ok, refl, ap, sym, subst, nat_eq, if◌then◌else◌, arith}
use Rattle.std.proofs.lemmas.Bool.{eqb-true}
use Rattle.std.specs.Prelude.{option_map, slice_get}
use Rattle.std.specs.Option.{option_and_then}
use Rattle.ddf_lemmas.proofs.Tests.{and_second}
use Rattle.ddf_bay.specs.State.{BayState, on_slot, size_of}
use Rattle.ddf_config.specs.declared.seat.Seat.{Seat}
use Rattle.ddf_config.specs.Configuration.{Configuration}
use Rattle.ddf_config.specs.Seats.{floor_of, slot_of}
use Rattle.ddf_copy.specs.declared.copy.DiskCopy.{DiskCopy}
use Rattle.ddf_copy.specs.declared.newest_copy.Newest.{Newest}
use Rattle.ddf_copy.specs.Copies.{newest_at, standing_copy}
use Rattle.ddf_array.specs.Losing.{AreFewer}
use Rattle.ddf_view.specs.View.{View, view_of}
use Rattle.ddf_plan.specs.Lose.{is_among}
use Rattle.ddf_rewrite.proofs.AllWanted.{filter_map_get}
use Rattle.ddf_history.specs.Answer.{HasMember, IsReadable}
use Rattle.ddf_history.specs.Groups.{Disk, disk_of, groups, has_current}
use Rattle.ddf_history.specs.Issued.{IsSince, Past}
use Rattle.ddf_history.specs.Leaders.{seen}
use Rattle.ddf_history.specs.Promise.{IsKept}
use Rattle.ddf_history.specs.Reading.{IsCopyOf, Scene}
use Rattle.ddf_history.specs.Scenes.{scene_of}
use Rattle.ddf_history.proofs.AnsweredLists.{map_some}
use Rattle.ddf_history.proofs.Calls.{seen_copy, seen_read}
use Rattle.ddf_history.proofs.Since.{first_is_copy}
use Rattle.ddf_history.proofs.Sound.{groups_are_sound}
use Rattle.ddf_seats.specs.declared.seated.Seated.{Seated}
use Rattle.ddf_seats.specs.Group.{GroupValue, copy_at, seat_at, seat_of}
use Rattle.ddf_assembly.specs.Group.{group_as, group_of}
use Rattle.ddf_recovery.specs.Recovery.{trusted_seats}
use Rattle.ddf_seats.specs.Seated.{seated}
use Rattle.ddf_seats.proofs.CommittedSeats.{seated_is}
use Rattle.ddf_recovery.proofs.Trusted.{trusted_there}
use Rattle.ddf_assembly.specs.Slots.{newest_from, newest_or}
use Rattle.ddf_history_steps.specs.Kept.{is_read}
use Rattle.ddf_history_steps.proofs.Begun.{IsMadeOf, assembled_since}
use Rattle.ddf_history_steps.proofs.Claimed as claims
use Rattle.ddf_data_history.specs.Promised.{AreAlone, is_seat, seats_in}
use Rattle.ddf_data_history.proofs.Seats.{found, has_seat, is_found, seat_of as listed_seat}
use Rattle.ddf_data_disks.specs.Seats.{AreOnSlots}
use Rattle.ddf_write_commands.proofs.BelowSteps.{IsFloored}
use Rattle.ddf_history_steps.specs.Floors.{HasFloor}
use Rattle.ddf_data_disks.proofs.Ended.{IsFoundAt}
use Rattle.ddf_data_calls.specs.Floors.{HaveFloors}

-- ---- seats of a history

module _ (group : List ℕ) (past : Past (groups group)) (config : Configuration) (floor : ℕ → ℕ) where
  -- It is the seat of a slot that isn't lost, whose disk is a current member, with the slot's floor.
  pub record IsListed (seat : Seat) : Type 0 where
    pub same_reference : seat.reference ≡ (past.disk seat.slot).reference
    pub is_current : has_current config (past.disk seat.slot) ≡ true
    pub is_below : seat.slot < past.slots
    pub not_lost : past.lost seat.slot ≡ false
    pub same_floor : seat.floor ≡ floor seat.slot

  abbrev pub AreListed : List Seat → Type 0
  AreListed seats = (place : ℕ) (seat : Seat) → slice_get seats place ≡ Some seat → IsListed seat

pub found_at : (seats : List Seat) (reference : ℕ) (seat : Seat) → find (λ (s : Seat). nat_eq s.reference reference) seats ≡ Some seat → IsFoundAt seats reference seat
found_at [] reference seat e = absurd (cc)
found_at (first ∷ seats) reference seat e = by (nat_eq first.reference reference) refl e (found_at seats reference seat)
  where
    by : (b : Bool) → nat_eq first.reference reference ≡ b → (if b then Some first else find (λ (s : Seat). nat_eq s.reference reference) seats) ≡ Some seat
        → (find (λ (s : Seat). nat_eq s.reference reference) seats ≡ Some seat → IsFoundAt seats reference seat) → IsFoundAt (first ∷ seats) reference seat
    by true is e later =
        let same : first ≡ seat = cc in
        record { place = 0; is_at = ap Some same; is_reference = ap (λ (s : Seat). s.reference) (sym same) ∙ eqb-true first.reference reference is }
    by false is e later = let rest = later e in record { place = suc rest.place; is_at = rest.is_at; is_reference = rest.is_reference }

-- each current member is in one slot
abbrev pub AreInOne : (group : List ℕ) → Past (groups group) → Configuration → Type 0
AreInOne group past config =
    (s t : ℕ) → has_current config (past.disk s) ≡ true → has_current config (past.disk t) ≡ true → (past.disk s).reference ≡ (past.disk t).reference → s ≡ t

pub in_one : (group : List ℕ) (past : Past (groups group)) → AreAlone group past → (number : ℕ) (config : Configuration) → IsSince past.changes number config → AreInOne group past config
in_one group past alone number config since s t one other same =
    alone s t number config since one ((groups_are_sound group).one_reference config (past.disk s) (past.disk t) one other same)

module _ (group : List ℕ) (past : Past (groups group)) (config : Configuration) (apart : AreInOne group past config) (floor : ℕ → ℕ)
    (seats : List Seat) (listed : AreListed group past config floor seats) where
  not_away : (a b : Bool) → a ≡ false → b ≡ true → (not a && b) ≡ true
  not_away true b e f = absurd (cc)
  not_away false b e f = f

  joined : (a b c : ℕ) → a ≡ c → b ≡ c → a ≡ b
  joined a b c one other = one ∙ sym other

  -- the seat that the history lists for a member is at the same slot
  pub at_slot : (reference : ℕ) (seat : Seat) → IsListed group past config floor seat → seat.reference ≡ reference
      → found floor past.disk (is_seat group past config) reference 0 past.slots ≡ Some (listed_seat floor past.disk seat.slot)
  at_slot reference seat is same =
      let there = is_found floor past.disk (is_seat group past config) reference 0 past.slots seat.slot (omega arith) (omega (arith, is.is_below))
      (not_away (past.lost seat.slot) (has_current config (past.disk seat.slot)) is.not_lost is.is_current) (sym is.same_reference ∙ same) in
      let has = has_seat floor past.disk (is_seat group past config) reference 0 past.slots there.0 there.1 in
      let current = and_second (not (past.lost has.slot)) (has_current config (past.disk has.slot)) has.is_here in
      let one : has.slot ≡ seat.slot = apart has.slot seat.slot current is.is_current
      (joined (past.disk has.slot).reference (past.disk seat.slot).reference reference has.is_reference (sym is.same_reference ∙ same)) in
      there.1 ∙ ap Some has.is_seat ∙ ap (λ (s : ℕ). Some (listed_seat floor past.disk s)) one

  -- So they are some of those that the history lists.
  pub some_listed : AreFewer (seats_in group past floor config) seats
  some_listed reference = by (find (λ (s : Seat). nat_eq s.reference reference) seats) refl
    where
      by : (o : Option Seat) → find (λ (s : Seat). nat_eq s.reference reference) seats ≡ o
          → (floor_of seats reference ≡ None)
          ⊎ ((floor_of seats reference ≡ floor_of (seats_in group past floor config) reference) × (slot_of seats reference ≡ slot_of (seats_in group past floor config) reference))
      by None is = inl (ap (option_map (λ (s : Seat). s.floor)) is)
      by (Some seat) is =
          let at = found_at seats reference seat is in
          let own = listed at.place seat at.is_at in
          let there = at_slot reference seat own at.is_reference in
          inr (
            ap (option_map (λ (s : Seat). s.floor)) is ∙ ap Some own.same_floor ∙ sym (ap (option_map (λ (s : Seat). s.floor)) there),
            ap (λ (o : Option Seat). elim o [ None ↦ 64 | Some s ↦ s.slot ]) is ∙ sym (ap (λ (o : Option Seat). elim o [ None ↦ 64 | Some s ↦ s.slot ]) there),
          )

-- ---- the copies that were read

-- the newest copy of a slot that was read is the one that the slot has
pub newest_there : {D : Type 0} (disks : BayState D) (left : List Bool) (slot k : ℕ) (newest : Newest) → slice_get (newest_from disks slot left) k ≡ Some (Some newest) → on_slot newest_at disks (slot + k) ≡ Some newest
newest_there disks [] slot k newest at = absurd cc
newest_there disks (out ∷ left) slot zero newest at =
    subst (λ (n : ℕ). on_slot newest_at disks n ≡ Some newest) (let same : slot ≡ slot + 0 = omega arith in same) (by out at)
  where
    by : (b : Bool) → Some (newest_or disks slot b) ≡ Some (Some newest) → on_slot newest_at disks slot ≡ Some newest
    by true e = let none : None ≡ Some newest = cc in absurd cc
    by false e = cc
newest_there disks (out ∷ left) slot (suc k) newest at =
    subst (λ (n : ℕ). on_slot newest_at disks n ≡ Some newest) (let same : suc slot + k ≡ slot + suc k = omega arith in same) (newest_there disks left (suc slot) k newest at)

-- a slot's copy stands for its newest
pub record IsStanding (newest : List (Option Newest)) (slot : ℕ) (copy : DiskCopy) : Type 0 where
  pub own : Newest
  pub is_own : slice_get newest slot ≡ Some (Some own)
  pub stands : standing_copy own ≡ Some copy

pub standing : (newest : List (Option Newest)) (slot : ℕ) (copy : DiskCopy) → copy_at newest slot ≡ Some copy → IsStanding newest slot copy
standing newest slot copy is = by (slice_get newest slot) refl is
  where
    by : (o : Option (Option Newest)) → slice_get newest slot ≡ o → option_and_then (λ one. option_and_then standing_copy one) o ≡ Some copy → IsStanding newest slot copy
    by None at is = absurd cc
    by (Some None) at is = absurd cc
    by (Some (Some own)) at is = record { own = own; is_own = at; stands = is }

-- ---- the seats of a group that was found

module _ (group : List ℕ) {D : Type 0} (state : BayState D) (left : List Bool) (newest : List (Option Newest))
    (long : length left ≡ length state.sizes) (is : newest ≡ newest_from state 0 left)
    (past : Past (groups group)) (counted : past.slots ≡ length state.sizes) (kept : IsKept past (scene_of state.sizes state.held))
    (may : IsReadable past (scene_of state.sizes state.held) (is_read left)) (member : HasMember past (scene_of state.sizes state.held) (is_read left))
    (named : Option (List ℕ)) (g : GroupValue) (at : group_of newest named ≡ Ok g) (own : g.config.group ≡ group) where
  abbrev held : Scene View
  held = scene_of state.sizes state.held

  pub since : (number : ℕ) × IsSince past.changes number g.config
  since = assembled_since group state left newest long is past counted kept may member named g at own

  made : IsMadeOf newest (Some group) g
  made = claims.made group state left newest long is past counted kept may member named g at own

  module _ (place : ℕ) (seat : Seat) (there : slice_get g.seats place ≡ Some seat) where
    -- the copy of its slot, by which it is a seat
    copy_is : (copy : DiskCopy) × (copy_at newest seat.slot ≡ Some copy) × (seat_of seat.slot copy ≡ seat)
    copy_is =
        let here : slice_get (group_as newest (made).found).seats place ≡ Some seat = ap (λ (one : GroupValue). slice_get one.seats place) (made).is_group ∙ there in
        let from = filter_map_get (seat_at newest) (made).found.seats place seat here in
        let has = map_some (seat_of from.1) (copy_at newest from.1) seat from.3 in
        let slot_is : from.1 ≡ seat.slot = ap (λ (one : Seat). one.slot) has.2 in
        (has.0, subst (λ (n : ℕ). copy_at newest n ≡ Some has.0) slot_is has.1, subst (λ (n : ℕ). seat_of n has.0 ≡ seat) slot_is has.2)

    copy : DiskCopy
    copy = (copy_is).0

    copy_seen : IsCopyOf (seen (is_read left) held seat.slot) (view_of copy)
    unfolding copy
    copy_seen =
        first_is_copy (seen (is_read left) held seat.slot) (view_of (copy_is).0)
        (claims.seats_claimed group state left newest long is past counted kept may member named g at own place seat (copy_is).0 there (copy_is).1).is_first

    pub seat_read : is_read left seat.slot ≡ true
    seat_read = seen_read (is_read left seat.slot) (held seat.slot) (view_of copy) copy_seen

    copy_current : has_current g.config (disk_of (view_of copy)) ≡ true
    unfolding copy
    copy_current =
        claims.claimed_is_current group state left newest long is past counted kept may member named g at own seat.slot (view_of (copy_is).0)
        (claims.seats_claimed group state left newest long is past counted kept may member named g at own place seat (copy_is).0 there (copy_is).1)

    copy_names : disk_of (view_of copy) ≡ past.disk seat.slot
    copy_names =
        kept.named seat.slot (view_of copy) (seen_copy (is_read left seat.slot) (held seat.slot) (view_of copy) copy_seen)
        (inr ((since).0, g.config, (since).1, copy_current))

    reference_is : seat.reference ≡ (view_of copy).reference
    unfolding copy view_of
    reference_is = ap (λ (one : Seat). one.reference) (sym (copy_is).2)

    -- Its member isn't absent.
    pub seat_not_absent : is_among g.absent (past.disk seat.slot).reference ≡ false
    unfolding copy
    seat_not_absent =
        ap (λ (d : Disk). is_among g.absent d.reference) (sym copy_names)
        ∙ claims.claimed_not_absent group state left newest long is past counted kept may member named g at own seat.slot (view_of (copy_is).0)
        (claims.seats_claimed group state left newest long is past counted kept may member named g at own place seat (copy_is).0 there (copy_is).1)

    module _ (floor : ℕ → ℕ) (floors : HaveFloors group past state floor) where
      -- The disk has the slot's floor.
      pub seat_floor : HasFloor (size_of state seat.slot) (state.held seat.slot) (floor seat.slot)
      seat_floor = floors seat.slot (since).0 g.config (since).1 (may.not_lost seat.slot seat_read) (ap (has_current g.config) (sym copy_names) ∙ copy_current)

      floor_is : seat.floor ≡ floor seat.slot
      floor_is =
          let standing_is = standing newest seat.slot (copy_is).0 (copy_is).1 in
          let there : slice_get (newest_from state 0 left) seat.slot ≡ Some (Some standing_is.own) = ap (λ (all : List (Option Newest)). slice_get all seat.slot) (sym is) ∙ standing_is.is_own in
          let slot_is : 0 + seat.slot ≡ seat.slot = omega arith in
          let here = subst (λ (n : ℕ). on_slot newest_at state n ≡ Some standing_is.own) slot_is (newest_there state left 0 seat.slot standing_is.own there) in
          ap (λ (one : Seat). one.floor) (sym (copy_is).2) ∙ (seat_floor).same_floor standing_is.own (copy_is).0 here standing_is.stands

      pub seat_listed : IsListed group past g.config floor seat
      seat_listed = record {
        same_reference = reference_is ∙ ap (λ (d : Disk). d.reference) copy_names;
        is_current = ap (has_current g.config) (sym copy_names) ∙ copy_current;
        is_below = may.below seat.slot seat_read;
        not_lost = may.not_lost seat.slot seat_read;
        same_floor = floor_is;
      }

  module _ (floor : ℕ → ℕ) (floors : HaveFloors group past state floor) where
    pub seats_listed : AreListed group past g.config floor g.seats
    seats_listed place seat there = seat_listed place seat there floor floors

    -- none of their slots is lost, and each has the floor of its slot
    pub seats_on_slots : AreOnSlots group past floor g.seats
    seats_on_slots = record {
      not_lost = λ place seat there. (seats_listed place seat there).not_lost;
      same_floor = λ place seat there. (seats_listed place seat there).same_floor;
    }

    -- The copy that the group has of a disk has that floor too, which lies on the disk.
    pub seated_floor : (place : ℕ) (disk : Seated) → slice_get (seated g) place ≡ Some disk → IsFloored (size_of state disk.seat.slot) floor disk
    seated_floor place disk there =
        let sits = seated_is g place disk there in
        let has = seat_floor sits.place disk.seat sits.is_seat floor floors in
        let copy_there : copy_at newest disk.seat.slot ≡ Some disk.copy =
        ap (λ (all : List (Option Newest)). copy_at all disk.seat.slot) (sym (claims.newest_is group state left newest long is past counted kept may member named g at own))
        ∙ claims.disk_copy group state left newest long is past counted kept may member named g at own place disk there in
        let stands = standing newest disk.seat.slot disk.copy copy_there in
        let listed : slice_get (newest_from state 0 left) disk.seat.slot ≡ Some (Some stands.own) = ap (λ (all : List (Option Newest)). slice_get all disk.seat.slot) (sym is) ∙ stands.is_own in
        let slot_is : 0 + disk.seat.slot ≡ disk.seat.slot = omega arith in
        let here = subst (λ (n : ℕ). on_slot newest_at state n ≡ Some stands.own) slot_is (newest_there state left 0 disk.seat.slot stands.own listed) in
        record { same = has.same_floor stands.own disk.copy here stands.stands; within = has.within }

    pub seats_fewer : AreFewer (seats_in group past floor g.config) g.seats
    seats_fewer = some_listed group past g.config (in_one group past kept.alone (since).0 g.config (since).1) floor g.seats seats_listed

    -- So it is with those of them that blocks may be read from.
    pub trusted_fewer : AreFewer (seats_in group past floor g.config) (trusted_seats g)
    trusted_fewer =
        some_listed group past g.config (in_one group past kept.alone (since).0 g.config (since).1) floor (trusted_seats g)
        (λ place seat there. let own = trusted_there g place seat there in seats_listed own.0 seat own.1)
