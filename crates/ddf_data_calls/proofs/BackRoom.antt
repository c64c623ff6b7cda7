-- The room that a position goes back to: its seat, its length, and that it is free.
use Rattle.std.proofs.Common.{◌≡◌, ◌∙◌, ℕ, suc, ◌+◌, ◌==◌, Bool, true, false, not, ◌||◌, cond, List, [], ◌∷◌, length, Option, Some, None, Ok, nat_eq, refl, sym, ap, if◌then◌else◌}
use Rattle.std.proofs.lemmas.Bool.{eqb-true, false≢true, le-leb, ltb-false}
use Rattle.std.specs.Prelude.{find, is_some, nat_le, nat_lt, option_map, slice_get}
use Rattle.std.specs.List.{list_any}
use Rattle.std.specs.Map.{lookup}
use Rattle.ddf_lemmas.proofs.Lists.{mapped_at}
use Rattle.ddf_bay.specs.State.{BayState}
use Rattle.ddf_config.specs.declared.array.Array.{Array}
use Rattle.ddf_config.specs.declared.extent.Extent.{Extent}
use Rattle.ddf_config.specs.declared.refusal.Refusal.{Refusal}
use Rattle.ddf_config.specs.declared.refusal.Refusal.TheVariants.{NotMember}
use Rattle.ddf_config.specs.declared.seat.Seat.{Seat}
use Rattle.ddf_config.specs.Configuration.{Configuration}
use Rattle.ddf_config.specs.ElementValue.{ElementValue}
use Rattle.ddf_config.specs.Extents.{extents}
use Rattle.ddf_config.specs.Members.{same_guid}
use Rattle.ddf_config.specs.Refusals.{first_refusal}
use Rattle.ddf_config.specs.Seats.{floor_of, slot_of}
use Rattle.ddf_config.specs.Unusable.{passes_floor}
use Rattle.ddf_copy.specs.declared.newest_copy.Newest.{Newest}
use Rattle.ddf_plan.specs.Create.{element_strip, lies_clear}
use Rattle.ddf_plan.specs.Rebuild.{element_at}
use Rattle.ddf_array.specs.Viewing.{seat_slot}
use Rattle.ddf_repair.specs.declared.first.Target.{Target}
use Rattle.ddf_repair.specs.Choose.{array_room, part_room, room_for}
use Rattle.ddf_repair.proofs.Begins.{free_on}
use Rattle.ddf_data_group.specs.Grouped.{Promises}
use Rattle.ddf_history.specs.Groups.{groups}
use Rattle.ddf_history.specs.Issued.{IsSince, Past}
use Rattle.ddf_history_steps.specs.Kept.{is_slot}
use Rattle.ddf_history_steps.proofs.Slots.{slot_is}
use Rattle.ddf_seats.specs.Group.{GroupValue}
use Rattle.ddf_steps.specs.Committed.{slots_of}
use Rattle.ddf_steps.specs.Steps.{Step}
use Rattle.ddf_recovery.specs.Recovery.{config_recovered}
use Rattle.ddf_data_disks.proofs.Ended.{find_one}
use Rattle.ddf_request.specs.Slots.{first_beyond, is_on, reference_on}
use Rattle.ddf_group_commands.specs.Change.{steps_asked as steps_by, steps_of as steps_asked}
use Rattle.ddf_group_commands.specs.Requests.{linux_members}
use Rattle.ddf_write_commands.specs.Planned.{Entry}
use Rattle.ddf_rebuild_command.specs.Asked.{rebuild_refusals}
use Rattle.ddf_rebuild_command.specs.GoingBack.{copyback_asked, copyback_refusals, copyback_request, copyback_unless}
use Rattle.ddf_rebuild_command.proofs.Positions.{element_there}
use Rattle.ddf_data_calls.proofs.First.{IsCalled}
use Rattle.ddf_data_calls.proofs.Seats as seating

-- ---- the room

-- It lies on the disk, as long as the extents of the element, free of each extent of the configuration, and ends at or below the floor.
pub record IsRoomFor (config : Configuration) (guid : List ℕ) (seats : List Seat) (target : Target) (reference : ℕ) (room : Extent) : Type 0 where
  pub array : Array
  pub is_array : lookup (same_guid guid) config.arrays ≡ Some array
  pub plan : ElementValue
  pub is_plan : slice_get array.elements target.element ≡ Some (Some plan)
  pub on : room.reference ≡ reference
  pub blocks_are : room.blocks ≡ plan.blocks
  pub clear : lies_clear config.members (extents config.arrays) room ≡ true
  pub below : passes_floor seats room ≡ false

pub room_of : (config : Configuration) (guid : List ℕ) (seats : List Seat) (target : Target) (reference : ℕ) (room : Extent) → room_for config guid seats target reference ≡ Some room
    → IsRoomFor config guid seats target reference room
unfolding room_for
room_of config guid seats target reference room h = by (lookup (same_guid guid) config.arrays) refl h
  where
    by_part : (array : Array) → lookup (same_guid guid) config.arrays ≡ Some array → (part : Option ElementValue) → element_at array target.element ≡ part
        → part_room config.members (extents config.arrays) seats (length array.elements) part reference ≡ Some room → IsRoomFor config guid seats target reference room
    by_part array there None at e = absurd cc
    by_part array there (Some plan) at e =
        let free = free_on config.members (extents config.arrays) seats (element_strip (length array.elements) plan) plan.blocks reference room e in
        record {
          array = array;
          is_array = there;
          plan = plan;
          is_plan = element_there array target.element plan at;
          on = free.on;
          blocks_are = ap (λ (one : Extent). one.blocks) (sym free.is);
          clear = free.clear;
          below = free.below;
        }

    by : (o : Option Array) → lookup (same_guid guid) config.arrays ≡ o
        → ◌≡◌ {A = Option Extent} (elim o [ None ↦ None | Some array ↦ array_room config.members (extents config.arrays) seats array target.element reference ]) (Some room)
        → IsRoomFor config guid seats target reference room
    by None is e = absurd cc
    by (Some array) is e = by_part array is (element_at array target.element) refl e

slot_by : (end slot : ℕ) (floor : Option ℕ) → is_some floor ≡ true → elim floor [ None ↦ false | Some most ↦ nat_lt most end ] ≡ false
    → elim floor [ None ↦ None | Some most ↦ if nat_le end most then Some slot else None ] ≡ Some slot
slot_by end slot None there below = absurd (false≢true there)
slot_by end slot (Some most) there below = ap (λ (b : Bool). if b then Some slot else None) (le-leb end most (ltb-false most end below))

-- An extent that passes no floor of a seat that is there lies on its slot.
pub seat_slot_is : (seats : List Seat) (one : Extent) (floor slot : ℕ) → floor_of seats one.reference ≡ Some floor → slot_of seats one.reference ≡ slot → passes_floor seats one ≡ false
    → seat_slot seats one ≡ Some slot
seat_slot_is seats one floor slot floor_is same below =
    slot_by (one.start + one.blocks) (slot_of seats one.reference) (floor_of seats one.reference) (ap (λ (o : Option ℕ). is_some o) floor_is) below ∙ ap Some same

-- ---- the seat of a slot

-- the first of the seats on a slot
pub record IsFirstOn (seats : List Seat) (slot : ℕ) : Type 0 where
  pub place : ℕ
  pub seat : Seat
  pub is_at : slice_get seats place ≡ Some seat
  pub on : seat.slot ≡ slot
  pub reference_is : reference_on seats slot ≡ seat.reference

pub first_on : (seats : List Seat) (slot : ℕ) → list_any (is_on slot) seats ≡ true → IsFirstOn seats slot
first_on [] slot any = absurd (false≢true any)
first_on (first ∷ seats) slot any = by (first.slot == slot) refl any (first_on seats slot)
  where
    by : (b : Bool) → (first.slot == slot) ≡ b → (b || list_any (is_on slot) seats) ≡ true → (list_any (is_on slot) seats ≡ true → IsFirstOn seats slot) → IsFirstOn (first ∷ seats) slot
    by true e some rest = record {
      place = 0;
      seat = first;
      is_at = refl;
      on = eqb-true first.slot slot e;
      reference_is = ap (λ (c : Bool). elim (cond c (Some first) (find (is_on slot) seats)) [ None ↦ 0 | Some one ↦ one.reference ]) e;
    }
    by false e some rest =
        let later = rest some in
        record {
          place = suc later.place;
          seat = later.seat;
          is_at = later.is_at;
          on = later.on;
          reference_is = ap (λ (c : Bool). elim (cond c (Some first) (find (is_on slot) seats)) [ None ↦ 0 | Some one ↦ one.reference ]) e ∙ later.reference_is;
        }

module _ {D : Type 0} (group : List ℕ) (old : BayState D) (past : Past (groups group)) (floor : ℕ → ℕ) (promises : Promises) (left : List Bool) (newest : List (Option Newest)) (named : Option (List ℕ)) (found : GroupValue)
    (called : IsCalled group old past floor promises left newest named found) where
  listed : seating.AreListed group past found.config floor found.seats
  listed =
      seating.seats_listed group old left newest called.long called.read past called.admitted.same_slots called.admitted.is_kept called.admitted.may_read called.admitted.member named found called.is_found
      called.own floor called.floors

  own : (number : ℕ) × IsSince past.changes number found.config
  own = seating.since group old left newest called.long called.read past called.admitted.same_slots called.admitted.is_kept called.admitted.may_read called.admitted.member named found called.is_found called.own

  apart : seating.AreInOne group past found.config
  apart = seating.in_one group past called.admitted.is_kept.alone own.0 found.config own.1

  -- The disk of a slot with a seat is found there: no other seat has its reference.
  pub record IsSeatOf (slot : ℕ) : Type 0 where
    pub same_slot : slot_of found.seats (reference_on found.seats slot) ≡ slot
    pub floor_is : floor_of found.seats (reference_on found.seats slot) ≡ Some (floor slot)
    pub is_here : is_slot (slots_of found.seats) slot ≡ true

  pub seat_of_slot : (slot : ℕ) → list_any (is_on slot) found.seats ≡ true → IsSeatOf slot
  seat_of_slot slot any = by (find (λ (one : Seat). nat_eq one.reference (reference_on found.seats slot)) found.seats) refl
    where
      first : IsFirstOn found.seats slot
      first = first_on found.seats slot any

      by : (o : Option Seat) → find (λ (one : Seat). nat_eq one.reference (reference_on found.seats slot)) found.seats ≡ o → IsSeatOf slot
      by None e = absurd (find_one found.seats (reference_on found.seats slot) first.place first.seat first.is_at (sym first.reference_is) e)
      by (Some other) e =
          let at = seating.found_at found.seats (reference_on found.seats slot) other e in
          let its = listed at.place other at.is_at in
          let mine = listed first.place first.seat first.is_at in
          let same : other.slot ≡ slot =
          apart other.slot first.seat.slot its.is_current mine.is_current (sym its.same_reference ∙ at.is_reference ∙ first.reference_is ∙ mine.same_reference) ∙ first.on in
          record {
            same_slot = ap (λ (o : Option Seat). elim o [ None ↦ 64 | Some one ↦ one.slot ]) e ∙ same;
            floor_is = ap (option_map (λ (one : Seat). one.floor)) e ∙ ap Some (its.same_floor ∙ ap floor same);
            is_here = slot_is (slots_of found.seats) first.place slot (mapped_at (λ (one : Seat). one.slot) found.seats first.place first.seat first.is_at ∙ ap Some first.on);
          }

-- ---- a slot that isn't refused has a seat

first_by : (beyond : Option Refusal) (b : Bool) (slot : ℕ) (rest : List (Option Refusal)) → first_refusal (beyond ∷ option_map NotMember (cond (not b) (Some slot) None) ∷ rest) ≡ None → b ≡ true
first_by (Some refusal) b slot rest e = absurd cc
first_by None true slot rest e = refl
first_by None false slot rest e = absurd cc

pub slot_seated : (found : GroupValue) (timestamp count : ℕ) (word : List ℕ) (slot : ℕ) (entry : Entry) (steps : List Step) → copyback_request count word slot (linux_members found) (config_recovered found) found.seats
    ≡ copyback_asked count (config_recovered found) found.seats (linux_members found) slot (Some entry) → steps_asked found timestamp (copyback_request count word slot (linux_members found)) ≡ Ok steps
    → list_any (is_on slot) found.seats ≡ true
slot_seated found timestamp count word slot entry steps named are_asked =
    by (first_refusal (copyback_refusals count (config_recovered found) found.seats entry slot)) refl (ap (steps_by found timestamp) (sym named) ∙ are_asked)
  where
    by : (refusal : Option Refusal) → first_refusal (copyback_refusals count (config_recovered found) found.seats entry slot) ≡ refusal
        → steps_by found timestamp (copyback_unless (config_recovered found) found.seats (linux_members found) entry slot refusal) ≡ Ok steps → list_any (is_on slot) found.seats ≡ true
    by None none is = first_by (first_beyond count (slot ∷ [])) (list_any (is_on slot) found.seats) slot (rebuild_refusals (config_recovered found) found.seats entry) none
    by (Some refusal) none is = absurd cc
