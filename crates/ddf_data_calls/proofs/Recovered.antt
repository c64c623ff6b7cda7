-- Once absent members are lost the seats of a group that a call found are those that its history lists.
use Rattle.std.proofs.Common.{◌≡◌, ◌∙◌, ℕ, Bool, true, false, not, ◌&&◌, ◌||◌, nat_eq, List, length, find, Option, Some, None, Ok, refl, ap, sym, if◌then◌else◌, ◌+◌, arith}
use Rattle.std.specs.Prelude.{option_map}
use Rattle.ddf_lemmas.proofs.Lists.{in_map}
use Rattle.ddf_lemmas.proofs.Tests.{and_first, and_second, none_away}
use Rattle.ddf_bay.specs.State.{BayState}
use Rattle.ddf_config.specs.declared.member.Member.{Member}
use Rattle.ddf_config.specs.declared.seat.Seat.{Seat}
use Rattle.ddf_config.specs.Configuration.{Configuration}
use Rattle.ddf_config.specs.Members.{is_current}
use Rattle.ddf_config.specs.Seats.{floor_of, slot_of}
use Rattle.ddf_copy.specs.declared.newest_copy.Newest.{Newest}
use Rattle.ddf_plan.specs.declared.change.Change.TheVariants.{Lose}
use Rattle.ddf_plan.specs.Changes.{changed_at}
use Rattle.ddf_plan.specs.Lose.{is_among}
use Rattle.ddf_plan.specs.Members.{member_after}
use Rattle.ddf_history.specs.Answer.{HasMember, IsReadable}
use Rattle.ddf_history.specs.Groups.{Disk, groups, has_current}
use Rattle.ddf_history.specs.Issued.{IsSince, Past, leave_out}
use Rattle.ddf_history.specs.Promise.{IsKept}
use Rattle.ddf_history.specs.Scenes.{scene_of}
use Rattle.ddf_history.proofs.Assembling.{read_as}
use Rattle.ddf_history.proofs.Calls.{claims as members_claimed}
use Rattle.ddf_history.proofs.Following.{changes_follow}
use Rattle.ddf_history.proofs.Sound.{groups_are_sound}
use Rattle.ddf_steps.specs.Committed.{slots_of}
use Rattle.ddf_seats.specs.Group.{GroupValue}
use Rattle.ddf_assembly.specs.Group.{group_of}
use Rattle.ddf_recovery.specs.Recovery.{config_lost, config_recovered}
use Rattle.ddf_seats.specs.Leading.{some}
use Rattle.ddf_steps.proofs.MembersAfter.{changed_map}
use Rattle.ddf_assembly.specs.Slots.{newest_from}
use Rattle.ddf_recovery.proofs.Behind.{none_some}
use Rattle.ddf_history_steps.specs.Kept.{is_read, is_slot}
use Rattle.ddf_history_steps.proofs.Begun.{assembled_kept}
use Rattle.ddf_history_steps.proofs.ChangingStays.{stays_current}
use Rattle.ddf_history_steps.proofs.Claimed as claims
use Rattle.ddf_history_steps.proofs.RecoveringLoss.{listed_current, still_current_in}
use Rattle.ddf_history_steps.proofs.Slots.{slot_placed}
use Rattle.ddf_data_history.specs.Promised.{is_seat, seats_in}
use Rattle.ddf_data_history.proofs.Seats.{found as listed, has_seat}
use Rattle.ddf_data_disks.specs.Seats.{AreAlikeSeats}
use Rattle.ddf_data_disks.proofs.Ended.{find_one}
use Rattle.ddf_data_calls.specs.Calls.{left_over}
use Rattle.ddf_data_calls.specs.Floors.{HaveFloors}
use Rattle.ddf_data_calls.proofs.Seats as seating
use Rattle.ddf_data_calls.proofs.Seats.{AreInOne, AreListed, IsListed, at_slot, found_at, in_one}

-- ---- members that a loss leaves

lost_current : (config : Configuration) (references : List ℕ) (sequence : ℕ) (disk : Disk) → has_current config disk ≡ true → is_among references disk.reference ≡ false
    → has_current (changed_at config (Lose references) sequence) disk ≡ true
lost_current config references sequence disk was free =
    stays_current config (Lose references) sequence disk was
    (ap (λ (members : List (ℕ × Member)). is_current members disk.reference) (changed_map (member_after config (Lose references)) config.members)
    ∙ still_current_in config references disk.reference free config.members (listed_current disk config config.members was))

was_current : (group : List ℕ) (config : Configuration) (references : List ℕ) (sequence : ℕ) (disk : Disk) → has_current (changed_at config (Lose references) sequence) disk ≡ true → has_current config disk ≡ true
was_current group config references sequence disk is =
    let follow = changes_follow group config (Lose references) (config.sequence + 1) (omega arith) in follow.no_more disk is

-- ---- lists and tests

not_out : (lost read current : Bool) → lost ≡ false → read ≡ true → (lost || not read && current) ≡ false
not_out true read current a b = absurd cc
not_out false true current a b = refl
not_out false false current a b = absurd cc

was_read : (lost read current : Bool) → not (lost || not read && current) ≡ true → current ≡ true → read ≡ true
was_read true read current e b = absurd cc
was_read false true current e b = refl
was_read false false true e b = absurd cc
was_read false false false e b = absurd cc

was_there : (lost read current : Bool) → not (lost || not read && current) ≡ true → lost ≡ false
was_there true read current e = absurd cc
was_there false read current e = refl

-- ---- the seats

module _ (group : List ℕ) {D : Type 0} (state : BayState D) (left : List Bool) (newest : List (Option Newest))
    (long : length left ≡ length state.sizes) (is : newest ≡ newest_from state 0 left)
    (past : Past (groups group)) (counted : past.slots ≡ length state.sizes) (kept : IsKept past (scene_of state.sizes state.held))
    (may : IsReadable past (scene_of state.sizes state.held) (is_read left)) (member : HasMember past (scene_of state.sizes state.held) (is_read left))
    (named : Option (List ℕ)) (g : GroupValue) (at : group_of newest named ≡ Ok g) (own : g.config.group ≡ group) where
  since : (number : ℕ) × IsSince past.changes number g.config
  since = seating.since group state left newest long is past counted kept may member named g at own

  -- the history as the call goes on from it
  abbrev start : Past (groups group)
  start = left_over group past (is_read left) g

  -- A current member that isn't lost and was read has a seat.
  read_seated : (slot : ℕ) → past.lost slot ≡ false → is_read left slot ≡ true → has_current g.config (past.disk slot) ≡ true → is_slot (slots_of g.seats) slot ≡ true
  read_seated slot here read current =
      let assembled = assembled_kept group state left newest long is past counted kept may member named g at own in
      let parts = read_as (groups group) (groups_are_sound group) past (scene_of state.sizes state.held) kept (is_read left) may member g.config assembled.is_read in
      let away = none_away (past.lost slot) (past.returned slot) here
      (λ back. (groups_are_sound group).not_both g.config (past.disk slot) current (kept.gone slot (since).0 g.config back (since).1)) in
      let claimed = members_claimed (groups group) (groups_are_sound group) past (scene_of state.sizes state.held) (is_read left) g.config assembled parts.0 parts.1 parts.3 parts.4 parts.5 slot away read current in
      claims.claimed_seated group state left newest long is past counted kept may member named g at own slot claimed.0 claimed.1

  -- So has each member that is current once absent ones are lost.
  current_seated : (slot : ℕ) → is_seat group (left_over group past (is_read left) g) (config_recovered g) slot ≡ true → is_slot (slots_of g.seats) slot ≡ true
  unfolding config_recovered
  current_seated slot = by (some g.absent) refl
    where
      by : (absent : Bool) → some g.absent ≡ absent → is_seat group (if absent then leave_out past (is_read left) g.config else past) (if absent then config_lost g else g.config) slot ≡ true
          → is_slot (slots_of g.seats) slot ≡ true
      by true some_are here =
          let lost = and_first (not (past.lost slot || not (is_read left slot) && has_current g.config (past.disk slot))) (has_current (config_lost g) (past.disk slot)) here in
          let now = and_second (not (past.lost slot || not (is_read left slot) && has_current g.config (past.disk slot))) (has_current (config_lost g) (past.disk slot)) here in
          let current = was_current group g.config g.absent (config_lost g).sequence (past.disk slot) now in
          read_seated slot (was_there (past.lost slot) (is_read left slot) (has_current g.config (past.disk slot)) lost)
          (was_read (past.lost slot) (is_read left slot) (has_current g.config (past.disk slot)) lost current) current
      by false none here =
          claims.current_seated group state left newest long is past counted kept may member named g at own (none_some g.absent none) slot
          (and_second (not (past.lost slot)) (has_current g.config (past.disk slot)) here)

  module _ (floor : ℕ → ℕ) (floors : HaveFloors group past state floor) where
    -- Each seat is listed then.
    pub recovered_listed : AreListed group (left_over group past (is_read left) g) (config_recovered g) floor g.seats
    unfolding config_recovered
    recovered_listed place seat there = by (some g.absent)
      where
        before : IsListed group past g.config floor seat
        before = seating.seats_listed group state left newest long is past counted kept may member named g at own floor floors place seat there

        by : (absent : Bool) → IsListed group (if absent then leave_out past (is_read left) g.config else past) (if absent then config_lost g else g.config) floor seat
        by true = record {
          same_reference = before.same_reference;
          is_current = lost_current g.config g.absent (config_lost g).sequence (past.disk seat.slot) before.is_current
              (seating.seat_not_absent group state left newest long is past counted kept may member named g at own place seat there);
          is_below = before.is_below;
          not_lost = not_out (past.lost seat.slot) (is_read left seat.slot) (has_current g.config (past.disk seat.slot)) before.not_lost
              (seating.seat_read group state left newest long is past counted kept may member named g at own place seat there);
          same_floor = before.same_floor;
        }
        by false = before

    -- A disk that is current then was so.
    config_was : (disk : Disk) → has_current (config_recovered g) disk ≡ true → has_current g.config disk ≡ true
    unfolding config_recovered
    config_was disk = by (some g.absent)
      where
        by : (absent : Bool) → has_current (if absent then config_lost g else g.config) disk ≡ true → has_current g.config disk ≡ true
        by true now = was_current group g.config g.absent (config_lost g).sequence disk now
        by false now = now

    same_disks : (left_over group past (is_read left) g).disk ≡ past.disk
    same_disks = by (some g.absent)
      where
        by : (absent : Bool) → (if absent then leave_out past (is_read left) g.config else past).disk ≡ past.disk
        by true = refl
        by false = refl

    -- the seat that the history lists for a member
    abbrev listed_of : ℕ → Option Seat
    listed_of reference = listed floor (left_over group past (is_read left) g).disk (is_seat group (left_over group past (is_read left) g) (config_recovered g)) reference 0 (left_over group past (is_read left) g).slots

    none_listed : (reference : ℕ) → find (λ (s : Seat). nat_eq s.reference reference) g.seats ≡ None → (found : Option Seat) → listed_of reference ≡ found → found ≡ None
    none_listed reference none None e = refl
    none_listed reference none (Some seat) e =
        let has = has_seat floor (left_over group past (is_read left) g).disk (is_seat group (left_over group past (is_read left) g) (config_recovered g)) reference 0 (left_over group past (is_read left) g).slots seat e in
        let placed = slot_placed (slots_of g.seats) has.slot (current_seated has.slot has.is_here) in
        let own_seat = in_map (λ (s : Seat). s.slot) g.seats placed.0 has.slot placed.1 in
        let is_own = recovered_listed placed.0 own_seat.0 own_seat.1 in
        absurd (find_one g.seats reference placed.0 own_seat.0 own_seat.1
        (is_own.same_reference ∙ ap (λ (s : ℕ). ((left_over group past (is_read left) g).disk s).reference) own_seat.2 ∙ has.is_reference) none)

    -- each current member is in one slot
    in_one_now : AreInOne group (left_over group past (is_read left) g) (config_recovered g)
    in_one_now s t one other same =
        in_one group past kept.alone (since).0 g.config (since).1 s t
        (ap (λ (disk : ℕ → Disk). has_current g.config (disk s)) (sym same_disks) ∙ config_was ((left_over group past (is_read left) g).disk s) one)
        (ap (λ (disk : ℕ → Disk). has_current g.config (disk t)) (sym same_disks) ∙ config_was ((left_over group past (is_read left) g).disk t) other)
        (ap (λ (disk : ℕ → Disk). (disk s).reference) (sym same_disks) ∙ same ∙ ap (λ (disk : ℕ → Disk). (disk t).reference) same_disks)

    -- of both lists the same is known
    record AreSame (reference : ℕ) : Type 0 where
      pub same_floors : floor_of g.seats reference ≡ floor_of (seats_in group (left_over group past (is_read left) g) floor (config_recovered g)) reference
      pub same_slots : slot_of g.seats reference ≡ slot_of (seats_in group (left_over group past (is_read left) g) floor (config_recovered g)) reference

    same_by : (reference : ℕ) (o : Option Seat) → find (λ (s : Seat). nat_eq s.reference reference) g.seats ≡ o → AreSame reference
    same_by reference None e =
        let none = none_listed reference e (listed_of reference) refl in
        record {
          same_floors = ap (option_map (λ (s : Seat). s.floor)) (e ∙ sym none);
          same_slots = ap (λ (o : Option Seat). elim o [ None ↦ 64 | Some s ↦ s.slot ]) (e ∙ sym none);
        }
    same_by reference (Some seat) e =
        let one = found_at g.seats reference seat e in
        let own_seat = recovered_listed one.place seat one.is_at in
        let there = at_slot group (left_over group past (is_read left) g) (config_recovered g) in_one_now floor g.seats recovered_listed reference seat own_seat one.is_reference in
        record {
          same_floors = ap (option_map (λ (s : Seat). s.floor)) e ∙ ap Some own_seat.same_floor ∙ sym (ap (option_map (λ (s : Seat). s.floor)) there);
          same_slots = ap (λ (o : Option Seat). elim o [ None ↦ 64 | Some s ↦ s.slot ]) e ∙ sym (ap (λ (o : Option Seat). elim o [ None ↦ 64 | Some s ↦ s.slot ]) there);
        }

    pub recovered_alike : AreAlikeSeats g.seats (seats_in group (left_over group past (is_read left) g) floor (config_recovered g))
    recovered_alike = record {
      same_floors = λ reference. (same_by reference (find (λ (s : Seat). nat_eq s.reference reference) g.seats) refl).same_floors;
      same_slots = λ reference. (same_by reference (find (λ (s : Seat). nat_eq s.reference reference) g.seats) refl).same_slots;
    }
