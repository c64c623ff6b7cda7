-- The seats of a group at the end of its history.
use Rattle.std.proofs.Common.{◌≡◌, ◌∙◌, inr, ℕ, zero, suc, ◌<◌, Bool, true, false, not, List, [], ◌∷◌, Option, Some, None, find, refl, sym, ap, subst, arith, nat_eq, map, slice_get, ◌&&◌, ◌||◌}
use Rattle.std.specs.Prelude.{is_some, option_map, if◌then◌else◌}
use Rattle.std.specs.Map.{lookup}
use Rattle.std.proofs.lemmas.Bool.{eqb-true, eq-eqb}
use Rattle.ddf_lemmas.proofs.Lists.{in_map}
use Rattle.ddf_lemmas.proofs.Tests.{and_first, and_second}
use Rattle.ddf_bay.specs.Sectors.{Image}
use Rattle.ddf_bay.specs.State.{BayState}
use Rattle.ddf_config.specs.declared.member.Member.{Member}
use Rattle.ddf_config.specs.declared.seat.Seat.{Seat}
use Rattle.ddf_config.specs.Configuration.{Configuration}
use Rattle.ddf_config.specs.Seats.{floor_of, slot_of}
use Rattle.ddf_copy.specs.declared.newest_copy.Newest.TheVariants as newests
use Rattle.ddf_view.specs.View.{view_of}
use Rattle.ddf_rewrite.proofs.Lists.{all_at}
use Rattle.ddf_array.specs.Apart.{AreSeats}
use Rattle.ddf_seats.specs.declared.seated.Seated.{Seated}
use Rattle.ddf_steps.specs.Committed.{slots_of}
use Rattle.ddf_seats.specs.Group.{GroupValue}
use Rattle.ddf_seats.specs.Seated.{seated}
use Rattle.ddf_assembly.specs.Settled.{IsLevelIn}
use Rattle.ddf_history.specs.Groups.{Disk, disk_of, groups, has_current}
use Rattle.ddf_history.specs.Issued.{Past, IsSince}
use Rattle.ddf_history.specs.Promise.{IsKept}
use Rattle.ddf_history.specs.Scenes.{scene_of}
use Rattle.ddf_history.proofs.Sound.{groups_are_sound}
use Rattle.ddf_history_steps.specs.AtEnd.{IsAtEnd}
use Rattle.ddf_history_steps.proofs.CommittingScenes.{seat_shows}
use Rattle.ddf_history_steps.proofs.Slots.{slot_placed}
use Rattle.ddf_data_group.specs.Grouped.{KeepsArrays, Promises}
use Rattle.ddf_data_history.specs.Promised.{KeepsData, is_seat, seats_in}
use Rattle.ddf_data_history.proofs.Seats.{found, has_seat, is_current_by, is_found, seat_of}
use Rattle.ddf_data_history.proofs.Viewed.{last_alone}
use Rattle.ddf_data_disks.specs.Seats.{AreAlikeSeats, AreOnSlots}
use Rattle.ddf_data_disks.proofs.Alike.{arrays_same, turned}

-- ---- seats that are found

pub record IsFoundAt (seats : List Seat) (reference : ℕ) (seat : Seat) : Type 0 where
  pub place : ℕ
  pub is_at : slice_get seats place ≡ Some seat
  pub is_reference : seat.reference ≡ reference

found_at : (seats : List Seat) (reference : ℕ) (seat : Seat) → find (λ (s : Seat). nat_eq s.reference reference) seats ≡ Some seat → IsFoundAt seats reference seat
found_at [] reference seat e = absurd (cc)
found_at (first ∷ seats) reference seat e = by (nat_eq first.reference reference) refl e (found_at seats reference seat)
  where
    by : (b : Bool) → nat_eq first.reference reference ≡ b → (if b then Some first else find (λ (s : Seat). nat_eq s.reference reference) seats) ≡ Some seat
        → (find (λ (s : Seat). nat_eq s.reference reference) seats ≡ Some seat → IsFoundAt seats reference seat) → IsFoundAt (first ∷ seats) reference seat
    by true is e later =
        let same : first ≡ seat = cc in
        record { place = 0; is_at = ap Some same; is_reference = ap (λ (s : Seat). s.reference) (sym same) ∙ eqb-true first.reference reference is }
    by false is e later = let rest = later e in record { place = suc rest.place; is_at = rest.is_at; is_reference = rest.is_reference }

-- one that is there is found, or another of its reference
pub find_one : (seats : List Seat) (reference place : ℕ) (seat : Seat) → slice_get seats place ≡ Some seat → seat.reference ≡ reference → find (λ (s : Seat). nat_eq s.reference reference) seats ≡ None → ⊥
find_one [] reference place seat at same none = cc
find_one (first ∷ seats) reference place seat at same none = by (nat_eq first.reference reference) refl place at none (λ k there rest. find_one seats reference k seat there same rest)
  where
    true_false : (b : Bool) → b ≡ true → b ≡ false → ⊥
    true_false b x y = cc

    by : (b : Bool) → nat_eq first.reference reference ≡ b → (k : ℕ) → slice_get (first ∷ seats) k ≡ Some seat → ◌≡◌ {A = Option Seat} (if b then Some first else find (λ (s : Seat). nat_eq s.reference reference) seats) None
        → ((k : ℕ) → slice_get seats k ≡ Some seat → find (λ (s : Seat). nat_eq s.reference reference) seats ≡ None → ⊥) → ⊥
    by true is k at none later = cc
    by false is zero at none later =
        let one : first ≡ seat = cc in true_false (nat_eq first.reference reference) (eq-eqb first.reference reference (ap (λ (s : Seat). s.reference) one ∙ same)) is
    by false is (suc k) at none later = later k at none

-- ---- the end of a history

module _ (group : List ℕ) {D : Type 0} (past : Past (groups group)) (disks : BayState D) (group_found : GroupValue) (end : IsAtEnd group past disks group_found) where
  abbrev config : Configuration
  config = group_found.config

  kept : IsKept past (scene_of disks.sizes disks.held)
  kept = end.all_kept disks.held end.is_left

  since : IsSince past.changes past.changes.acked group_found.config
  since = end.is_last.since

  -- a disk that is a current member is in one slot
  one_slot : (s t : ℕ) → has_current group_found.config (past.disk s) ≡ true → has_current group_found.config (past.disk t) ≡ true → (past.disk s).reference ≡ (past.disk t).reference → s ≡ t
  one_slot s t one other same =
      (kept).alone s t past.changes.acked group_found.config since one ((groups_are_sound group).one_reference group_found.config (past.disk s) (past.disk t) one other same)

  -- what is known of a seat
  pub record IsMemberSeat (seat : Seat) : Type 0 where
    pub same_reference : seat.reference ≡ (past.disk seat.slot).reference
    pub is_current : has_current group_found.config (past.disk seat.slot) ≡ true
    pub is_below : seat.slot < past.slots

  disk_is : (place : ℕ) (disk : Seated) → slice_get (seated group_found) place ≡ Some disk → disk_of (view_of disk.copy) ≡ past.disk disk.seat.slot
  disk_is place disk at =
      let shows = seat_shows disks group_found end.is_settled end.holds end.under disks.held place disk at refl in
      let current = (end.are_members place disk at).is_current in
      (kept).named disk.seat.slot (view_of disk.copy) (rw shows refl) (inr (past.changes.acked, group_found.config, since, current))

  of_disk : (place : ℕ) (disk : Seated) → slice_get (seated group_found) place ≡ Some disk → IsMemberSeat disk.seat
  of_disk place disk at =
      let is = end.are_members place disk at in
      let named = disk_is place disk at in
      let level = all_at (IsLevelIn group_found) (seated group_found) place disk end.is_settled.are_level at in
      let under = (end.under disk.seat.slot (newests.Level disk.copy) level.is_newest).0 in
      record {
        same_reference = is.same_reference ∙ ap (λ (d : Disk). d.reference) named;
        is_current = ap (has_current group_found.config) (sym named) ∙ is.is_current;
        is_below = omega (arith, under, end.same_slots);
      }

  pub of_seat : (place : ℕ) (seat : Seat) → slice_get group_found.seats place ≡ Some seat → IsMemberSeat seat
  of_seat place seat at =
      let there : slice_get (map (λ (disk : Seated). disk.seat) (seated group_found)) place ≡ Some seat = ap (λ (l : List Seat). slice_get l place) end.is_settled.are_seated ∙ at in
      let own = in_map (λ (disk : Seated). disk.seat) (seated group_found) place seat there in
      subst IsMemberSeat own.2 (of_disk place own.0 own.1)

  some_by : (o : Option Member) → ◌≡◌ {A = Bool} (elim o [ None ↦ false | Some member ↦ not member.missing ]) true → is_some o ≡ true
  some_by None e = absurd (cc)
  some_by (Some member) e = refl

  -- each is a member's, and no slot has the seats of two
  pub seats_are : AreSeats group_found.config.members group_found.seats
  seats_are = record {
    of_members = λ place seat at.
        let is = of_seat place seat at in
        subst (λ (r : ℕ). is_some (lookup (nat_eq r) group_found.config.members) ≡ true) (sym is.same_reference)
        (some_by (lookup (nat_eq (past.disk seat.slot).reference) group_found.config.members) (is_current_by group_found.config (past.disk seat.slot) is.is_current));
    differ = λ j k one other first second same.
        let a = of_seat j one first in
        let b = of_seat k other second in
        a.same_reference ∙ ap (λ (s : ℕ). (past.disk s).reference) same ∙ sym b.same_reference;
  }

  -- ---- they are those of the history

  module _ (floor : ℕ → ℕ) (on : AreOnSlots group past floor group_found.seats) where
    abbrev here : ℕ → Bool
    here = is_seat group past group_found.config

    not_lost : (a b : Bool) → a ≡ false → b ≡ true → (not a && b) ≡ true
    not_lost true b e f = absurd (cc)
    not_lost false b e f = f

    none_away : (a b : Bool) → not a ≡ true → (b ≡ true → ⊥) → (a || b) ≡ false
    none_away true b e never = absurd (cc)
    none_away false true e never = absurd (never refl)
    none_away false false e never = refl

    joined : (a b c : ℕ) → a ≡ c → b ≡ c → a ≡ b
    joined a b c one other = one ∙ sym other

    named : (seat : Seat) (slot reference : ℕ) → IsMemberSeat seat → seat.slot ≡ slot → (past.disk slot).reference ≡ reference → seat.reference ≡ reference
    named seat slot reference is here same = is.same_reference ∙ ap (λ (s : ℕ). (past.disk s).reference) here ∙ same

    -- the seat that the history lists for a member is at the same slot
    at_slot : (reference place : ℕ) (seat : Seat) → slice_get group_found.seats place ≡ Some seat → seat.reference ≡ reference
        → found floor past.disk (is_seat group past group_found.config) reference 0 past.slots ≡ Some (seat_of floor past.disk seat.slot)
    at_slot reference place seat at same =
        let is = of_seat place seat at in
        let there = is_found floor past.disk (is_seat group past group_found.config) reference 0 past.slots seat.slot (omega arith) (omega (arith, is.is_below))
        (not_lost (past.lost seat.slot) (has_current group_found.config (past.disk seat.slot)) (on.not_lost place seat at) is.is_current) (sym is.same_reference ∙ same) in
        let has = has_seat floor past.disk (is_seat group past group_found.config) reference 0 past.slots there.0 there.1 in
        let one = one_slot has.slot seat.slot (and_second (not (past.lost has.slot)) (has_current group_found.config (past.disk has.slot)) has.is_here) is.is_current
        (joined (past.disk has.slot).reference (past.disk seat.slot).reference reference has.is_reference (sym is.same_reference ∙ same)) in
        there.1 ∙ ap Some has.is_seat ∙ ap (λ (s : ℕ). Some (seat_of floor past.disk s)) one

    -- and where it has none, the history lists none
    none_listed : (reference : ℕ) → find (λ (s : Seat). nat_eq s.reference reference) group_found.seats ≡ None → (listed : Option Seat)
        → found floor past.disk (is_seat group past group_found.config) reference 0 past.slots ≡ listed → listed ≡ None
    none_listed reference none None is = refl
    none_listed reference none (Some seat) is =
        let has = has_seat floor past.disk (is_seat group past group_found.config) reference 0 past.slots seat is in
        let current = and_second (not (past.lost has.slot)) (has_current group_found.config (past.disk has.slot)) has.is_here in
        let away = none_away (past.lost has.slot) (past.returned has.slot) (and_first (not (past.lost has.slot)) (has_current group_found.config (past.disk has.slot)) has.is_here)
        (λ back. (groups_are_sound group).not_both group_found.config (past.disk has.slot) current ((kept).gone has.slot past.changes.acked group_found.config back since)) in
        let placed = slot_placed (slots_of group_found.seats) has.slot (end.are_seated has.slot away current) in
        let own = in_map (λ (s : Seat). s.slot) group_found.seats placed.0 has.slot placed.1 in
        let is_own = of_seat placed.0 own.0 own.1 in
        absurd (find_one group_found.seats reference placed.0 own.0 own.1 (named own.0 has.slot reference is_own own.2 has.is_reference) none)

    -- of both lists the same is known
    record AreBoth (reference : ℕ) : Type 0 where
      pub floors : floor_of group_found.seats reference ≡ floor_of (seats_in group past floor group_found.config) reference
      pub slots : slot_of group_found.seats reference ≡ slot_of (seats_in group past floor group_found.config) reference

    both : (reference : ℕ) (o : Option Seat) → find (λ (s : Seat). nat_eq s.reference reference) group_found.seats ≡ o → AreBoth reference
    both reference None is =
        let none = none_listed reference is (found floor past.disk (is_seat group past group_found.config) reference 0 past.slots) refl in
        record {
          floors = ap (option_map (λ (s : Seat). s.floor)) (is ∙ sym none);
          slots = ap (λ (o : Option Seat). elim o [ None ↦ 64 | Some s ↦ s.slot ]) (is ∙ sym none);
        }
    both reference (Some seat) is =
        let at = found_at group_found.seats reference seat is in
        let there = at_slot reference at.place seat at.is_at at.is_reference in
        record {
          floors = ap (option_map (λ (s : Seat). s.floor)) is ∙ ap Some (on.same_floor at.place seat at.is_at) ∙ sym (ap (option_map (λ (s : Seat). s.floor)) there);
          slots = ap (λ (o : Option Seat). elim o [ None ↦ 64 | Some s ↦ s.slot ]) is ∙ sym (ap (λ (o : Option Seat). elim o [ None ↦ 64 | Some s ↦ s.slot ]) there);
        }

    pub seats_alike : AreAlikeSeats group_found.seats (seats_in group past floor group_found.config)
    seats_alike = record {
      same_floors = λ reference. (both reference (find (λ (s : Seat). nat_eq s.reference reference) group_found.seats) refl).floors;
      same_slots = λ reference. (both reference (find (λ (s : Seat). nat_eq s.reference reference) group_found.seats) refl).slots;
    }

    -- ---- the data

    pub keeps_there : (image : Image) (promises : Promises) → KeepsData group past floor image promises → KeepsArrays group_found.config group_found.seats image promises
    keeps_there image promises holds =
        arrays_same (seats_in group past floor group_found.config) group_found.seats (turned group_found.seats (seats_in group past floor group_found.config) seats_alike) group_found.config image promises
        (holds past.changes.acked group_found.config since)

    pub keeps_back : (image : Image) (promises : Promises) → KeepsArrays group_found.config group_found.seats image promises → KeepsData group past floor image promises
    keeps_back image promises arrays number other is =
        let one = last_alone group past group_found.config end.is_last number other is in
        subst (λ (c : Configuration). KeepsArrays c (seats_in group past floor c) image promises) (sym one)
        (arrays_same group_found.seats (seats_in group past floor group_found.config) seats_alike group_found.config image promises arrays)
