-- A settled group of which one disk is left out, as the other disks tell it.
use Rattle.std.proofs.Common.{◌≡◌, ◌⊎◌, ℕ, zero, suc, ◌<◌, true, false, ◌||◌, List, [], ◌∷◌, length, Option, Some, None, refl, ap, sym, ◌∙◌, subst, inl, inr, arith, map-id}
use Rattle.std.proofs.lemmas.Bool.{eq-eqb}
use Rattle.std.specs.Prelude.{filter_map, option_map, slice_get, slice_set}
use Rattle.std.specs.Option.{option_and_then}
use Rattle.ddf_lemmas.proofs.Lists.{filter_all}
use Rattle.ddf_copy.specs.declared.copy.DiskCopy.{DiskCopy}
use Rattle.ddf_copy.specs.declared.newest_copy.Newest.{Newest}
use Rattle.ddf_copy.specs.declared.which.Which.{Which}
use Rattle.ddf_copy.specs.Shows.{last_of}
use Rattle.ddf_update.specs.declared.prepared.Mode.{Mode}
use Rattle.ddf_update.specs.declared.prepared.Mode.TheVariants.{Change}
use Rattle.ddf_config.specs.declared.member.Member.{Member}
use Rattle.ddf_config.specs.declared.seat.Seat.{Seat}
use Rattle.ddf_plan.specs.Lose.{is_among}
use Rattle.ddf_view.specs.View.{view_of}
use Rattle.ddf_history.specs.Groups.{ShowsFully}
use Rattle.ddf_seats.specs.declared.seated.Seated.{Seated}
use Rattle.ddf_steps.specs.Committed.{slots_of}
use Rattle.ddf_seats.specs.Group.{GroupValue}
use Rattle.ddf_assembly.specs.Reading.{AreNewest}
use Rattle.ddf_seats.specs.Seated.{seated, seated_at, seated_by, seats_in, slots_in}
use Rattle.ddf_seats.proofs.CommittedSeats.{seated_is}
use Rattle.ddf_recovery.proofs.LeftLists.{one_or_none}
use Rattle.ddf_history_steps.specs.Kept.{is_slot}
use Rattle.ddf_history_steps.proofs.Slots.{slot_is}
use Rattle.ddf_uncut_group.specs.Settled.{IsToldByAll}
use Rattle.ddf_uncut_group.specs.Without.{without_seat}
use Rattle.ddf_uncut_group.proofs.LostGroup.{IsToldWithout, slots_by_seats}
use Rattle.ddf_uncut_group.proofs.SettledTelling.{AreTelling}
use Rattle.ddf_uncut_group.proofs.UnpluggedDisks.{full}
use Rattle.ddf_uncut_group.proofs.UnpluggedGroup.{all_telling, found_without, had_seat, left, left_is, lost_or_left, missing_reference, none_at, other_left, seats_left, still}

-- ---- a seated disk

abbrev make_disk : Seat → DiskCopy → Which → Mode → Seated
make_disk seat copy last mode = record { seat = seat; copy = copy; last = last; mode = mode }

-- A disk of a group is that of its seat.
seated_again : (group : GroupValue) (k : ℕ) (disk : Seated) → slice_get (seated group) k ≡ Some disk → seated_at group.newest disk.seat ≡ Some disk
seated_again group k disk at =
    let own = seated_is group k disk at in
    ap (λ (found : Option (Option Newest)). option_and_then (λ one. option_and_then (seated_by disk.seat) one) found) own.is_found
    ∙ ap (λ (stands : Option DiskCopy). option_map (λ copy. make_disk disk.seat copy (last_of own.found) Change) stands) own.stands
    ∙ ap (λ (last : Which). Some (make_disk disk.seat disk.copy last Change)) (sym own.has_last)
    ∙ ap (λ (mode : Mode). Some (make_disk disk.seat disk.copy disk.last mode)) (sym own.has_mode)

-- ---- newest copies that can be written

newest_none : (all : List (Option Newest)) (slot : ℕ) → AreNewest all → AreNewest (slice_set all slot None)
newest_none [] slot are = tt
newest_none (one ∷ all) zero are = (tt, are.1)
newest_none (one ∷ all) (suc slot) are = (are.0, newest_none all slot are.1)

module _ (group : GroupValue) (told : IsToldByAll group) (place : ℕ) (seat : Seat) (is_seat : slice_get group.seats place ≡ Some seat) (two : 1 < length group.seats) where
  abbrev without : GroupValue
  without = without_seat group seat

  abbrev kept : List Seated
  kept = left group told place seat is_seat

  -- Its disks are the others.
  pub seated_left : seated without ≡ kept
  unfolding seated
  seated_left =
      ap (λ (seats : List Seat). filter_map (seated_at without.newest) seats) (sym (seats_left group told place seat is_seat))
      ∙ filter_all (seated_at without.newest) (λ (disk : Seated). disk.seat) (λ (disk : Seated). disk) kept
      (λ k disk at.
      let is = left_is group told place seat is_seat k disk at in
      ap (λ (found : Option (Option Newest)). option_and_then (λ one. option_and_then (seated_by disk.seat) one) found) (still group told place seat is_seat disk.seat.slot is.differs_in)
      ∙ seated_again group is.at_place disk is.at)
      ∙ map-id kept

  here : (k : ℕ) (disk : Seated) → slice_get (seated without) k ≡ Some disk → slice_get kept k ≡ Some disk
  here k disk at = sym (ap (λ (disks : List Seated). slice_get disks k) seated_left) ∙ at

  there : (k : ℕ) (disk : Seated) → slice_get kept k ≡ Some disk → slice_get (seated without) k ≡ Some disk
  there k disk at = ap (λ (disks : List Seated). slice_get disks k) seated_left ∙ at

  full_left : (k : ℕ) (disk : Seated) → slice_get (seated without) k ≡ Some disk → ShowsFully (view_of disk.copy) group.config
  full_left k disk at = let is = left_is group told place seat is_seat k disk (here k disk at) in full group told is.at_place disk is.at

  have_seats : (i : ℕ) (entry : ℕ × Member) → slice_get group.config.members i ≡ Some entry → entry.1.missing ≡ false
      → (is_among (seat.reference ∷ []) entry.0 ≡ true) ⊎ ((k : ℕ) × (disk : Seated) × (slice_get (seated without) k ≡ Some disk) × (disk.seat.reference ≡ entry.0))
  have_seats i entry at current =
      let had = had_seat group told place seat is_seat i entry at current in
      by had.0 had.1 had.2 had.3
    where
      by : (k : ℕ) (disk : Seated) → slice_get (seated group) k ≡ Some disk → disk.seat.reference ≡ entry.0
          → (is_among (seat.reference ∷ []) entry.0 ≡ true) ⊎ ((j : ℕ) × (one : Seated) × (slice_get (seated without) j ≡ Some one) × (one.seat.reference ≡ entry.0))
      by k disk at_it reference = elim (lost_or_left group told place seat is_seat k disk at_it) [
        | inl same ↦ inl (ap (λ b. b || false) (eq-eqb entry.0 seat.reference (sym reference ∙ same)))
        | inr other ↦ inr (other.0, disk, there other.0 disk other.1, reference)
      ]

  beside_left : (slot : ℕ) (one : Newest) → slice_get without.newest slot ≡ Some (Some one) → is_slot (slots_of without.seats) slot ≡ true
  beside_left slot one at = elim (one_or_none (slots_in kept) slot) [
    | inl found ↦
        subst (λ (slots : List ℕ). is_slot slots slot ≡ true) (slots_by_seats kept ∙ ap slots_of (seats_left group told place seat is_seat))
        (slot_is (slots_in kept) found.0 slot found.1)
    | inr none ↦ absurd (none_at group told place seat is_seat slot none one at)
  ]

  some_left : 0 < length (seated without)
  some_left = let other = other_left group told place seat is_seat two in by (seated without) other.0 other.1 (there other.0 other.1 other.2)
    where
      by : (disks : List Seated) (k : ℕ) (disk : Seated) → slice_get disks k ≡ Some disk → 0 < length disks
      by [] k disk at = absurd cc
      by (one ∷ disks) k disk at = omega arith

  -- They tell it.
  pub told_without : IsToldWithout without
  told_without = record {
    is_found = found_without group told place seat is_seat two;
    are_newest = newest_none group.newest seat.slot told.are_newest;
    are_seated = ap seats_in seated_left ∙ seats_left group told place seat is_seat;
    are_telling = subst (λ (disks : List Seated). AreTelling without.newest group.config disks) (sym seated_left) (all_telling group told place seat is_seat two);
    are_full = full_left;
    some_disk = some_left;
    some_absent = refl;
    not_absent = λ k disk at. ap (λ b. b || false) (missing_reference group told place seat is_seat k disk (here k disk at));
    have_seats = have_seats;
    none_beside = beside_left;
  }
