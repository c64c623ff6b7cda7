-- A slot that is left out has no place of an array of the group.
use Rattle.std.proofs.Common.{◌≡◌, ◌∙◌, ℕ, zero, suc, Bool, true, false, List, [], ◌∷◌, map, Option, Some, None, Result, Ok, Err, refl, sym, ap, slice_get}
use Rattle.std.specs.Prelude.{IsTrue, option_map, slice_index_or}
use Rattle.std.specs.List.{cons_option}
use Rattle.std.specs.Option.{option_and_then}
use Rattle.ddf_bay.specs.State.{BayState}
use Rattle.ddf_copy.specs.declared.copy.DiskCopy.{DiskCopy}
use Rattle.ddf_copy.specs.declared.newest_copy.Newest.{Newest}
use Rattle.ddf_copy.specs.Copies.{standing_copy}
use Rattle.ddf_config.specs.declared.seat.Seat.{Seat}
use Rattle.ddf_array.proofs.Fits.{place_seat}
use Rattle.ddf_group.specs.declared.answer.Assembled.{Assembled}
use Rattle.ddf_group.specs.declared.answer.Assembly.{Assembly}
use Rattle.ddf_group.specs.Assembled.{assembled}
use Rattle.ddf_group.specs.Shown.{shown_of}
use Rattle.ddf_seats.specs.Group.{GroupValue, copy_at, seat_at, seat_of, seats_of}
use Rattle.ddf_assembly.specs.Group.{group_as, group_of, group_or_fault}
use Rattle.ddf_recovery.specs.Recovery.{trusted_seats}
use Rattle.ddf_assembly.specs.Slots.{newest_from, newest_or}
use Rattle.ddf_recovery.proofs.Trusted.{trusted_there}
use Rattle.ddf_read_commands.specs.Read.{HasNoPlace}

-- ---- the seats of a group

pub seats_by : (newest : List (Option Newest)) (found : Result Assembled Assembly) (group : GroupValue) → group_or_fault newest found ≡ Ok group → (slots : List ℕ) × (seats_of newest slots ≡ group.seats)
seats_by newest (Ok found) group e =
    let same : group_as newest found ≡ group = cc in (found.seats, ap (λ (g : GroupValue). g.seats) same)
seats_by newest (Err fault) group e = absurd cc

pub seats_are : (newest : List (Option Newest)) (named : Option (List ℕ)) (group : GroupValue) → group_of newest named ≡ Ok group → (slots : List ℕ) × (seats_of newest slots ≡ group.seats)
unfolding group_of
seats_are newest named group e = seats_by newest (assembled (map shown_of newest) named) group e

module _ (newest : List (Option Newest)) where
  -- a slot shows a copy
  abbrev Shows : ℕ → Type 0
  Shows slot = (copy : DiskCopy) × (copy_at newest slot ≡ Some copy)

  seat_by : (slot : ℕ) (found : Option DiskCopy) (seat : Seat) → copy_at newest slot ≡ found → option_map (seat_of slot) found ≡ Some seat → Shows seat.slot
  seat_by slot None seat is e = absurd cc
  seat_by slot (Some copy) seat is e =
      let same : seat_of slot copy ≡ seat = cc in
      let slot_is : slot ≡ seat.slot = ap (λ (s : Seat). s.slot) same in
      (copy, ap (copy_at newest) (sym slot_is) ∙ is)

  one_shows : (found : Option Seat) (others : List Seat) → ((seat : Seat) → found ≡ Some seat → Shows seat.slot)
      → ((k : ℕ) (seat : Seat) → slice_get others k ≡ Some seat → Shows seat.slot)
      → (k : ℕ) (seat : Seat) → slice_get (cons_option found others) k ≡ Some seat → Shows seat.slot
  one_shows None others here rest k seat at = rest k seat at
  one_shows (Some first) others here rest zero seat at = here seat at
  one_shows (Some first) others here rest (suc k) seat at = rest k seat at

  -- each seat is on such a slot
  seats_show : (slots : List ℕ) (k : ℕ) (seat : Seat) → slice_get (seats_of newest slots) k ≡ Some seat → Shows seat.slot
  seats_show [] k seat at = absurd cc
  seats_show (slot ∷ slots) k seat at =
      one_shows (seat_at newest slot) (seats_of newest slots) (λ one is. seat_by slot (copy_at newest slot) one refl is) (seats_show slots) k seat at

-- ---- slots that are left out

module _ {D : Type 0} (disks : BayState D) where
  none_first : (slot : ℕ) (out : Bool) → IsTrue out → newest_or disks slot out ≡ None
  none_first slot true is = refl
  none_first slot false is = absurd cc

  none_at : (first : ℕ) (left : List Bool) (slot : ℕ) → IsTrue (slice_index_or left slot false) → slice_get (newest_from disks first left) slot ≡ Some None
  none_at first [] slot is = absurd cc
  none_at first (out ∷ left) zero is = ap Some (none_first first out is)
  none_at first (out ∷ left) (suc slot) is = none_at (suc first) left slot is

  module _ (left : List Bool) (newest : List (Option Newest)) (named : Option (List ℕ)) (slot : ℕ) (read : newest ≡ newest_from disks 0 left) (out : IsTrue (slice_index_or left slot false)) where
    no_copy : copy_at newest slot ≡ None
    no_copy = ap (λ (l : List (Option Newest)). copy_at l slot) read ∙ by (slice_get (newest_from disks 0 left) slot) (none_at 0 left slot out)
      where
        by : (found : Option (Option Newest)) → found ≡ Some None → option_and_then (λ one. option_and_then standing_copy one) found ≡ None
        by None e = refl
        by (Some None) e = refl
        by (Some (Some one)) e = absurd cc

    by_group : (found : Result GroupValue Assembly) → group_of newest named ≡ found → HasNoPlace found slot
    by_group (Ok group) is = λ guid v view on.
        let seat = place_seat group.config guid (trusted_seats group) v on.element on.position slot on.part on.place view on.is_part on.is_place on.is_there in
        let seats = seats_are newest named group is in
        let own = trusted_there group seat.0 seat.1.0 seat.1.1 in
        let shown = seats_show newest seats.0 own.0 seat.1.0 (ap (λ (l : List Seat). slice_get l own.0) seats.1 ∙ own.1) in
        let contradicted : Some shown.0 ≡ None = sym shown.1 ∙ ap (copy_at newest) seat.1.2 ∙ no_copy in
        absurd cc
    by_group (Err fault) is = tt

    pub has_no_place : HasNoPlace (group_of newest named) slot
    has_no_place = by_group (group_of newest named) refl
