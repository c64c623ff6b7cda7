-- Seats on slots whose newest copies stand under anchors.
use Rattle.std.proofs.Common.{◌≡◌, ℕ, zero, suc, ◌-◌, ◌<◌, ◌≤◌, ◌⊎◌, List, [], ◌∷◌, ◌++◌, length, Option, Some, None, refl, sym, ap, subst, ⊎_elim, ◌∙◌, arith, inl, inr}
use Rattle.std.specs.Prelude.{IfSome, min, option_map, slice_get, slice_index}
use Rattle.std.specs.Option.{option_and_then}
use Rattle.std.specs.List.{cons_option}
use Rattle.std.proofs.Math.Nat.{min-le_left, min-le_right}
use Rattle.ddf_config.specs.declared.seat.Seat.{Seat}
use Rattle.ddf_config.specs.Seats.{SeatsFit}
use Rattle.ddf_header.specs.declared.reading.Header.{Header}
use Rattle.ddf_copy.specs.declared.copy.DiskCopy.{DiskCopy}
use Rattle.ddf_copy.specs.declared.newest_copy.Newest.{Newest}
use Rattle.ddf_copy.specs.declared.newest_copy.Newest.TheVariants as newests
use Rattle.ddf_copy.specs.declared.which.Which.TheVariants.{Primary}
use Rattle.ddf_copy.specs.Copies.{standing_copy}
use Rattle.ddf_copy.specs.Gate.{header_bytes}
use Rattle.ddf_copy.specs.Headers.{IsUnder, closed_header}
use Rattle.ddf_copy.specs.Which.{other_of, place_of}
use Rattle.ddf_copy.proofs.Gates.{gate_from, headers_in_room}
use Rattle.ddf_seats.specs.Group.{floor_of, seat_at, seat_of, seats_of}
use Rattle.ddf_assembly.specs.Reading.{HasAnchor, HaveAnchors}

-- ---- one slot more

get_more : {X : Type 0} (xs : List X) (x y : X) (k : ℕ) → slice_get (xs ++ x ∷ []) k ≡ Some y → (slice_get xs k ≡ Some y) ⊎ ((k ≡ length xs) × (Some x ≡ Some y))
get_more [] x y zero h = inr (refl, h)
get_more [] x y (suc k) h = absurd cc
get_more (z ∷ zs) x y zero h = inl h
get_more (z ∷ zs) x y (suc k) h = ⊎_elim (λ before. inl before) (λ last. inr (ap suc last.0, last.1)) (get_more zs x y k h)

pub anchors_more : (sizes : List ℕ) (all : List (Option Newest)) (slot : ℕ) (one : Option Newest) → length all ≡ slot → slot < length sizes
    → HaveAnchors sizes all → IfSome one (HasAnchor (slice_index sizes slot)) → HaveAnchors sizes (all ++ one ∷ [])
anchors_more sizes all slot one counted within have has k newest at =
    ⊎_elim (λ before. have k newest before)
    (λ last.
    let here : slot ≡ k = sym counted ∙ sym last.0 in
    let same : one ≡ Some newest = cc in (
      subst (λ (n : ℕ). n < length sizes) here within,
      subst (λ (n : ℕ). HasAnchor (slice_index sizes n) newest) here (subst (λ (x : Option Newest). IfSome x (HasAnchor (slice_index sizes slot))) same has),
    ))
    (get_more all one (Some newest) k at)

-- ---- a seat

-- a copy that stands under an anchor begins before the last sector
floor_below : (size : ℕ) (anchor : Header) (copy : DiskCopy) → IsUnder size anchor copy → floor_of copy ≤ size
floor_below size anchor copy under =
    let gate = gate_from size anchor Primary (closed_header copy Primary) (header_bytes (closed_header copy Primary)) (under.has_gate Primary) in
    let room = headers_in_room (size - 1) (place_of Primary anchor) (place_of (other_of Primary) anchor) copy.header.geometry.sections gate.has_room in
    let place : place_of Primary copy.header ≡ place_of Primary anchor = under.in_place Primary in
    let first : floor_of copy ≤ min copy.header.primary_lba copy.header.secondary_lba = min-le_right copy.header.geometry.workspace_lba (min copy.header.primary_lba copy.header.secondary_lba) in
    let second : min copy.header.primary_lba copy.header.secondary_lba ≤ copy.header.primary_lba = min-le_left copy.header.primary_lba copy.header.secondary_lba in
    omega (arith, first, second, place, room.own_below)

standing_below : (size : ℕ) (newest : Newest) (copy : DiskCopy) → HasAnchor size newest → standing_copy newest ≡ Some copy → floor_of copy ≤ size
standing_below size (newests.One which one) copy has is = let same : one ≡ copy = cc in floor_below size has.anchor copy (subst (IsUnder size has.anchor) same has.under)
standing_below size (newests.Level one) copy has is = let same : one ≡ copy = cc in floor_below size has.anchor copy (subst (IsUnder size has.anchor) same has.under)
standing_below size (newests.TwoDiffer one other) copy has is = let same : one ≡ copy = cc in floor_below size has.anchor copy (subst (IsUnder size has.anchor) same has.under.0)
standing_below size (newests.Neither first second) copy has is = absurd cc

module _ (sizes : List ℕ) (newest : List (Option Newest)) (have : HaveAnchors sizes newest) where
  abbrev IsSeated : Seat → Type 0
  IsSeated seat = (seat.slot < length sizes) × (seat.floor ≤ slice_index sizes seat.slot)

  seat_from : (slot : ℕ) (found : Option (Option Newest)) (seat : Seat) → slice_get newest slot ≡ found
      → option_map (seat_of slot) (option_and_then (λ one. option_and_then standing_copy one) found) ≡ Some seat → IsSeated seat
  seat_from slot None seat at is = absurd cc
  seat_from slot (Some None) seat at is = absurd cc
  seat_from slot (Some (Some one)) seat at is = seat_by slot one seat (standing_copy one) at refl is
    where
      seat_by : (slot : ℕ) (one : Newest) (seat : Seat) (found : Option DiskCopy) → slice_get newest slot ≡ Some (Some one) → standing_copy one ≡ found
          → option_map (seat_of slot) found ≡ Some seat → IsSeated seat
      seat_by slot one seat None at stands is = absurd cc
      seat_by slot one seat (Some copy) at stands is =
          let same : seat_of slot copy ≡ seat = cc in
          let here = have slot one at in
          subst IsSeated same (here.0, standing_below (slice_index sizes slot) one copy here.1 stands)

  one_seated : (found : Option Seat) (others : List Seat) → ((seat : Seat) → found ≡ Some seat → IsSeated seat)
      → ((k : ℕ) (seat : Seat) → slice_get others k ≡ Some seat → IsSeated seat)
      → (k : ℕ) (seat : Seat) → slice_get (cons_option found others) k ≡ Some seat → IsSeated seat
  one_seated None others here rest k seat at = rest k seat at
  one_seated (Some first) others here rest zero seat at = here seat at
  one_seated (Some first) others here rest (suc k) seat at = rest k seat at

  pub seats_fit : (slots : List ℕ) → SeatsFit sizes (seats_of newest slots)
  seats_fit [] k seat at = absurd cc
  seats_fit (slot ∷ slots) k seat at =
      one_seated (seat_at newest slot) (seats_of newest slots) (λ one is. seat_from slot (slice_get newest slot) one refl is) (seats_fit slots) k seat at
