-- Slots that looks left out, and the seats of the groups that they found.
use Rattle.std.proofs.Common.{◌≡◌, ℕ, zero, suc, ◌+◌, ◌<◌, Bool, true, false, cond, List, [], ◌∷◌, length, Option, Some, None, refl, sym, ap, subst, ◌∙◌, arith}
use Rattle.std.specs.Prelude.{find, is_some, option_map, slice_get, slice_index_or}
use Rattle.std.specs.Option.{option_and_then}
use Rattle.std.specs.List.{AllByRecursion}
use Rattle.ddf_bay.specs.State.{BayState}
use Rattle.ddf_copy.specs.declared.newest_copy.Newest.{Newest}
use Rattle.ddf_copy.specs.Copies.{standing_copy}
use Rattle.ddf_config.specs.declared.seat.Seat.{Seat}
use Rattle.ddf_seats.specs.Group.{is_kept}
use Rattle.ddf_assembly.specs.Slots.{LeaveNone, first_left_out, newest_from, newest_or}

-- ---- the first that is left out

-- It is the slot of one of these seats, and is left out.
pub record IsLeftOutSeat (left : List Bool) (seats : List Seat) (slot : ℕ) : Type 0 where
  pub place : ℕ
  pub seat : Seat
  pub is_seat : slice_get seats place ≡ Some seat
  pub on_slot : seat.slot ≡ slot
  pub is_out : slice_index_or left slot false ≡ true

module _ (left : List Bool) where
  abbrev is_out : Seat → Bool
  is_out seat = slice_index_or left seat.slot false

  pub left_out_seat : (seats : List Seat) (slot : ℕ) → first_left_out left seats ≡ Some slot → IsLeftOutSeat left seats slot
  left_out_seat [] slot h = absurd cc
  left_out_seat (seat ∷ seats) slot h = by (is_out seat) refl (left_out_seat seats slot) h
    where
      by : (out : Bool) → is_out seat ≡ out → (first_left_out left seats ≡ Some slot → IsLeftOutSeat left seats slot) → option_map (λ (one : Seat). one.slot) (cond out (Some seat) (find is_out seats)) ≡ Some slot → IsLeftOutSeat left (seat ∷ seats) slot
      by true e rest h =
          let on : seat.slot ≡ slot = cc in
          record { place = 0; seat = seat; is_seat = refl; on_slot = on; is_out = subst (λ (n : ℕ). slice_index_or left n false ≡ true) on e }
      by false e rest h =
          let later = rest h in
          record { place = suc later.place; seat = later.seat; is_seat = later.is_seat; on_slot = later.on_slot; is_out = later.is_out }

  -- Where there is none, none is.
  pub none_left_out : (seats : List Seat) → first_left_out left seats ≡ None → AllByRecursion (λ seat. slice_index_or left seat.slot false ≡ false) seats
  none_left_out [] h = tt
  none_left_out (seat ∷ seats) h = by (is_out seat) refl (none_left_out seats) h
    where
      by : (out : Bool) → is_out seat ≡ out → (first_left_out left seats ≡ None → AllByRecursion (λ one. slice_index_or left one.slot false ≡ false) seats) → option_map (λ (one : Seat). one.slot) (cond out (Some seat) (find is_out seats)) ≡ None
          → AllByRecursion (λ one. slice_index_or left one.slot false ≡ false) (seat ∷ seats)
      by true e rest h = absurd cc
      by false e rest h = (e, rest h)

-- ---- seats

-- A slot of which a copy is kept isn't left out.
pub kept_seen : (left : List Bool) (newest : List (Option Newest)) (slot : ℕ) → LeaveNone left newest → is_kept newest slot ≡ true → slice_index_or left slot false ≡ false
kept_seen left newest slot none kept = by (slice_get newest slot) refl kept
  where
    by : (found : Option (Option Newest)) → slice_get newest slot ≡ found → is_some (option_and_then (λ one. option_and_then standing_copy one) found) ≡ true → slice_index_or left slot false ≡ false
    by None e h = absurd cc
    by (Some None) e h = absurd cc
    by (Some (Some one)) e h = none slot one e

-- ---- two looks at the same disks

read_at : {D : Type 0} (disks : BayState D) (first : ℕ) (left : List Bool) (slot : ℕ) → slot < length left → slice_index_or left slot false ≡ false
    → slice_get (newest_from disks first left) slot ≡ Some (newest_or disks (first + slot) false)
read_at disks first [] slot below seen = absurd (omega (arith, below))
read_at disks first (out ∷ left) zero below seen =
    let here : first ≡ first + 0 = omega arith in
    let same : out ≡ false = seen in
    ap (λ (one : Option Newest). Some one) (ap (newest_or disks first) same ∙ ap (λ (slot : ℕ). newest_or disks slot false) here)
read_at disks first (out ∷ left) (suc slot) below seen =
    let there : suc first + slot ≡ first + suc slot = omega arith in
    read_at disks (suc first) left slot (omega (arith, below)) seen ∙ ap (λ (n : ℕ). Some (newest_or disks n false)) there

-- Each slot that neither left out has the same newest copy in both.
pub looks_agree : {D : Type 0} (disks : BayState D) (left also : List Bool) (slot : ℕ) → slot < length left → slot < length also → slice_index_or left slot false ≡ false
    → slice_index_or also slot false ≡ false → slice_get (newest_from disks 0 left) slot ≡ slice_get (newest_from disks 0 also) slot
looks_agree disks left also slot below also_below seen also_seen = read_at disks 0 left slot below seen ∙ sym (read_at disks 0 also slot also_below also_seen)

-- A slot that was read, and has a newest copy, isn't left out.
pub read_seen : {D : Type 0} (disks : BayState D) (first : ℕ) (left : List Bool) → LeaveNone left (newest_from disks first left)
read_seen disks first [] slot one at = absurd cc
read_seen disks first (true ∷ left) zero one at = absurd cc
read_seen disks first (false ∷ left) zero one at = refl
read_seen disks first (out ∷ left) (suc slot) one at = read_seen disks (suc first) left slot one at

pub read_within : {D : Type 0} (disks : BayState D) (first : ℕ) (left : List Bool) (slot : ℕ) (one : Option Newest) → slice_get (newest_from disks first left) slot ≡ Some one → slot < length left
read_within disks first [] slot one at = absurd cc
read_within disks first (out ∷ left) zero one at = omega arith
read_within disks first (out ∷ left) (suc slot) one at = let below = read_within disks (suc first) left slot one at in omega (arith, below)

-- A slot of which a copy is kept has a newest copy.
pub kept_there : (newest : List (Option Newest)) (slot : ℕ) → is_kept newest slot ≡ true → (one : Newest) × (slice_get newest slot ≡ Some (Some one))
kept_there newest slot kept = by (slice_get newest slot) refl kept
  where
    by : (found : Option (Option Newest)) → slice_get newest slot ≡ found → is_some (option_and_then (λ one. option_and_then standing_copy one) found) ≡ true
        → (one : Newest) × (slice_get newest slot ≡ Some (Some one))
    by None e h = absurd cc
    by (Some None) e h = absurd cc
    by (Some (Some one)) e h = (one, e)

-- What one look kept of a slot that the other didn't leave out the other one kept.
pub both_kept : {D : Type 0} (disks : BayState D) (left also : List Bool) (slot : ℕ) → length left ≡ length also → slice_index_or left slot false ≡ false
    → is_kept (newest_from disks 0 also) slot ≡ true → slice_get (newest_from disks 0 left) slot ≡ slice_get (newest_from disks 0 also) slot
both_kept disks left also slot long seen kept =
    let there = kept_there (newest_from disks 0 also) slot kept in
    let below = read_within disks 0 also slot (Some there.0) there.1 in
    looks_agree disks left also slot (omega (arith, below, long)) below seen (read_seen disks 0 also slot there.0 there.1)
