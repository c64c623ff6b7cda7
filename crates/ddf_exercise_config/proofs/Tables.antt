-- The members of an exercise and their seats, looked up.
use Rattle.std.proofs.Common.{◌≡◌, ℕ, ◌+◌, Bool, true, false, List, Option, Some, None, nat_eq, eqb, refl, if◌then◌else◌, nat_le, nat_lt, arith}
use Rattle.std.specs.Map.{lookup}
use Rattle.ddf_lemmas.proofs.Tests.{eqb_false_turned}
use Rattle.ddf_config.specs.declared.extent.Extent.{Extent}
use Rattle.ddf_config.specs.declared.member.SpareUse.{SpareUse}
use Rattle.ddf_config.specs.declared.seat.Seat.{Seat}
use Rattle.ddf_config.specs.Extents.{extent}
use Rattle.ddf_config.specs.Seats.{floor_of, slot_of}
use Rattle.ddf_config.specs.Unusable.{passes_floor}
use Rattle.ddf_array.specs.Viewing.{seat_slot}
use Rattle.ddf_exercise_config.specs.Disks.{AreApart, Disks, room}
use Rattle.ddf_exercise_config.specs.Stages.{member, members, position, seats_at}
use Rattle.ddf_config.specs.declared.member.SpareUse.TheVariants.{No}
use Rattle.ddf_exercise_config.specs.Turns.Turn.{Closing, Middle, Opening}
use Rattle.ddf_exercise_config.proofs.Bools.{same}

module _ (disks : Disks) (apart : AreApart disks) where
  pub second_first : eqb disks.second.reference disks.first.reference ≡ false
  second_first = eqb_false_turned _ _ apart.first_second

  pub third_first : eqb disks.third.reference disks.first.reference ≡ false
  third_first = eqb_false_turned _ _ apart.first_third

  pub fourth_first : eqb disks.fourth.reference disks.first.reference ≡ false
  fourth_first = eqb_false_turned _ _ apart.first_fourth

  pub fifth_first : eqb disks.fifth.reference disks.first.reference ≡ false
  fifth_first = eqb_false_turned _ _ apart.first_fifth

  pub third_second : eqb disks.third.reference disks.second.reference ≡ false
  third_second = eqb_false_turned _ _ apart.second_third

  pub fourth_second : eqb disks.fourth.reference disks.second.reference ≡ false
  fourth_second = eqb_false_turned _ _ apart.second_fourth

  pub fifth_second : eqb disks.fifth.reference disks.second.reference ≡ false
  fifth_second = eqb_false_turned _ _ apart.second_fifth

  pub fourth_third : eqb disks.fourth.reference disks.third.reference ≡ false
  fourth_third = eqb_false_turned _ _ apart.third_fourth

  pub fifth_third : eqb disks.fifth.reference disks.third.reference ≡ false
  fifth_third = eqb_false_turned _ _ apart.third_fifth

  pub fifth_fourth : eqb disks.fifth.reference disks.fourth.reference ≡ false
  fifth_fourth = eqb_false_turned _ _ apart.fourth_fifth

  module _ (sm tm : Bool) (fu hu : SpareUse) where
    pub at_first : lookup (nat_eq disks.first.reference) (members disks sm tm fu hu) ≡ Some (member disks.first false No).1
    at_first = simp same

    pub at_second : lookup (nat_eq disks.second.reference) (members disks sm tm fu hu) ≡ Some (member disks.second sm No).1
    at_second = simp (same, second_first)

    pub at_third : lookup (nat_eq disks.third.reference) (members disks sm tm fu hu) ≡ Some (member disks.third tm No).1
    at_third = simp (same, third_first, third_second)

    pub at_fourth : lookup (nat_eq disks.fourth.reference) (members disks sm tm fu hu) ≡ Some (member disks.fourth false fu).1
    at_fourth = simp (same, fourth_first, fourth_second, fourth_third)

    pub at_fifth : lookup (nat_eq disks.fifth.reference) (members disks sm tm fu hu) ≡ Some (member disks.fifth false hu).1
    at_fifth = simp (same, fifth_first, fifth_second, fifth_third, fifth_fourth)

  -- ---- floors

  pub floor_middle_first : floor_of (seats_at disks Middle) disks.first.reference ≡ Some room
  floor_middle_first = simp (same)

  pub floor_middle_third : floor_of (seats_at disks Middle) disks.third.reference ≡ Some room
  floor_middle_third = simp (same, apart.first_third)

  pub floor_middle_fourth : floor_of (seats_at disks Middle) disks.fourth.reference ≡ Some room
  floor_middle_fourth = simp (same, apart.first_fourth, apart.third_fourth)

  pub floor_middle_fifth : floor_of (seats_at disks Middle) disks.fifth.reference ≡ Some room
  floor_middle_fifth = simp (same, apart.first_fifth, apart.third_fifth, apart.fourth_fifth)

  pub floor_closing_first : floor_of (seats_at disks Closing) disks.first.reference ≡ Some room
  floor_closing_first = simp (same)

  pub floor_closing_fourth : floor_of (seats_at disks Closing) disks.fourth.reference ≡ Some room
  floor_closing_fourth = simp (same, apart.first_fourth)

  pub floor_closing_fifth : floor_of (seats_at disks Closing) disks.fifth.reference ≡ Some room
  floor_closing_fifth = simp (same, apart.first_fifth, apart.fourth_fifth)

  module _ (synced : Bool) where
    pub opening_first : seat_slot (seats_at disks Opening) (extent 4096 (position disks.first synced)) ≡ Some 0
    opening_first = simp (seat_slot, floor_of, slot_of, same)

    pub opening_second : seat_slot (seats_at disks Opening) (extent 4096 (position disks.second synced)) ≡ Some 1
    opening_second = simp (seat_slot, floor_of, slot_of, same, apart.first_second)

    pub opening_third : seat_slot (seats_at disks Opening) (extent 4096 (position disks.third synced)) ≡ Some 2
    opening_third = simp (seat_slot, floor_of, slot_of, same, apart.first_third, apart.second_third)

    pub middle_first : seat_slot (seats_at disks Middle) (extent 4096 (position disks.first synced)) ≡ Some 0
    middle_first = simp (seat_slot, floor_of, slot_of, same)

    pub middle_third : seat_slot (seats_at disks Middle) (extent 4096 (position disks.third synced)) ≡ Some 2
    middle_third = simp (seat_slot, floor_of, slot_of, same, apart.first_third)

    pub middle_fourth : seat_slot (seats_at disks Middle) (extent 4096 (position disks.fourth synced)) ≡ Some 3
    middle_fourth = simp (seat_slot, floor_of, slot_of, same, apart.first_fourth, apart.third_fourth)

    pub closing_first : seat_slot (seats_at disks Closing) (extent 4096 (position disks.first synced)) ≡ Some 0
    closing_first = simp (seat_slot, floor_of, slot_of, same)

    pub closing_fourth : seat_slot (seats_at disks Closing) (extent 4096 (position disks.fourth synced)) ≡ Some 3
    closing_fourth = simp (seat_slot, floor_of, slot_of, same, apart.first_fourth)

    pub closing_fifth : seat_slot (seats_at disks Closing) (extent 4096 (position disks.fifth synced)) ≡ Some 4
    closing_fifth = simp (seat_slot, floor_of, slot_of, same, apart.first_fifth, apart.fourth_fifth)

    -- a lost disk has no seat
    pub middle_second : passes_floor (seats_at disks Middle) (extent 4096 (position disks.second synced)) ≡ false
    middle_second = simp (passes_floor, floor_of, apart.first_second, third_second, fourth_second, fifth_second)

    pub closing_third : passes_floor (seats_at disks Closing) (extent 4096 (position disks.third synced)) ≡ false
    closing_third = simp (passes_floor, floor_of, apart.first_third, fourth_third, fifth_third)

-- an extent that has a slot ends below its floor
pub stays_below : (seats : List Seat) (one : Extent) (slot : ℕ) → seat_slot seats one ≡ Some slot → passes_floor seats one ≡ false
stays_below seats one slot is = by (floor_of seats one.reference) is
  where
    ends : (end floor : ℕ) → (if nat_le end floor then Some (slot_of seats one.reference) else None) ≡ Some slot → nat_lt floor end ≡ false
    ends end floor h = by_test (nat_le end floor) refl h
      where
        by_test : (b : Bool) → nat_le end floor ≡ b → (if b then Some (slot_of seats one.reference) else None) ≡ Some slot → nat_lt floor end ≡ false
        by_test true at e = grind arith
        by_test false at e = absurd (cc)

    by : (found : Option ℕ) → ◌≡◌ {A = Option ℕ} (elim found [ None ↦ None | Some floor ↦ if nat_le (one.start + one.blocks) floor then Some (slot_of seats one.reference) else None ]) (Some slot)
        → (elim found [ None ↦ false | Some floor ↦ nat_lt floor (one.start + one.blocks) ]) ≡ false
    by None e = refl
    by (Some floor) e = ends (one.start + one.blocks) floor e
