-- The references of a group's disks have 32 bits.
use Rattle.std.proofs.Common.{◌≡◌, ℕ, ◌^◌, ◌<◌, List, [], ◌∷◌, map, Option, Some, None, Result, Ok, Err, refl, subst}
use Rattle.std.specs.Prelude.{option_map, slice_get}
use Rattle.std.specs.List.{AllByRecursion, cons_option}
use Rattle.std.specs.Option.{option_and_then}
use Rattle.ddf_copy.specs.declared.newest_copy.Newest.{Newest}
use Rattle.ddf_copy.specs.declared.newest_copy.Newest.TheVariants.{One, Level, TwoDiffer, Neither}
use Rattle.ddf_copy.specs.Copies.{standing_copy}
use Rattle.ddf_config.specs.declared.seat.Seat.{Seat}
use Rattle.ddf_group.specs.declared.answer.Assembled.{Assembled}
use Rattle.ddf_group.specs.declared.answer.Assembly.{Assembly}
use Rattle.ddf_group.specs.Shown.{shown_of}
use Rattle.ddf_group.specs.Assembled.{assembled}
use Rattle.ddf_seats.specs.Group.{GroupValue, seat_of, seats_of}
use Rattle.ddf_assembly.specs.Group.{group_as, group_of, group_or_fault}
use Rattle.ddf_assembly.specs.Reading.{HasAnchor, HaveAnchors}

-- the references of some seats have 32 bits
abbrev AreSmall : List Seat → Type 0
AreSmall seats = AllByRecursion (λ (seat : Seat). seat.reference < 2 ^ 32) seats

-- the disk of a copy that can be written
one_small : (size slot : ℕ) (newest : Newest) (later : List Seat) → HasAnchor size newest → AreSmall later → AreSmall (cons_option (option_map (seat_of slot) (standing_copy newest)) later)
one_small size slot (One which copy) later anchored small = (anchored.under.is_copy.disk_data_can.is_record.fields_fit.1.0, small)
one_small size slot (Level copy) later anchored small = (anchored.under.is_copy.disk_data_can.is_record.fields_fit.1.0, small)
one_small size slot (TwoDiffer primary secondary) later anchored small = (anchored.under.0.is_copy.disk_data_can.is_record.fields_fit.1.0, small)
one_small size slot (Neither first second) later anchored small = small

module _ (sizes : List ℕ) (newest : List (Option Newest)) (have : HaveAnchors sizes newest) where
  -- the seat of a slot, where there is one
  next_small : (slot : ℕ) (found : Option (Option Newest)) (later : List Seat) → slice_get newest slot ≡ found → AreSmall later
      → AreSmall (cons_option (option_map (seat_of slot) (option_and_then (λ one. option_and_then standing_copy one) found)) later)
  next_small slot None later at small = small
  next_small slot (Some None) later at small = small
  next_small slot (Some (Some one)) later at small = let there = have slot one at in one_small _ slot one later there.1 small

  -- the seats of slots
  seats_small : (slots : List ℕ) → AreSmall (seats_of newest slots)
  seats_small [] = tt
  seats_small (slot ∷ slots) = next_small slot (slice_get newest slot) (seats_of newest slots) refl (seats_small slots)

-- the disks of a group whose newest copies can be written again
pub group_small : (sizes : List ℕ) (newest : List (Option Newest)) (named : Option (List ℕ)) (group : GroupValue) → group_of newest named ≡ Ok group → HaveAnchors sizes group.newest
    → AllByRecursion (λ (seat : Seat). seat.reference < 2 ^ 32) group.seats
unfolding group_of
group_small sizes newest named group is have = by (assembled (map shown_of newest) named) is have
  where
    by : (answer : Result Assembled Assembly) → group_or_fault newest answer ≡ Ok group → HaveAnchors sizes group.newest → AreSmall group.seats
    by (Ok found) is have =
        let same : group_as newest found ≡ group = cc in
        subst (λ (one : GroupValue). HaveAnchors sizes one.newest → AreSmall one.seats) same (λ anchors. seats_small sizes newest anchors found.seats) have
    by (Err fault) is have = absurd cc
