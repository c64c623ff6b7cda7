-- The disks of slots that hold the configuration of a group in two level copies.
use Rattle.std.proofs.Common.{◌≡◌, ℕ, List, [], ◌∷◌, Option, Some, refl, ap, ◌∙◌}
use Rattle.std.specs.Prelude.{filter_map, option_map}
use Rattle.std.specs.List.{AllByRecursion, cons_option}
use Rattle.std.specs.Option.{option_and_then}
use Rattle.ddf_copy.specs.declared.copy.DiskCopy.{DiskCopy}
use Rattle.ddf_copy.specs.declared.newest_copy.Newest.{Newest}
use Rattle.ddf_copy.specs.declared.which.Which.TheVariants.{Secondary}
use Rattle.ddf_copy.specs.Copies.{standing_copy}
use Rattle.ddf_config.specs.declared.seat.Seat.{Seat}
use Rattle.ddf_update.specs.declared.prepared.Mode.TheVariants.{Change}
use Rattle.ddf_seats.specs.declared.seated.Seated.{Seated}
use Rattle.ddf_seats.specs.Group.{GroupValue, seat_at, seat_of, seats_of}
use Rattle.ddf_seats.specs.Seated.{seated_at, seated_by, seats_in}
use Rattle.ddf_assembly.proofs.SettledSeats.{IsLevelOn}

-- The disk of a slot with two level copies.
abbrev level_disk : (slot : ℕ) → DiskCopy → Seated
level_disk slot copy = record { seat = seat_of slot copy; copy = copy; last = Secondary; mode = Change }

module _ (group : GroupValue) where
  -- Each of these slots has two level copies.
  abbrev pub AreLevelOn : List ℕ → Type 0
  AreLevelOn slots = AllByRecursion (IsLevelOn group) slots

  -- The disks of these slots.
  abbrev pub level_disks : (slots : List ℕ) → AreLevelOn slots → List Seated
  level_disks [] are = []
  level_disks (slot ∷ slots) are = level_disk slot are.0.copy ∷ level_disks slots are.1

  -- Each of the slots has a seat.
  pub seats_are : (slots : List ℕ) (are : AreLevelOn slots) → seats_of group.newest slots ≡ seats_in (level_disks slots are)
  seats_are [] are = refl
  seats_are (slot ∷ slots) are =
      let seat = seat_of slot are.0.copy in
      let here : seat_at group.newest slot ≡ Some seat =
      ap (λ (found : Option (Option Newest)). option_map (seat_of slot) (option_and_then (λ one. option_and_then standing_copy one) found)) are.0.is_newest in
      ap (λ (found : Option Seat). cons_option found (seats_of group.newest slots)) here ∙ ap (λ (others : List Seat). seat ∷ others) (seats_are slots are.1)

  -- Each seat has its disk.
  pub disks_are : (slots : List ℕ) (are : AreLevelOn slots) → filter_map (seated_at group.newest) (seats_in (level_disks slots are)) ≡ level_disks slots are
  disks_are [] are = refl
  disks_are (slot ∷ slots) are =
      let disk = level_disk slot are.0.copy in
      let here : seated_at group.newest disk.seat ≡ Some disk =
      ap (λ (found : Option (Option Newest)). option_and_then (λ one. option_and_then (seated_by disk.seat) one) found) are.0.is_newest in
      ap (λ (found : Option Seated). cons_option found (filter_map (seated_at group.newest) (seats_in (level_disks slots are.1)))) here
      ∙ ap (λ (others : List Seated). disk ∷ others) (disks_are slots are.1)
