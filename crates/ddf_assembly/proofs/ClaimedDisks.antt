-- The disks of slots, by the newest copies that stand for them.
use Rattle.std.proofs.Common.{◌≡◌, ℕ, ◌<◌, List, [], ◌∷◌, map, Option, Some, None, refl, sym, ap, ◌∙◌, subst}
use Rattle.std.proofs.lemmas.Option.{slice_get-map}
use Rattle.std.specs.Prelude.{IfSome, filter_map, option_map, slice_get, unwrap_or}
use Rattle.std.specs.List.{AllByRecursion, cons_option}
use Rattle.std.specs.Option.{option_and_then}
use Rattle.ddf_copy.specs.declared.copy.DiskCopy.{DiskCopy}
use Rattle.ddf_copy.specs.declared.newest_copy.Newest.{Newest}
use Rattle.ddf_copy.specs.declared.newest_copy.Newest.TheVariants as newests
use Rattle.ddf_copy.specs.Copies.{standing_copy}
use Rattle.ddf_copy.specs.Shows.{last_of}
use Rattle.ddf_copy.specs.Whole.{IsNewestCopy}
use Rattle.ddf_copy.specs.Written.{CanBeCopy}
use Rattle.ddf_config.specs.declared.seat.Seat.{Seat}
use Rattle.ddf_view.specs.View.{View, view_of}
use Rattle.ddf_group.specs.declared.shown.Shown.{Shown}
use Rattle.ddf_group.specs.declared.shown.Shown.TheVariants.{Nothing}
use Rattle.ddf_group.specs.Shown.{shown_of}
use Rattle.ddf_group.specs.Slots.{slot_at, view_in}
use Rattle.ddf_rewrite.proofs.Lists.{all_at}
use Rattle.ddf_update.specs.declared.prepared.Mode.TheVariants.{Change}
use Rattle.ddf_seats.specs.declared.seated.Seated.{Seated}
use Rattle.ddf_seats.specs.Group.{seat_at, seat_of, seats_of}
use Rattle.ddf_assembly.specs.Reading.{AreNewest}
use Rattle.ddf_seats.specs.Seated.{seated_at, seated_by, seats_in}
use Rattle.ddf_seats.specs.Changing.{SlotsRise}
use Rattle.ddf_assembly.proofs.SettledSeats.{Rise}

-- ---- lists

-- What is found of what is found.
pub found_twice : {X Y Z : Type 0} (f : Y → Option Z) (g : X → Option Y) (xs : List X) → filter_map f (filter_map g xs) ≡ filter_map (λ x. option_and_then f (g x)) xs
found_twice f g [] = refl
found_twice {Y = Y} {Z = Z} f g (x ∷ xs) = by (g x) (found_twice f g xs)
  where
    by : (found : Option Y) → filter_map f (filter_map g xs) ≡ filter_map (λ y. option_and_then f (g y)) xs
        → filter_map f (cons_option found (filter_map g xs)) ≡ cons_option (option_and_then f found) (filter_map (λ y. option_and_then f (g y)) xs)
    by None rest = rest
    by (Some y) rest = ap (λ (others : List Z). cons_option (f y) others) rest

-- What is found has what each found thing has.
pub found_have : {X Y : Type 0} (f : X → Option Y) (P : Y → Type 0) (xs : List X) → AllByRecursion (λ x. (y : Y) → f x ≡ Some y → P y) xs → AllByRecursion P (filter_map f xs)
found_have f P [] have = tt
found_have {Y = Y} f P (x ∷ xs) have = by (f x) have.0 (found_have f P xs have.1)
  where
    by : (found : Option Y) → ((y : Y) → found ≡ Some y → P y) → AllByRecursion P (filter_map f xs) → AllByRecursion P (cons_option found (filter_map f xs))
    by None here rest = rest
    by (Some y) here rest = (here y refl, rest)

-- ---- a slot's disk

-- The disk of a slot, where a copy stands for it.
abbrev pub disk_at : List (Option Newest) → (slot : ℕ) → Option Seated
disk_at newest slot = option_and_then (seated_at newest) (seat_at newest slot)

-- What a slot shows.
abbrev pub view_at : List (Option Newest) → (slot : ℕ) → Option View
view_at newest slot = view_in (slot_at (map shown_of newest) slot)

-- A copy stands for a slot, which can be written.
pub record HasDisk (newest : List (Option Newest)) (slot : ℕ) : Type 0 where
  pub found : Newest
  pub is_found : slice_get newest slot ≡ Some (Some found)
  pub copy : DiskCopy
  pub stands : standing_copy found ≡ Some copy
  pub is_copy : CanBeCopy copy

module _ (newest : List (Option Newest)) (slot : ℕ) where
  disk_from : AreNewest newest → (found : Option (Option Newest)) → slice_get newest slot ≡ found → (view : View)
      → view_in (unwrap_or (option_map shown_of found) Nothing) ≡ Some view → HasDisk newest slot
  unfolding shown_of
  disk_from are None e view h = absurd cc
  disk_from are (Some None) e view h = absurd cc
  disk_from are (Some (Some (newests.One which copy))) e view h =
      let can = all_at (λ (one : Option Newest). IfSome one IsNewestCopy) newest slot (Some (newests.One which copy)) are e in
      record { found = newests.One which copy; is_found = e; copy = copy; stands = refl; is_copy = can }
  disk_from are (Some (Some (newests.Level copy))) e view h =
      let can = all_at (λ (one : Option Newest). IfSome one IsNewestCopy) newest slot (Some (newests.Level copy)) are e in
      record { found = newests.Level copy; is_found = e; copy = copy; stands = refl; is_copy = can }
  disk_from are (Some (Some (newests.TwoDiffer primary secondary))) e view h =
      let can = all_at (λ (one : Option Newest). IfSome one IsNewestCopy) newest slot (Some (newests.TwoDiffer primary secondary)) are e in
      record { found = newests.TwoDiffer primary secondary; is_found = e; copy = primary; stands = refl; is_copy = can.0 }
  disk_from are (Some (Some (newests.Neither first second))) e view h = absurd cc

  -- A slot that shows something has its disk.
  pub has_disk : AreNewest newest → (view : View) → view_at newest slot ≡ Some view → HasDisk newest slot
  has_disk are view h =
      disk_from are (slice_get newest slot) refl view
      (subst (λ (found : Option Shown). view_in (unwrap_or found Nothing) ≡ Some view) (slice_get-map shown_of newest slot) h)

  module _ (has : HasDisk newest slot) where
    -- The disk.
    abbrev pub own_disk : Seated
    own_disk = record { seat = seat_of slot has.copy; copy = has.copy; last = last_of has.found; mode = Change }

    -- Its seat is that of the slot.
    pub own_seat : seat_at newest slot ≡ Some own_disk.seat
    own_seat =
        ap (λ (found : Option (Option Newest)). option_map (seat_of slot) (option_and_then (λ one. option_and_then standing_copy one) found)) has.is_found
        ∙ ap (λ (found : Option DiskCopy). option_map (seat_of slot) found) has.stands

    own_seated : seated_at newest own_disk.seat ≡ Some own_disk
    own_seated =
        ap (λ (found : Option (Option Newest)). option_and_then (λ one. option_and_then (seated_by own_disk.seat) one) found) has.is_found
        ∙ ap (λ (found : Option DiskCopy). option_map (λ copy. record { seat = own_disk.seat; copy = copy; last = last_of has.found; mode = Change }) found) has.stands

    -- It is the slot's disk.
    pub own_is : disk_at newest slot ≡ Some own_disk
    own_is = ap (λ (found : Option Seat). option_and_then (seated_at newest) found) own_seat ∙ own_seated

    view_standing : (found : Newest) → standing_copy found ≡ Some has.copy → view_in (shown_of (Some found)) ≡ Some (view_of has.copy)
    unfolding shown_of
    view_standing (newests.One which copy) stands = ap (λ (one : Option DiskCopy). option_map view_of one) stands
    view_standing (newests.Level copy) stands = ap (λ (one : Option DiskCopy). option_map view_of one) stands
    view_standing (newests.TwoDiffer primary secondary) stands = ap (λ (one : Option DiskCopy). option_map view_of one) stands
    view_standing (newests.Neither first second) stands = absurd cc

    -- The slot shows what its copy says.
    pub own_view : view_at newest slot ≡ Some (view_of has.copy)
    own_view =
        ap (λ (found : Option Shown). view_in (unwrap_or found Nothing)) (slice_get-map shown_of newest slot)
        ∙ ap (λ (found : Option (Option Newest)). view_in (unwrap_or (option_map shown_of found) Nothing)) has.is_found
        ∙ view_standing has.found has.stands

-- ---- the disks of several slots

module _ (newest : List (Option Newest)) where
  -- The seats of the disks are those of the slots.
  pub seats_are : (slots : List ℕ) → AllByRecursion (HasDisk newest) slots → seats_in (filter_map (disk_at newest) slots) ≡ seats_of newest slots
  seats_are [] have = refl
  seats_are (slot ∷ slots) have =
      ap (λ (found : Option Seated). seats_in (cons_option found (filter_map (disk_at newest) slots))) (own_is newest slot have.0)
      ∙ ap (λ (others : List Seat). seat_of slot have.0.copy ∷ others) (seats_are slots have.1)
      ∙ sym (ap (λ (found : Option Seat). cons_option found (seats_of newest slots)) (own_seat newest slot have.0))

  -- The disks have what that of each slot has.
  pub disks_have : (P : Seated → Type 0) (slots : List ℕ) → AllByRecursion (λ slot. (has : HasDisk newest slot) × P (own_disk newest slot has)) slots
      → AllByRecursion P (filter_map (disk_at newest) slots)
  disks_have P [] have = tt
  disks_have P (slot ∷ slots) have =
      subst (λ (found : Option Seated). AllByRecursion P (cons_option found (filter_map (disk_at newest) slots))) (sym (own_is newest slot have.0.0))
      (have.0.1, disks_have P slots have.1)

  copy_slot : (slot : ℕ) (found : Option DiskCopy) (seat : Seat) → option_map (seat_of slot) found ≡ Some seat → seat.slot ≡ slot
  copy_slot slot None seat h = absurd cc
  copy_slot slot (Some copy) seat h = let same : seat_of slot copy ≡ seat = cc in sym (ap (λ (one : Seat). one.slot) same)

  -- The seats of slots above a number are above it.
  seats_above : (low : ℕ) (slots : List ℕ) → AllByRecursion (λ slot. low < slot) slots → AllByRecursion (λ seat. low < seat.slot) (seats_of newest slots)
  seats_above low slots all =
      found_have (seat_at newest) (λ (seat : Seat). low < seat.slot) slots
      (each slots all)
    where
      each : (some : List ℕ) → AllByRecursion (λ slot. low < slot) some → AllByRecursion (λ slot. (seat : Seat) → seat_at newest slot ≡ Some seat → low < seat.slot) some
      each [] above = tt
      each (slot ∷ some) above = (λ seat is. subst (λ (n : ℕ). low < n) (sym (copy_slot slot _ seat is)) above.0, each some above.1)

  -- The slots of seats rise where the slots do.
  pub seats_rise : (slots : List ℕ) → Rise slots → SlotsRise (seats_of newest slots)
  seats_rise [] rise = tt
  seats_rise (slot ∷ slots) rise = by (seat_at newest slot) refl (seats_rise slots rise.1)
    where
      by : (found : Option Seat) → seat_at newest slot ≡ found → SlotsRise (seats_of newest slots) → SlotsRise (cons_option found (seats_of newest slots))
      by None e rest = rest
      by (Some seat) e rest =
          (subst (λ (n : ℕ). AllByRecursion (λ (other : Seat). n < other.slot) (seats_of newest slots)) (sym (copy_slot slot _ seat e)) (seats_above slot slots rise.0), rest)
