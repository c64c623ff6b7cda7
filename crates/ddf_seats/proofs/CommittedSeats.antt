-- The disks of a group's seats, before a step was written to them and behind it.
use Rattle.std.proofs.Common.{◌≡◌, ℕ, zero, suc, ◌<◌, List, [], ◌∷◌, Option, Some, None, refl, ap, subst, arith}
use Rattle.std.specs.Prelude.{filter_map, option_map, slice_get}
use Rattle.std.specs.Option.{option_and_then}
use Rattle.std.specs.List.{AllByRecursion, cons_option}
use Rattle.ddf_lemmas.proofs.Lists.{in_map, mapped_at}
use Rattle.ddf_config.specs.declared.seat.Seat.{Seat}
use Rattle.ddf_copy.specs.declared.copy.DiskCopy.{DiskCopy}
use Rattle.ddf_copy.specs.declared.newest_copy.Newest.{Newest}
use Rattle.ddf_copy.specs.Copies.{standing_copy}
use Rattle.ddf_copy.specs.Shows.{last_of}
use Rattle.ddf_update.specs.declared.prepared.Mode.TheVariants.{Change}
use Rattle.ddf_seats.specs.declared.seated.Seated.{Seated}
use Rattle.ddf_seats.specs.Group.{GroupValue}
use Rattle.ddf_rewrite.proofs.Lists.{all_at}
use Rattle.ddf_seats.specs.Seated.{seated, seated_at, seated_by, seats_in, slots_in}
use Rattle.ddf_seats.specs.Changing.{SlotsRise}

-- ---- items that are kept

cons_from : {Y : Type 0} (P : Y → Type 0) (found : Option Y) (others : List Y) → ((y : Y) → found ≡ Some y → P y)
    → ((k : ℕ) (y : Y) → slice_get others k ≡ Some y → P y) → (k : ℕ) (y : Y) → slice_get (cons_option found others) k ≡ Some y → P y
cons_from P None others here rest k y at = rest k y at
cons_from P (Some first) others here rest zero y at = here y at
cons_from P (Some first) others here rest (suc k) y at = rest k y at

filter_from : {X Y : Type 0} (f : X → Option Y) (P : Y → Type 0) (xs : List X) → ((k : ℕ) (x : X) (y : Y) → slice_get xs k ≡ Some x → f x ≡ Some y → P y)
    → (k : ℕ) (y : Y) → slice_get (filter_map f xs) k ≡ Some y → P y
filter_from f P [] have k y at = absurd cc
filter_from f P (x ∷ xs) have k y at =
    cons_from P (f x) (filter_map f xs) (λ z is. have 0 x z refl is) (filter_from f P xs (λ i. have (suc i))) k y at

-- ---- a seated disk

-- A disk is that of a seat: its copy stands for its slot, and an update writes that one last which the slot's newest copy has last.
pub record IsSeatedIn (newest : List (Option Newest)) (seats : List Seat) (disk : Seated) : Type 0 where
  pub place : ℕ
  pub is_seat : slice_get seats place ≡ Some disk.seat
  pub found : Newest
  pub is_found : slice_get newest disk.seat.slot ≡ Some (Some found)
  pub stands : standing_copy found ≡ Some disk.copy
  pub has_last : disk.last ≡ last_of found
  pub has_mode : disk.mode ≡ Change

module _ (newest : List (Option Newest)) (seats : List Seat) (place : ℕ) (seat : Seat) (is_seat : slice_get seats place ≡ Some seat) where
  seated_with : (one : Newest) (stands : Option DiskCopy) → slice_get newest seat.slot ≡ Some (Some one) → standing_copy one ≡ stands → (disk : Seated)
      → option_map (λ copy. record { seat = seat; copy = copy; last = last_of one; mode = Change }) stands ≡ Some disk → IsSeatedIn newest seats disk
  seated_with one None at stands disk is = absurd cc
  seated_with one (Some copy) at stands disk is =
      let own : Seated = record { seat = seat; copy = copy; last = last_of one; mode = Change } in
      let same : own ≡ disk = cc in
      subst (IsSeatedIn newest seats) same (record { place = place; is_seat = is_seat; found = one; is_found = at; stands = stands; has_last = refl; has_mode = refl })

  seated_where : (found : Option (Option Newest)) → slice_get newest seat.slot ≡ found → (disk : Seated)
      → option_and_then (λ one. option_and_then (seated_by seat) one) found ≡ Some disk → IsSeatedIn newest seats disk
  seated_where None at disk is = absurd cc
  seated_where (Some None) at disk is = absurd cc
  seated_where (Some (Some one)) at disk is = seated_with one (standing_copy one) at refl disk is

pub seated_is : (group : GroupValue) (k : ℕ) (disk : Seated) → slice_get (seated group) k ≡ Some disk → IsSeatedIn group.newest group.seats disk
unfolding seated
seated_is group k disk at =
    filter_from (seated_at group.newest) (IsSeatedIn group.newest group.seats) group.seats
    (λ place seat one is_seat is. seated_where group.newest group.seats place seat is_seat (slice_get group.newest seat.slot) refl one is) k disk at

-- ---- slots that rise

-- A later disk is on a greater slot.
pub rise_later : (disk : Seated) (disks : List Seated) → AllByRecursion (λ (other : Seat). disk.seat.slot < other.slot) (seats_in disks)
    → (k : ℕ) (other : Seated) → slice_get disks k ≡ Some other → disk.seat.slot < other.seat.slot
rise_later disk disks rise k other at =
    all_at (λ (seat : Seat). disk.seat.slot < seat.slot) (seats_in disks) k other.seat rise (mapped_at (λ (one : Seated). one.seat) disks k other at)

-- each slot is that of one disk
pub rise_differ : (disks : List Seated) → SlotsRise (seats_in disks) → (i j slot : ℕ) → slice_get (slots_in disks) i ≡ Some slot → slice_get (slots_in disks) j ≡ Some slot → i ≡ j
rise_differ [] rise i j slot at also = absurd cc
rise_differ (disk ∷ disks) rise zero zero slot at also = refl
rise_differ (disk ∷ disks) rise zero (suc j) slot at also =
    let found = in_map (λ (one : Seated). one.seat.slot) disks j slot also in
    let here : disk.seat.slot ≡ slot = cc in
    absurd (omega (arith, rise_later disk disks rise.0 j found.0 found.1, found.2, here))
rise_differ (disk ∷ disks) rise (suc i) zero slot at also =
    let found = in_map (λ (one : Seated). one.seat.slot) disks i slot at in
    let here : disk.seat.slot ≡ slot = cc in
    absurd (omega (arith, rise_later disk disks rise.0 i found.0 found.1, found.2, here))
rise_differ (disk ∷ disks) rise (suc i) (suc j) slot at also = ap suc (rise_differ disks rise.1 i j slot at also)
