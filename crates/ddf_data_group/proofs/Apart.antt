-- The cells of arrays that can be used lie apart.
use Rattle.std.proofs.Common.{◌≡◌, ◌≢◌, ◌∙◌, ℕ, zero, suc, ◌+◌, ◌<◌, ◌≤◌, Bool, true, false, not, List, [], ◌∷◌, ◌++◌, Option, Some, None, cond, refl, sym, ap, subst, arith, nat_eq, length, slice_get, ◌&&◌}
use Rattle.std.specs.Prelude.{count_by, find, min, max, nat_le, option_map, ◌==◌, if◌then◌else◌}
use Rattle.std.specs.List.{flat_map}
use Rattle.std.specs.Map.{lookup}
use Rattle.std.proofs.lemmas.Bool.{eq-eqb, eqb-true, leb-true, lt-ltb, and_from}
use Rattle.std.proofs.lemmas.List.Sums.{sum_by-append, sum_by-cons}
use Rattle.ddf_lemmas.proofs.Lists.{in_map}
use Rattle.ddf_lemmas.proofs.Tests.{and_second}
use Rattle.ddf_config.specs.declared.array.Array.{Array}
use Rattle.ddf_config.specs.declared.element.Position.{Position}
use Rattle.ddf_config.specs.declared.extent.Extent.{Extent}
use Rattle.ddf_config.specs.declared.member.Member.{Member}
use Rattle.ddf_config.specs.declared.seat.Seat.{Seat}
use Rattle.ddf_config.specs.Configuration.{Configuration}
use Rattle.ddf_config.specs.ElementValue.{ElementValue}
use Rattle.ddf_config.specs.Extents.{extent, extents}
use Rattle.ddf_config.specs.Members.{same_guid}
use Rattle.ddf_config.specs.Room.{meets}
use Rattle.ddf_config.specs.Seats.{floor_of, slot_of}
use Rattle.ddf_config.specs.Served.{lies_well, meets_extent}
use Rattle.ddf_array.specs.declared.place.Place.{Place}
use Rattle.ddf_array.specs.Apart.{AreSeats}
use Rattle.ddf_array.specs.Viewing.{place_of, seat_slot}
use Rattle.ddf_array.specs.Volume.{Volume}
use Rattle.ddf_array.proofs.Shapes.{blocks_are}
use Rattle.ddf_cells.specs.Apart.{LiesAt}
use Rattle.ddf_data_group.specs.Over.{AreCurrentSeats, IsOver}
use Rattle.ddf_data_group.proofs.Lessened.{slot_ends}
use Rattle.ddf_data_group.proofs.Parts.{of_part}

-- ---- how many pass a test

module _ {X : Type 0} (test : X → Bool) where
  abbrev weight : X → ℕ
  weight x = if test x then 1 else 0

  pub count_append : (xs ys : List X) → count_by test (xs ++ ys) ≡ count_by test xs + count_by test ys
  count_append xs ys = sum_by-append weight xs ys

  count_cons : (x : X) (xs : List X) → count_by test (x ∷ xs) ≡ weight x + count_by test xs
  count_cons x xs = sum_by-cons weight x xs

  weight_is : (x : X) → test x ≡ true → weight x ≡ 1
  weight_is x e = ap (λ b. if b then 1 else 0) e

  pub count_one : (xs : List X) (k : ℕ) (x : X) → slice_get xs k ≡ Some x → test x ≡ true → 1 ≤ count_by test xs
  count_one [] k x at passes = absurd (cc)
  count_one (y ∷ xs) zero x at passes =
      let same : y ≡ x = cc in
      omega (arith, count_cons y xs, ap weight same ∙ weight_is x passes)
  count_one (y ∷ xs) (suc k) x at passes = omega (arith, count_cons y xs, count_one xs k x at passes)

  pub count_two : (xs : List X) (k l : ℕ) (x y : X) → k ≢ l → slice_get xs k ≡ Some x → slice_get xs l ≡ Some y → test x ≡ true → test y ≡ true → 2 ≤ count_by test xs
  count_two [] k l x y apart a b p q = absurd (cc)
  count_two (z ∷ xs) zero zero x y apart a b p q = absurd (apart refl)
  count_two (z ∷ xs) zero (suc l) x y apart a b p q =
      let same : z ≡ x = cc in omega (arith, count_cons z xs, ap weight same ∙ weight_is x p, count_one xs l y b q)
  count_two (z ∷ xs) (suc k) zero x y apart a b p q =
      let same : z ≡ y = cc in omega (arith, count_cons z xs, ap weight same ∙ weight_is y q, count_one xs k x a p)
  count_two (z ∷ xs) (suc k) (suc l) x y apart a b p q = omega (arith, count_cons z xs, count_two xs k l x y (λ same. apart (ap suc same)) a b p q)

  module _ {Y : Type 0} (f : Y → List X) where
    pub count_in : (ys : List Y) (k : ℕ) (y : Y) → slice_get ys k ≡ Some y → count_by test (f y) ≤ count_by test (flat_map f ys)
    count_in [] k y at = absurd (cc)
    count_in (z ∷ ys) zero y at =
        let same : z ≡ y = cc in
        let first : count_by test (f z) ≡ count_by test (f y) = ap (λ (w : Y). count_by test (f w)) same in
        omega (arith, count_append (f z) (flat_map f ys), first)
    count_in (z ∷ ys) (suc k) y at = omega (arith, count_append (f z) (flat_map f ys), count_in ys k y at)

    pub count_in_two : (ys : List Y) (k l : ℕ) (y w : Y) → k ≢ l → slice_get ys k ≡ Some y → slice_get ys l ≡ Some w → count_by test (f y) + count_by test (f w) ≤ count_by test (flat_map f ys)
    count_in_two [] k l y w apart a b = absurd (cc)
    count_in_two (z ∷ ys) zero zero y w apart a b = absurd (apart refl)
    count_in_two (z ∷ ys) zero (suc l) y w apart a b =
        let same : z ≡ y = cc in
        let first : count_by test (f z) ≡ count_by test (f y) = ap (λ (v : Y). count_by test (f v)) same in
        omega (arith, count_append (f z) (flat_map f ys), first, count_in ys l w b)
    count_in_two (z ∷ ys) (suc k) zero y w apart a b =
        let same : z ≡ w = cc in
        let first : count_by test (f z) ≡ count_by test (f w) = ap (λ (v : Y). count_by test (f v)) same in
        omega (arith, count_append (f z) (flat_map f ys), first, count_in ys k y a)
    count_in_two (z ∷ ys) (suc k) (suc l) y w apart a b = omega (arith, count_append (f z) (flat_map f ys), count_in_two ys k l y w (λ same. apart (ap suc same)) a b)

-- ---- an entry of a table

pub record IsEntry {X : Type 0} (guid : List ℕ) (arrays : List (List ℕ × X)) (x : X) : Type 0 where
  pub at : ℕ
  pub key : List ℕ
  pub is_entry : slice_get arrays at ≡ Some (key, x)
  pub is_key : same_guid guid key ≡ true

pub entry_of : {X : Type 0} (guid : List ℕ) (arrays : List (List ℕ × X)) (x : X) → lookup (same_guid guid) arrays ≡ Some x → IsEntry guid arrays x
entry_of guid [] x e = absurd (cc)
entry_of guid (first ∷ arrays) x e = by (same_guid guid first.0) refl e (entry_of guid arrays x)
  where
    by : (b : Bool) → same_guid guid first.0 ≡ b → cond b (Some first.1) (lookup (same_guid guid) arrays) ≡ Some x → (lookup (same_guid guid) arrays ≡ Some x → IsEntry guid arrays x) → IsEntry guid (first ∷ arrays) x
    by true is e rest = let same : first.1 ≡ x = cc in record { at = 0; key = first.0; is_entry = ap (λ y. Some (first.0, y)) same; is_key = is }
    by false is e rest = let later = rest e in record { at = suc later.at; key = later.key; is_entry = later.is_entry; is_key = later.is_key }

-- ---- no two members have one slot

abbrev pub HaveOwnSlots : List Seat → Type 0
HaveOwnSlots seats =
    (one other floor other_floor : ℕ) → floor_of seats one ≡ Some floor → floor_of seats other ≡ Some other_floor → slot_of seats one ≡ slot_of seats other → one ≡ other

pub record SeatOf (seats : List Seat) (reference floor : ℕ) : Type 0 where
  pub at : ℕ
  pub seat : Seat
  pub is_at : slice_get seats at ≡ Some seat
  pub is_reference : seat.reference ≡ reference
  pub is_slot : slot_of seats reference ≡ seat.slot
  pub is_floor : seat.floor ≡ floor

pub seat_of : (seats : List Seat) (reference floor : ℕ) → floor_of seats reference ≡ Some floor → SeatOf seats reference floor
seat_of [] reference floor e = absurd (cc)
seat_of (seat ∷ seats) reference floor e = by (nat_eq seat.reference reference) refl e (seat_of seats reference floor)
  where
    by : (b : Bool) → nat_eq seat.reference reference ≡ b
        → option_map (λ (s : Seat). s.floor) (if b then Some seat else find (λ (s : Seat). nat_eq s.reference reference) seats) ≡ Some floor
        → (floor_of seats reference ≡ Some floor → SeatOf seats reference floor) → SeatOf (seat ∷ seats) reference floor
    by true is e rest = record {
      at = 0;
      seat = seat;
      is_at = refl;
      is_reference = eqb-true seat.reference reference is;
      is_slot = ap (λ b. elim (if b then Some seat else find (λ (s : Seat). nat_eq s.reference reference) seats) [ None ↦ 64 | Some s ↦ s.slot ]) is;
      is_floor = cc;
    }
    by false is e rest =
        let later = rest e in
        record {
          at = suc later.at;
          seat = later.seat;
          is_at = later.is_at;
          is_reference = later.is_reference;
          is_slot = ap (λ b. elim (if b then Some seat else find (λ (s : Seat). nat_eq s.reference reference) seats) [ None ↦ 64 | Some s ↦ s.slot ]) is ∙ later.is_slot;
          is_floor = later.is_floor;
        }

pub own_slots : (members : List (ℕ × Member)) (seats : List Seat) → AreSeats members seats → HaveOwnSlots seats
own_slots members seats are one other floor other_floor a b same =
    let first = seat_of seats one floor a in
    let second = seat_of seats other other_floor b in
    sym first.is_reference ∙ are.differ first.at second.at first.seat second.seat first.is_at second.is_at (sym first.is_slot ∙ same ∙ second.is_slot) ∙ second.is_reference

-- ---- the extent of a sector

pub record HasExtent (seats : List Seat) (array : Array) (e p x slot lba : ℕ) : Type 0 where
  pub element : ElementValue
  pub is_element : slice_get array.elements e ≡ Some (Some element)
  pub position : Position
  pub is_position : slice_get element.positions p ≡ Some position
  pub is_slot : seat_slot seats (extent element.blocks position) ≡ Some slot
  pub is_lba : position.start + x ≡ lba
  pub is_within : x < element.blocks

pub slot_is : (seats : List Seat) (one : Extent) (slot : ℕ) → seat_slot seats one ≡ Some slot → slot_of seats one.reference ≡ slot
slot_is seats one slot e = by (floor_of seats one.reference) e
  where
    at_floor : (b : Bool) → ◌≡◌ {A = Option ℕ} (if b then Some (slot_of seats one.reference) else None) (Some slot) → slot_of seats one.reference ≡ slot
    at_floor true e = cc
    at_floor false e = absurd (cc)

    by : (found : Option ℕ) → ◌≡◌ {A = Option ℕ} (elim found [ None ↦ None | Some floor ↦ if nat_le (one.start + one.blocks) floor then Some (slot_of seats one.reference) else None ]) (Some slot)
        → slot_of seats one.reference ≡ slot
    by None e = absurd (cc)
    by (Some floor) e = at_floor (nat_le (one.start + one.blocks) floor) e

pub has_extent : (seats : List Seat) (array : Array) (v : Volume) → IsOver seats array v → (e p x slot lba : ℕ) → LiesAt v e p x slot lba → HasExtent seats array e p x slot lba
has_extent seats array v over e p x slot lba lies =
    let of = of_part seats array v over e lies.part lies.is_part in
    let from = in_map (place_of seats of.element.blocks) of.element.positions p lies.place (ap (λ (l : List Place). slice_get l p) (sym of.places_are) ∙ lies.is_place) in
    record {
      element = of.element;
      is_element = of.is_element;
      position = from.0;
      is_position = from.1;
      is_slot = ap (λ (y : Place). y.slot) from.2 ∙ lies.is_there;
      is_lba = ap (λ (y : Place). y.start + x) from.2 ∙ sym lies.lba_is;
      is_within = subst (λ (n : ℕ). x < n) (blocks_are (length array.elements) of.element lies.part.shape of.shape_is) lies.below;
    }

-- ---- extents that share a sector

meets_by : (a b m n x y : ℕ) → a + x ≡ b + y → x < m → y < n → max a b < min (a + m) (b + n)
meets_by a b m n x y same low high = omega (arith, same, low, high)

module _ (config : Configuration) (seats : List Seat) (are : AreCurrentSeats config.members seats) (own : HaveOwnSlots seats) (array other : Array) (e p x f q y slot lba : ℕ)
    (here : HasExtent seats array e p x slot lba) (there : HasExtent seats other f q y slot lba) where
  abbrev first : Extent
  first = extent here.element.blocks here.position

  abbrev second : Extent
  second = extent there.element.blocks there.position

  same_reference : here.position.reference ≡ there.position.reference
  same_reference =
      let one_end = slot_ends seats (extent here.element.blocks here.position) slot here.is_slot in
      let other_end = slot_ends seats (extent there.element.blocks there.position) slot there.is_slot in
      own here.position.reference there.position.reference one_end.0 other_end.0 one_end.1 other_end.1
      (slot_is seats (extent here.element.blocks here.position) slot here.is_slot ∙ sym (slot_is seats (extent there.element.blocks there.position) slot there.is_slot))

  -- they meet
  pub they_meet : meets_extent (extent here.element.blocks here.position) (extent there.element.blocks there.position) ≡ true
  they_meet =
      and_from (here.position.reference == there.position.reference) (meets here.position.start here.element.blocks (there.position.start, there.element.blocks))
      (eq-eqb here.position.reference there.position.reference same_reference)
      (lt-ltb (max here.position.start there.position.start) (min (here.position.start + here.element.blocks) (there.position.start + there.element.blocks))
      (meets_by here.position.start there.position.start here.element.blocks there.element.blocks x y (here.is_lba ∙ sym there.is_lba) here.is_within there.is_within))

  pub meets_itself : meets_extent (extent here.element.blocks here.position) (extent here.element.blocks here.position) ≡ true
  meets_itself =
      and_from (here.position.reference == here.position.reference) (meets here.position.start here.element.blocks (here.position.start, here.element.blocks))
      (eq-eqb here.position.reference here.position.reference refl)
      (lt-ltb (max here.position.start here.position.start) (min (here.position.start + here.element.blocks) (here.position.start + here.element.blocks))
      (meets_by here.position.start here.position.start here.element.blocks here.element.blocks x x refl here.is_within here.is_within))

  -- an extent of an array that can be used meets one alone
  few_by : (found : Option Member) → lookup (nat_eq here.position.reference) config.members ≡ found
      → ◌≡◌ {A = Bool} (elim found [ None ↦ false | Some member ↦ not member.missing ]) true
      → ◌≡◌ {A = Bool} (elim found [ None ↦ true | Some member ↦ nat_le (here.position.start + here.element.blocks) member.size && nat_le (count_by (meets_extent (extent here.element.blocks here.position)) (extents config.arrays)) 1 ]) true
      → count_by (meets_extent (extent here.element.blocks here.position)) (extents config.arrays) ≤ 1
  few_by None is current well = absurd (cc)
  few_by (Some member) is current well =
      leb-true (count_by (meets_extent (extent here.element.blocks here.position)) (extents config.arrays)) 1
      (and_second (nat_le (here.position.start + here.element.blocks) member.size) (nat_le (count_by (meets_extent (extent here.element.blocks here.position)) (extents config.arrays)) 1) well)

  pub few : lies_well config.members (extents config.arrays) (extent here.element.blocks here.position) ≡ true
      → count_by (meets_extent (extent here.element.blocks here.position)) (extents config.arrays) ≤ 1
  few well =
      let end = slot_ends seats (extent here.element.blocks here.position) slot here.is_slot in
      few_by (lookup (nat_eq here.position.reference) config.members) refl (are.current here.position.reference end.0 end.1) well
