-- The extents of a view don't meet: each meets only itself, of all extents of the configuration.
use Rattle.std.proofs.Common.{◌≡◌, ◌≢◌, ◌∙◌, ℕ, zero, suc, ◌+◌, ◌<◌, ◌≤◌, Bool, true, false, List, [], ◌∷◌, Option, Some, None, Ok, refl, sym, ap, subst, arith, map, filter_map, length, slice_get, find, ◌&&◌}
use Rattle.std.specs.Prelude.{◌==◌, count_by, is_some, max, min, nat_eq, nat_le, option_map, if◌then◌else◌}
use Rattle.std.specs.Map.{lookup}
use Rattle.std.specs.List.{cons_option, flat_map, position_or_len}
use Rattle.std.proofs.lemmas.Bool.{eqb-true, eq-eqb, leb-true, lt-ltb, and_from}
use Rattle.std.proofs.lemmas.List.Folds.{find_at}
use Rattle.std.proofs.lemmas.Option.{slice_get_within}
use Rattle.ddf_lemmas.proofs.Lists.{first_get, found_passes, in_map, mapped_at, slice_get-append_right}
use Rattle.ddf_lemmas.proofs.Options.{some_is}
use Rattle.ddf_lemmas.proofs.Tests.{and_second}
use Rattle.ddf_primary.specs.Placement.{Placement}
use Rattle.ddf_config.specs.declared.array.Array.{Array}
use Rattle.ddf_config.specs.declared.extent.Extent.{Extent}
use Rattle.ddf_config.specs.declared.member.Member.{Member}
use Rattle.ddf_config.specs.declared.seat.Seat.{Seat}
use Rattle.ddf_config.specs.Configuration.{Configuration}
use Rattle.ddf_config.specs.ElementValue.{ElementValue}
use Rattle.ddf_config.specs.Extents.{array_extents, extent, extents, part_extents}
use Rattle.ddf_config.specs.Members.{same_guid}
use Rattle.ddf_config.specs.Room.{meets}
use Rattle.ddf_config.specs.Served.{lies_well, meets_extent}
use Rattle.ddf_config.specs.Shapes.{element_shape}
use Rattle.ddf_array.specs.declared.part.Part.{Part}
use Rattle.ddf_array.specs.declared.place.Place.{Place}
use Rattle.ddf_array.specs.Apart.{AreSeats, IsApart}
use Rattle.ddf_array.specs.Viewing.{known_part, place_of, seat_slot, view_of}
use Rattle.ddf_array.specs.Volume.{Volume}
use Rattle.ddf_array.proofs.Consistent.{to_flat}
use Rattle.ddf_array.proofs.Enough.{all_pass, only_one}
use Rattle.ddf_array.proofs.Shapes.{blocks_are}
use Rattle.ddf_array.proofs.Usable.{lie_well}
use Rattle.ddf_array.proofs.Viewed.{from_view}

-- ---- items of lists that are made of others, and where they stand

-- two items stand at two places
record Two {Y : Type 0} (ys : List Y) (y y' : Y) : Type 0 where
  pub one : ℕ
  pub other : ℕ
  pub is_one : slice_get ys one ≡ Some y
  pub is_other : slice_get ys other ≡ Some y'
  pub differ : other ≢ one

flat_two : {X Y : Type 0} (f : X → List Y) (xs : List X) (i j i' j' : ℕ) (x x' : X) (y y' : Y) → slice_get xs i ≡ Some x → slice_get (f x) j ≡ Some y → slice_get xs i' ≡ Some x' → slice_get (f x') j' ≡ Some y'
    → (i' ≡ i → j' ≡ j → ⊥) → Two (flat_map f xs) y y'
flat_two f [] i j i' j' x x' y y' at inner at' inner' differ = absurd (cc)
flat_two f (z ∷ xs) zero j zero j' x x' y y' at inner at' inner' differ =
    let same : z ≡ x = cc in
    let same' : z ≡ x' = cc in
    record {
      one = j;
      other = j';
      is_one = first_get (f z) (flat_map f xs) j y (ap (λ w. slice_get (f w) j) same ∙ inner);
      is_other = first_get (f z) (flat_map f xs) j' y' (ap (λ w. slice_get (f w) j') same' ∙ inner');
      differ = differ refl;
    }
flat_two f (z ∷ xs) zero j (suc i') j' x x' y y' at inner at' inner' differ =
    let same : z ≡ x = cc in
    let here : slice_get (f z) j ≡ Some y = ap (λ w. slice_get (f w) j) same ∙ inner in
    let rest = to_flat f xs i' j' x' y' at' inner' in
    record {
      one = j;
      other = length (f z) + rest.0;
      is_one = first_get (f z) (flat_map f xs) j y here;
      is_other = slice_get-append_right (f z) (flat_map f xs) rest.0 ∙ rest.1;
      differ = λ e. omega (arith, e, slice_get_within (f z) j y here);
    }
flat_two f (z ∷ xs) (suc i) j zero j' x x' y y' at inner at' inner' differ =
    let same : z ≡ x' = cc in
    let here : slice_get (f z) j' ≡ Some y' = ap (λ w. slice_get (f w) j') same ∙ inner' in
    let rest = to_flat f xs i j x y at inner in
    record {
      one = length (f z) + rest.0;
      other = j';
      is_one = slice_get-append_right (f z) (flat_map f xs) rest.0 ∙ rest.1;
      is_other = first_get (f z) (flat_map f xs) j' y' here;
      differ = λ e. omega (arith, e, slice_get_within (f z) j' y' here);
    }
flat_two f (z ∷ xs) (suc i) j (suc i') j' x x' y y' at inner at' inner' differ =
    let rest = flat_two f xs i j i' j' x x' y y' at inner at' inner' (λ e e'. differ (ap suc e) e') in
    record {
      one = length (f z) + rest.one;
      other = length (f z) + rest.other;
      is_one = slice_get-append_right (f z) (flat_map f xs) rest.one ∙ rest.is_one;
      is_other = slice_get-append_right (f z) (flat_map f xs) rest.other ∙ rest.is_other;
      differ = λ e. rest.differ (omega (arith, e));
    }

record Kept {X Y : Type 0} (f : X → Option Y) (xs : List X) (y : Y) : Type 0 where
  pub at : ℕ
  pub item : X
  pub is_at : slice_get xs at ≡ Some item
  pub gives : f item ≡ Some y

abbrev kept_later : {X Y : Type 0} (f : X → Option Y) (x : X) (xs : List X) (y : Y) → Kept f xs y → Kept f (x ∷ xs) y
kept_later f x xs y from = record { at = suc from.at; item = from.item; is_at = from.is_at; gives = from.gives }

kept_by : {X Y : Type 0} (f : X → Option Y) (x : X) (xs : List X) (k : ℕ) (y : Y) (o : Option Y) → f x ≡ o → slice_get (cons_option o (filter_map f xs)) k ≡ Some y
    → ((k : ℕ) → slice_get (filter_map f xs) k ≡ Some y → Kept f xs y) → Kept f (x ∷ xs) y
kept_by f x xs k y None is e rest = kept_later f x xs y (rest k e)
kept_by f x xs zero y (Some z) is e rest = let same : z ≡ y = cc in record { at = 0; item = x; is_at = refl; gives = is ∙ ap Some same }
kept_by f x xs (suc k) y (Some z) is e rest = kept_later f x xs y (rest k e)

kept : {X Y : Type 0} (f : X → Option Y) (xs : List X) (k : ℕ) (y : Y) → slice_get (filter_map f xs) k ≡ Some y → Kept f xs y
kept f [] k y e = absurd (cc)
kept f (x ∷ xs) k y e = kept_by f x xs k y (f x) refl e (λ j is. kept f xs j y is)

-- two that are kept stand at one place, or at two
record KeptTwo {X Y : Type 0} (f : X → Option Y) (xs : List X) (k k' : ℕ) (y y' : Y) : Type 0 where
  pub first : Kept f xs y
  pub second : Kept f xs y'
  pub same : second.at ≡ first.at → k' ≡ k

two_later : {X Y : Type 0} (f : X → Option Y) (x : X) (xs : List X) (k k' : ℕ) (y y' : Y) → KeptTwo f xs k k' y y' → KeptTwo f (x ∷ xs) k k' y y'
two_later f x xs k k' y y' two = record { first = kept_later f x xs y two.first; second = kept_later f x xs y' two.second; same = λ e. two.same (omega (arith, e)) }

two_by : {X Y : Type 0} (f : X → Option Y) (x : X) (xs : List X) (k k' : ℕ) (y y' : Y) (o : Option Y) → f x ≡ o → slice_get (cons_option o (filter_map f xs)) k ≡ Some y → slice_get (cons_option o (filter_map f xs)) k' ≡ Some y'
    → ((k k' : ℕ) → slice_get (filter_map f xs) k ≡ Some y → slice_get (filter_map f xs) k' ≡ Some y' → KeptTwo f xs k k' y y') → KeptTwo f (x ∷ xs) k k' y y'
two_by f x xs k k' y y' None is e e' rest = two_later f x xs k k' y y' (rest k k' e e')
two_by f x xs zero zero y y' (Some z) is e e' rest =
    let one : z ≡ y = cc in
    let other : z ≡ y' = cc in
    record { first = record { at = 0; item = x; is_at = refl; gives = is ∙ ap Some one }; second = record { at = 0; item = x; is_at = refl; gives = is ∙ ap Some other }; same = λ e. refl }
two_by f x xs zero (suc k') y y' (Some z) is e e' rest =
    let one : z ≡ y = cc in
    record { first = record { at = 0; item = x; is_at = refl; gives = is ∙ ap Some one }; second = kept_later f x xs y' (kept f xs k' y' e'); same = λ same. absurd (omega (arith, same)) }
two_by f x xs (suc k) zero y y' (Some z) is e e' rest =
    let other : z ≡ y' = cc in
    record { first = kept_later f x xs y (kept f xs k y e); second = record { at = 0; item = x; is_at = refl; gives = is ∙ ap Some other }; same = λ same. absurd (omega (arith, same)) }
two_by f x xs (suc k) (suc k') y y' (Some z) is e e' rest =
    let two = rest k k' e e' in
    record { first = kept_later f x xs y two.first; second = kept_later f x xs y' two.second; same = λ same. ap suc (two.same (omega (arith, same))) }

kept_two : {X Y : Type 0} (f : X → Option Y) (xs : List X) (k k' : ℕ) (y y' : Y) → slice_get (filter_map f xs) k ≡ Some y → slice_get (filter_map f xs) k' ≡ Some y' → KeptTwo f xs k k' y y'
kept_two f [] k k' y y' e e' = absurd (cc)
kept_two f (x ∷ xs) k k' y y' e e' = two_by f x xs k k' y y' (f x) refl e e' (λ j j' is is'. kept_two f xs j j' y y' is is')

-- ---- the seat of a slot

record SeatAt (seats : List Seat) (reference slot : ℕ) : Type 0 where
  pub at : ℕ
  pub seat : Seat
  pub is_at : slice_get seats at ≡ Some seat
  pub is_reference : seat.reference ≡ reference
  pub is_slot : seat.slot ≡ slot

seat_if : (b : Bool) (n slot : ℕ) → (if b then Some n else None) ≡ Some slot → n ≡ slot
seat_if true n slot e = some_is e
seat_if false n slot e = absurd (cc)

module _ (seats : List Seat) (one : Extent) (slot : ℕ) where
  seat_by : (found : Option Seat) → find (λ (seat : Seat). nat_eq seat.reference one.reference) seats ≡ found
      → elim (option_map (λ (seat : Seat). seat.floor) found) [
        | None ↦ None
        | Some floor ↦ if nat_le (one.start + one.blocks) floor then Some (elim found [ None ↦ 64 | Some seat ↦ seat.slot ]) else None
      ] ≡ Some slot → SeatAt seats one.reference slot
  seat_by None is e = absurd (cc)
  seat_by (Some seat) is e = record {
    at = position_or_len (λ (seat : Seat). nat_eq seat.reference one.reference) seats;
    seat = seat;
    is_at = sym (find_at (λ (seat : Seat). nat_eq seat.reference one.reference) seats) ∙ is;
    is_reference = eqb-true seat.reference one.reference (found_passes (λ (seat : Seat). nat_eq seat.reference one.reference) seats seat is);
    is_slot = seat_if (nat_le (one.start + one.blocks) seat.floor) seat.slot slot e;
  }

  seat_at : seat_slot seats one ≡ Some slot → SeatAt seats one.reference slot
  seat_at e = seat_by (find (λ (seat : Seat). nat_eq seat.reference one.reference) seats) refl e

-- ---- the extent of a place

record ExtentOf (seats : List Seat) (known : Option ElementValue) (part : Part) (position : ℕ) (place : Place) : Type 0 where
  pub one : Extent
  pub is_extent : slice_get (part_extents known) position ≡ Some one
  pub is_start : place.start ≡ one.start
  pub is_blocks : part.shape.blocks ≡ one.blocks
  pub is_slot : place.slot ≡ seat_slot seats one

extent_by : (seats : List Seat) (elements : ℕ) (element : ElementValue) (part : Part) (position : ℕ) (place : Place) (found : Option Placement) → element_shape elements element ≡ found
    → option_map (λ (shape : Placement). record { shape = shape; places = map (place_of seats element.blocks) element.positions }) found ≡ Some part
    → slice_get part.places position ≡ Some place → ExtentOf seats (Some element) part position place
extent_by seats elements element part position place None made e at = absurd (cc)
extent_by seats elements element part position place (Some shape) made e at =
    let whole : Part = record { shape = shape; places = map (place_of seats element.blocks) element.positions } in
    let same : whole ≡ part = cc in
    let from = in_map (place_of seats element.blocks) element.positions position place (ap (λ (p : Part). slice_get p.places position) same ∙ at) in
    record {
      one = extent element.blocks from.0;
      is_extent = mapped_at (extent element.blocks) element.positions position from.0 from.1;
      is_start = sym (ap (λ (p : Place). p.start) from.2);
      is_blocks = sym (ap (λ (p : Part). p.shape.blocks) same) ∙ blocks_are elements element shape made;
      is_slot = sym (ap (λ (p : Place). p.slot) from.2);
    }

extent_of : (seats : List Seat) (elements : ℕ) (known : Option ElementValue) (part : Part) (position : ℕ) (place : Place) → known_part seats elements known ≡ Some part → slice_get part.places position ≡ Some place
    → ExtentOf seats known part position place
extent_of seats elements None part position place e at = absurd (cc)
extent_of seats elements (Some element) part position place e at = extent_by seats elements element part position place (element_shape elements element) refl e at

-- ---- where an extent lies well

found_array_by : (test : List ℕ → Bool) (entry : List ℕ × Array) (arrays : List (List ℕ × Array)) (array : Array) (b : Bool) → (if b then Some entry.1 else lookup test arrays) ≡ Some array
    → (lookup test arrays ≡ Some array → (k : ℕ) × ((found : List ℕ × Array) × (slice_get arrays k ≡ Some found) × (found.1 ≡ array)))
    → (k : ℕ) × ((found : List ℕ × Array) × (slice_get (entry ∷ arrays) k ≡ Some found) × (found.1 ≡ array))
found_array_by test entry arrays array true e rest = (0, (entry, refl, some_is e))
found_array_by test entry arrays array false e rest = let later = rest e in (suc later.0, later.1)

found_array : (test : List ℕ → Bool) (arrays : List (List ℕ × Array)) (array : Array) → lookup test arrays ≡ Some array → (k : ℕ) × ((entry : List ℕ × Array) × (slice_get arrays k ≡ Some entry) × (entry.1 ≡ array))
found_array test [] array e = absurd (cc)
found_array test (entry ∷ arrays) array e = found_array_by test entry arrays array (test entry.0) e (λ later. found_array test arrays array later)

meets_by : (members : List (ℕ × Member)) (all : List Extent) (one : Extent) (found : Option Member) → lookup (nat_eq one.reference) members ≡ found → is_some found ≡ true
    → elim found [ None ↦ true | Some member ↦ nat_le (one.start + one.blocks) member.size && nat_le (count_by (meets_extent one) all) 1 ] ≡ true → count_by (meets_extent one) all ≤ 1
meets_by members all one None is some well = absurd (cc)
meets_by members all one (Some member) is some well =
    leb-true (count_by (meets_extent one) all) 1 (and_second (nat_le (one.start + one.blocks) member.size) (nat_le (count_by (meets_extent one) all) 1) well)

meets_at : (one other : Extent) (lba : ℕ) → one.reference ≡ other.reference → one.start ≤ lba → lba < one.start + one.blocks → other.start ≤ lba → lba < other.start + other.blocks → meets_extent one other ≡ true
meets_at one other lba same from below from' below' =
    and_from (one.reference == other.reference) (meets one.start one.blocks (other.start, other.blocks)) (eq-eqb one.reference other.reference same)
    (lt-ltb (max one.start other.start) (min (one.start + one.blocks) (other.start + other.blocks)) (omega (arith, from, below, from', below')))

-- ---- a view

pub view_apart : (config : Configuration) (guid : List ℕ) (seats : List Seat) (v : Volume) → view_of config guid seats ≡ Ok v → AreSeats config.members seats → IsApart v
view_apart config guid seats v e are element position other_element other_position one other first second is_one is_first is_other is_second overlap =
    let view = from_view config guid seats v e in
    let n = length view.array.elements in
    let at_one : slice_get (filter_map (known_part seats n) view.array.elements) element ≡ Some one = ap (λ (l : List Part). slice_get l element) (sym view.parts_are) ∙ is_one in
    let at_other : slice_get (filter_map (known_part seats n) view.array.elements) other_element ≡ Some other = ap (λ (l : List Part). slice_get l other_element) (sym view.parts_are) ∙ is_other in
    let two = kept_two (known_part seats n) view.array.elements element other_element one other at_one at_other in
    let x = extent_of seats n two.first.item one position first two.first.gives is_first in
    let y = extent_of seats n two.second.item other other_position second two.second.gives is_second in
    let seat = seat_at seats x.one overlap.slot (sym x.is_slot ∙ overlap.on_one) in
    let seat' = seat_at seats y.one overlap.slot (sym y.is_slot ∙ overlap.on_other) in
    let same : x.one.reference ≡ y.one.reference =
    sym seat.is_reference ∙ are.differ seat.at seat'.at seat.seat seat'.seat seat.is_at seat'.is_at (seat.is_slot ∙ sym seat'.is_slot) ∙ seat'.is_reference in
    let member : is_some (lookup (nat_eq x.one.reference) config.members) ≡ true =
    subst (λ r. is_some (lookup (nat_eq r) config.members) ≡ true) seat.is_reference (are.of_members seat.at seat.seat seat.is_at) in
    let at = to_flat part_extents view.array.elements two.first.at position two.first.item x.one two.first.is_at x.is_extent in
    let well : lies_well config.members (extents config.arrays) x.one ≡ true =
    all_pass (lies_well config.members (extents config.arrays)) (array_extents view.array) (lie_well config.members seats (extents config.arrays) guid view.array view.usable) at.0 x.one at.1 in
    let few = meets_by config.members (extents config.arrays) x.one (lookup (nat_eq x.one.reference) config.members) refl member well in
    let from : x.one.start ≤ overlap.lba = omega (arith, overlap.from_one, x.is_start) in
    let below : overlap.lba < x.one.start + x.one.blocks = omega (arith, overlap.in_one, x.is_start, x.is_blocks) in
    let from' : y.one.start ≤ overlap.lba = omega (arith, overlap.from_other, y.is_start) in
    let below' : overlap.lba < y.one.start + y.one.blocks = omega (arith, overlap.in_other, y.is_start, y.is_blocks) in
    let self = meets_at x.one x.one overlap.lba refl from below from below in
    let meet = meets_at x.one y.one overlap.lba same from below from' below' in
    let entry = found_array (same_guid guid) config.arrays view.array view.array_is in
    let array_same : entry.1.0.1 ≡ view.array = entry.1.2 in
    let clash : ((two.second.at ≡ two.first.at → other_position ≡ position → ⊥) → ⊥) =
    λ differ.
    let in_array = flat_two part_extents view.array.elements two.first.at position two.second.at other_position two.first.item two.second.item x.one y.one two.first.is_at x.is_extent two.second.is_at y.is_extent differ in
    let in_all =
    flat_two (λ (e : List ℕ × Array). array_extents e.1) config.arrays entry.0 in_array.one entry.0 in_array.other entry.1.0 entry.1.0 x.one y.one entry.1.1
    (ap (λ (a : Array). slice_get (array_extents a) in_array.one) array_same ∙ in_array.is_one) entry.1.1
    (ap (λ (a : Array). slice_get (array_extents a) in_array.other) array_same ∙ in_array.is_other) (λ e e'. in_array.differ e') in
    never (sym meet ∙ only_one (meets_extent x.one) (extents config.arrays) few in_all.one in_all.other x.one y.one in_all.is_one in_all.is_other self in_all.differ) in
    let places = decide two.second.at two.first.at other_position position clash in
    (sym (two.same places.0), sym places.1)
  where
    never : true ≡ false → ⊥
    never e = cc

    decide_by : (a b c d : ℕ) (p q : Bool) → (a == b) ≡ p → (c == d) ≡ q → ((a ≡ b → c ≡ d → ⊥) → ⊥) → (a ≡ b) × (c ≡ d)
    decide_by a b c d true true is is' clash = (eqb-true a b is, eqb-true c d is')
    decide_by a b c d true false is is' clash = absurd (clash (λ same same'. never (sym (eq-eqb c d same') ∙ is')))
    decide_by a b c d false q is is' clash = absurd (clash (λ same same'. never (sym (eq-eqb a b same) ∙ is)))

    decide : (a b c d : ℕ) → ((a ≡ b → c ≡ d → ⊥) → ⊥) → (a ≡ b) × (c ≡ d)
    decide a b c d clash = decide_by a b c d (a == b) (c == d) refl refl clash
