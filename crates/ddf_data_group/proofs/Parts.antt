-- The elements of an array and the parts that they are over seats.
use Rattle.std.proofs.Common.{◌≡◌, ◌∙◌, ℕ, zero, suc, ◌+◌, ◌≤◌, Bool, true, false, not, List, [], ◌∷◌, Option, Some, None, refl, sym, ap, subst, arith, map, filter_map, length, get_or, slice_get, ◌&&◌, ◌||◌}
use Rattle.std.specs.Prelude.{is_none, is_some, nat_le, option_map, count_by, if◌then◌else◌}
use Rattle.std.specs.List.{cons_option, list_all, list_any}
use Rattle.std.proofs.lemmas.Bool.{leb-true, le-leb}
use Rattle.std.proofs.lemmas.List.Sums.{sum_by-cons}
use Rattle.ddf_lemmas.proofs.Tests.{and_first, and_second, code_of_several, true_false}
use Rattle.ddf_primary.specs.Placement.{Placement}
use Rattle.ddf_primary.specs.declared.need.Need.{Need}
use Rattle.ddf_primary.specs.declared.need.Need.TheVariants.{All, One, AllButOne, Neighbours}
use Rattle.ddf_primary.specs.Needs.{need_of}
use Rattle.ddf_primary.proofs.Enough.{enough_more}
use Rattle.ddf_array.proofs.Told.{shape_coded, every_by}
use Rattle.ddf_config.specs.declared.array.Array.{Array}
use Rattle.ddf_config.specs.declared.element.Position.{Position}
use Rattle.ddf_config.specs.declared.member.Member.{Member}
use Rattle.ddf_config.specs.declared.seat.Seat.{Seat}
use Rattle.ddf_config.specs.ElementValue.{ElementValue}
use Rattle.ddf_config.specs.Extents.{extent}
use Rattle.ddf_config.specs.Members.{is_current}
use Rattle.ddf_config.specs.Shapes.{element_shape, has_shape, secondary_level, sizes}
use Rattle.ddf_config.specs.Within as config
use Rattle.ddf_config.specs.Within.{has_enough}
use Rattle.ddf_array.specs.declared.part.Part.{Part}
use Rattle.ddf_array.specs.declared.place.Place.{Place}
use Rattle.ddf_array.specs.Cells.{is_in_every}
use Rattle.ddf_array.specs.Places.{is_available}
use Rattle.ddf_array.specs.Viewing.{known_part, place_of, seat_slot}
use Rattle.ddf_array.specs.Volume.{Volume}
use Rattle.ddf_array.specs.Within.{is_mirrored, is_part_within}
use Rattle.ddf_secondary.specs.Arrangement.{served_level, takes_count, takes_units}
use Rattle.ddf_data_group.specs.Over.{AreCurrentSeats, IsOver, absent_in, lacks_disk, part_lacks}
use Rattle.ddf_data_group.proofs.Lessened.{slot_ends}
use Rattle.ddf_data_group.proofs.Levels.{tiers_level}

-- ---- the element of a part

pub record IsPartOf (seats : List Seat) (elements : ℕ) (known : List (Option ElementValue)) (k : ℕ) (part : Part) : Type 0 where
  pub element : ElementValue
  pub is_element : slice_get known k ≡ Some (Some element)
  pub shape_is : element_shape elements element ≡ Some part.shape
  pub places_are : part.places ≡ map (place_of seats element.blocks) element.positions

module _ (seats : List Seat) (elements : ℕ) where
  part_by : (element : ElementValue) (known : List (Option ElementValue)) (found : Option Placement) → element_shape elements element ≡ found → is_some found ≡ true
      → ((k : ℕ) (part : Part) → slice_get (filter_map (known_part seats elements) known) k ≡ Some part → IsPartOf seats elements known k part)
      → (k : ℕ) (part : Part)
      → slice_get (cons_option (option_map (λ (shape : Placement). record { shape = shape; places = map (place_of seats element.blocks) element.positions }) found) (filter_map (known_part seats elements) known)) k ≡ Some part
      → IsPartOf seats elements (Some element ∷ known) k part
  part_by element known None is there later k part at = absurd (cc)
  part_by element known (Some shape) is there later zero part at =
      let same : record { shape = shape; places = map (place_of seats element.blocks) element.positions } ≡ part = cc in
      subst (IsPartOf seats elements (Some element ∷ known) zero) same (record { element = element; is_element = refl; shape_is = is; places_are = refl })
  part_by element known (Some shape) is there later (suc k) part at =
      let rest = later k part at in record { element = rest.element; is_element = rest.is_element; shape_is = rest.shape_is; places_are = rest.places_are }

  pub part_of_at : (known : List (Option ElementValue)) → list_all (λ (part : Option ElementValue). is_some part) known ≡ true → list_all (has_shape elements) known ≡ true
      → (k : ℕ) (part : Part) → slice_get (filter_map (known_part seats elements) known) k ≡ Some part → IsPartOf seats elements known k part
  part_of_at [] whole shaped k part at = absurd (cc)
  part_of_at (None ∷ known) whole shaped k part at = absurd (cc)
  part_of_at (Some element ∷ known) whole shaped k part at =
      let there = is_some (element_shape elements element) in
      part_by element known (element_shape elements element) refl (and_first there (list_all (has_shape elements) known) shaped)
      (part_of_at known whole (and_second there (list_all (has_shape elements) known) shaped)) k part at

  count_by_shape : (element : ElementValue) (known : List (Option ElementValue)) (found : Option Placement) → is_some found ≡ true → length (filter_map (known_part seats elements) known) ≡ length known
      → length (cons_option (option_map (λ (shape : Placement). record { shape = shape; places = map (place_of seats element.blocks) element.positions }) found) (filter_map (known_part seats elements) known)) ≡ suc (length known)
  count_by_shape element known None there rest = absurd (cc)
  count_by_shape element known (Some shape) there rest = ap suc rest

  pub count_parts : (known : List (Option ElementValue)) → list_all (λ (part : Option ElementValue). is_some part) known ≡ true → list_all (has_shape elements) known ≡ true
      → length (filter_map (known_part seats elements) known) ≡ length known
  count_parts [] whole shaped = refl
  count_parts (None ∷ known) whole shaped = absurd (cc)
  count_parts (Some element ∷ known) whole shaped =
      let there = is_some (element_shape elements element) in
      count_by_shape element known (element_shape elements element) (and_first there (list_all (has_shape elements) known) shaped)
      (count_parts known whole (and_second there (list_all (has_shape elements) known) shaped))

pub of_part : (seats : List Seat) (array : Array) (v : Volume) → IsOver seats array v → (k : ℕ) (part : Part) → slice_get v.parts k ≡ Some part → IsPartOf seats (length array.elements) array.elements k part
of_part seats array v over k part at =
    part_of_at seats (length array.elements) array.elements over.complete over.shapes k part (ap (λ (l : List Part). slice_get l k) (sym over.parts_are) ∙ at)

-- the position of a place
pub at_position : (seats : List Seat) (blocks : ℕ) (positions : List Position) (j : ℕ) (place : Place) → slice_get (map (place_of seats blocks) positions) j ≡ Some place
    → (one : Position) × (slice_get positions j ≡ Some one) × (place ≡ place_of seats blocks one)
at_position seats blocks [] j place at = absurd (cc)
at_position seats blocks (one ∷ positions) zero place at = let same : place_of seats blocks one ≡ place = cc in (one, refl, sym same)
at_position seats blocks (one ∷ positions) (suc j) place at = at_position seats blocks positions j place at

-- ---- mirrored arrays

pub mirrored_is : (seats : List Seat) (array : Array) (v : Volume) → IsOver seats array v → is_mirrored v ≡ config.is_mirrored array
mirrored_is seats array v over =
    let n = length array.elements in
    let code = secondary_level array in
    let level = tiers_level (sizes array) v.tiers code (served_level code) (takes_count (sizes array)) (λ level. takes_units level (sizes array)) over.tiers_are in
    ap (λ (m : ℕ). is_in_every v.tiers.level && nat_le 2 m) (ap length over.parts_are ∙ count_parts seats n array.elements over.complete over.shapes)
    ∙ ap (λ b. b && nat_le 2 n) (every_by code v.tiers.level level)
    ∙ code_of_several n array.secondary (nat_le 2 n) refl

-- ---- available by the seats, and by the members alone

module _ {X Y : Type 0} (f : X → Y) (p : Y → Bool) (q : X → Bool) where
  or_true : (b : Bool) → (b || true) ≡ true
  or_true true = refl
  or_true false = refl

  any_by_first : (x : X) (xs : List X) → (p (f x) ≡ true → q x ≡ true) → (list_any p (map f xs) ≡ true → list_any q xs ≡ true) → (b : Bool) → p (f x) ≡ b
      → (b || list_any p (map f xs)) ≡ true → (q x || list_any q xs) ≡ true
  any_by_first x xs up later true is e = ap (λ b. b || list_any q xs) (up is)
  any_by_first x xs up later false is e = ap (λ b. q x || b) (later e) ∙ or_true (q x)

  any_up : ((x : X) → p (f x) ≡ true → q x ≡ true) → (xs : List X) → list_any p (map f xs) ≡ true → list_any q xs ≡ true
  any_up up [] e = e
  any_up up (x ∷ xs) e = any_by_first x xs (up x) (any_up up xs) (p (f x)) refl e

  all_up : ((x : X) → p (f x) ≡ true → q x ≡ true) → (xs : List X) → list_all p (map f xs) ≡ true → list_all q xs ≡ true
  all_up up [] e = e
  all_up up (x ∷ xs) e =
      ap (λ b. b && list_all q xs) (up x (and_first (p (f x)) (list_all p (map f xs)) e)) ∙ all_up up xs (and_second (p (f x)) (list_all p (map f xs)) e)

  weight : (b c : Bool) → (c ≡ true → b ≡ true) → (if not b then 1 else 0) ≤ (if not c then 1 else 0)
  weight true c keeps = omega arith
  weight false true keeps = let never : false ≡ true = keeps refl in absurd (cc)
  weight false false keeps = omega arith

  count_up : ((x : X) → p (f x) ≡ true → q x ≡ true) → (xs : List X) → count_by (λ x. not (q x)) xs ≤ count_by (λ y. not (p y)) (map f xs)
  count_up up [] = omega arith
  count_up up (x ∷ xs) =
      let old : count_by (λ x. not (q x)) (x ∷ xs) ≡ (if not (q x) then 1 else 0) + count_by (λ x. not (q x)) xs = sum_by-cons (λ x. if not (q x) then 1 else 0) x xs in
      let new : count_by (λ y. not (p y)) (f x ∷ map f xs) ≡ (if not (p (f x)) then 1 else 0) + count_by (λ y. not (p y)) (map f xs) = sum_by-cons (λ y. if not (p y) then 1 else 0) (f x) (map f xs) in
      omega (arith, old, new, weight (q x) (p (f x)) (up x), count_up up xs)

  pub count_down : (xs : List X) → ((k : ℕ) (x : X) → slice_get xs k ≡ Some x → q x ≡ true → p (f x) ≡ true) → count_by (λ y. not (p y)) (map f xs) ≤ count_by (λ x. not (q x)) xs
  count_down [] down = omega arith
  count_down (x ∷ xs) down =
      let old : count_by (λ x. not (q x)) (x ∷ xs) ≡ (if not (q x) then 1 else 0) + count_by (λ x. not (q x)) xs = sum_by-cons (λ x. if not (q x) then 1 else 0) x xs in
      let new : count_by (λ y. not (p y)) (f x ∷ map f xs) ≡ (if not (p (f x)) then 1 else 0) + count_by (λ y. not (p y)) (map f xs) = sum_by-cons (λ y. if not (p y) then 1 else 0) (f x) (map f xs) in
      omega (arith, old, new, weight (p (f x)) (q x) (down 0 x refl), count_down xs (λ k y at. down (suc k) y at))

  count_alike : (xs : List X) → length (map p (map f xs)) ≡ length (map q xs)
  count_alike [] = refl
  count_alike (x ∷ xs) = ap suc (count_alike xs)

  there_up : ((x : X) → p (f x) ≡ true → q x ≡ true) → (xs : List X) (n : ℕ) → get_or (map p (map f xs)) n false ≡ true → get_or (map q xs) n false ≡ true
  there_up up [] n e = e
  there_up up (x ∷ xs) zero e = up x e
  there_up up (x ∷ xs) (suc n) e = there_up up xs n e

  pub enough_up : ((x : X) → p (f x) ≡ true → q x ≡ true) → (need : Need) (xs : List X) → has_enough need p (map f xs) ≡ true → has_enough need q xs ≡ true
  enough_up up All xs e = all_up up xs e
  enough_up up One xs e = any_up up xs e
  enough_up up AllButOne xs e =
      let few = leb-true (count_by (λ y. not (p y)) (map f xs)) 1 e in
      le-leb (count_by (λ x. not (q x)) xs) 1 (omega (arith, few, count_up up xs))
  enough_up up (Neighbours spread) xs e = enough_more spread (map p (map f xs)) (map q xs) (count_alike xs) (there_up up xs) e

slot_there : (synced : Bool) (slot : Option ℕ) → (synced && is_some slot) ≡ true → (synced ≡ true) × ((s : ℕ) × (slot ≡ Some s))
slot_there true (Some s) e = (refl, (s, refl))
slot_there true None e = absurd (cc)
slot_there false slot e = absurd (cc)

module _ (members : List (ℕ × Member)) (seats : List Seat) (are : AreCurrentSeats members seats) (blocks : ℕ) where
  pub by_members : (position : Position) → is_available (place_of seats blocks position) ≡ true → config.is_available members position ≡ true
  by_members position e =
      let there = slot_there position.synced (seat_slot seats (extent blocks position)) e in
      let end = slot_ends seats (extent blocks position) there.1.0 there.1.1 in
      ap (λ b. b && is_current members position.reference) there.0 ∙ are.current position.reference end.0 end.1

pub by_seats : (members : List (ℕ × Member)) (seats : List Seat) (element : ElementValue) (position : Position) → lacks_disk members seats element position ≡ false → config.is_available members position ≡ true
    → is_available (place_of seats element.blocks position) ≡ true
by_seats members seats element position lacks e =
    by (seat_slot seats (extent element.blocks position)) lacks (and_first position.synced (is_current members position.reference) e) (and_second position.synced (is_current members position.reference) e)
  where
    by : (o : Option ℕ) → (is_current members position.reference && is_none o) ≡ false → position.synced ≡ true → is_current members position.reference ≡ true → (position.synced && is_some o) ≡ true
    by (Some s) lacks synced current = ap (λ b. b && true) synced
    by None lacks synced current = absurd (true_false (is_current members position.reference && true) (ap (λ b. b && true) current) lacks)

-- ---- what lacks a disk, by its place

pub absent_is : (members : List (ℕ × Member)) (seats : List Seat) (elements : List (Option ElementValue)) (k j : ℕ) (element : ElementValue) (position : Position) → slice_get elements k ≡ Some (Some element)
    → slice_get element.positions j ≡ Some position → absent_in members seats elements k j ≡ lacks_disk members seats element position
absent_is members seats elements k j element position at there =
    ap (λ (o : Option (Option ElementValue)). elim o [ None ↦ false | Some part ↦ part_lacks members seats j part ]) at
    ∙ ap (λ (o : Option Position). elim o [ None ↦ false | Some one ↦ lacks_disk members seats element one ]) there

-- ---- elements within their levels

module _ (members : List (ℕ × Member)) (seats : List Seat) (are : AreCurrentSeats members seats) (elements : ℕ) where
  element_within : (element : ElementValue) (shape : Placement) → element_shape elements element ≡ Some shape
      → is_part_within (record { shape = shape; places = map (place_of seats element.blocks) element.positions }) ≡ true → config.is_part_within (config.is_available members) (Some element) ≡ true
  element_within element shape is e =
      enough_up (place_of seats element.blocks) is_available (config.is_available members) (by_members members seats are element.blocks) (need_of element.level element.qualifier) element.positions
      (ap (λ (n : Need). has_enough n is_available (map (place_of seats element.blocks) element.positions)) (sym (shape_coded elements element shape is).need) ∙ e)

  or_right : (a b : Bool) → b ≡ true → (a || b) ≡ true
  or_right true b e = refl
  or_right false b e = e

  any_by : (element : ElementValue) (known : List (Option ElementValue)) (found : Option Placement) → element_shape elements element ≡ found
      → (list_any is_part_within (filter_map (known_part seats elements) known) ≡ true → list_any (config.is_part_within (config.is_available members)) known ≡ true)
      → list_any is_part_within (cons_option (option_map (λ (shape : Placement). record { shape = shape; places = map (place_of seats element.blocks) element.positions }) found) (filter_map (known_part seats elements) known)) ≡ true
      → list_any (config.is_part_within (config.is_available members)) (Some element ∷ known) ≡ true
  any_by element known None is later e = or_right (config.is_part_within (config.is_available members) (Some element)) (list_any (config.is_part_within (config.is_available members)) known) (later e)
  any_by element known (Some shape) is later e = by (is_part_within (record { shape = shape; places = map (place_of seats element.blocks) element.positions })) refl e
    where
      by : (b : Bool) → is_part_within (record { shape = shape; places = map (place_of seats element.blocks) element.positions }) ≡ b
          → (b || list_any is_part_within (filter_map (known_part seats elements) known)) ≡ true
          → (config.is_part_within (config.is_available members) (Some element) || list_any (config.is_part_within (config.is_available members)) known) ≡ true
      by true within e = ap (λ b. b || list_any (config.is_part_within (config.is_available members)) known) (element_within element shape is within)
      by false within e = or_right (config.is_part_within (config.is_available members) (Some element)) (list_any (config.is_part_within (config.is_available members)) known) (later e)

  -- an element that is within its level by the seats is so by the members
  pub any_within : (known : List (Option ElementValue)) → list_any is_part_within (filter_map (known_part seats elements) known) ≡ true → list_any (config.is_part_within (config.is_available members)) known ≡ true
  any_within [] e = e
  any_within (None ∷ known) e = any_within known e
  any_within (Some element ∷ known) e = any_by element known (element_shape elements element) refl (any_within known) e
