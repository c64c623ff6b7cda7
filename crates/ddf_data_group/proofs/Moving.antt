-- An array of which a position lies on another disk, where the same bytes stand, keeps what it keeps.
use Rattle.std.proofs.Common.{◌≡◌, ◌∙◌, inl, inr, ⊎_elim, ℕ, zero, suc, Bool, true, false, List, [], ◌∷◌, Option, Some, None, refl, sym, ap, subst, map, filter_map, length, slice_get, ◌&&◌}
use Rattle.std.proofs.Math.Path.{fun_ext}
use Rattle.std.specs.Prelude.{is_none, is_some, option_and_then, option_map}
use Rattle.std.specs.Result.{result_ok}
use Rattle.std.specs.List.{cons_option, list_all}
use Rattle.std.proofs.Math.Bool.{and-false}
use Rattle.ddf_lemmas.proofs.Options.{some_is}
use Rattle.ddf_lemmas.proofs.Tests.{and_first, and_second}
use Rattle.ddf_bay.specs.Sectors.{Image}
use Rattle.ddf_primary.specs.Levels.{shape_of}
use Rattle.ddf_primary.specs.Placement.{Placement}
use Rattle.ddf_config.specs.declared.array.Array.{Array}
use Rattle.ddf_config.specs.declared.element.Position.{Position}
use Rattle.ddf_config.specs.declared.member.Member.{Member}
use Rattle.ddf_config.specs.declared.seat.Seat.{Seat}
use Rattle.ddf_config.specs.ElementValue.{ElementValue, with_positions}
use Rattle.ddf_config.specs.Extents.{extent}
use Rattle.ddf_config.specs.Members.{is_current}
use Rattle.ddf_config.specs.Shapes.{element_shape, has_shape, strip_sectors}
use Rattle.ddf_array.specs.declared.part.Part.{Part}
use Rattle.ddf_array.specs.declared.place.Place.{Place}
use Rattle.ddf_array.specs.Viewing.{known_part, place_of, seat_slot}
use Rattle.ddf_array.specs.Volume.{Volume, volume}
use Rattle.ddf_data_array.specs.Allowed.{Allowed}
use Rattle.ddf_data_array.specs.Changing.{changed_item, place_in_sync}
use Rattle.ddf_data_array.specs.Kept.{IsKeptData}
use Rattle.ddf_data_array.specs.Moved.{moved, part_moved, place_moved}
use Rattle.ddf_data_array.proofs.Items.{changed_cases, changed_length}
use Rattle.ddf_data_array.proofs.MovedKept.{kept_moved}
use Rattle.ddf_data_group.specs.Over.{AreCurrentSeats, IsOver, absent_in, lacks_disk, part_lacks}
use Rattle.ddf_data_group.specs.Kept.{KeepsArray}
use Rattle.ddf_data_group.specs.Clearing.{AreMovedParts, IsMovedArray, IsMovedElement, IsMovedPart, MayMove, element_in_sync, position_in_sync, position_moved}
use Rattle.ddf_data_group.specs.Lessening.{AreLessParts, AreLessPositions, IsLessArray, IsLessElement, IsLessPart}
use Rattle.ddf_data_group.proofs.Keeping.{less_parts, less_position}
use Rattle.ddf_data_group.proofs.Lessened.{lessened, shape_same, tiers_same}
use Rattle.ddf_data_group.proofs.Parts.{of_part}
use Rattle.ddf_data_group.proofs.Remade.{was}
use Rattle.ddf_data_group.proofs.Synced.{remakes_synced}

changed_twice : {X : Type 0} (f g : X → X) (k : ℕ) (xs : List X) → changed_item f k (changed_item g k xs) ≡ changed_item (λ x. f (g x)) k xs
changed_twice f g k [] = refl
changed_twice f g zero (x ∷ xs) = refl
changed_twice f g (suc k) (x ∷ xs) = ap (λ l. x ∷ l) (changed_twice f g k xs)

changed_same : {X : Type 0} (f : X → X) (k : ℕ) (xs : List X) → ((x : X) → slice_get xs k ≡ Some x → f x ≡ x) → changed_item f k xs ≡ xs
changed_same f k [] same = refl
changed_same f zero (x ∷ xs) same = ap (λ y. y ∷ xs) (same x refl)
changed_same f (suc k) (x ∷ xs) same = ap (λ l. x ∷ l) (changed_same f k xs same)

module _ (p r s : ℕ) where
  -- ---- the position out of sync, on its new extent: less than before, and in sync what is after

  abbrev out : Position → Position
  out one = record one { synced = false; row = 0 }

  abbrev element_out : ElementValue → ElementValue
  element_out element = with_positions element (changed_item out p element.positions)

  positions_out : (p : ℕ) (xs : List Position) → AreLessPositions xs (changed_item out p (changed_item (position_moved r s) p xs))
  positions_out p [] = tt
  positions_out zero (x ∷ xs) = (inl (refl, refl), less_position xs)
  positions_out (suc p) (x ∷ xs) = (inr (refl, refl, refl, inr refl), positions_out p xs)

  less_element : (b a : ElementValue) → IsMovedElement p r s b a → IsLessElement b (element_out a)
  less_element b a is = record {
    same_level = is.same_level;
    same_qualifier = is.same_qualifier;
    same_strip = is.same_strip;
    same_blocks = is.same_blocks;
    less = subst (λ (l : List Position). AreLessPositions b.positions (changed_item out p l)) (sym is.positions_are) (positions_out p b.positions);
  }

  less_part : (before after : Option ElementValue) → IsMovedPart p r s before after → IsLessPart before (option_map element_out after)
  less_part None None is = tt
  less_part None (Some a) is = absurd is
  less_part (Some b) None is = absurd is
  less_part (Some b) (Some a) is = less_element b a is

  less_out : (e : ℕ) (befores afters : List (Option ElementValue)) → AreMovedParts e p r s befores afters → AreLessParts befores (changed_item (option_map element_out) e afters)
  less_out e [] [] is = tt
  less_out e [] (a ∷ afters) is = absurd is
  less_out e (b ∷ befores) [] is = absurd is
  less_out zero (b ∷ befores) (a ∷ afters) is = (less_part b a is.0, subst (AreLessParts befores) (sym is.1) (less_parts befores))
  less_out (suc e) (b ∷ befores) (a ∷ afters) is = (subst (IsLessPart b) (sym is.0) (less_parts (b ∷ [])).0, less_out e befores afters is.1)

  back_at : (one : Position) → one.synced ≡ true → one.row ≡ 0 → position_in_sync (out one) ≡ one
  back_at one synced none = ap (λ (b : Bool). record one { synced = b; row = 0 }) (sym synced) ∙ ap (λ (n : ℕ). record one { row = n }) (sym none)

  moved_at : (xs : List Position) (one : Position) → slice_get (changed_item (position_moved r s) p xs) p ≡ Some one → position_in_sync (out one) ≡ one
  moved_at xs one at =
      ⊎_elim (λ is. back_at one (ap (λ (x : Position). x.synced) is.is_changed) (ap (λ (x : Position). x.row) is.is_changed)) (λ other. absurd (other.0 refl)) (changed_cases (position_moved r s) p xs p one at)

  element_back : (b a : ElementValue) → IsMovedElement p r s b a → element_in_sync p (element_out a) ≡ a
  element_back b a is =
      ap (with_positions a)
      (changed_twice position_in_sync out p a.positions
      ∙ changed_same (λ one. position_in_sync (out one)) p a.positions (λ one at. moved_at b.positions one (ap (λ (l : List Position). slice_get l p) (sym is.positions_are) ∙ at)))

  part_back : (before after : Option ElementValue) → IsMovedPart p r s before after → option_map (element_in_sync p) (option_map element_out after) ≡ after
  part_back None None is = refl
  part_back None (Some a) is = absurd is
  part_back (Some b) None is = absurd is
  part_back (Some b) (Some a) is = ap Some (element_back b a is)

  synced_out : (e : ℕ) (befores afters : List (Option ElementValue)) → AreMovedParts e p r s befores afters → afters ≡ changed_item (option_map (element_in_sync p)) e (changed_item (option_map element_out) e afters)
  synced_out e [] [] is = refl
  synced_out e [] (a ∷ afters) is = absurd is
  synced_out e (b ∷ befores) [] is = absurd is
  synced_out zero (b ∷ befores) (a ∷ afters) is = ap (λ x. x ∷ afters) (sym (part_back b a is.0))
  synced_out (suc e) (b ∷ befores) (a ∷ afters) is = ap (λ l. a ∷ l) (synced_out e befores afters is.1)

  count_moved : (e : ℕ) (befores afters : List (Option ElementValue)) → AreMovedParts e p r s befores afters → length afters ≡ length befores
  count_moved e [] [] is = refl
  count_moved e [] (a ∷ afters) is = absurd is
  count_moved e (b ∷ befores) [] is = absurd is
  count_moved zero (b ∷ befores) (a ∷ afters) is = ap (λ (l : List (Option ElementValue)). suc (length l)) is.1
  count_moved (suc e) (b ∷ befores) (a ∷ afters) is = ap suc (count_moved e befores afters is.1)

  -- ---- the elements over the seats

  shape_moved : (n : ℕ) (b a : ElementValue) → IsMovedElement p r s b a → element_shape n a ≡ element_shape n b
  shape_moved n b a is =
      ap (λ (m : ℕ). option_and_then (λ strip. result_ok (shape_of a.level a.qualifier m strip a.blocks)) (strip_sectors n a)) (sym (changed_length out p a.positions))
      ∙ shape_same n b (element_out a) (less_element b a is)

  module _ (seats : List Seat) (slot : ℕ) where
    places_moved : (blocks : ℕ) → seat_slot seats (record { reference = r; start = s; blocks = blocks }) ≡ Some slot → (p : ℕ) (xs : List Position) → ((x : Position) → slice_get xs p ≡ Some x → x.synced ≡ true)
        → map (place_of seats blocks) (changed_item (position_moved r s) p xs) ≡ changed_item (place_moved slot s) p (map (place_of seats blocks) xs)
    places_moved blocks on p [] synced = refl
    places_moved blocks on zero (x ∷ xs) synced =
        ap (λ (o : Option ℕ). record { slot = o; start = s; synced = true; row = 0 } ∷ map (place_of seats blocks) xs) on
        ∙ ap (λ (b : Bool). record { slot = Some slot; start = s; synced = b; row = 0 } ∷ map (place_of seats blocks) xs) (sym (synced x refl))
    places_moved blocks on (suc p) (x ∷ xs) synced = ap (λ l. place_of seats blocks x ∷ l) (places_moved blocks on p xs synced)

    abbrev part_with : List Place → Option Placement → Option Part
    part_with places found = option_map (λ (shape : Placement). record { shape = shape; places = places }) found

    first_by : (places : List Place) (rest : List Part) (found : Option Placement) → is_some found ≡ true
        → cons_option (part_with (changed_item (place_moved slot s) p places) found) rest ≡ changed_item (part_moved p slot s) 0 (cons_option (part_with places found) rest)
    first_by places rest None there = absurd (cc)
    first_by places rest (Some shape) there = refl

    later_by : (places : List Place) (e : ℕ) (rest rest' : List Part) (found : Option Placement) → is_some found ≡ true → rest' ≡ changed_item (part_moved p slot s) e rest
        → cons_option (part_with places found) rest' ≡ changed_item (part_moved p slot s) (suc e) (cons_option (part_with places found) rest)
    later_by places e rest rest' None there same = absurd (cc)
    later_by places e rest rest' (Some shape) there same = ap (λ (l : List Part). record { shape = shape; places = places } ∷ l) same

    parts_moved : (n e : ℕ) (befores afters : List (Option ElementValue)) → AreMovedParts e p r s befores afters → list_all (λ (part : Option ElementValue). is_some part) befores ≡ true → list_all (has_shape n) befores ≡ true
        → ((b : ElementValue) → slice_get befores e ≡ Some (Some b) → map (place_of seats b.blocks) (changed_item (position_moved r s) p b.positions) ≡ changed_item (place_moved slot s) p (map (place_of seats b.blocks) b.positions))
        → filter_map (known_part seats n) afters ≡ changed_item (part_moved p slot s) e (filter_map (known_part seats n) befores)
    parts_moved n e [] [] is whole shaped same = refl
    parts_moved n e [] (a ∷ afters) is whole shaped same = absurd is
    parts_moved n e (b ∷ befores) [] is whole shaped same = absurd is
    parts_moved n zero (None ∷ befores) (a ∷ afters) is whole shaped same = absurd (cc)
    parts_moved n zero (Some b ∷ befores) (None ∷ afters) is whole shaped same = absurd is.0
    parts_moved n zero (Some b ∷ befores) (Some a ∷ afters) is whole shaped same =
        ap (λ (o : Option Placement). cons_option (part_with (map (place_of seats a.blocks) a.positions) o) (filter_map (known_part seats n) afters)) (shape_moved n b a is.0)
        ∙ ap (λ (m : ℕ). cons_option (part_with (map (place_of seats m) a.positions) (element_shape n b)) (filter_map (known_part seats n) afters)) is.0.same_blocks
        ∙ ap (λ (l : List Position). cons_option (part_with (map (place_of seats b.blocks) l) (element_shape n b)) (filter_map (known_part seats n) afters)) is.0.positions_are
        ∙ ap (λ (l : List Place). cons_option (part_with l (element_shape n b)) (filter_map (known_part seats n) afters)) (same b refl)
        ∙ ap (λ (l : List (Option ElementValue)). cons_option (part_with (changed_item (place_moved slot s) p (map (place_of seats b.blocks) b.positions)) (element_shape n b)) (filter_map (known_part seats n) l)) is.1
        ∙ first_by (map (place_of seats b.blocks) b.positions) (filter_map (known_part seats n) befores) (element_shape n b) (and_first (is_some (element_shape n b)) (list_all (has_shape n) befores) shaped)
    parts_moved n (suc e) (None ∷ befores) (a ∷ afters) is whole shaped same = absurd (cc)
    parts_moved n (suc e) (Some b ∷ befores) (a ∷ afters) is whole shaped same =
        ap (λ (x : Option ElementValue). cons_option (known_part seats n x) (filter_map (known_part seats n) afters)) is.0
        ∙ later_by (map (place_of seats b.blocks) b.positions) e (filter_map (known_part seats n) befores) (filter_map (known_part seats n) afters) (element_shape n b)
        (and_first (is_some (element_shape n b)) (list_all (has_shape n) befores) shaped)
        (parts_moved n e befores afters is.1 whole (and_second (is_some (element_shape n b)) (list_all (has_shape n) befores) shaped) same)

    -- ---- what lacks a disk

    module _ (members : List (ℕ × Member)) where
      lacks_moved : (p : ℕ) (b a : ElementValue) (xs : List Position) → a.blocks ≡ b.blocks → seat_slot seats (record { reference = r; start = s; blocks = b.blocks }) ≡ Some slot
          → ((x : Position) → slice_get xs p ≡ Some x → is_none (seat_slot seats (extent b.blocks x)) ≡ false) → (j : ℕ)
          → ◌≡◌ {A = Bool} (elim (slice_get (changed_item (position_moved r s) p xs) j) [ None ↦ false | Some one ↦ lacks_disk members seats a one ])
          (elim (slice_get xs j) [ None ↦ false | Some one ↦ lacks_disk members seats b one ])
      lacks_moved p b a [] blocks on there j = refl
      lacks_moved zero b a (x ∷ xs) blocks on there zero =
          ap (λ (m : ℕ). is_current members r && is_none (seat_slot seats (record { reference = r; start = s; blocks = m }))) blocks
          ∙ ap (λ (o : Option ℕ). is_current members r && is_none o) on ∙ and-false (is_current members r)
          ∙ sym (ap (λ (c : Bool). is_current members x.reference && c) (there x refl) ∙ and-false (is_current members x.reference))
      lacks_moved zero b a (x ∷ xs) blocks on there (suc j) =
          ap (λ (m : ℕ). elim (slice_get xs j) [ None ↦ false | Some one ↦ is_current members one.reference && is_none (seat_slot seats (extent m one)) ]) blocks
      lacks_moved (suc p) b a (x ∷ xs) blocks on there zero = ap (λ (m : ℕ). is_current members x.reference && is_none (seat_slot seats (extent m x))) blocks
      lacks_moved (suc p) b a (x ∷ xs) blocks on there (suc j) = lacks_moved p b a xs blocks on there j

      part_lack : (b a : ElementValue) → IsMovedElement p r s b a → seat_slot seats (record { reference = r; start = s; blocks = b.blocks }) ≡ Some slot
          → ((x : Position) → slice_get b.positions p ≡ Some x → is_none (seat_slot seats (extent b.blocks x)) ≡ false) → (j : ℕ) → part_lacks members seats j (Some b) ≡ part_lacks members seats j (Some a)
      part_lack b a is on there j =
          sym (lacks_moved p b a b.positions is.same_blocks on there j)
          ∙ ap (λ (l : List Position). elim (slice_get l j) [ None ↦ false | Some one ↦ lacks_disk members seats a one ]) (sym is.positions_are)

      absent_moved : (e : ℕ) (befores afters : List (Option ElementValue)) → AreMovedParts e p r s befores afters
          → ((b : ElementValue) → slice_get befores e ≡ Some (Some b) → seat_slot seats (record { reference = r; start = s; blocks = b.blocks }) ≡ Some slot)
          → ((b : ElementValue) (x : Position) → slice_get befores e ≡ Some (Some b) → slice_get b.positions p ≡ Some x → is_none (seat_slot seats (extent b.blocks x)) ≡ false)
          → (k j : ℕ) → absent_in members seats befores k j ≡ absent_in members seats afters k j
      absent_moved e [] [] is on there k j = refl
      absent_moved e [] (a ∷ afters) is on there k j = absurd is
      absent_moved e (b ∷ befores) [] is on there k j = absurd is
      absent_moved zero (None ∷ befores) (None ∷ afters) is on there zero j = refl
      absent_moved zero (None ∷ befores) (Some a ∷ afters) is on there zero j = absurd is.0
      absent_moved zero (Some b ∷ befores) (None ∷ afters) is on there zero j = absurd is.0
      absent_moved zero (Some b ∷ befores) (Some a ∷ afters) is on there zero j = part_lack b a is.0 (on b refl) (λ x at. there b x refl at) j
      absent_moved zero (b ∷ befores) (a ∷ afters) is on there (suc k) j = ap (λ (l : List (Option ElementValue)). absent_in members seats l k j) (sym is.1)
      absent_moved (suc e) (b ∷ befores) (a ∷ afters) is on there zero j = ap (part_lacks members seats j) (sym is.0)
      absent_moved (suc e) (b ∷ befores) (a ∷ afters) is on there (suc k) j = absent_moved e befores afters is.1 on there k j

-- ---- the array

at_place : (seats : List Seat) (blocks : ℕ) (xs : List Position) (p : ℕ) (x : Position) (place : Place) → slice_get xs p ≡ Some x → slice_get (map (place_of seats blocks) xs) p ≡ Some place → place_of seats blocks x ≡ place
at_place seats blocks [] p x place at there = absurd (cc)
at_place seats blocks (y ∷ xs) zero x place at there = ap (place_of seats blocks) (sym (some_is at)) ∙ some_is there
at_place seats blocks (y ∷ xs) (suc p) x place at there = at_place seats blocks xs p x place at there

pub moving : (members : List (ℕ × Member)) (seats : List Seat) (e p r s : ℕ) (before after : Array) (image : Image) (allowed : Allowed) → AreCurrentSeats members seats
    → IsMovedArray e p r s before after → ((v : Volume) → IsOver seats before v → MayMove seats before v image e p r s)
    → KeepsArray members seats before image allowed → KeepsArray members seats after image allowed
moving members seats e p r s before after image allowed are is may kept v over =
    let n = length before.elements in
    let mid : Array = record after { elements = changed_item (option_map (element_out p r s)) e after.elements } in
    let less : IsLessArray before mid = record { same_secondary = is.same_secondary; mark_is = inr is.same_mark; less = less_out p r s e before.elements after.elements is.moved } in
    let between = was (changed_item position_in_sync p) (changed_item place_in_sync p) (remakes_synced p) members seats e mid after v refl refl (synced_out p r s e before.elements after.elements is.moved) over in
    let old = lessened members seats seats before mid between.old are (λ reference. inr (refl, refl)) less between.over in
    let ready = may old.0 old.1 in
    let same = ready.same in
    let of = of_part seats before old.0 old.1 e same.part same.is_part in
    let at_p : (b : ElementValue) (x : Position) → slice_get before.elements e ≡ Some (Some b) → slice_get b.positions p ≡ Some x → place_of seats b.blocks x ≡ same.place =
    λ b x b_at x_at.
    let own : of.element ≡ b = some_is (some_is (sym of.is_element ∙ b_at)) in
    at_place seats b.blocks b.positions p x same.place x_at
    (ap (λ (y : ElementValue). slice_get (map (place_of seats y.blocks) y.positions) p) (sym own) ∙ ap (λ (l : List Place). slice_get l p) (sym of.places_are) ∙ same.is_place) in
    let parts_are : v.parts ≡ changed_item (part_moved p ready.slot s) e old.0.parts =
    over.parts_are ∙ ap (λ (m : ℕ). filter_map (known_part seats m) after.elements) (count_moved p r s e before.elements after.elements is.moved)
    ∙ parts_moved p r s seats ready.slot n e before.elements after.elements is.moved old.1.complete old.1.shapes
    (λ b b_at. places_moved p r s seats ready.slot b.blocks (ready.is_seated b b_at) p b.positions (λ x x_at. ap (λ (y : Place). y.synced) (at_p b x b_at x_at) ∙ same.is_synced))
    ∙ ap (changed_item (part_moved p ready.slot s) e) (sym old.1.parts_are) in
    let tiers_are : v.tiers ≡ old.0.tiers =
    some_is (sym (ap Some (ap (λ (x : Volume). x.tiers) between.is_volume)) ∙ sym between.over.tiers_are ∙ tiers_same before mid less ∙ old.1.tiers_are) in
    let volume_is : moved e p ready.slot s old.0 ≡ v =
    ap (λ (l : List Part). volume old.0.marked old.0.tiers l) (sym parts_are) ∙ ap (λ t. volume old.0.marked t v.parts) (sym tiers_are)
    ∙ ap (λ (b : Bool). volume b v.tiers v.parts) (old.1.marked_is ∙ sym is.same_mark ∙ sym over.marked_is) in
    let absent_is : absent_in members seats before.elements ≡ absent_in members seats after.elements =
    fun_ext (λ k. fun_ext (λ j.
    absent_moved p r s seats ready.slot members e before.elements after.elements is.moved (λ b b_at. ready.is_seated b b_at)
    (λ b x b_at x_at. ap (λ (y : Place). is_none y.slot) (at_p b x b_at x_at) ∙ ap (λ (o : Option ℕ). is_none o) same.is_there) k j)) in
    let done = kept_moved old.0 old.1.is_volume image e p ready.slot s same (absent_in members seats before.elements) allowed (kept old.0 old.1) in
    subst (λ (x : ℕ → ℕ → Bool). IsKeptData x v image allowed) absent_is (subst (λ (x : Volume). IsKeptData (absent_in members seats before.elements) x image allowed) volume_is done)

-- where a function makes the element, and no other is made
pub moved_parts : (g : ElementValue → ElementValue) (p r s : ℕ) → ((plan : ElementValue) → IsMovedElement p r s plan (g plan)) → (e : ℕ) (known : List (Option ElementValue))
    → AreMovedParts e p r s known (changed_item (option_map g) e known)
moved_parts g p r s is e [] = tt
moved_parts g p r s is zero (None ∷ known) = (tt, refl)
moved_parts g p r s is zero (Some plan ∷ known) = (is plan, refl)
moved_parts g p r s is (suc e) (part ∷ known) = (refl, moved_parts g p r s is e known)
