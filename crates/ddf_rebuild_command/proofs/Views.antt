-- Where a view has the positions of its array.
use Rattle.std.proofs.Common.{◌≡◌, ◌∙◌, ◌⊎◌, ⊎_elim, inl, inr, ℕ, zero, suc, ◌+◌, ◌-◌, ◌*◌, ◌/◌, ◌≤◌, ◌^◌, Bool, true, false, ◌||◌, List, [], ◌∷◌, ◌++◌, length, map, Option, Some, None, Ok, refl, sym, ap, subst, arith, if◌then◌else◌}
use Rattle.std.proofs.lemmas.Bool.{and_parts, false≢true, le-leb, leb-true, ltb-false, or_parts}
use Rattle.std.proofs.lemmas.List.{length-map}
use Rattle.std.proofs.lemmas.Option.{slice_get-map}
use Rattle.std.proofs.Math.Nat.{div-le_of_le-mul, mul-le-mul_right, mul-suc}
use Rattle.std.specs.Prelude.{filter_map, is_some, nat_le, nat_lt, option_and_then, option_map, slice_get}
use Rattle.std.specs.Map.{lookup}
use Rattle.std.specs.List.{cons_option, flat_map, list_all, list_any}
use Rattle.ddf_lemmas.proofs.Lists.{none_any}
use Rattle.ddf_lemmas.proofs.Options.{some_from_is_some}
use Rattle.ddf_primary.specs.Cells.{depth_of, height_of}
use Rattle.ddf_primary.specs.Levels.{least_blocks}
use Rattle.ddf_primary.specs.Placement.{Placement}
use Rattle.ddf_primary.proofs.ShapeFacts.{depth_le, height_some}
use Rattle.ddf_config.specs.declared.array.Array.{Array}
use Rattle.ddf_config.specs.declared.element.Position.{Position}
use Rattle.ddf_config.specs.declared.extent.Extent.{Extent}
use Rattle.ddf_config.specs.declared.seat.Seat.{Seat}
use Rattle.ddf_config.specs.Configuration.{Configuration}
use Rattle.ddf_config.specs.ElementValue.{ElementValue}
use Rattle.ddf_config.specs.Extents.{extent, extents, part_extents}
use Rattle.ddf_config.specs.Members.{same_guid}
use Rattle.ddf_config.specs.Seats.{floor_of, slot_of}
use Rattle.ddf_config.specs.Shapes.{element_shape, has_shape}
use Rattle.ddf_config.specs.Unusable.{passes_floor}
use Rattle.ddf_plan.specs.Rebuild.{element_at}
use Rattle.ddf_array.specs.declared.part.Part.{Part}
use Rattle.ddf_array.specs.declared.place.Place.{Place}
use Rattle.ddf_array.specs.Viewing.{known_part, part_of, place_of, view_of}
use Rattle.ddf_array.specs.Volume.{IsPart, IsVolume, Volume, size_of}
use Rattle.ddf_array.proofs.Usable.{below_floors, complete, shapes}
use Rattle.ddf_array.proofs.Viewed.{Viewed, from_view}
use Rattle.ddf_rebuild.specs.Target.{row_count}
use Rattle.ddf_rebuild_command.specs.Asked.{rows_in}
use Rattle.ddf_rebuild_command.proofs.Positions.{IsHeld, element_there}

-- ---- elements that are all known

module _ (seats : List Seat) (elements : ℕ) where
  abbrev whole : ElementValue → Placement → Part
  whole plan shape = record { shape = shape; places = map (place_of seats plan.blocks) plan.positions }

  -- each of them is in the view, at its place
  record IsShown (known : List (Option ElementValue)) (number : ℕ) (plan : ElementValue) : Type 0 where
    shape : Placement
    is_shape : element_shape elements plan ≡ Some shape
    is_part : slice_get (filter_map (known_part seats elements) known) number ≡ Some (whole plan shape)

  made_of : (plan : ElementValue) (shape : Placement) → element_shape elements plan ≡ Some shape → part_of seats elements plan ≡ Some (whole plan shape)
  made_of plan shape is = ap (option_map (whole plan)) is

  shown_at : (known : List (Option ElementValue)) → list_all (λ (part : Option ElementValue). is_some part) known ≡ true → list_all (has_shape elements) known ≡ true
      → (number : ℕ) (plan : ElementValue) → slice_get known number ≡ Some (Some plan) → IsShown known number plan
  shown_at [] all shaped number plan at = absurd cc
  shown_at (None ∷ known) all shaped number plan at = absurd (false≢true all)
  shown_at (Some one ∷ known) all shaped zero plan at =
      let same : one ≡ plan = cc in
      let own = some_from_is_some (element_shape elements one) (and_parts (is_some (element_shape elements one)) (list_all (has_shape elements) known) shaped).0 in
      subst (IsShown (Some one ∷ known) 0) same (record {
        shape = own.0;
        is_shape = own.1;
        is_part = ap (λ (first : Option Part). slice_get (cons_option first (filter_map (known_part seats elements) known)) 0) (made_of one own.0 own.1);
      })
  shown_at (Some one ∷ known) all shaped (suc number) plan at =
      let own = some_from_is_some (element_shape elements one) (and_parts (is_some (element_shape elements one)) (list_all (has_shape elements) known) shaped).0 in
      let rest = shown_at known all (and_parts (is_some (element_shape elements one)) (list_all (has_shape elements) known) shaped).1 number plan at in
      record {
        shape = rest.shape;
        is_shape = rest.is_shape;
        is_part = ap (λ (first : Option Part). slice_get (cons_option first (filter_map (known_part seats elements) known)) (suc number)) (made_of one own.0 own.1) ∙ rest.is_part;
      }

  all_shown : (known : List (Option ElementValue)) → list_all (λ (part : Option ElementValue). is_some part) known ≡ true → list_all (has_shape elements) known ≡ true
      → length (filter_map (known_part seats elements) known) ≡ length known
  all_shown [] all shaped = refl
  all_shown (None ∷ known) all shaped = absurd (false≢true all)
  all_shown (Some one ∷ known) all shaped =
      let parts = and_parts (is_some (element_shape elements one)) (list_all (has_shape elements) known) shaped in
      let own = some_from_is_some (element_shape elements one) parts.0 in
      ap (λ (first : Option Part). length (cons_option first (filter_map (known_part seats elements) known))) (made_of one own.0 own.1) ∙ ap suc (all_shown known all parts.1)

-- ---- extents below the floors

any_joined : {X : Type 0} (test : X → Bool) (xs ys : List X) → list_any test (xs ++ ys) ≡ false → (list_any test xs ≡ false) × (list_any test ys ≡ false)
any_joined test [] ys none = (refl, none)
any_joined test (x ∷ xs) ys none =
    let first = or_parts (test x) (list_any test (xs ++ ys)) none in
    let rest = any_joined test xs ys first.1 in
    (ap (λ (b : Bool). b || list_any test xs) first.0 ∙ rest.0, rest.1)

none_in : (test : Extent → Bool) (known : List (Option ElementValue)) (number : ℕ) (plan : ElementValue) → list_any test (flat_map part_extents known) ≡ false → slice_get known number ≡ Some (Some plan)
    → list_any test (part_extents (Some plan)) ≡ false
none_in test [] number plan none at = absurd cc
none_in test (one ∷ known) zero plan none at =
    let same : one ≡ Some plan = cc in
    ap (λ (part : Option ElementValue). list_any test (part_extents part)) (sym same) ∙ (any_joined test (part_extents one) (flat_map part_extents known) none).0
none_in test (one ∷ known) (suc number) plan none at = none_in test known number plan (any_joined test (part_extents one) (flat_map part_extents known) none).1 at

slot_by : (end slot : ℕ) (floor : Option ℕ) → is_some floor ≡ true → elim floor [ None ↦ false | Some most ↦ nat_lt most end ] ≡ false
    → elim floor [ None ↦ None | Some most ↦ if nat_le end most then Some slot else None ] ≡ Some slot
slot_by end slot None there below = absurd (false≢true there)
slot_by end slot (Some most) there below = ap (λ (b : Bool). if b then Some slot else None) (le-leb end most (ltb-false most end below))

-- ---- a position

-- A view has a position at this place.
pub record IsAt (config : Configuration) (guid : List ℕ) (seats : List Seat) (volume : Volume) (element position : ℕ) (held : Position) (before : IsHeld config guid element position held) : Type 0 where
  pub part : Part
  pub is_part : slice_get volume.parts element ≡ Some part
  pub is_shape : element_shape (length before.array.elements) before.plan ≡ Some part.shape
  pub place : Place
  pub is_place : slice_get part.places position ≡ Some place
  pub synced_is : place.synced ≡ held.synced
  pub row_is : place.row ≡ held.row
  pub is_there : is_some (floor_of seats held.reference) ≡ true → place.slot ≡ Some (slot_of seats held.reference)

module _ (config : Configuration) (guid : List ℕ) (seats : List Seat) (volume : Volume) (is : view_of config guid seats ≡ Ok volume) where
  view : Viewed config guid seats volume
  view = from_view config guid seats volume is

  abbrev known : List (Option ElementValue)
  known = view.array.elements

  all_known : list_all (λ (part : Option ElementValue). is_some part) known ≡ true
  all_known = complete config.members seats (extents config.arrays) guid view.array view.usable

  all_shaped : list_all (has_shape (length known)) known ≡ true
  all_shaped = shapes config.members seats (extents config.arrays) guid view.array view.usable

  -- Its elements are few, and it has each of them.
  pub few_elements : IsVolume volume → (array : Array) → lookup (same_guid guid) config.arrays ≡ Some array → length array.elements ≤ 16
  few_elements whole array found =
      let both : Some view.array ≡ Some array = sym view.array_is ∙ found in
      let same : view.array ≡ array = cc in
      let count : length volume.tiers.sizes ≡ length known =
      ap length whole.has_sizes ∙ length-map volume.parts size_of ∙ ap length view.parts_are ∙ all_shown seats (length known) known all_known all_shaped in
      subst (λ (one : Array). length one.elements ≤ 16) same (omega (arith, count, whole.array_is.few))

  module _ (element position : ℕ) (held : Position) (before : IsHeld config guid element position held) where
    same_array : view.array ≡ before.array
    same_array = let both : Some view.array ≡ Some before.array = sym view.array_is ∙ before.is_array in cc

    there : slice_get known element ≡ Some (Some before.plan)
    there = ap (λ (one : Array). slice_get one.elements element) same_array ∙ element_there before.array element before.plan before.is_plan

    shown : IsShown seats (length known) known element before.plan
    shown = shown_at seats (length known) known all_known all_shaped element before.plan there

    below : passes_floor seats (extent before.plan.blocks held) ≡ false
    below =
        none_any (passes_floor seats) (map (extent before.plan.blocks) before.plan.positions) position (extent before.plan.blocks held)
        (none_in (passes_floor seats) known element before.plan (below_floors config.members seats (extents config.arrays) guid view.array view.usable) there)
        (slice_get-map (extent before.plan.blocks) before.plan.positions position ∙ ap (option_map (extent before.plan.blocks)) before.is_held)

    pub is_at : IsAt config guid seats volume element position held before
    is_at = record {
      part = whole seats (length known) before.plan shown.shape;
      is_part = ap (λ (parts : List Part). slice_get parts element) view.parts_are ∙ shown.is_part;
      is_shape = ap (λ (one : Array). element_shape (length one.elements) before.plan) (sym same_array) ∙ shown.is_shape;
      place = place_of seats before.plan.blocks held;
      is_place = slice_get-map (place_of seats before.plan.blocks) before.plan.positions position ∙ ap (option_map (place_of seats before.plan.blocks)) before.is_held;
      synced_is = refl;
      row_is = refl;
      is_there = λ has. slot_by (held.start + before.plan.blocks) (slot_of seats held.reference) (floor_of seats held.reference) has below;
    }

-- ---- rows

-- The rows of an element are those of its shape,
pub rows_by : (array : Array) (element : ℕ) (plan : ElementValue) (shape : Placement) → element_at array element ≡ Some plan → element_shape (length array.elements) plan ≡ Some shape
    → rows_in array element ≡ row_count shape
rows_by array element plan shape known shaped =
    ap (λ (part : Option ElementValue). elim (option_and_then (element_shape (length array.elements)) part) [ None ↦ 0 | Some one ↦ row_count one ]) known
    ∙ ap (λ (found : Option Placement). elim found [ None ↦ 0 | Some one ↦ row_count one ]) shaped

few_by : (depth strip : ℕ) → 1 ≤ strip → (depth + strip - 1 ≤ strip * depth) ⊎ (depth ≡ 0)
few_by zero strip some = inr refl
few_by (suc depth) strip some =
    let over = mul-le-mul_right depth some in
    inl (omega (arith, over, mul-suc strip depth))

rows_below : (depth strip : ℕ) → 1 ≤ strip → (depth + strip - 1) / strip ≤ depth
rows_below depth strip some = ⊎_elim (λ few. div-le_of_le-mul strip few) (λ none. grind arith) (few_by depth strip some)

-- and few.
pub few_rows : (part : Part) → IsPart part → row_count part.shape ≤ 2 ^ 48
few_rows part is =
    let shape = part.shape in
    let blocks = leb-true shape.blocks (2 ^ 48) (and_parts (nat_le (least_blocks shape.layout shape.strip) shape.blocks) (nat_le shape.blocks (2 ^ 48)) is.shape_is.blocks_taken).1 in
    let some = height_some shape is.shape_is in
    omega (arith, blocks, depth_le shape.layout shape.strip shape.blocks, rows_below (depth_of shape) (height_of shape) (omega (arith, some)))
