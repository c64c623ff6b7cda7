-- What a view tells of the array that it is of.
use Rattle.std.proofs.Common.{◌≡◌, ◌∙◌, ℕ, ◌+◌, Bool, true, false, List, [], ◌∷◌, Option, Some, None, Ok, Err, refl, sym, ap, subst, map, filter_map, length, suc, ◌&&◌, ◌||◌, map-id}
use Rattle.std.specs.Prelude.{nat_le, nat_lt, is_some, option_map, ◌==◌, if◌then◌else◌}
use Rattle.std.specs.Result.{result_ok}
use Rattle.std.specs.Map.{lookup}
use Rattle.std.specs.List.{cons_option, list_any, list_all, flat_map}
use Rattle.std.proofs.lemmas.Bool.{ltb-false, le-leb, eqb-true}
use Rattle.std.proofs.lemmas.List.Folds.{list_any-append}
use Rattle.ddf_lemmas.proofs.Lists.{all_map, any_map, count_map}
use Rattle.ddf_lemmas.proofs.Tests.{and_first, and_second, code_of_several, or_first, or_second}
use Rattle.ddf_lemmas.proofs.Options.{same_some}
use Rattle.ddf_primary.specs.declared.need.Need.{Need}
use Rattle.ddf_primary.specs.declared.need.Need.TheVariants.{All, One, AllButOne, Neighbours}
use Rattle.ddf_primary.specs.Placement.{Placement}
use Rattle.ddf_primary.specs.Needs.{need_of, one_of_each}
use Rattle.ddf_primary.proofs.Served.{IsAsCoded, served}
use Rattle.ddf_secondary.specs.declared.element.ElementSize.{ElementSize}
use Rattle.ddf_secondary.specs.declared.level.SecondaryLevel.{SecondaryLevel}
use Rattle.ddf_secondary.specs.declared.level.SecondaryLevel.TheVariants.{Striped, Mirrored, Concatenated, Spanned}
use Rattle.ddf_secondary.specs.declared.fault.TiersFault.TheVariants as fault
use Rattle.ddf_secondary.specs.Spots.{spots}
use Rattle.ddf_secondary.specs.Arrangement.{Arrangement, served_level, takes_count, takes_units}
use Rattle.ddf_config.specs.declared.array.Array.{Array}
use Rattle.ddf_config.specs.declared.element.Position.{Position}
use Rattle.ddf_config.specs.declared.seat.Seat.{Seat}
use Rattle.ddf_config.specs.Configuration.{Configuration}
use Rattle.ddf_config.specs.ElementValue.{ElementValue}
use Rattle.ddf_config.specs.Extents.{extent, extents, part_extents}
use Rattle.ddf_config.specs.Members.{same_guid}
use Rattle.ddf_config.specs.Seats.{slot_of, floor_of}
use Rattle.ddf_config.specs.Shapes.{element_shape, has_shape, secondary_level, sizes, array_capacity}
use Rattle.ddf_config.specs.Unusable.{passes_floor}
use Rattle.ddf_config.specs.Within as config
use Rattle.ddf_config.specs.Within.{has_enough, has_redundancy}
use Rattle.ddf_array.specs.declared.part.Part.{Part}
use Rattle.ddf_array.specs.Places.{is_available}
use Rattle.ddf_array.specs.Cells.{is_in_every}
use Rattle.ddf_array.specs.Volume.{Volume, capacity}
use Rattle.ddf_array.specs.Within.{is_part_within, is_mirrored, is_within, keeps_more, is_redundant}
use Rattle.ddf_array.specs.Viewing.{place_of, known_part, view_of, is_seated, is_array_within, is_array_redundant}
use Rattle.ddf_array.proofs.Shapes.{made}
use Rattle.ddf_array.proofs.Viewed.{Viewed, from_view}
use Rattle.ddf_array.proofs.Usable.{complete, below_floors, shapes}

-- ---- lists of answers

-- what an element needs asks only which positions are available
pub enough_map : {X : Type 0} (need : Need) (p : X → Bool) (xs : List X) → has_enough need p xs ≡ has_enough need (λ b. b) (map p xs)
enough_map All p xs = all_map p xs
enough_map One p xs = any_map p xs
enough_map AllButOne p xs = ap (λ n. nat_le n 1) (count_map p xs)
enough_map (Neighbours spread) p xs = ap (one_of_each spread) (sym (map-id (map p xs)))

-- ---- the level of an element

-- the properties of an element's shape are those of its level
pub shape_coded : (elements : ℕ) (element : ElementValue) (shape : Placement) → element_shape elements element ≡ Some shape → IsAsCoded element.level element.qualifier shape.layout
shape_coded elements element shape e =
    let m = made elements element shape e in
    subst (λ (s : Placement). IsAsCoded element.level element.qualifier s.layout) (sym m.shape_is) (served element.level element.qualifier m.layout m.layout_is)

-- ---- positions

module _ (seats : List Seat) (blocks : ℕ) where
  slot_by : (end slot : ℕ) (floor : Option ℕ) → elim floor [ None ↦ false | Some floor ↦ nat_lt floor end ] ≡ false
      → is_some (elim floor [ None ↦ None | Some floor ↦ if nat_le end floor then Some slot else None ]) ≡ is_some floor
  slot_by end slot None below = refl
  slot_by end slot (Some floor) below = ap (λ b. is_some (if b then Some slot else None)) (le-leb end floor (ltb-false floor end below))

  available_is : (position : Position) → passes_floor seats (extent blocks position) ≡ false → is_available (place_of seats blocks position) ≡ is_seated seats position
  available_is position below =
      ap (λ b. position.synced && b) (slot_by (position.start + blocks) (slot_of seats position.reference) (floor_of seats position.reference) below)

  answers_are : (positions : List Position) → list_any (passes_floor seats) (map (extent blocks) positions) ≡ false
      → map is_available (map (place_of seats blocks) positions) ≡ map (is_seated seats) positions
  answers_are [] below = refl
  answers_are (position ∷ positions) below =
      let first = passes_floor seats (extent blocks position) in
      let others = list_any (passes_floor seats) (map (extent blocks) positions) in
      ap (λ b. b ∷ map is_available (map (place_of seats blocks) positions)) (available_is position (or_first first others below))
      ∙ ap (λ l. is_seated seats position ∷ l) (answers_are positions (or_second first others below))

-- ---- elements

module _ (seats : List Seat) (elements : ℕ) where
  -- an element of an array that can be used, and that of its view
  pub record Same (element : ElementValue) (part : Part) : Type 0 where
    pub within : is_part_within part ≡ config.is_part_within (is_seated seats) (Some element)
    pub more : keeps_more part ≡ has_redundancy (Some element)

  same_part : (element : ElementValue) (shape : Placement) → element_shape elements element ≡ Some shape → list_any (passes_floor seats) (part_extents (Some element)) ≡ false
      → Same element (record { shape = shape; places = map (place_of seats element.blocks) element.positions })
  same_part element shape made below =
      let places = map (place_of seats element.blocks) element.positions in
      let need = need_of element.level element.qualifier in
      let coded = shape_coded elements element shape made in
      record {
        within =
            ap (λ (n : Need). has_enough n is_available places) coded.need ∙ enough_map need is_available places
            ∙ ap (has_enough need (λ b. b)) (answers_are seats element.blocks element.positions below)
            ∙ sym (enough_map need (is_seated seats) element.positions);
        more = coded.more;
      }

  -- and of all of them
  pub record SameAll (known : List (Option ElementValue)) (parts : List Part) : Type 0 where
    pub any_within : list_any is_part_within parts ≡ list_any (config.is_part_within (is_seated seats)) known
    pub all_within : list_all is_part_within parts ≡ list_all (config.is_part_within (is_seated seats)) known
    pub any_more : list_any keeps_more parts ≡ list_any has_redundancy known
    pub count : length parts ≡ length known

  one_more : (element : ElementValue) (known : List (Option ElementValue)) (found : Option Placement) → element_shape elements element ≡ found → is_some found ≡ true
      → list_any (passes_floor seats) (part_extents (Some element)) ≡ false
      → SameAll known (filter_map (known_part seats elements) known)
      → SameAll (Some element ∷ known)
      (cons_option (option_map (λ (shape : Placement). record { shape = shape; places = map (place_of seats element.blocks) element.positions }) found) (filter_map (known_part seats elements) known))
  one_more element known None made there below rest = absurd (cc)
  one_more element known (Some shape) made there below rest =
      let one = same_part element shape made below in
      let others = filter_map (known_part seats elements) known in
      record {
        any_within = ap (λ b. b || list_any is_part_within others) one.within ∙ ap (λ b. config.is_part_within (is_seated seats) (Some element) || b) rest.any_within;
        all_within = ap (λ b. b && list_all is_part_within others) one.within ∙ ap (λ b. config.is_part_within (is_seated seats) (Some element) && b) rest.all_within;
        any_more = ap (λ b. b || list_any keeps_more others) one.more ∙ ap (λ b. has_redundancy (Some element) || b) rest.any_more;
        count = ap suc rest.count;
      }

  same_all : (known : List (Option ElementValue)) → list_all (λ (part : Option ElementValue). is_some part) known ≡ true → list_all (has_shape elements) known ≡ true
      → list_any (passes_floor seats) (flat_map part_extents known) ≡ false → SameAll known (filter_map (known_part seats elements) known)
  same_all [] whole shaped below = record { any_within = refl; all_within = refl; any_more = refl; count = refl }
  same_all (None ∷ known) whole shaped below = absurd (cc)
  same_all (Some element ∷ known) whole shaped below =
      let split = sym (list_any-append (passes_floor seats) (part_extents (Some element)) (flat_map part_extents known)) ∙ below in
      let first = list_any (passes_floor seats) (part_extents (Some element)) in
      let others = list_any (passes_floor seats) (flat_map part_extents known) in
      let shape = is_some (element_shape elements element) in
      one_more element known (element_shape elements element) refl (and_first shape (list_all (has_shape elements) known) shaped) (or_first first others split)
      (same_all known whole (and_second shape (list_all (has_shape elements) known) shaped) (or_second first others split))

-- ---- the secondary level

pub every_by : (code : ℕ) (level : SecondaryLevel) → served_level code ≡ Some level → is_in_every level ≡ (code == 1)
every_by code level e = by_0 (code == 0) refl e
  where
    by_3 : (a : Bool) → (code == 1) ≡ false → ◌≡◌ {A = Option SecondaryLevel} (if a then Some Spanned else None) (Some level) → is_in_every level ≡ (code == 1)
    by_3 true differs e = let same : Spanned ≡ level = cc in ap is_in_every (sym same) ∙ sym differs
    by_3 false differs e = absurd (cc)

    by_2 : (a : Bool) → (code == 1) ≡ false → ◌≡◌ {A = Option SecondaryLevel} (if a then Some Concatenated else (if code == 3 then Some Spanned else None)) (Some level) → is_in_every level ≡ (code == 1)
    by_2 true differs e = let same : Concatenated ≡ level = cc in ap is_in_every (sym same) ∙ sym differs
    by_2 false differs e = by_3 (code == 3) differs e

    by_1 : (a : Bool) → (code == 1) ≡ a → ◌≡◌ {A = Option SecondaryLevel} (if a then Some Mirrored else (if code == 2 then Some Concatenated else (if code == 3 then Some Spanned else None))) (Some level)
        → is_in_every level ≡ (code == 1)
    by_1 true is e = let same : Mirrored ≡ level = cc in ap is_in_every (sym same) ∙ sym is
    by_1 false is e = by_2 (code == 2) is e

    by_0 : (a : Bool) → (code == 0) ≡ a
        → ◌≡◌ {A = Option SecondaryLevel} (if a then Some Striped else (if code == 1 then Some Mirrored else (if code == 2 then Some Concatenated else (if code == 3 then Some Spanned else None)))) (Some level)
        → is_in_every level ≡ (code == 1)
    by_0 true is e = let same : Striped ≡ level = cc in ap is_in_every (sym same) ∙ ap (λ (n : ℕ). n == 1) (sym (eqb-true code 0 is))
    by_0 false is e = by_1 (code == 1) refl e

tiers_level : (sizes : List ElementSize) (tiers : Arrangement) (code : ℕ) (level : Option SecondaryLevel) (a : Bool) (b : SecondaryLevel → Bool)
    → ◌≡◌ {A = Option Arrangement} (result_ok (elim level [
      | None ↦ Err (fault.Level code)
      | Some level ↦ if a then (if b level then Ok (record { level = level; sizes = sizes }) else Err fault.Mixed) else Err (fault.Count (length sizes))
    ])) (Some tiers) → level ≡ Some tiers.level
tiers_level sizes tiers code None a b e = absurd (cc)
tiers_level sizes tiers code (Some level) false b e = absurd (cc)
tiers_level sizes tiers code (Some level) true b e = by_units (b level) e
  where
    by_units : (c : Bool) → ◌≡◌ {A = Option Arrangement} (result_ok (if c then Ok (record { level = level; sizes = sizes }) else Err fault.Mixed)) (Some tiers) → ◌≡◌ {A = Option SecondaryLevel} (Some level) (Some tiers.level)
    by_units true e = let same : ◌≡◌ {A = Arrangement} (record { level = level; sizes = sizes }) tiers = cc in ap (λ (t : Arrangement). Some t.level) same
    by_units false e = absurd (cc)

-- ---- arrays

module _ (conf : Configuration) (guid : List ℕ) (seats : List Seat) (v : Volume) (view : Viewed conf guid seats v) where
  elements_are : SameAll seats (length view.array.elements) view.array.elements v.parts
  elements_are =
      let array = view.array in
      let all = extents conf.arrays in
      subst (SameAll seats (length array.elements) array.elements) (sym view.parts_are)
      (same_all seats (length array.elements) array.elements (complete conf.members seats all guid array view.usable) (shapes conf.members seats all guid array view.usable) (below_floors conf.members seats all guid array view.usable))

  mirrored_is : is_mirrored v ≡ config.is_mirrored view.array
  mirrored_is =
      let array = view.array in
      let n = length array.elements in
      let code = secondary_level array in
      let level = tiers_level (sizes array) v.tiers code (served_level code) (takes_count (sizes array)) (λ level. takes_units level (sizes array)) view.tiers_are in
      ap (λ (m : ℕ). is_in_every v.tiers.level && nat_le 2 m) (elements_are).count
      ∙ ap (λ b. b && nat_le 2 n) (every_by code v.tiers.level level)
      ∙ code_of_several n array.secondary (nat_le 2 n) refl

  capacity_is : capacity v ≡ array_capacity view.array
  capacity_is = sym (ap (λ (t : Option Arrangement). elim t [ None ↦ 0 | Some tiers ↦ length (spots tiers) ]) view.tiers_are)

  within_is : is_within v ≡ is_array_within seats view.array
  within_is =
      let same = elements_are in
      ap (λ b. if b then list_any is_part_within v.parts else list_all is_part_within v.parts) mirrored_is
      ∙ ap (λ b. if config.is_mirrored view.array then b else list_all is_part_within v.parts) same.any_within
      ∙ ap (λ b. if config.is_mirrored view.array then list_any (config.is_part_within (is_seated seats)) view.array.elements else b) same.all_within

  redundant_is : is_redundant v ≡ is_array_redundant view.array
  redundant_is =
      ap (λ b. b || list_any keeps_more v.parts) mirrored_is ∙ ap (λ b. config.is_mirrored view.array || b) (elements_are).any_more

module _ (conf : Configuration) (guid : List ℕ) (seats : List Seat) (v : Volume) (array : Array) (e : view_of conf guid seats ≡ Ok v) (found : lookup (same_guid guid) conf.arrays ≡ Some array) where
  view : Viewed conf guid seats v
  view = from_view conf guid seats v e

  array_is : (view).array ≡ array
  array_is = same_some (lookup (same_guid guid) conf.arrays) (view).array array (view).array_is found

  pub told_capacity : capacity v ≡ array_capacity array
  told_capacity = capacity_is conf guid seats v view ∙ ap array_capacity array_is

  pub told_within : is_within v ≡ is_array_within seats array
  told_within = within_is conf guid seats v view ∙ ap (is_array_within seats) array_is

  pub told_redundant : is_redundant v ≡ is_array_redundant array
  told_redundant = redundant_is conf guid seats v view ∙ ap is_array_redundant array_is
