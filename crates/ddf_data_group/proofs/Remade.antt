-- An array of which the positions of one element are made anew, on the extents that they were on.
use Rattle.std.proofs.Common.{◌≡◌, ◌∙◌, ⊎_elim, ℕ, zero, suc, Bool, true, false, List, [], ◌∷◌, Option, Some, None, refl, sym, ap, arith, map, filter_map, length, slice_get, ◌&&◌}
use Rattle.std.proofs.Math.Path.{fun_ext}
use Rattle.std.specs.Prelude.{is_some, option_and_then, option_map, ◌==◌, if◌then◌else◌}
use Rattle.std.specs.Result.{result_ok}
use Rattle.std.specs.List.{cons_option, list_all}
use Rattle.std.proofs.lemmas.Bool.{cases_eq}
use Rattle.ddf_lemmas.proofs.Tests.{and_first, and_second}
use Rattle.ddf_primary.specs.Placement.{Placement}
use Rattle.ddf_primary.specs.Levels.{shape_of}
use Rattle.ddf_secondary.specs.Arrangement.{tiers_of}
use Rattle.ddf_secondary.specs.declared.element.ElementSize.{ElementSize}
use Rattle.ddf_config.specs.declared.array.Array.{Array}
use Rattle.ddf_config.specs.declared.element.Position.{Position}
use Rattle.ddf_config.specs.declared.member.Member.{Member}
use Rattle.ddf_config.specs.declared.seat.Seat.{Seat}
use Rattle.ddf_config.specs.ElementValue.{ElementValue, with_positions}
use Rattle.ddf_config.specs.Shapes.{array_tiers, element_shape, has_shape, part_size, shape_size, strip_sectors}
use Rattle.ddf_config.specs.States.{is_marked}
use Rattle.ddf_array.specs.declared.part.Part.{Part}
use Rattle.ddf_array.specs.declared.place.Place.{Place}
use Rattle.ddf_array.specs.Viewing.{known_part, parts_of, place_of}
use Rattle.ddf_array.specs.Volume.{Volume, volume, IsPart, IsVolume, size_of}
use Rattle.ddf_data_array.specs.Changing.{changed_item}
use Rattle.ddf_data_array.proofs.Items.{changed_at, changed_length, unchanged_at}
use Rattle.ddf_data_group.specs.Over.{IsOver, absent_in, lacks_disk, part_lacks}

-- Of the positions of an element, and of their places, as many are made, where they were.
pub record Remakes (g : List Position → List Position) (h : List Place → List Place) : Type 0 where
  pub as_many : (positions : List Position) → length (g positions) ≡ length positions
  pub as_many_places : (places : List Place) → length (h places) ≡ length places
  pub same_places : (seats : List Seat) (blocks : ℕ) (positions : List Position) → map (place_of seats blocks) (g positions) ≡ h (map (place_of seats blocks) positions)
  pub lies : (places : List Place) (j : ℕ) (place : Place) → slice_get places j ≡ Some place
      → (other : Place) × (slice_get (h places) j ≡ Some other) × (other.start ≡ place.start) × (other.slot ≡ place.slot)
  pub lacks : (members : List (ℕ × Member)) (seats : List Seat) (element : ElementValue) (positions : List Position) (j : ℕ)
      → ◌≡◌ {A = Bool} (elim (slice_get (g positions) j) [ None ↦ false | Some one ↦ lacks_disk members seats element one ])
      (elim (slice_get positions j) [ None ↦ false | Some one ↦ lacks_disk members seats element one ])

module _ (g : List Position → List Position) (h : List Place → List Place) where
  abbrev pub element_by : ElementValue → ElementValue
  element_by element = with_positions element (g element.positions)

  abbrev pub elements_by : ℕ → List (Option ElementValue) → List (Option ElementValue)
  elements_by e known = changed_item (option_map element_by) e known

  abbrev pub part_by : Part → Part
  part_by part = record part { places = h part.places }

  abbrev pub volume_by : ℕ → Volume → Volume
  volume_by e v = record v { parts = changed_item part_by e v.parts }

  module _ (remakes : Remakes g h) where
    -- ---- shapes and sizes stay

    shape_by : (elements : ℕ) (element : ElementValue) → element_shape elements (element_by element) ≡ element_shape elements element
    shape_by elements element =
        ap (λ (n : ℕ). option_and_then (λ strip. result_ok (shape_of element.level element.qualifier n strip element.blocks)) (strip_sectors elements element)) (remakes.as_many element.positions)

    size_by : (elements : ℕ) (part : Option ElementValue) → part_size elements (option_map element_by part) ≡ part_size elements part
    size_by elements None = refl
    size_by elements (Some element) = ap (option_map shape_size) (shape_by elements element)

    has_by : (elements : ℕ) (part : Option ElementValue) → has_shape elements (option_map element_by part) ≡ has_shape elements part
    has_by elements None = refl
    has_by elements (Some element) = ap is_some (shape_by elements element)

    some_by : (part : Option ElementValue) → is_some (option_map element_by part) ≡ is_some part
    some_by None = refl
    some_by (Some element) = refl

    sizes_by : (elements : ℕ) (known : List (Option ElementValue)) (e : ℕ) → filter_map (part_size elements) (elements_by e known) ≡ filter_map (part_size elements) known
    sizes_by elements [] e = refl
    sizes_by elements (part ∷ known) zero = ap (λ (o : Option ElementSize). cons_option o (filter_map (part_size elements) known)) (size_by elements part)
    sizes_by elements (part ∷ known) (suc e) = ap (cons_option (part_size elements part)) (sizes_by elements known e)

    whole_by : (known : List (Option ElementValue)) (e : ℕ) → list_all (λ (part : Option ElementValue). is_some part) (elements_by e known) ≡ list_all (λ (part : Option ElementValue). is_some part) known
    whole_by [] e = refl
    whole_by (part ∷ known) zero = ap (λ b. b && list_all (λ (part : Option ElementValue). is_some part) known) (some_by part)
    whole_by (part ∷ known) (suc e) = ap (λ b. is_some part && b) (whole_by known e)

    shapes_by : (elements : ℕ) (known : List (Option ElementValue)) (e : ℕ) → list_all (has_shape elements) (elements_by e known) ≡ list_all (has_shape elements) known
    shapes_by elements [] e = refl
    shapes_by elements (part ∷ known) zero = ap (λ b. b && list_all (has_shape elements) known) (has_by elements part)
    shapes_by elements (part ∷ known) (suc e) = ap (λ b. has_shape elements part && b) (shapes_by elements known e)

    part_sizes : (parts : List Part) (e : ℕ) → map size_of (changed_item part_by e parts) ≡ map size_of parts
    part_sizes [] e = refl
    part_sizes (part ∷ parts) zero = refl
    part_sizes (part ∷ parts) (suc e) = ap (λ l. size_of part ∷ l) (part_sizes parts e)

    -- ---- the elements over the seats

    module _ (seats : List Seat) (elements : ℕ) where
      abbrev part_with : ElementValue → Option Placement → Option Part
      part_with element found = option_map (λ (shape : Placement). record { shape = shape; places = map (place_of seats element.blocks) element.positions }) found

      first_by : (element : ElementValue) (rest : List Part) (found : Option Placement) → is_some found ≡ true
          → cons_option (part_with (element_by element) found) rest ≡ changed_item part_by 0 (cons_option (part_with element found) rest)
      first_by element rest None there = absurd (cc)
      first_by element rest (Some shape) there = ap (λ (l : List Place). record { shape = shape; places = l } ∷ rest) (remakes.same_places seats element.blocks element.positions)

      later_by : (element : ElementValue) (k : ℕ) (rest rest' : List Part) (found : Option Placement) → is_some found ≡ true → rest' ≡ changed_item part_by k rest
          → cons_option (part_with element found) rest' ≡ changed_item part_by (suc k) (cons_option (part_with element found) rest)
      later_by element k rest rest' None there same = absurd (cc)
      later_by element k rest rest' (Some shape) there same = ap (λ (l : List Part). record { shape = shape; places = map (place_of seats element.blocks) element.positions } ∷ l) same

      parts_by : (known : List (Option ElementValue)) → list_all (λ (part : Option ElementValue). is_some part) known ≡ true → list_all (has_shape elements) known ≡ true → (k : ℕ)
          → filter_map (known_part seats elements) (elements_by k known) ≡ changed_item part_by k (filter_map (known_part seats elements) known)
      parts_by [] whole shaped k = refl
      parts_by (None ∷ known) whole shaped k = absurd (cc)
      parts_by (Some element ∷ known) whole shaped zero =
          ap (λ (o : Option Placement). cons_option (part_with (element_by element) o) (filter_map (known_part seats elements) known)) (shape_by elements element)
          ∙ first_by element (filter_map (known_part seats elements) known) (element_shape elements element)
          (and_first (is_some (element_shape elements element)) (list_all (has_shape elements) known) shaped)
      parts_by (Some element ∷ known) whole shaped (suc k) =
          later_by element k (filter_map (known_part seats elements) known) (filter_map (known_part seats elements) (elements_by k known)) (element_shape elements element)
          (and_first (is_some (element_shape elements element)) (list_all (has_shape elements) known) shaped)
          (parts_by known whole (and_second (is_some (element_shape elements element)) (list_all (has_shape elements) known) shaped) k)

    -- ---- what lacks a disk

    module _ (members : List (ℕ × Member)) (seats : List Seat) where
      part_lack : (j : ℕ) (part : Option ElementValue) → part_lacks members seats j (option_map element_by part) ≡ part_lacks members seats j part
      part_lack j None = refl
      part_lack j (Some element) = remakes.lacks members seats element element.positions j

      absent_by : (known : List (Option ElementValue)) (e k j : ℕ) → absent_in members seats (elements_by e known) k j ≡ absent_in members seats known k j
      absent_by [] e k j = refl
      absent_by (part ∷ known) zero zero j = part_lack j part
      absent_by (part ∷ known) zero (suc k) j = refl
      absent_by (part ∷ known) (suc e) zero j = refl
      absent_by (part ∷ known) (suc e) (suc k) j = absent_by known e k j

    part_was : (part : Part) → IsPart (part_by part) → IsPart part
    part_was part is = record {
      shape_is = is.shape_is;
      has_places = sym (remakes.as_many_places part.places) ∙ is.has_places;
      ends = λ j place at slot on.
          let other = remakes.lies part.places j place at in
          let ends = is.ends j other.0 other.1 slot (other.3 ∙ on) in
          omega (arith, ends, other.2);
    }

    -- ---- the volume before

    pub record Was (members : List (ℕ × Member)) (seats : List Seat) (e : ℕ) (before after : Array) (v : Volume) : Type 0 where
      pub old : Volume
      pub over : IsOver seats before old
      pub is_volume : volume_by e old ≡ v
      pub same_absent : absent_in members seats before.elements ≡ absent_in members seats after.elements

    pub was : (members : List (ℕ × Member)) (seats : List Seat) (e : ℕ) (before after : Array) (v : Volume) → after.secondary ≡ before.secondary → is_marked after ≡ is_marked before
        → after.elements ≡ elements_by e before.elements → IsOver seats after v → Was members seats e before after v
    was members seats e before after v same_secondary same_mark elements_are over =
        let n = length before.elements in
        let count : length after.elements ≡ n = ap length elements_are ∙ changed_length (option_map element_by) e before.elements in
        let tiers : array_tiers after ≡ array_tiers before =
        ap (λ (m : ℕ). result_ok (tiers_of (if m == 1 then 0x00 else after.secondary) (filter_map (part_size m) after.elements))) count
        ∙ ap (λ (c : ℕ). result_ok (tiers_of (if n == 1 then 0x00 else c) (filter_map (part_size n) after.elements))) same_secondary
        ∙ ap (λ (l : List (Option ElementValue)). result_ok (tiers_of (if n == 1 then 0x00 else before.secondary) (filter_map (part_size n) l))) elements_are
        ∙ ap (λ (l : List ElementSize). result_ok (tiers_of (if n == 1 then 0x00 else before.secondary) l)) (sizes_by n before.elements e) in
        let whole : list_all (λ (part : Option ElementValue). is_some part) before.elements ≡ true =
        sym (whole_by before.elements e) ∙ ap (list_all (λ (part : Option ElementValue). is_some part)) (sym elements_are) ∙ over.complete in
        let shaped : list_all (has_shape n) before.elements ≡ true =
        sym (shapes_by n before.elements e) ∙ ap (list_all (has_shape n)) (sym elements_are) ∙ ap (λ (m : ℕ). list_all (has_shape m) after.elements) (sym count) ∙ over.shapes in
        let old : Volume = volume (is_marked before) v.tiers (parts_of seats before.elements) in
        let parts_are : v.parts ≡ changed_item part_by e (parts_of seats before.elements) =
        over.parts_are ∙ ap (λ (m : ℕ). filter_map (known_part seats m) after.elements) count ∙ ap (filter_map (known_part seats n)) elements_are
        ∙ parts_by seats n before.elements whole shaped e in
        let known : IsVolume old = record {
          array_is = over.is_volume.array_is;
          has_sizes = over.is_volume.has_sizes ∙ ap (map size_of) parts_are ∙ part_sizes (parts_of seats before.elements) e;
          are_parts = λ k part at. ⊎_elim
              (λ here. part_was part (over.is_volume.are_parts k (part_by part)
              (ap (λ (l : List Part). slice_get l k) parts_are ∙ ap (slice_get (changed_item part_by e (parts_of seats before.elements))) here
              ∙ changed_at part_by e (parts_of seats before.elements) part (ap (slice_get (parts_of seats before.elements)) (sym here) ∙ at))))
              (λ other. over.is_volume.are_parts k part (ap (λ (l : List Part). slice_get l k) parts_are ∙ unchanged_at part_by e (parts_of seats before.elements) k part other at)) (cases_eq k e);
        } in
        record {
          old = old;
          over = record { tiers_are = sym tiers ∙ over.tiers_are; parts_are = refl; marked_is = refl; is_volume = known; complete = whole; shapes = shaped };
          is_volume = ap (λ (l : List Part). volume (is_marked before) v.tiers l) (sym parts_are) ∙ ap (λ (b : Bool). volume b v.tiers v.parts) (sym same_mark ∙ sym over.marked_is);
          same_absent = fun_ext (λ k. fun_ext (λ j. sym (absent_by members seats before.elements e k j))) ∙ ap (absent_in members seats) (sym elements_are);
        }
