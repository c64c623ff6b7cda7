-- An array over fewer seats, or with fewer positions in sync, has fewer places.
use Rattle.std.proofs.Common.{◌≡◌, ◌∙◌, ◌⊎◌, inl, inr, ⊎_elim, ℕ, zero, suc, ◌+◌, ◌≤◌, ◌^◌, Bool, true, false, List, [], ◌∷◌, Option, Some, None, refl, sym, ap, subst, arith, map, filter_map, length, slice_get, ◌&&◌}
use Rattle.std.specs.Prelude.{nat_le, is_some, option_map, option_and_then, ◌==◌, if◌then◌else◌}
use Rattle.std.specs.Result.{result_ok}
use Rattle.std.specs.List.{cons_option, list_all}
use Rattle.std.proofs.lemmas.Bool.{leb-true}
use Rattle.ddf_lemmas.proofs.Options.{no_first_of_and_some}
use Rattle.ddf_primary.specs.Placement.{Placement}
use Rattle.ddf_primary.specs.Levels.{IsShape, shape_of}
use Rattle.ddf_secondary.specs.Arrangement.{tiers_of}
use Rattle.ddf_secondary.specs.declared.element.ElementSize.{ElementSize}
use Rattle.ddf_config.specs.declared.array.Array.{Array}
use Rattle.ddf_config.specs.declared.element.Position.{Position}
use Rattle.ddf_config.specs.declared.extent.Extent.{Extent}
use Rattle.ddf_config.specs.declared.member.Member.{Member}
use Rattle.ddf_config.specs.declared.seat.Seat.{Seat}
use Rattle.ddf_config.specs.ElementValue.{ElementValue}
use Rattle.ddf_config.specs.Extents.{extent}
use Rattle.ddf_config.specs.Seats.{floor_of, slot_of}
use Rattle.ddf_config.specs.Shapes.{array_tiers, element_shape, has_shape, part_size, secondary_level, shape_size, has_no_strips}
use Rattle.ddf_config.specs.States.{is_marked}
use Rattle.ddf_array.specs.declared.place.Place.{Place}
use Rattle.ddf_array.specs.declared.part.Part.{Part}
use Rattle.ddf_array.specs.Losing.{AreFewer}
use Rattle.ddf_array.specs.Places.{Ends}
use Rattle.ddf_array.specs.Viewing.{known_part, parts_of, place_of, seat_slot}
use Rattle.ddf_array.specs.Volume.{Volume, volume, size_of}
use Rattle.ddf_array.proofs.Shapes.{blocks_are}
use Rattle.ddf_data_array.specs.Fewer.{IsFewerPlace, ArePlaces, AreFewerParts, IsFewer}
use Rattle.ddf_data_array.proofs.Fewer.{same_count}
use Rattle.ddf_data_group.specs.Over.{AreCurrentSeats, IsOver}
use Rattle.ddf_data_group.specs.Lessening.{IsLessPosition, AreLessPositions, IsLessElement, IsLessPart, AreLessParts, IsLessArray}

-- ---- places

no_slot : (synced : Bool) (slot : Option ℕ) → slot ≡ None → (synced && is_some slot) ≡ false
no_slot true None e = refl
no_slot true (Some s) e = absurd (cc)
no_slot false slot e = refl

module _ (seats fewer : List Seat) (few : AreFewer seats fewer) where
  pub slot_lost : (one : Extent) → (seat_slot fewer one ≡ seat_slot seats one) ⊎ (seat_slot fewer one ≡ None)
  slot_lost one =
      let end = one.start + one.blocks in
      let slot = slot_of fewer one.reference in
      ⊎_elim
      (λ none. inr (ap (λ (f : Option ℕ). elim f [ None ↦ None | Some floor ↦ if nat_le end floor then Some slot else None ]) none))
      (λ same. inl
      (ap (λ (f : Option ℕ). elim f [ None ↦ None | Some floor ↦ if nat_le end floor then Some slot else None ]) same.0
      ∙ ap (λ (s : ℕ). elim (floor_of seats one.reference) [ None ↦ None | Some floor ↦ if nat_le end floor then Some s else None ]) same.1))
      (few one.reference)

  pub extent_same : (blocks blocks' : ℕ) (before after : Position) → blocks' ≡ blocks → after.reference ≡ before.reference → after.start ≡ before.start → extent blocks' after ≡ extent blocks before
  extent_same blocks blocks' before after b r s =
      ap (λ (n : ℕ). record { reference = n; start = after.start; blocks = blocks' }) r
      ∙ ap (λ (n : ℕ). record { reference = before.reference; start = n; blocks = blocks' }) s
      ∙ ap (λ (n : ℕ). record { reference = before.reference; start = before.start; blocks = n }) b

  place_less : (blocks blocks' : ℕ) → blocks' ≡ blocks → (before after : Position) → IsLessPosition before after → IsFewerPlace (place_of seats blocks before) (place_of fewer blocks' after)
  place_less blocks blocks' b before after less =
      ⊎_elim
      (λ out. inl (no_first_of_and_some after.synced (seat_slot fewer (extent blocks' after)) out.0))
      (λ same.
      let one = extent_same blocks blocks' before after b same.1 same.2 in
      ⊎_elim
      (λ stays. inr (same.0, same.2, ap (seat_slot fewer) one ∙ stays))
      (λ none. inl (no_slot after.synced (seat_slot fewer (extent blocks' after)) (ap (seat_slot fewer) one ∙ none)))
      (slot_lost (extent blocks before)))
      less

  places_less : (blocks blocks' : ℕ) → blocks' ≡ blocks → (befores afters : List Position) → AreLessPositions befores afters
      → ArePlaces IsFewerPlace (map (place_of seats blocks) befores) (map (place_of fewer blocks') afters)
  places_less blocks blocks' b [] [] less = tt
  places_less blocks blocks' b [] (after ∷ afters) less = absurd less
  places_less blocks blocks' b (before ∷ befores) [] less = absurd less
  places_less blocks blocks' b (before ∷ befores) (after ∷ afters) less = (place_less blocks blocks' b before after less.0, places_less blocks blocks' b befores afters less.1)

-- ---- shapes

pub less_count : (befores afters : List Position) → AreLessPositions befores afters → length afters ≡ length befores
less_count [] [] less = refl
less_count [] (after ∷ afters) less = absurd less
less_count (before ∷ befores) [] less = absurd less
less_count (before ∷ befores) (after ∷ afters) less = ap suc (less_count befores afters less.1)

pub shape_same : (elements : ℕ) (before after : ElementValue) → IsLessElement before after → element_shape elements after ≡ element_shape elements before
shape_same elements before after less =
    ap (λ (n : ℕ). option_and_then (λ strip. result_ok (shape_of after.level after.qualifier n strip after.blocks)) (strip_of after.strip after.level)) (less_count before.positions after.positions less.less)
    ∙ ap (λ (n : ℕ). option_and_then (λ strip. result_ok (shape_of n after.qualifier (length before.positions) strip after.blocks)) (strip_of after.strip n)) less.same_level
    ∙ ap (λ (n : ℕ). option_and_then (λ strip. result_ok (shape_of before.level n (length before.positions) strip after.blocks)) (strip_of after.strip before.level)) less.same_qualifier
    ∙ ap (λ (n : ℕ). option_and_then (λ strip. result_ok (shape_of before.level before.qualifier (length before.positions) strip after.blocks)) (strip_of n before.level)) less.same_strip
    ∙ ap (λ (n : ℕ). option_and_then (λ strip. result_ok (shape_of before.level before.qualifier (length before.positions) strip n)) (strip_of before.strip before.level)) less.same_blocks
  where
    strip_of : ℕ → ℕ → Option ℕ
    strip_of code level = if nat_le code 31 then Some (2 ^ code) else (if elements == 1 && has_no_strips level then Some 1 else None)

pub parts_count : (befores afters : List (Option ElementValue)) → AreLessParts befores afters → length afters ≡ length befores
parts_count [] [] less = refl
parts_count [] (after ∷ afters) less = absurd less
parts_count (before ∷ befores) [] less = absurd less
parts_count (before ∷ befores) (after ∷ afters) less = ap suc (parts_count befores afters less.1)

size_same : (elements : ℕ) (before after : Option ElementValue) → IsLessPart before after → part_size elements after ≡ part_size elements before
size_same elements None None less = refl
size_same elements None (Some after) less = absurd less
size_same elements (Some before) None less = absurd less
size_same elements (Some before) (Some after) less = ap (option_map shape_size) (shape_same elements before after less)

sizes_same : (elements : ℕ) (befores afters : List (Option ElementValue)) → AreLessParts befores afters → filter_map (part_size elements) afters ≡ filter_map (part_size elements) befores
sizes_same elements [] [] less = refl
sizes_same elements [] (after ∷ afters) less = absurd less
sizes_same elements (before ∷ befores) [] less = absurd less
sizes_same elements (before ∷ befores) (after ∷ afters) less =
    ap (λ (o : Option ElementSize). cons_option o (filter_map (part_size elements) afters)) (size_same elements before after less.0)
    ∙ ap (cons_option (part_size elements before)) (sizes_same elements befores afters less.1)

pub tiers_same : (before after : Array) → IsLessArray before after → array_tiers after ≡ array_tiers before
tiers_same before after less =
    let count = parts_count before.elements after.elements less.less in
    ap (λ (n : ℕ). result_ok (tiers_of (if n == 1 then 0x00 else after.secondary) (filter_map (part_size n) after.elements))) count
    ∙ ap (λ (n : ℕ). result_ok (tiers_of (if length before.elements == 1 then 0x00 else n) (filter_map (part_size (length before.elements)) after.elements))) less.same_secondary
    ∙ ap (λ (l : List ElementSize). result_ok (tiers_of (secondary_level before) l)) (sizes_same (length before.elements) before.elements after.elements less.less)

complete_same : (befores afters : List (Option ElementValue)) → AreLessParts befores afters → list_all (λ (part : Option ElementValue). is_some part) afters ≡ list_all (λ (part : Option ElementValue). is_some part) befores
complete_same [] [] less = refl
complete_same [] (after ∷ afters) less = absurd less
complete_same (before ∷ befores) [] less = absurd less
complete_same (None ∷ befores) (None ∷ afters) less = refl
complete_same (None ∷ befores) (Some after ∷ afters) less = absurd less.0
complete_same (Some before ∷ befores) (None ∷ afters) less = absurd less.0
complete_same (Some before ∷ befores) (Some after ∷ afters) less = complete_same befores afters less.1

has_same : (elements : ℕ) (before after : Option ElementValue) → IsLessPart before after → has_shape elements after ≡ has_shape elements before
has_same elements None None less = refl
has_same elements None (Some after) less = absurd less
has_same elements (Some before) None less = absurd less
has_same elements (Some before) (Some after) less = ap is_some (shape_same elements before after less)

shapes_same : (elements : ℕ) (befores afters : List (Option ElementValue)) → AreLessParts befores afters → list_all (has_shape elements) afters ≡ list_all (has_shape elements) befores
shapes_same elements [] [] less = refl
shapes_same elements [] (after ∷ afters) less = absurd less
shapes_same elements (before ∷ befores) [] less = absurd less
shapes_same elements (before ∷ befores) (after ∷ afters) less =
    ap (λ b. b && list_all (has_shape elements) afters) (has_same elements before after less.0)
    ∙ ap (λ b. has_shape elements before && b) (shapes_same elements befores afters less.1)

-- ---- elements over the seats

module _ (seats fewer : List Seat) (few : AreFewer seats fewer) where
  part_less : (before after : ElementValue) → IsLessElement before after → (found found' : Option Placement) → found' ≡ found → (befores afters : List Part) → AreFewerParts befores afters
      → AreFewerParts
      (cons_option (option_map (λ (shape : Placement). record { shape = shape; places = map (place_of seats before.blocks) before.positions }) found) befores)
      (cons_option (option_map (λ (shape : Placement). record { shape = shape; places = map (place_of fewer after.blocks) after.positions }) found') afters)
  part_less before after less None None same befores afters rest = rest
  part_less before after less None (Some s) same befores afters rest = absurd (cc)
  part_less before after less (Some s) None same befores afters rest = absurd (cc)
  part_less before after less (Some s) (Some s') same befores afters rest =
      let shapes : s' ≡ s = cc in
      ((shapes, places_less seats fewer few before.blocks after.blocks less.same_blocks before.positions after.positions less.less), rest)

  pub parts_less : (elements : ℕ) (befores afters : List (Option ElementValue)) → AreLessParts befores afters
      → AreFewerParts (filter_map (known_part seats elements) befores) (filter_map (known_part fewer elements) afters)
  parts_less elements [] [] less = tt
  parts_less elements [] (after ∷ afters) less = absurd less
  parts_less elements (before ∷ befores) [] less = absurd less
  parts_less elements (None ∷ befores) (None ∷ afters) less = parts_less elements befores afters less.1
  parts_less elements (None ∷ befores) (Some after ∷ afters) less = absurd less.0
  parts_less elements (Some before ∷ befores) (None ∷ afters) less = absurd less.0
  parts_less elements (Some before ∷ befores) (Some after ∷ afters) less =
      part_less before after less.0 (element_shape elements before) (element_shape elements after) (shape_same elements before after less.0) _ _ (parts_less elements befores afters less.1)

-- ---- a volume

sizes_of : (befores afters : List Part) → AreFewerParts befores afters → map size_of befores ≡ map size_of afters
sizes_of [] [] fewer = refl
sizes_of [] (after ∷ afters) fewer = absurd fewer
sizes_of (before ∷ befores) [] fewer = absurd fewer
sizes_of (before ∷ befores) (after ∷ afters) fewer = ap (λ (s : Placement). shape_size s ∷ map size_of befores) (sym fewer.0.0) ∙ ap (λ l. size_of after ∷ l) (sizes_of befores afters fewer.1)

-- the part that stands at the same place
pub record HasAfter (afters : List Part) (element : ℕ) (before : Part) : Type 0 where
  pub after : Part
  pub is_part : slice_get afters element ≡ Some after
  pub same_shape : after.shape ≡ before.shape
  pub same_count : length after.places ≡ length before.places

pub part_after : (befores afters : List Part) → AreFewerParts befores afters → (element : ℕ) (before : Part) → slice_get befores element ≡ Some before → HasAfter afters element before
part_after [] [] fewer element before at = absurd (cc)
part_after [] (a ∷ afters) fewer element before at = absurd fewer
part_after (b ∷ befores) [] fewer element before at = absurd fewer
part_after (b ∷ befores) (a ∷ afters) fewer zero before at =
    let same : b ≡ before = cc in
    subst (HasAfter (a ∷ afters) zero) same (record { after = a; is_part = refl; same_shape = fewer.0.0; same_count = same_count IsFewerPlace b.places a.places fewer.0.1 })
part_after (b ∷ befores) (a ∷ afters) fewer (suc element) before at =
    let rest = part_after befores afters fewer.1 element before at in
    record { after = rest.after; is_part = rest.is_part; same_shape = rest.same_shape; same_count = rest.same_count }

-- an extent with a slot ends at its floor
pub slot_ends : (seats : List Seat) (one : Extent) (slot : ℕ) → seat_slot seats one ≡ Some slot → (floor : ℕ) × (floor_of seats one.reference ≡ Some floor) × (one.start + one.blocks ≤ floor)
slot_ends seats one slot e = by (floor_of seats one.reference) refl e
  where
    at_floor : (floor : ℕ) (b : Bool) → nat_le (one.start + one.blocks) floor ≡ b → ◌≡◌ {A = Option ℕ} (if b then Some (slot_of seats one.reference) else None) (Some slot) → one.start + one.blocks ≤ floor
    at_floor floor true is e = leb-true (one.start + one.blocks) floor is
    at_floor floor false is e = absurd (cc)

    by : (found : Option ℕ) → floor_of seats one.reference ≡ found
        → ◌≡◌ {A = Option ℕ} (elim found [ None ↦ None | Some floor ↦ if nat_le (one.start + one.blocks) floor then Some (slot_of seats one.reference) else None ]) (Some slot)
        → (floor : ℕ) × (floor_of seats one.reference ≡ Some floor) × (one.start + one.blocks ≤ floor)
    by None is e = absurd (cc)
    by (Some floor) is e = (floor, is, at_floor floor (nat_le (one.start + one.blocks) floor) refl e)

module _ (members : List (ℕ × Member)) (seats : List Seat) (are : AreCurrentSeats members seats) where
  ends_of : (blocks : ℕ) (positions : List Position) (k : ℕ) (place : Place) → slice_get (map (place_of seats blocks) positions) k ≡ Some place → Ends place blocks
  ends_of blocks [] k place at = absurd (cc)
  ends_of blocks (position ∷ positions) zero place at =
      let same : place_of seats blocks position ≡ place = cc in
      subst (λ (x : Place). Ends x blocks) same (λ slot there.
      let end = slot_ends seats (extent blocks position) slot there in omega (arith, end.2, are.small position.reference end.0 end.1))
  ends_of blocks (position ∷ positions) (suc k) place at = ends_of blocks positions k place at

  ends_by : (elements : ℕ) (element : ElementValue) (found : Option Placement) → element_shape elements element ≡ found → (rest : List Part)
      → ((k : ℕ) (part : Part) → slice_get rest k ≡ Some part → (position : ℕ) (place : Place) → slice_get part.places position ≡ Some place → Ends place part.shape.blocks)
      → (k : ℕ) (part : Part) → slice_get (cons_option (option_map (λ (shape : Placement). record { shape = shape; places = map (place_of seats element.blocks) element.positions }) found) rest) k ≡ Some part
      → (position : ℕ) (place : Place) → slice_get part.places position ≡ Some place → Ends place part.shape.blocks
  ends_by elements element None is rest later k part at = later k part at
  ends_by elements element (Some shape) is rest later zero part at =
      let same : record { shape = shape; places = map (place_of seats element.blocks) element.positions } ≡ part = cc in
      subst (λ (x : Part). (position : ℕ) (place : Place) → slice_get x.places position ≡ Some place → Ends place x.shape.blocks) same
      (λ position place there. subst (λ (n : ℕ). Ends place n) (sym (blocks_are elements element shape is)) (ends_of element.blocks element.positions position place there))
  ends_by elements element (Some shape) is rest later (suc k) part at = later k part at

  pub all_end : (elements : ℕ) (known : List (Option ElementValue)) (k : ℕ) (part : Part) → slice_get (filter_map (known_part seats elements) known) k ≡ Some part
      → (position : ℕ) (place : Place) → slice_get part.places position ≡ Some place → Ends place part.shape.blocks
  all_end elements [] k part at = absurd (cc)
  all_end elements (None ∷ known) k part at = all_end elements known k part at
  all_end elements (Some element ∷ known) k part at = ends_by elements element (element_shape elements element) refl _ (all_end elements known) k part at

pub lessened : (members : List (ℕ × Member)) (seats fewer : List Seat) (before after : Array) (v : Volume) → AreCurrentSeats members seats → AreFewer seats fewer → IsLessArray before after → IsOver fewer after v
    → (old : Volume) × IsOver seats before old × IsFewer old v
lessened members seats fewer before after v are few less over =
    let count = parts_count before.elements after.elements less.less in
    let old : Volume = volume (is_marked before) v.tiers (parts_of seats before.elements) in
    let fewer_parts : AreFewerParts (parts_of seats before.elements) v.parts =
    subst (AreFewerParts (parts_of seats before.elements)) (ap (λ (n : ℕ). filter_map (known_part fewer n) after.elements) (sym count) ∙ sym over.parts_are)
    (parts_less seats fewer few (length before.elements) before.elements after.elements less.less) in (
      old,
      record {
        tiers_are = sym (tiers_same before after less) ∙ over.tiers_are;
        parts_are = refl;
        marked_is = refl;
        is_volume = record {
          array_is = over.is_volume.array_is;
          has_sizes = over.is_volume.has_sizes ∙ sym (sizes_of (parts_of seats before.elements) v.parts fewer_parts);
          are_parts = λ element part at.
              let there = part_after (parts_of seats before.elements) v.parts fewer_parts element part at in
              let facts = over.is_volume.are_parts element there.after there.is_part in
              record {
                shape_is = subst IsShape there.same_shape facts.shape_is;
                has_places = sym there.same_count ∙ facts.has_places ∙ ap (λ (s : Placement). s.members) there.same_shape;
                ends = all_end members seats are (length before.elements) before.elements element part at;
              };
        };
        complete = sym (complete_same before.elements after.elements less.less) ∙ over.complete;
        shapes = sym (shapes_same (length before.elements) before.elements after.elements less.less) ∙ ap (λ (n : ℕ). list_all (has_shape n) after.elements) (sym count) ∙ over.shapes;
      },
      record {
        mark_is = ⊎_elim (λ marked. inl (over.marked_is ∙ marked)) (λ same. inr (over.marked_is ∙ same)) less.mark_is;
        same_tiers = refl;
        fewer_parts = fewer_parts;
      },
    )
