-- Arrays whose places lie where they lay: with a position in sync, or with rows that count.
use Rattle.std.proofs.Common.{◌≡◌, ◌∙◌, inl, inr, ⊎_elim, ℕ, zero, suc, true, false, List, [], ◌∷◌, Some, refl, sym, ap, subst, arith, map, length, slice_get}
use Rattle.ddf_lemmas.proofs.Options.{no_first_of_and_some}
use Rattle.ddf_primary.specs.Placement.{Placement}
use Rattle.ddf_primary.specs.Levels.{IsShape}
use Rattle.ddf_config.specs.Shapes.{shape_size}
use Rattle.ddf_array.specs.declared.part.Part.{Part}
use Rattle.ddf_array.specs.declared.place.Place.{Place}
use Rattle.ddf_array.specs.Apart.{IsApart, Overlaps}
use Rattle.ddf_array.specs.Volume.{IsPart, IsVolume, Volume, size_of}
use Rattle.ddf_array.specs.Within.{is_within}
use Rattle.ddf_rebuild.specs.Target.{IsOut}
use Rattle.ddf_data_array.specs.Changing.{changed_item, in_sync, noted, part_in_sync, part_noted, place_in_sync, place_noted}
use Rattle.ddf_data_array.specs.Fewer.{AreFewerParts, ArePlaces, IsFewerPlace}
use Rattle.ddf_data_array.proofs.Fewer.{was_within}
use Rattle.ddf_data_array.proofs.Items.{changed_cases, changed_length}
use Rattle.ddf_data_array.proofs.Noted.{all_itself}
use Rattle.ddf_uncut_data.proofs.Whole.{same_places}

-- a place lies where it lay, by the places before
pub record LayThere (befores : List Place) (position : ℕ) (after : Place) : Type 0 where
  pub was : Place
  pub is_was : slice_get befores position ≡ Some was
  pub same_slot : after.slot ≡ was.slot
  pub same_start : after.start ≡ was.start

-- so do all places of an element, by the elements before
pub record WasThere (befores : List Part) (element : ℕ) (after : Part) : Type 0 where
  pub was : Part
  pub is_was : slice_get befores element ≡ Some was
  pub same_shape : after.shape ≡ was.shape
  pub same_count : length after.places ≡ length was.places
  pub lay : (position : ℕ) (place : Place) → slice_get after.places position ≡ Some place → LayThere was.places position place

-- ---- extents that lie apart, and numbers that make an array

module _ (befores afters : List Part) (were : (element : ℕ) (part : Part) → slice_get afters element ≡ Some part → WasThere befores element part) where
  blocks_of : (element : ℕ) (part : Part) (at : slice_get afters element ≡ Some part) → part.shape.blocks ≡ (were element part at).was.shape.blocks
  blocks_of element part at = ap (λ (shape : Placement). shape.blocks) (were element part at).same_shape

  pub ends_there : (element : ℕ) (part : Part) → (at : slice_get afters element ≡ Some part) → IsPart (were element part at).was → IsPart part
  ends_there element part at known =
      let there = were element part at in
      record {
        shape_is = subst (λ (shape : Placement). IsShape shape) (sym there.same_shape) known.shape_is;
        has_places = there.same_count ∙ known.has_places ∙ ap (λ (shape : Placement). shape.members) (sym there.same_shape);
        ends = λ position place is_place slot on.
            let lay = there.lay position place is_place in
            let ends = known.ends position lay.was lay.is_was slot (sym lay.same_slot ∙ on) in
            omega (arith, ends, lay.same_start, blocks_of element part at);
      }

  overlaps_there : (element position other_element other_position : ℕ) (one other : Part) (first second : Place)
      → (one_at : slice_get afters element ≡ Some one) (first_at : slice_get one.places position ≡ Some first) (other_at : slice_get afters other_element ≡ Some other) (second_at : slice_get other.places other_position ≡ Some second)
      → Overlaps one other first second
      → Overlaps (were element one one_at).was (were other_element other other_at).was ((were element one one_at).lay position first first_at).was ((were other_element other other_at).lay other_position second second_at).was
  overlaps_there element position other_element other_position one other first second one_at first_at other_at second_at meets =
      let a = (were element one one_at).lay position first first_at in
      let b = (were other_element other other_at).lay other_position second second_at in
      record {
        slot = meets.slot;
        on_one = sym a.same_slot ∙ meets.on_one;
        on_other = sym b.same_slot ∙ meets.on_other;
        lba = meets.lba;
        from_one = omega (arith, meets.from_one, a.same_start);
        in_one = omega (arith, meets.in_one, a.same_start, blocks_of element one one_at);
        from_other = omega (arith, meets.from_other, b.same_start);
        in_other = omega (arith, meets.in_other, b.same_start, blocks_of other_element other other_at);
      }

pub apart_there : (before after : Volume) → ((element : ℕ) (part : Part) → slice_get after.parts element ≡ Some part → WasThere before.parts element part) → IsApart before → IsApart after
apart_there before after were apart element position other_element other_position one other first second one_at first_at other_at second_at meets =
    let a = were element one one_at in
    let b = were other_element other other_at in
    let c = a.lay position first first_at in
    let d = b.lay other_position second second_at in
    apart element position other_element other_position a.was b.was c.was d.was a.is_was c.is_was b.is_was d.is_was
    (overlaps_there before.parts after.parts were element position other_element other_position one other first second one_at first_at other_at second_at meets)

same_sizes : (f : Part → Part) → ((part : Part) → (f part).shape ≡ part.shape) → (element : ℕ) (parts : List Part) → map size_of (changed_item f element parts) ≡ map size_of parts
same_sizes f same element [] = refl
same_sizes f same zero (part ∷ parts) = ap (λ (shape : Placement). shape_size shape ∷ map size_of parts) (same part)
same_sizes f same (suc element) (part ∷ parts) = ap (λ l. size_of part ∷ l) (same_sizes f same element parts)

-- ---- an element changed

module _ (f : Part → Part) (keeps_shape : (part : Part) → (f part).shape ≡ part.shape) (keeps_count : (part : Part) → length (f part).places ≡ length part.places)
    (keeps_ground : (part : Part) (position : ℕ) (place : Place) → slice_get (f part).places position ≡ Some place → LayThere part.places position place) (v : Volume) (element : ℕ) where
  abbrev pub changed : Volume
  changed = record v { parts = changed_item f element v.parts }

  pub changed_was : (k : ℕ) (part : Part) → slice_get changed.parts k ≡ Some part → WasThere v.parts k part
  changed_was k part at = ⊎_elim
      (λ is. subst (λ (new : Part). WasThere v.parts k new) (sym is.is_changed) (record {
        was = is.item;
        is_was = is.is_item;
        same_shape = keeps_shape is.item;
        same_count = keeps_count is.item;
        lay = λ position place place_at. keeps_ground is.item position place place_at;
      }))
      (λ other. record {
        was = part;
        is_was = other.1;
        same_shape = refl;
        same_count = refl;
        lay = λ position place place_at. record { was = place; is_was = place_at; same_slot = refl; same_start = refl };
      })
      (changed_cases f element v.parts k part at)

  pub changed_volume : IsVolume v → IsVolume changed
  changed_volume known = record {
    array_is = known.array_is;
    has_sizes = known.has_sizes ∙ sym (same_sizes f keeps_shape element v.parts);
    are_parts = λ k part at. ends_there v.parts changed.parts changed_was k part at (known.are_parts k (changed_was k part at).was (changed_was k part at).is_was);
  }

  pub changed_apart : IsApart v → IsApart changed
  changed_apart apart = apart_there v changed changed_was apart

-- ---- a position in sync

synced_ground : (position : ℕ) (part : Part) (k : ℕ) (place : Place) → slice_get (part_in_sync position part).places k ≡ Some place → LayThere part.places k place
synced_ground position part k place at = ⊎_elim
    (λ is. subst (LayThere part.places k) (sym is.is_changed) (record { was = is.item; is_was = is.is_item; same_slot = refl; same_start = refl }))
    (λ other. record { was = place; is_was = other.1; same_slot = refl; same_start = refl })
    (changed_cases place_in_sync position part.places k place at)

pub synced_volume : (v : Volume) (element position : ℕ) → IsVolume v → IsVolume (in_sync element position v)
synced_volume v element position known =
    changed_volume (part_in_sync position) (λ part. refl) (λ part. changed_length place_in_sync position part.places) (synced_ground position) v element known

pub synced_apart : (v : Volume) (element position : ℕ) → IsApart v → IsApart (in_sync element position v)
synced_apart v element position apart =
    changed_apart (part_in_sync position) (λ part. refl) (λ part. changed_length place_in_sync position part.places) (synced_ground position) v element apart

-- without it fewer places are available

fewer_places : (position : ℕ) (places : List Place) (own : Place) → slice_get places position ≡ Some own → own.synced ≡ false → ArePlaces IsFewerPlace (changed_item place_in_sync position places) places
fewer_places position [] own at out = tt
fewer_places zero (place ∷ places) own at out =
    let same : place ≡ own = cc in
    (inl (no_first_of_and_some place.synced place.slot (ap (λ (x : Place). x.synced) same ∙ out)), same_places places)
fewer_places (suc position) (place ∷ places) own at out = (inr (refl, refl, refl), fewer_places position places own at out)

fewer_parts : (position element : ℕ) (parts : List Part) (part : Part) (own : Place) → slice_get parts element ≡ Some part → slice_get part.places position ≡ Some own → own.synced ≡ false
    → AreFewerParts (changed_item (part_in_sync position) element parts) parts
fewer_parts position element [] part own part_at at out = tt
fewer_parts position zero (one ∷ parts) part own part_at at out =
    let same : one ≡ part = cc in
    ((refl, fewer_places position one.places own (ap (λ (x : Part). slice_get x.places position) same ∙ at) out), all_itself parts)
fewer_parts position (suc element) (one ∷ parts) part own part_at at out = ((refl, same_places one.places), fewer_parts position element parts part own part_at at out)

pub synced_within : (v : Volume) (element position : ℕ) → IsOut v element position → is_within v ≡ true → is_within (in_sync element position v) ≡ true
synced_within v element position target within =
    was_within (in_sync element position v) v (record {
      mark_is = inr refl;
      same_tiers = refl;
      fewer_parts = fewer_parts position element v.parts target.part target.place target.is_target.is_part target.is_target.is_place target.is_target.is_out;
    }) within

-- ---- rows that count

noted_place : (row : ℕ) (k : ℕ) (places : List Place) (place : Place) → slice_get (map (place_noted row) places) k ≡ Some place → LayThere places k place
noted_place row k [] place at = absurd (cc)
noted_place row zero (one ∷ places) place at =
    let same : place_noted row one ≡ place = cc in
    subst (LayThere (one ∷ places) 0) same (record { was = one; is_was = refl; same_slot = refl; same_start = refl })
noted_place row (suc k) (one ∷ places) place at =
    let lay = noted_place row k places place at in record { was = lay.was; is_was = lay.is_was; same_slot = lay.same_slot; same_start = lay.same_start }

noted_ground : (position row : ℕ) (part : Part) (k : ℕ) (place : Place) → slice_get (part_noted position row part).places k ≡ Some place → LayThere part.places k place
noted_ground position row part k place at = ⊎_elim
    (λ is.
    let lay = noted_place 0 k part.places is.item is.is_item in
    subst (LayThere part.places k) (sym is.is_changed) (record { was = lay.was; is_was = lay.is_was; same_slot = lay.same_slot; same_start = lay.same_start }))
    (λ other. noted_place 0 k part.places place other.1)
    (changed_cases (place_noted row) position (map (place_noted 0) part.places) k place at)

noted_count : (position row : ℕ) (part : Part) → length (part_noted position row part).places ≡ length part.places
noted_count position row part = changed_length (place_noted row) position (map (place_noted 0) part.places) ∙ mapped part.places
  where
    mapped : (places : List Place) → length (map (place_noted 0) places) ≡ length places
    mapped [] = refl
    mapped (place ∷ places) = ap suc (mapped places)

pub noted_volume : (v : Volume) (element position row : ℕ) → IsVolume v → IsVolume (noted element position row v)
noted_volume v element position row known = changed_volume (part_noted position row) (λ part. refl) (noted_count position row) (noted_ground position row) v element known

pub noted_apart : (v : Volume) (element position row : ℕ) → IsApart v → IsApart (noted element position row v)
noted_apart v element position row apart = changed_apart (part_noted position row) (λ part. refl) (noted_count position row) (noted_ground position row) v element apart

before_rest : (places : List Place) → ArePlaces IsFewerPlace (map (place_noted 0) places) places
before_rest [] = tt
before_rest (place ∷ places) = (inr (refl, refl, refl), before_rest places)

before_places : (row position : ℕ) (places : List Place) → ArePlaces IsFewerPlace (changed_item (place_noted row) position (map (place_noted 0) places)) places
before_places row position [] = tt
before_places row zero (place ∷ places) = (inr (refl, refl, refl), before_rest places)
before_places row (suc position) (place ∷ places) = (inr (refl, refl, refl), before_places row position places)

before_parts : (position row element : ℕ) (parts : List Part) → AreFewerParts (changed_item (part_noted position row) element parts) parts
before_parts position row element [] = tt
before_parts position row zero (part ∷ parts) = ((refl, before_places row position part.places), all_itself parts)
before_parts position row (suc element) (part ∷ parts) = ((refl, same_places part.places), before_parts position row element parts)

pub noted_within : (v : Volume) (element position row : ℕ) → is_within v ≡ true → is_within (noted element position row v) ≡ true
noted_within v element position row within =
    was_within (noted element position row v) v (record { mark_is = inr refl; same_tiers = refl; fewer_parts = before_parts position row element v.parts }) within
