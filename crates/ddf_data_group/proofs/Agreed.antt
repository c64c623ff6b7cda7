-- An array rests on its own members and their seats alone.
use Rattle.std.proofs.Common.{◌≡◌, ◌∙◌, ℕ, suc, ◌+◌, Bool, false, List, [], ◌∷◌, Option, Some, None, refl, sym, ap, subst, map, filter_map, length, slice_get, ◌&&◌}
use Rattle.std.proofs.Math.Path.{fun_ext}
use Rattle.std.specs.Prelude.{is_none, nat_le, option_map, if◌then◌else◌}
use Rattle.std.specs.List.{cons_option}
use Rattle.ddf_lemmas.proofs.Lists.{map_alike}
use Rattle.ddf_bay.specs.Sectors.{Image}
use Rattle.ddf_primary.specs.Placement.{Placement}
use Rattle.ddf_config.specs.declared.array.Array.{Array}
use Rattle.ddf_config.specs.declared.element.Position.{Position}
use Rattle.ddf_config.specs.declared.extent.Extent.{Extent}
use Rattle.ddf_config.specs.declared.member.Member.{Member}
use Rattle.ddf_config.specs.declared.seat.Seat.{Seat}
use Rattle.ddf_config.specs.ElementValue.{ElementValue}
use Rattle.ddf_config.specs.Extents.{extent}
use Rattle.ddf_config.specs.Members.{is_current}
use Rattle.ddf_config.specs.Seats.{floor_of, slot_of}
use Rattle.ddf_config.specs.Shapes.{element_shape}
use Rattle.ddf_array.specs.declared.place.Place.{Place}
use Rattle.ddf_array.specs.Viewing.{known_part, place_of, seat_slot}
use Rattle.ddf_data_array.specs.Allowed.{Allowed}
use Rattle.ddf_data_array.specs.Kept.{IsKeptData}
use Rattle.ddf_data_group.specs.Agreeing.{AgreeOn}
use Rattle.ddf_data_group.specs.Kept.{KeepsArray}
use Rattle.ddf_data_group.specs.Over.{IsOver, lacks_disk, part_lacks}

module _ (seats other : List Seat) where
  slot_agrees : (one : Extent) → floor_of other one.reference ≡ floor_of seats one.reference → slot_of other one.reference ≡ slot_of seats one.reference → seat_slot other one ≡ seat_slot seats one
  slot_agrees one floors slots =
      ap (λ (f : Option ℕ). elim f [ None ↦ None | Some floor ↦ if nat_le (one.start + one.blocks) floor then Some (slot_of other one.reference) else None ]) floors
      ∙ ap (λ (s : ℕ). elim (floor_of seats one.reference) [ None ↦ None | Some floor ↦ if nat_le (one.start + one.blocks) floor then Some s else None ]) slots

  place_agrees : (blocks : ℕ) (position : Position) → seat_slot other (extent blocks position) ≡ seat_slot seats (extent blocks position) → place_of other blocks position ≡ place_of seats blocks position
  place_agrees blocks position same = ap (λ (o : Option ℕ). record { slot = o; start = position.start; synced = position.synced; row = position.row }) same

  parts_agree : (n : ℕ) (elements : List (Option ElementValue))
      → ((k j : ℕ) (element : ElementValue) (position : Position) → slice_get elements k ≡ Some (Some element) → slice_get element.positions j ≡ Some position
      → seat_slot other (extent element.blocks position) ≡ seat_slot seats (extent element.blocks position))
      → filter_map (known_part other n) elements ≡ filter_map (known_part seats n) elements
  parts_agree n [] same = refl
  parts_agree n (None ∷ elements) same = parts_agree n elements (λ k j element position at there. same (suc k) j element position at there)
  parts_agree n (Some element ∷ elements) same =
      ap (λ (l : List Place). cons_option (option_map (λ (shape : Placement). record { shape = shape; places = l }) (element_shape n element)) (filter_map (known_part other n) elements))
      (map_alike (place_of other element.blocks) (place_of seats element.blocks) element.positions (λ j position at. place_agrees element.blocks position (same 0 j element position refl at)))
      ∙ ap (cons_option (option_map (λ (shape : Placement). record { shape = shape; places = map (place_of seats element.blocks) element.positions }) (element_shape n element)))
      (parts_agree n elements (λ k j element position at there. same (suc k) j element position at there))

pub agreed : (members after_members : List (ℕ × Member)) (seats other : List Seat) (array : Array) (image : Image) (allowed : Allowed) → AgreeOn array.elements members after_members seats other
    → KeepsArray members seats array image allowed → KeepsArray after_members other array image allowed
agreed members after_members seats other array image allowed agree kept v over =
    let slots : (k j : ℕ) (element : ElementValue) (position : Position) → slice_get array.elements k ≡ Some (Some element) → slice_get element.positions j ≡ Some position
    → seat_slot other (extent element.blocks position) ≡ seat_slot seats (extent element.blocks position) =
    λ k j element position at there. slot_agrees seats other (extent element.blocks position) (agree.same_floors k j element position at there) (agree.same_slots k j element position at there) in
    let old : IsOver seats array v = record {
      tiers_are = over.tiers_are;
      parts_are = over.parts_are ∙ parts_agree seats other (length array.elements) array.elements slots;
      marked_is = over.marked_is;
      is_volume = over.is_volume;
      complete = over.complete;
      shapes = over.shapes;
    } in
    subst (λ (x : ℕ → ℕ → Bool). IsKeptData x v image allowed) (fun_ext (λ k. fun_ext (λ j. by_element slots k j (slice_get array.elements k) refl))) (kept v old)
  where
    by_element : ((k j : ℕ) (element : ElementValue) (position : Position) → slice_get array.elements k ≡ Some (Some element) → slice_get element.positions j ≡ Some position
        → seat_slot other (extent element.blocks position) ≡ seat_slot seats (extent element.blocks position)) → (k j : ℕ) (found : Option (Option ElementValue)) → slice_get array.elements k ≡ found
        → ◌≡◌ {A = Bool} (elim found [ None ↦ false | Some part ↦ part_lacks members seats j part ]) (elim found [ None ↦ false | Some part ↦ part_lacks after_members other j part ])
    by_element slots k j None is = refl
    by_element slots k j (Some None) is = refl
    by_element slots k j (Some (Some element)) is = by_position (slice_get element.positions j) refl
      where
        by_position : (found : Option Position) → slice_get element.positions j ≡ found
            → ◌≡◌ {A = Bool} (elim found [ None ↦ false | Some one ↦ lacks_disk members seats element one ]) (elim found [ None ↦ false | Some one ↦ lacks_disk after_members other element one ])
        by_position None at = refl
        by_position (Some position) at =
            ap (λ (o : Option ℕ). is_current members position.reference && is_none o) (sym (slots k j element position is at))
            ∙ ap (λ (b : Bool). b && is_none (seat_slot other (extent element.blocks position))) (sym (agree.same_current k j element position is at))
