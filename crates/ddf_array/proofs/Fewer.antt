-- Fewer seats: what a view over them has lost.
use Rattle.std.proofs.Common.{◌≡◌, ◌∙◌, ◌⊎◌, inl, inr, ⊎_elim, ℕ, ◌+◌, List, [], ◌∷◌, Option, Some, None, Ok, refl, sym, ap, subst, map, filter_map, length}
use Rattle.std.specs.Prelude.{nat_le, option_map, if◌then◌else◌}
use Rattle.std.specs.Map.{lookup}
use Rattle.std.specs.List.{cons_option}
use Rattle.ddf_lemmas.proofs.Options.{same_some}
use Rattle.ddf_primary.specs.Placement.{Placement}
use Rattle.ddf_secondary.specs.Arrangement.{Arrangement}
use Rattle.ddf_config.specs.declared.array.Array.{Array}
use Rattle.ddf_config.specs.declared.element.Position.{Position}
use Rattle.ddf_config.specs.declared.extent.Extent.{Extent}
use Rattle.ddf_config.specs.declared.seat.Seat.{Seat}
use Rattle.ddf_config.specs.Configuration.{Configuration}
use Rattle.ddf_config.specs.ElementValue.{ElementValue}
use Rattle.ddf_config.specs.Extents.{extent}
use Rattle.ddf_config.specs.Members.{same_guid}
use Rattle.ddf_config.specs.Seats.{slot_of, floor_of}
use Rattle.ddf_config.specs.Shapes.{element_shape, array_tiers}
use Rattle.ddf_config.specs.States.{is_marked}
use Rattle.ddf_array.specs.declared.part.Part.{Part}
use Rattle.ddf_array.specs.Volume.{Volume}
use Rattle.ddf_array.specs.Losing.{AreLostPlaces, AreLostParts, IsLoss, AreFewer}
use Rattle.ddf_array.specs.Viewing.{seat_slot, place_of, known_part, parts_of, view_of}
use Rattle.ddf_array.proofs.Viewed.{from_view}

module _ (seats fewer : List Seat) (few : AreFewer seats fewer) where
  slot_lost : (one : Extent) → (seat_slot fewer one ≡ seat_slot seats one) ⊎ (seat_slot fewer one ≡ None)
  slot_lost one =
      let end = one.start + one.blocks in
      let slot = slot_of fewer one.reference in
      ⊎_elim
      (λ none. inr (ap (λ (f : Option ℕ). elim f [ None ↦ None | Some floor ↦ if nat_le end floor then Some slot else None ]) none))
      (λ same. inl
      (ap (λ (f : Option ℕ). elim f [ None ↦ None | Some floor ↦ if nat_le end floor then Some slot else None ]) same.0
      ∙ ap (λ (s : ℕ). elim (floor_of seats one.reference) [ None ↦ None | Some floor ↦ if nat_le end floor then Some s else None ]) same.1))
      (few one.reference)

  lost_places : (blocks : ℕ) (positions : List Position) → AreLostPlaces (map (place_of seats blocks) positions) (map (place_of fewer blocks) positions)
  lost_places blocks [] = tt
  lost_places blocks (position ∷ positions) =
      (record { same_start = refl; same_sync = refl; slot_is = slot_lost (extent blocks position) }, lost_places blocks positions)

  lost_part : (element : ElementValue) (found : Option Placement) (befores afters : List Part) → AreLostParts befores afters
      → AreLostParts
      (cons_option (option_map (λ (shape : Placement). record { shape = shape; places = map (place_of seats element.blocks) element.positions }) found) befores)
      (cons_option (option_map (λ (shape : Placement). record { shape = shape; places = map (place_of fewer element.blocks) element.positions }) found) afters)
  lost_part element None befores afters lost = lost
  lost_part element (Some shape) befores afters lost = ((refl, lost_places element.blocks element.positions), lost)

  lost_parts : (elements : ℕ) (known : List (Option ElementValue)) → AreLostParts (filter_map (known_part seats elements) known) (filter_map (known_part fewer elements) known)
  lost_parts elements [] = tt
  lost_parts elements (None ∷ known) = lost_parts elements known
  lost_parts elements (Some element ∷ known) = lost_part element (element_shape elements element) _ _ (lost_parts elements known)

module _ (seats fewer : List Seat) (before after : Volume) (array : Array) where
  some_tiers : (found : Option Arrangement) → found ≡ Some before.tiers → found ≡ Some after.tiers → after.tiers ≡ before.tiers
  some_tiers None a b = absurd (cc)
  some_tiers (Some tiers) a b = cc

  loss_of : AreFewer seats fewer → array_tiers array ≡ Some before.tiers → array_tiers array ≡ Some after.tiers → before.parts ≡ parts_of seats array.elements → after.parts ≡ parts_of fewer array.elements
      → before.marked ≡ is_marked array → after.marked ≡ is_marked array → IsLoss before after
  loss_of few tiers_before tiers_after parts_before parts_after marked_before marked_after = record {
    same_mark = marked_after ∙ sym marked_before;
    same_tiers = some_tiers (array_tiers array) tiers_before tiers_after;
    lost_parts =
        subst (λ (l : List Part). AreLostParts l after.parts) (sym parts_before)
        (subst (λ (l : List Part). AreLostParts (parts_of seats array.elements) l) (sym parts_after) (lost_parts seats fewer few (length array.elements) array.elements));
  }

pub is_loss : (config : Configuration) (guid : List ℕ) (seats fewer : List Seat) (before after : Volume) → view_of config guid seats ≡ Ok before → view_of config guid fewer ≡ Ok after → AreFewer seats fewer
    → IsLoss before after
is_loss config guid seats fewer before after one other few =
    let old = from_view config guid seats before one in
    let new = from_view config guid fewer after other in
    let same : new.array ≡ old.array = same_some (lookup (same_guid guid) config.arrays) new.array old.array new.array_is old.array_is in
    loss_of seats fewer before after old.array few old.tiers_are
    (subst (λ (a : Array). array_tiers a ≡ Some after.tiers) same new.tiers_are) old.parts_are
    (subst (λ (a : Array). after.parts ≡ parts_of fewer a.elements) same new.parts_are) old.marked_is
    (subst (λ (a : Array). after.marked ≡ is_marked a) same new.marked_is)
