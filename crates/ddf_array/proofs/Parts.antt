-- The elements of a view are what every view keeps.
use Rattle.std.proofs.Common.{◌≡◌, ◌∙◌, ℕ, ◌≤◌, Bool, List, length, Some, sym, ap, subst, slice_get, map}
use Rattle.std.specs.Prelude.{All}
use Rattle.std.proofs.lemmas.Option.{slice_get_within, get_or_from_slice_get}
use Rattle.std.proofs.lemmas.List.{length-map}
use Rattle.std.proofs.lemmas.List.Elements.{All-get_or}
use Rattle.ddf_primary.specs.Placement.{Placement}
use Rattle.ddf_secondary.specs.Arrangement.{Arrangement, IsArray}
use Rattle.ddf_config.specs.declared.seat.Seat.{Seat}
use Rattle.ddf_config.specs.ElementValue.{ElementValue}
use Rattle.ddf_config.specs.Shapes.{element_shape}
use Rattle.ddf_array.specs.declared.part.Part.{Part}
use Rattle.ddf_array.specs.declared.place.Place.{Place}
use Rattle.ddf_array.specs.Places.{Ends}
use Rattle.ddf_array.specs.Volume.{IsPart, IsVolume, size_of, volume}
use Rattle.ddf_array.specs.Viewing.{place_of}
use Rattle.ddf_array.proofs.Shapes.{is_shape, members_are, blocks_are}

pub all_at : {X : Type 0} (P : X → Type 0) (xs : List X) → All P xs → (k : ℕ) (x : X) → slice_get xs k ≡ Some x → P x
all_at P xs all k x at = subst P (get_or_from_slice_get xs k x x at) (All-get_or P xs k x (slice_get_within xs k x at) all)

pub is_part : (seats : List Seat) (elements : ℕ) (element : ElementValue) (shape : Placement) (places : List Place) → element_shape elements element ≡ Some shape → length element.positions ≤ 64
    → places ≡ map (place_of seats element.blocks) element.positions → All (λ place. Ends place element.blocks) places → IsPart (record { shape = shape; places = places })
is_part seats elements element shape places made few are ends = record {
  shape_is = is_shape elements element shape made few;
  has_places = ap length are ∙ length-map element.positions (place_of seats element.blocks) ∙ sym (members_are elements element shape made);
  ends = λ position place at. subst (λ (n : ℕ). Ends place n) (sym (blocks_are elements element shape made)) (all_at (λ place. Ends place element.blocks) places ends position place at);
}

pub is_view : (marked : Bool) (tiers : Arrangement) (parts : List Part) → IsArray tiers.level tiers.sizes → tiers.sizes ≡ map size_of parts → All IsPart parts → IsVolume (volume marked tiers parts)
is_view marked tiers parts array sizes all = record {
  array_is = array;
  has_sizes = sizes;
  are_parts = λ element part at. all_at IsPart parts all element part at;
}
