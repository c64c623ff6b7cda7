-- What every view keeps holds of an array over seats whose floors are numbers of sectors.
use Rattle.std.proofs.Common.{◌≡◌, ◌∙◌, ℕ, ◌+◌, ◌^◌, ◌<◌, ◌≤◌, Bool, true, false, List, map, length, Option, Some, None, Ok, Err, refl, ap, sym, subst, if◌then◌else◌, arith}
use borrow.Author.Tests.{leb-true}
use Rattle.std.proofs.lemmas.Bool.{and_parts}
use Rattle.std.proofs.lemmas.List.{length-map}
use Rattle.std.specs.Prelude.{nat_le, option_map, slice_get}
use Rattle.std.specs.Result.{result_ok}
use Rattle.ddf_lemmas.proofs.Lists.{in_map}
use Rattle.ddf_primary.specs.Placement.{Placement}
use Rattle.ddf_secondary.specs.declared.element.ElementSize.{ElementSize}
use Rattle.ddf_secondary.specs.declared.fault.TiersFault.TheVariants.{Count, Level, Mixed}
use Rattle.ddf_secondary.specs.declared.level.SecondaryLevel.{SecondaryLevel}
use Rattle.ddf_secondary.specs.Arrangement.{Arrangement, IsArray, served_level, takes_count, takes_units, tiers_of}
use Rattle.ddf_secondary.specs.Sizes.{AreSmall}
use Rattle.ddf_config.specs.declared.element.Position.{Position}
use Rattle.ddf_config.specs.declared.seat.Seat.{Seat}
use Rattle.ddf_config.specs.Configuration.{Configuration}
use Rattle.ddf_config.specs.ElementValue.{ElementValue}
use Rattle.ddf_config.specs.Members.{same_guid}
use Rattle.ddf_config.specs.Seats.{floor_of, slot_of}
use Rattle.ddf_config.specs.Shapes.{element_shape, secondary_level, sizes}
use Rattle.ddf_config.proofs.Capacity.{sizes_small}
use Rattle.ddf_array.specs.declared.part.Part.{Part}
use Rattle.ddf_array.specs.declared.place.Place.{Place}
use Rattle.ddf_array.specs.Places.{Ends}
use Rattle.ddf_array.specs.Viewing.{known_part, parts_of, place_of, view_of}
use Rattle.ddf_array.specs.Volume.{IsPart, IsVolume, Volume, size_of}
use Rattle.ddf_array.proofs.Shapes.{blocks_are, is_shape, members_are}
use Rattle.ddf_array.proofs.Sizes.{tiers_sizes}
use Rattle.ddf_array.proofs.Viewed.{from_view}
use Rattle.ddf_rewrite.proofs.AllWanted.{filter_map_get}
use Rattle.ddf_rewrite.proofs.Lists.{all_at}
use Rattle.ddf_data_calls.proofs.Few.{ArraysFew, looked_few}

-- ---- the whole

tiers_are : (code : ℕ) (all : List ElementSize) → AreSmall all → (tiers : Arrangement) → result_ok (tiers_of code all) ≡ Some tiers → IsArray tiers.level tiers.sizes
tiers_are code all small tiers is = by (served_level code) is
  where
    known : (level : SecondaryLevel) (a b : Bool) → takes_count all ≡ a → takes_units level all ≡ b
        → ◌≡◌ {A = Option Arrangement} (result_ok (if a then (if b then Ok (record { level = level; sizes = all }) else Err Mixed) else Err (Count (length all)))) (Some tiers) → IsArray tiers.level tiers.sizes
    known level true true count units is =
        let same : ◌≡◌ {A = Arrangement} (record { level = level; sizes = all }) tiers = cc in
        let parts = and_parts (nat_le 1 (length all)) (nat_le (length all) 16) count in
        subst (λ (t : Arrangement). IsArray t.level t.sizes) same
        (record { some = leb-true 1 (length all) parts.0; few = leb-true (length all) 16 parts.1; units = units; small = small })
    known level true false count units is = absurd cc
    known level false b count units is = absurd cc

    by : (o : Option SecondaryLevel) → ◌≡◌ {A = Option Arrangement} (result_ok (elim o [
      | None ↦ Err (Level code)
      | Some level ↦ if takes_count all then (if takes_units level all then Ok (record { level = level; sizes = all }) else Err Mixed) else Err (Count (length all))
    ])) (Some tiers) → IsArray tiers.level tiers.sizes
    by None is = absurd cc
    by (Some level) is = known level (takes_count all) (takes_units level all) refl refl is

module _ (seats : List Seat) (small : (reference f : ℕ) → floor_of seats reference ≡ Some f → f < 2 ^ 64) where
  place_ends : (blocks : ℕ) (position : Position) → Ends (place_of seats blocks position) blocks
  place_ends blocks position slot is = by (floor_of seats position.reference) refl is
    where
      within : (f : ℕ) (b : Bool) → floor_of seats position.reference ≡ Some f → nat_le (position.start + blocks) f ≡ b
          → ◌≡◌ {A = Option ℕ} (if b then Some (slot_of seats position.reference) else None) (Some slot) → position.start + blocks < 2 ^ 64
      within f true at low is = let most = leb-true (position.start + blocks) f low in let below = small position.reference f at in omega (arith, most, below)
      within f false at low is = absurd cc

      by : (o : Option ℕ) → floor_of seats position.reference ≡ o
          → ◌≡◌ {A = Option ℕ} (elim o [ None ↦ None | Some f ↦ if nat_le (position.start + blocks) f then Some (slot_of seats position.reference) else None ]) (Some slot) → position.start + blocks < 2 ^ 64
      by None at is = absurd cc
      by (Some f) at is = within f (nat_le (position.start + blocks) f) at refl is

  abbrev own_part : ElementValue → Placement → Part
  own_part element shape = record { shape = shape; places = map (place_of seats element.blocks) element.positions }

  own_is : (elements : ℕ) (element : ElementValue) (shape : Placement) → length element.positions ≤ 64 → element_shape elements element ≡ Some shape → IsPart (own_part element shape)
  own_is elements element shape few made = record {
    shape_is = is_shape elements element shape made few;
    has_places = length-map element.positions (place_of seats element.blocks) ∙ sym (members_are elements element shape made);
    ends = λ position place at.
        let from = in_map (place_of seats element.blocks) element.positions position place at in
        subst (λ (p : Place). Ends p shape.blocks) from.2
        (subst (λ (n : ℕ). Ends (place_of seats element.blocks from.0) n) (sym (blocks_are elements element shape made)) (place_ends element.blocks from.0));
  }

  part_is : (elements : ℕ) (known : Option ElementValue) (part : Part) → ((plan : ElementValue) → known ≡ Some plan → length plan.positions ≤ 64) → known_part seats elements known ≡ Some part → IsPart part
  part_is elements None part few is = absurd cc
  part_is elements (Some element) part few is = by (element_shape elements element) refl is
    where
      by : (o : Option Placement) → element_shape elements element ≡ o
          → option_map (λ (shape : Placement). record { shape = shape; places = map (place_of seats element.blocks) element.positions }) o ≡ Some part → IsPart part
      by None made is = absurd cc
      by (Some shape) made is = let same : own_part element shape ≡ part = cc in subst IsPart same (own_is elements element shape (few element refl) made)

  pub view_is : (config : Configuration) (guid : List ℕ) (v : Volume) → ArraysFew config → view_of config guid seats ≡ Ok v → IsVolume v
  view_is config guid v few is =
      let view = from_view config guid seats v is in
      let array_few = looked_few config (same_guid guid) view.array few view.array_is in
      record {
        array_is = tiers_are (secondary_level view.array) (sizes view.array) (sizes_small (length view.array.elements) view.array.elements array_few) v.tiers view.tiers_are;
        has_sizes = tiers_sizes seats view.array v.tiers view.tiers_are ∙ ap (map size_of) (sym view.parts_are);
        are_parts = λ element part at.
            let there : slice_get (parts_of seats view.array.elements) element ≡ Some part = ap (λ (parts : List Part). slice_get parts element) (sym view.parts_are) ∙ at in
            let from = filter_map_get (known_part seats (length view.array.elements)) view.array.elements element part there in
            part_is (length view.array.elements) from.1 part
            (all_at (λ (known : Option ElementValue). (plan : ElementValue) → known ≡ Some plan → length plan.positions ≤ 64) view.array.elements from.0 from.1 array_few from.2) from.3;
      }
