-- What changes ask for, where an array is redundant, and where each current member has a seat.
use Rattle.std.proofs.Common.{◌≡◌, ◌∙◌, ℕ, ◌+◌, Bool, true, false, List, Option, Some, None, Ok, refl, sym, ap, slice_get, ◌&&◌}
use Rattle.std.specs.Prelude.{is_none, is_some, nat_le, nat_lt, if◌then◌else◌}
use Rattle.std.specs.List.{list_any}
use Rattle.std.specs.Map.{lookup}
use Rattle.std.proofs.lemmas.Bool.{le-leb, ltb-false}
use Rattle.ddf_lemmas.proofs.Lists.{any_none, mapped_at}
use Rattle.ddf_lemmas.proofs.Options.{same_some}
use Rattle.ddf_bay.specs.Sectors.{Image}
use Rattle.ddf_config.specs.declared.array.Array.{Array}
use Rattle.ddf_config.specs.declared.element.Position.{Position}
use Rattle.ddf_config.specs.declared.extent.Extent.{Extent}
use Rattle.ddf_config.specs.declared.seat.Seat.{Seat}
use Rattle.ddf_config.specs.Configuration.{Configuration}
use Rattle.ddf_config.specs.ElementValue.{ElementValue}
use Rattle.ddf_config.specs.Extents.{array_extents, extent, extents, part_extents}
use Rattle.ddf_config.specs.Members.{is_current, same_guid}
use Rattle.ddf_config.specs.Seats.{floor_of, slot_of}
use Rattle.ddf_config.specs.Unusable.{passes_floor}
use Rattle.ddf_array.specs.Redundant.{IsRedundant}
use Rattle.ddf_array.specs.Viewing.{seat_slot, view_of}
use Rattle.ddf_array.specs.Volume.{Volume, IsVolume}
use Rattle.ddf_array.specs.Within.{is_within}
use Rattle.ddf_array.proofs.Consistent.{to_flat}
use Rattle.ddf_array.proofs.Usable.{below_floors}
use Rattle.ddf_array.proofs.Viewed.{from_view}
use Rattle.ddf_cells.specs.Degraded.{is_degraded}
use Rattle.ddf_data_array.specs.Allowed.{Allowed}
use Rattle.ddf_data_array.specs.Changing.{with_mark}
use Rattle.ddf_data_array.specs.Kept.{IsKeptData}
use Rattle.ddf_data_array.specs.Rows.{AreRowsKept, NoneAbsent}
use Rattle.ddf_data_array.proofs.Consistent.{value_may, whole_consistent}
use Rattle.ddf_data_array.proofs.Given.{have_cells}
use Rattle.ddf_data_group.specs.Clearing.{MayBeCleared}
use Rattle.ddf_data_group.specs.Over.{absent_in, lacks_disk, part_lacks}

pub redundant_may : (is_absent : ℕ → ℕ → Bool) (v : Volume) (image : Image) (allowed : Allowed) → IsVolume v → is_within v ≡ true → is_degraded v ≡ false → IsRedundant v image
    → AreRowsKept is_absent (with_mark false v) image → IsKeptData is_absent v image allowed → MayBeCleared is_absent v image allowed
redundant_may is_absent v image allowed known within whole is rows kept =
    record { consistent = whole_consistent is_absent v image whole is; rows = rows; may = value_may is_absent v image allowed kept is (have_cells v known within whole) }

module _ (config : Configuration) (guid : List ℕ) (seats : List Seat) (v : Volume) (view : view_of config guid seats ≡ Ok v) (array : Array) (found : lookup (same_guid guid) config.arrays ≡ Some array)
    (seated : (reference : ℕ) → is_current config.members reference ≡ true → is_some (floor_of seats reference) ≡ true) where
  below : list_any (passes_floor seats) (array_extents array) ≡ false
  below =
      let from = from_view config guid seats v view in
      let same = same_some (lookup (same_guid guid) config.arrays) from.array array from.array_is found in
      ap (λ (a : Array). list_any (passes_floor seats) (array_extents a)) (sym same) ∙ below_floors config.members seats (extents config.arrays) guid from.array from.usable

  module _ (e p : ℕ) (element : ElementValue) (position : Position) (is_element : slice_get array.elements e ≡ Some (Some element)) (is_position : slice_get element.positions p ≡ Some position) where
    abbrev one : Extent
    one = extent element.blocks position

    stays_below : passes_floor seats (extent element.blocks position) ≡ false
    stays_below =
        let at = to_flat part_extents array.elements e p (Some element) (extent element.blocks position) is_element (mapped_at (extent element.blocks) element.positions p position is_position) in
        any_none (passes_floor seats) (array_extents array) below at.0 (extent element.blocks position) at.1

    by_floor : (floor : Option ℕ) → is_some floor ≡ true → ◌≡◌ {A = Bool} (elim floor [ None ↦ false | Some f ↦ nat_lt f (position.start + element.blocks) ]) false
        → ◌≡◌ {A = Bool} (is_none (elim floor [ None ↦ None | Some f ↦ if nat_le (position.start + element.blocks) f then Some (slot_of seats position.reference) else None ])) false
    by_floor None some passes = absurd (cc)
    by_floor (Some f) some passes =
        ap (λ b. is_none (if b then Some (slot_of seats position.reference) else None)) (le-leb (position.start + element.blocks) f (ltb-false f (position.start + element.blocks) passes))

    by_member : (b : Bool) → is_current config.members position.reference ≡ b → (b && is_none (seat_slot seats (extent element.blocks position))) ≡ false
    by_member false is = refl
    by_member true is = by_floor (floor_of seats position.reference) (seated position.reference is) stays_below

    lacks_none : lacks_disk config.members seats element position ≡ false
    lacks_none = by_member (is_current config.members position.reference) refl

  -- no position lacks only a disk that isn't read
  pub none_absent : (element : ℕ) → NoneAbsent (absent_in config.members seats array.elements) element
  none_absent e p = by_element (slice_get array.elements e) refl
    where
      by_position : (element : ElementValue) → slice_get array.elements e ≡ Some (Some element) → (found : Option Position) → slice_get element.positions p ≡ found
          → ◌≡◌ {A = Bool} (elim found [ None ↦ false | Some one ↦ lacks_disk config.members seats element one ]) false
      by_position element is None at = refl
      by_position element is (Some position) at = lacks_none e p element position is at

      by_element : (found : Option (Option ElementValue)) → slice_get array.elements e ≡ found → ◌≡◌ {A = Bool} (elim found [ None ↦ false | Some part ↦ part_lacks config.members seats p part ]) false
      by_element None is = refl
      by_element (Some None) is = refl
      by_element (Some (Some element)) is = by_position element is (slice_get element.positions p) refl
