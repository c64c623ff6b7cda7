-- The view of the array of an exercise, by the slots of its disks.
use Rattle.std.proofs.Common.{◌≡◌, ◌∙◌, ℕ, ◌*◌, ◌^◌, ◌≤◌, Bool, true, false, List, [], ◌∷◌, Some, None, Ok, refl, ap, sym, subst, zero, suc, length, slice_get, lit<, lit≤, arith}
use Rattle.ddf_config.specs.declared.array.Array.{Array}
use Rattle.ddf_config.specs.declared.element.Position.{Position}
use Rattle.ddf_config.specs.declared.member.Member.{Member}
use Rattle.ddf_config.specs.declared.seat.Seat.{Seat}
use Rattle.ddf_config.specs.Extents.{extents, extent, array_extents}
use Rattle.ddf_config.specs.Served.{is_served}
use Rattle.ddf_config.specs.States.{is_marked}
use Rattle.ddf_config.specs.Unusable.{is_served_on, unusable}
use Rattle.ddf_primary.specs.Cells.{unit_of, rows_of, cells}
use Rattle.std.specs.List.{list_any}
use Rattle.std.proofs.lemmas.List.Elements.{All-cons, All-nil}
use Rattle.ddf_primary.specs.Levels.{IsShape}
use Rattle.ddf_primary.proofs.ShapeFacts.{capacity_is}
use Rattle.ddf_secondary.specs.Arrangement.{IsArray}
use Rattle.ddf_secondary.specs.Spots.{spots}
use Rattle.ddf_secondary.specs.declared.element.ElementSize.{ElementSize}
use Rattle.ddf_secondary.proofs.Blocks.{length-blocks}
use Rattle.ddf_secondary.proofs.TierFacts.{single_spots}
use Rattle.ddf_config.specs.Shapes.{array_capacity, array_tiers, shape_size}
use Rattle.ddf_config.specs.Unusable.{passes_floor}
use Rattle.ddf_config.proofs.Common.{same_self}
use Rattle.ddf_array.specs.declared.place.Place.{Place}
use Rattle.ddf_array.specs.Places.{Ends}
use Rattle.ddf_array.specs.Viewing.{seat_slot, view_of}
use Rattle.ddf_array.specs.Volume.{IsPart, IsVolume, capacity}
use Rattle.ddf_array.proofs.Parts.{is_view}
use Rattle.ddf_exercise_config.specs.Disks.{Disk}
use Rattle.ddf_exercise_config.specs.Stages.{array, group_with, position}
use Rattle.ddf_exercise_config.specs.Views.{part, place, shape, tiers, volume_on}

-- ---- how much it holds

is_shape : IsShape shape
is_shape = record { members_fit = lit< tt; members_taken = refl; some_strip = lit≤ tt; small_strip = lit≤ tt; blocks_taken = refl }

cells_are : length (cells shape) ≡ 8192
cells_are = sym (capacity_is shape is_shape (λ e. absurd (cc)) refl)

none : ElementSize
none = record { capacity = 0; unit = 0; rows = 0 }

spots_are : length (spots tiers) ≡ 8192
spots_are = ap length (single_spots tiers (shape_size shape ∷ []) none refl refl) ∙ length-blocks 0 (length (cells shape)) 0 ∙ cells_are

pub holds : (is_marked : Bool) (places : List Place) → capacity (volume_on is_marked places) ≡ 8192
holds is_marked places = spots_are

-- an array of three positions
module _ (one other third : Position) (state init : ℕ) where
  abbrev three : Array
  three = array (one ∷ other ∷ third ∷ []) state init

  tiers_are : array_tiers three ≡ Some tiers
  tiers_are = refl

  pub array_holds : array_capacity three ≡ 8192
  array_holds = spots_are

-- ---- it is a view

ends : (slot : ℕ) (synced : Bool) → Ends (place slot synced) 4096
ends slot synced at is = lit< tt

small : (length (cells shape) ≤ 2 ^ 56) × (unit_of shape * rows_of shape ≤ 2 ^ 56)
small = let most : 8192 ≤ 2 ^ 56 = lit≤ tt in (omega (arith, cells_are, most), lit≤ tt)

is_array : IsArray tiers.level tiers.sizes
is_array = record { some = lit≤ tt; few = lit≤ tt; units = refl; small = All-cons (λ (size : ElementSize). (size.capacity ≤ 2 ^ 56) × (size.unit * size.rows ≤ 2 ^ 56)) (shape_size shape) [] small (All-nil (λ (size : ElementSize). (size.capacity ≤ 2 ^ 56) × (size.unit * size.rows ≤ 2 ^ 56))) }

module _ (i j k : ℕ) (sx sy sz : Bool) where
  all_end : (number : ℕ) (one : Place) → slice_get (place i sx ∷ place j sy ∷ place k sz ∷ []) number ≡ Some one → Ends one 4096
  all_end zero one at = let is : place i sx ≡ one = cc in subst (λ (p : Place). Ends p 4096) is (ends i sx)
  all_end (suc zero) one at = let is : place j sy ≡ one = cc in subst (λ (p : Place). Ends p 4096) is (ends j sy)
  all_end (suc (suc zero)) one at = let is : place k sz ≡ one = cc in subst (λ (p : Place). Ends p 4096) is (ends k sz)
  all_end (suc (suc (suc number))) one at = absurd (cc)

  is_part : IsPart (part (place i sx ∷ place j sy ∷ place k sz ∷ []))
  is_part = record { shape_is = is_shape; has_places = refl; ends = all_end }

  pub is_volume : (is_marked : Bool) → IsVolume (volume_on is_marked (place i sx ∷ place j sy ∷ place k sz ∷ []))
  is_volume is_marked =
      is_view is_marked tiers (part (place i sx ∷ place j sy ∷ place k sz ∷ []) ∷ []) is_array refl
      (All-cons IsPart (part (place i sx ∷ place j sy ∷ place k sz ∷ [])) [] is_part (All-nil IsPart))

-- ---- it is seen

module _ (group : List ℕ) (sequence : ℕ) (table : List (ℕ × Member)) (guid : List ℕ) (seats : List Seat) (x y z : Disk) (sx sy sz : Bool) (state init : ℕ) where
  abbrev one : Array
  one = array (position x sx ∷ position y sy ∷ position z sz ∷ []) state init

  module _ (is : is_served table (extents ((guid, one) ∷ [])) one ≡ true)
      (below_x : passes_floor seats (extent 4096 (position x sx)) ≡ false) (below_y : passes_floor seats (extent 4096 (position y sy)) ≡ false) (below_z : passes_floor seats (extent 4096 (position z sz)) ≡ false) where
    below : list_any (passes_floor seats) (array_extents one) ≡ false
    below = simp (below_x, below_y, below_z)

    pub is_there : is_served_on table seats (extents ((guid, one) ∷ [])) one ≡ true
    is_there = simp (is, below)

    pub usable : unusable table seats (extents ((guid, one) ∷ [])) guid one ≡ None
    usable = simp (is_there)

    pub view : (i j k : ℕ) → seat_slot seats (extent 4096 (position x sx)) ≡ Some i → seat_slot seats (extent 4096 (position y sy)) ≡ Some j → seat_slot seats (extent 4096 (position z sz)) ≡ Some k
        → view_of (group_with group sequence table guid one) guid seats ≡ Ok (volume_on (is_marked one) (place i sx ∷ place j sy ∷ place k sz ∷ []))
    view i j k on_x on_y on_z = simp (same_self, usable, on_x, on_y, on_z)
