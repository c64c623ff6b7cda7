-- The founding of a group: its disks get their first copies one after another.
use Rattle.std.specs.Prelude.{◌≡◌, ◌≢◌, ◌⊎◌, ℕ, ◌<◌, List, length, map, slice_get, slice_index, Some, Err}
use Rattle.ddf_bay.specs.State.{BayState, size_of}
use Rattle.ddf_bay.specs.Sectors.{Image}
use Rattle.ddf_bay.specs.Moments.{IsSettled}
use Rattle.ddf_copy.specs.declared.copy.DiskCopy.{DiskCopy}
use Rattle.ddf_copy.specs.declared.which.Which.TheVariants.{Secondary}
use Rattle.ddf_copy.specs.declared.fault.AnchorFault.TheVariants.{Blank}
use Rattle.ddf_copy.specs.Anchor.{anchor_at}
use Rattle.ddf_copy.specs.Headers.{IsUnder, anchor_header}
use Rattle.ddf_update.specs.declared.prepared.Mode.TheVariants.{Found}
use Rattle.ddf_update.specs.declared.prepared.Prepared.{Prepared}
use Rattle.ddf_update.specs.Prepared.{IsPrepared, LiesOn}
use Rattle.ddf_update.specs.Update.{AreBoth}

-- the sizes of these slots
abbrev pub slot_sizes : (sizes slots : List ℕ) → List ℕ
slot_sizes sizes slots = map (slice_index sizes) slots

-- For each place an update writes its copy, which can be written on a disk of the size at its place.
pub record AreFirst (sizes : List ℕ) (copy : ℕ → DiskCopy) (updates : List Prepared) : Type 0 where
  pub are_prepared : (place : ℕ) (update : Prepared) → slice_get updates place ≡ Some update → IsPrepared (copy place) Secondary Found update
  pub are_under : (place : ℕ) → place < length updates → IsUnder (slice_index sizes place) (anchor_header (copy place)) (copy place)

-- The slots, each once.
pub record AreSlots (sizes slots : List ℕ) : Type 0 where
  pub there : (place slot : ℕ) → slice_get slots place ≡ Some slot → slot < length sizes
  pub differ : (one other slot : ℕ) → slice_get slots one ≡ Some slot → slice_get slots other ≡ Some slot → one ≡ other

-- an update for each slot, which lies on it
pub record LieOnSlots (sizes slots : List ℕ) (updates : List Prepared) : Type 0 where
  pub are_slots : AreSlots sizes slots
  pub counted : length updates ≡ length slots
  pub lie_on : (place slot : ℕ) (update : Prepared) → slice_get slots place ≡ Some slot → slice_get updates place ≡ Some update → LiesOn (slice_index sizes slot) update

-- Each slot is blank, and may get the copy at its place.
pub record MayFoundAll {D : Type 0} (disks : BayState D) (slots : List ℕ) (copy : ℕ → DiskCopy) (updates : List Prepared) : Type 0 where
  pub are_blank : (place slot : ℕ) → slice_get slots place ≡ Some slot → anchor_at (size_of disks slot) (disks.held slot) ≡ Err Blank
  pub are_under : (place slot : ℕ) → slice_get slots place ≡ Some slot → IsUnder (size_of disks slot) (anchor_header (copy place)) (copy place)
  pub are_prepared : (place : ℕ) (update : Prepared) → slice_get updates place ≡ Some update → IsPrepared (copy place) Secondary Found update

-- a sector before both places of a copy
abbrev pub IsBefore : DiskCopy → ℕ → Type 0
IsBefore copy l = (l < copy.header.primary_lba) × (l < copy.header.secondary_lba)

-- A stop leaves each of the slots as it might have left it at the start, or blank, or it has the copy at its place in both
-- places. The sectors before both of these are as they were, or as they might be left. Other slots are as they might be left.
pub record IsLeftFoundingAll {D : Type 0} (start : BayState D) (slots : List ℕ) (copy : ℕ → DiskCopy) (image : Image) : Type 0 where
  pub each : (place slot : ℕ) → slice_get slots place ≡ Some slot
      → ((l : ℕ) → start.may_hold slot l (image slot l)) ⊎ (anchor_at (size_of start slot) (image slot) ≡ Err Blank) ⊎ AreBoth (size_of start slot) (image slot) (anchor_header (copy place)) (copy place)
  pub before : (place slot l : ℕ) → slice_get slots place ≡ Some slot → IsBefore (copy place) l → (image slot l ≡ start.held slot l) ⊎ start.may_hold slot l (image slot l)
  pub others : (s l : ℕ) → ((place : ℕ) → slice_get slots place ≢ Some s) → start.may_hold s l (image s l)

-- The first slots, so many, have their anchors and copies, sure, and the sectors before these stay. All other slots are as
-- they were.
pub record HaveFirstCopies {D : Type 0} (old new : BayState D) (slots : List ℕ) (copy : ℕ → DiskCopy) (count : ℕ) : Type 0 where
  pub are_both : (place slot : ℕ) → place < count → slice_get slots place ≡ Some slot → AreBoth (size_of old slot) (new.held slot) (anchor_header (copy place)) (copy place)
  pub are_settled : (place slot : ℕ) → place < count → slice_get slots place ≡ Some slot → IsSettled new.may_hold new.held slot
  pub before : (place slot l : ℕ) → place < count → slice_get slots place ≡ Some slot → IsBefore (copy place) l → new.held slot l ≡ old.held slot l
  pub others : (s l : ℕ) → ((place : ℕ) → place < count → slice_get slots place ≢ Some s) → new.held s l ≡ old.held s l
  pub others_left : (s l : ℕ) (bytes : List ℕ) → ((place : ℕ) → place < count → slice_get slots place ≢ Some s) → new.may_hold s l bytes → old.may_hold s l bytes

-- a slot is one of these
pub record IsOneOf (slots : List ℕ) (slot : ℕ) : Type 0 where
  pub place : ℕ
  pub is_there : slice_get slots place ≡ Some slot
