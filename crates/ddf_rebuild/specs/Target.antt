-- The position that a rebuild writes, and its rows (SNIA DDF 2.0; how rows are counted is profile).
use Rattle.std.specs.Prelude.{◌≡◌, ℕ, ◌+◌, ◌-◌, ◌*◌, ◌/◌, ◌^◌, ◌<◌, ◌≤◌, false, List, Some, length, slice_get, slice_index}
use Rattle.ddf_primary.specs.Placement.{Placement}
use Rattle.ddf_primary.specs.Cells.{depth_of, height_of}
use Rattle.ddf_array.specs.declared.part.Part.{Part}
use Rattle.ddf_array.specs.declared.place.Place.{Place}
use Rattle.ddf_array.specs.Volume.{Volume}
use Rattle.ddf_cells.specs.Alike.{IsCell}
use Rattle.ddf_rebuild.specs.declared.aim.Aim.{Aim}

-- a position that is out of sync, and whose disk is there
pub record IsTarget (volume : Volume) (element position : ℕ) (part : Part) (place : Place) (slot : ℕ) : Type 0 where
  pub is_part : slice_get volume.parts element ≡ Some part
  pub is_place : slice_get part.places position ≡ Some place
  pub is_out : place.synced ≡ false
  pub is_there : place.slot ≡ Some slot

-- a position that can be rebuilt
pub record IsOut (volume : Volume) (element position : ℕ) : Type 0 where
  pub part : Part
  pub place : Place
  pub slot : ℕ
  pub is_target : IsTarget volume element position part place slot

-- a slot is that of such a position
pub record IsTargetSlot (volume : Volume) (element position slot : ℕ) : Type 0 where
  pub part : Part
  pub place : Place
  pub is_target : IsTarget volume element position part place slot

-- the data rows of an element, a last part of one a row of its own
abbrev pub row_count : Placement → ℕ
row_count shape = (depth_of shape + height_of shape - 1) / height_of shape

-- a sector of a position lies in these rows
pub record IsInRows (shape : Placement) (from to sector : ℕ) : Type 0 where
  pub from_is : from * height_of shape ≤ sector
  pub to_is : sector < to * height_of shape
  pub below : sector < depth_of shape

-- a sector of the bay is the target's at one of these rows
pub record IsTargetCell (volume : Volume) (element position from to slot lba : ℕ) : Type 0 where
  pub part : Part
  pub place : Place
  pub is_target : IsTarget volume element position part place slot
  pub sector : ℕ
  pub in_rows : IsInRows part.shape from to sector
  pub lba_is : lba ≡ place.start + sector

-- What is filled lies aside: it is an extent as long as those of its element, within a slot of these sizes, and no available position of the
-- array has a sector of it.
pub record IsAside (sizes : List ℕ) (volume : Volume) (element slot start : ℕ) : Type 0 where
  pub part : Part
  pub is_part : slice_get volume.parts element ≡ Some part
  pub on_slot : slot < length sizes
  pub within : start + part.shape.blocks ≤ slice_index sizes slot
  pub small : start + part.shape.blocks < 2 ^ 64
  pub apart : (sector : ℕ) → sector < part.shape.blocks → IsCell volume slot (start + sector) → ⊥

-- what a rebuild aims at is a position that can be rebuilt, as it lies
pub record IsAim (volume : Volume) (aim : Aim) : Type 0 where
  pub part : Part
  pub place : Place
  pub is_target : IsTarget volume aim.element aim.position part place aim.slot
  pub start_is : place.start ≡ aim.start
