-- What the blocks of an array have while a position of it is rebuilt, and once it is in sync.
use Rattle.std.proofs.Common.{◌≡◌, ◌∙◌, inr, ⊎_elim, ℕ, ◌+◌, ◌≤◌, List, Some, refl, sym, ap, length, slice_get}
use Rattle.ddf_bay.specs.Sectors.{Image}
use Rattle.ddf_array.specs.declared.part.Part.{Part}
use Rattle.ddf_array.specs.declared.place.Place.{Place}
use Rattle.ddf_array.specs.Sound.{AreSectors}
use Rattle.ddf_array.specs.Volume.{IsVolume, Volume}
use Rattle.ddf_cells.specs.Apart.{LiesAt}
use Rattle.ddf_cells.specs.Writing.{StaysBut}
use Rattle.ddf_cells.proofs.Alike.{depth_below, wanted_same}
use Rattle.ddf_rebuild.specs.Rebuilding.{HasRebuilt}
use Rattle.ddf_rebuild.specs.Target.{IsOut, IsTarget, IsTargetCell, row_count}
use Rattle.ddf_rebuild.proofs.Common.{fewer_rows}
use Rattle.ddf_data_array.specs.Changing.{in_sync, noted}
use Rattle.ddf_data_array.specs.Rows.{AreAlikeThroughout, GoesOnBehind, IsFirstOut}
use Rattle.ddf_data_array.proofs.FinishedRows.{kept_finished}
use Rattle.ddf_data_array.proofs.Noted.{kept_noted}
use Rattle.ddf_data_array.proofs.Resynced.{kept_rebuilding}
use Rattle.ddf_data_array.proofs.RowsKept.{alike_cells, rows_go_on}
use Rattle.ddf_uncut_data.specs.Blocks.{HoldsBlocks, exactly, none_absent}
use Rattle.ddf_uncut_data.proofs.Ground.{noted_apart, noted_volume, noted_within, synced_apart, synced_volume, synced_within}
use Rattle.ddf_uncut_data.proofs.Held.{holds_same}

-- ---- rows

-- a sector of the position is one of its extent
target_lies : (v : Volume) (known : IsVolume v) (element position from to slot lba : ℕ) → (cell : IsTargetCell v element position from to slot lba) → LiesAt v element position cell.sector slot lba
target_lies v known element position from to slot lba cell = record {
  part = cell.part;
  place = cell.place;
  is_part = cell.is_target.is_part;
  is_place = cell.is_target.is_place;
  below = depth_below v known cell.part cell.sector cell.in_rows.below;
  is_there = cell.is_target.is_there;
  lba_is = cell.lba_is;
}

-- rows hold in each image that has the same of the array
rows_same : (v : Volume) (known : IsVolume v) (element position row : ℕ) (one other : Image) → AreAlikeThroughout v one other → HasRebuilt v element position 0 row one one → HasRebuilt v element position 0 row other other
rows_same v known element position row one other same set part place slot sector target rows =
    let lies : LiesAt v element position sector slot (place.start + sector) = record {
      part = part;
      place = place;
      is_part = target.is_part;
      is_place = target.is_place;
      below = depth_below v known part sector rows.below;
      is_there = target.is_there;
      lba_is = refl;
    } in
    sym (same element position sector slot (place.start + sector) lies) ∙ set part place slot sector target rows
    ∙ wanted_same v known one other (alike_cells v one other same) element part target.is_part sector position (depth_below v known part sector rows.below)

-- of an array that holds its blocks the rows that count hold what they should
pub rows_counted : (v : Volume) (element position from : ℕ) (image : Image) (blocks : ℕ → List ℕ) → HoldsBlocks v image blocks
    → ((part : Part) (place : Place) (slot : ℕ) → IsTarget v element position part place slot → from ≤ place.row) → HasRebuilt v element position 0 from image image
rows_counted v element position from image blocks holds low part place slot sector target rows =
    let counts = holds.kept.rows.rebuilt holds.unmarked holds.within element position part place slot target (λ keeps. inr (λ other. refl)) in
    fewer_rows v element position from place.row image (low part place slot target) counts part place slot sector target rows

-- ---- rows that are filled

module _ (v : Volume) (element position : ℕ) (blocks : ℕ → List ℕ) where
  -- the blocks have their bytes, and so many rows of the position hold what they should
  pub record AreSet (row : ℕ) (image : Image) : Type 0 where
    pub holds : HoldsBlocks v image blocks
    pub rows : HasRebuilt v element position 0 row image image

  pub set_same : (row : ℕ) (one other : Image) → AreSectors other → AreAlikeThroughout v one other → AreSet row one → AreSet row other
  set_same row one other are same set = record {
    holds = holds_same v one other blocks are same set.holds;
    rows = rows_same v set.holds.is_volume element position row one other same set.rows;
  }

  -- What was filled has sectors of 512 bytes where an image has that has the same of the array.
  pub filled_sectors : (from to : ℕ) (before filled written : Image) → IsVolume v → StaysBut (IsTargetCell v element position from to) before filled → AreSectors before → AreSectors written
      → AreAlikeThroughout v filled written → AreSectors filled
  filled_sectors from to before filled written known stays are later same slot lba = ⊎_elim
      (λ stayed. ap length stayed ∙ are slot lba)
      (λ cell. ap length (same element position cell.sector slot lba (target_lies v known element position from to slot lba cell)) ∙ later slot lba)
      (stays slot lba)

  pub holds_filled : (from to : ℕ) (before filled : Image) → AreSectors filled → GoesOnBehind v element position from → StaysBut (IsTargetCell v element position from to) before filled → HoldsBlocks v before blocks
      → HoldsBlocks v filled blocks
  holds_filled from to before filled are behind stays holds = record {
    is_volume = holds.is_volume;
    apart = holds.apart;
    unmarked = holds.unmarked;
    within = holds.within;
    kept = kept_rebuilding none_absent v element position from to before filled (exactly blocks) holds.is_volume holds.apart are behind stays holds.kept;
  }

  pub set_filled : (from to : ℕ) (before filled : Image) → AreSectors filled → GoesOnBehind v element position from → StaysBut (IsTargetCell v element position from to) before filled
      → HasRebuilt v element position from to before filled → AreSet from before → AreSet to filled
  set_filled from to before filled are behind stays rebuilt set = record {
    holds = holds_filled from to before filled are behind stays set.holds;
    rows = rows_go_on v set.holds.is_volume set.holds.apart element position from to before filled stays set.rows rebuilt;
  }

-- ---- the position is in sync

pub holds_finished : (v : Volume) (image : Image) (blocks : ℕ → List ℕ) (element position row : ℕ) → IsOut v element position → IsFirstOut v element position
    → ((part : Part) → slice_get v.parts element ≡ Some part → row_count part.shape ≤ row) → HasRebuilt v element position 0 row image image → HoldsBlocks v image blocks
    → HoldsBlocks (in_sync element position v) image blocks
holds_finished v image blocks element position row out first all set holds = record {
  is_volume = synced_volume v element position holds.is_volume;
  apart = synced_apart v element position holds.apart;
  unmarked = holds.unmarked;
  within = synced_within v element position out holds.within;
  kept = kept_finished none_absent v image (exactly blocks) element position holds.is_volume holds.unmarked holds.within out (λ other. refl) first
      (λ part at. fewer_rows v element position (row_count part.shape) row image (all part at) set) holds.kept;
}

-- ---- rows are noted

pub holds_noted : (v : Volume) (image : Image) (blocks : ℕ → List ℕ) (element position row : ℕ) → IsFirstOut v element position → HasRebuilt v element position 0 row image image → HoldsBlocks v image blocks
    → HoldsBlocks (noted element position row v) image blocks
holds_noted v image blocks element position row first set holds = record {
  is_volume = noted_volume v element position row holds.is_volume;
  apart = noted_apart v element position row holds.apart;
  unmarked = holds.unmarked;
  within = noted_within v element position row holds.within;
  kept = kept_noted none_absent v image (exactly blocks) element position row holds.is_volume first set holds.kept;
}
