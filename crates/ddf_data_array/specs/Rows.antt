-- What an array keeps of the rows that rebuilds have set: of a position that is out of sync, those below its rebuild row.
use Rattle.std.specs.Prelude.{◌≡◌, ◌⊎◌, ℕ, ◌<◌, ◌≤◌, Bool, true, false, Some, slice_get}
use Rattle.ddf_bay.specs.Sectors.{Image}
use Rattle.ddf_array.specs.declared.place.Place.{Place}
use Rattle.ddf_array.specs.declared.part.Part.{Part}
use Rattle.ddf_array.specs.Levels.{keeps_parity}
use Rattle.ddf_array.specs.Volume.{Volume}
use Rattle.ddf_array.specs.Within.{is_part_within, is_within}
use Rattle.ddf_cells.specs.Apart.{LiesAt}
use Rattle.ddf_rebuild.specs.Rebuilding.{HasRebuilt}
use Rattle.ddf_rebuild.specs.Target.{IsTarget}

-- of an element no position lacks only a disk that isn't read
abbrev pub NoneAbsent : (is_absent : ℕ → ℕ → Bool) → (element : ℕ) → Type 0
NoneAbsent is_absent element = (position : ℕ) → is_absent element position ≡ false

-- The rows of an element count: with parity, where it is within its level, or lacks no disk that only isn't read. One beyond its level that lacks such
-- a disk is no part of the array any more once that is lost.
abbrev pub DoRowsCount : (is_absent : ℕ → ℕ → Bool) → (element : ℕ) → Part → Type 0
DoRowsCount is_absent element part = keeps_parity part.shape.layout ≡ true → (is_part_within part ≡ true) ⊎ NoneAbsent is_absent element

-- Of an element that keeps parity no position before this one is out of sync. What the cells should hold that carry no block follows there from the
-- other positions of the row; so one position at a time is rebuilt, in order.
abbrev pub IsFirstOut : Volume → (element position : ℕ) → Type 0
IsFirstOut volume element position =
    (part : Part) → slice_get volume.parts element ≡ Some part → keeps_parity part.shape.layout ≡ true
    → (earlier : ℕ) (place : Place) → earlier < position → slice_get part.places earlier ≡ Some place → place.synced ≡ true

-- something of each position that is out of sync on a disk that is there, where the array is unmarked and within its level
abbrev pub OfTargets : (is_absent : ℕ → ℕ → Bool) → Volume → ((element position : ℕ) → Place → Type 0) → Type 0
OfTargets is_absent volume Says =
    volume.marked ≡ false → is_within volume ≡ true → (element position : ℕ) (part : Part) (place : Place) (slot : ℕ)
    → IsTarget volume element position part place slot → DoRowsCount is_absent element part → Says element position place

-- The rows below its rebuild row hold what they should: the values of their cells, and the sums of rows where the position holds parity. Where the
-- element keeps parity, only the first position that is out of sync has such rows.
pub record AreRowsKept (is_absent : ℕ → ℕ → Bool) (volume : Volume) (image : Image) : Type 0 where
  pub rebuilt : OfTargets is_absent volume (λ element position place. HasRebuilt volume element position 0 place.row image image)
  pub first : OfTargets is_absent volume (λ element position place. (place.row ≡ 0) ⊎ IsFirstOut volume element position)

-- no rows are counted as rebuilt, as behind a mark
abbrev pub HasNoRows : Volume → Type 0
HasNoRows volume =
    (element position : ℕ) (part : Part) (place : Place) → slice_get volume.parts element ≡ Some part → slice_get part.places position ≡ Some place → place.row ≡ 0

-- a rebuild goes on behind the rows that are set
abbrev pub GoesOnBehind : Volume → (element position from : ℕ) → Type 0
GoesOnBehind volume element position from = (part : Part) (place : Place) (slot : ℕ) → IsTarget volume element position part place slot → place.row ≤ from

-- two images hold the same in each sector of the array's extents, in sync or not
abbrev pub AreAlikeThroughout : Volume → Image → Image → Type 0
AreAlikeThroughout volume one other = (element position sector slot lba : ℕ) → LiesAt volume element position sector slot lba → one slot lba ≡ other slot lba
