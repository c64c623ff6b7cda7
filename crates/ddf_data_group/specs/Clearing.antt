-- Changes of an array that give more of it to read from, and those by which a rebuild goes on.
use Rattle.std.specs.Prelude.{◌≡◌, ℕ, zero, suc, ◌<◌, ◌≤◌, Bool, true, false, List, [], ◌∷◌, Option, Some, None, map, option_map, slice_get}
use Rattle.ddf_config.specs.declared.array.Array.{Array}
use Rattle.ddf_config.specs.declared.element.Position.{Position}
use Rattle.ddf_config.specs.declared.seat.Seat.{Seat}
use Rattle.ddf_config.specs.ElementValue.{ElementValue, with_positions}
use Rattle.ddf_config.specs.States.{is_marked}
use Rattle.ddf_bay.specs.Sectors.{Image}
use Rattle.ddf_array.specs.Viewing.{seat_slot}
use Rattle.ddf_array.specs.Volume.{Volume}
use Rattle.ddf_array.specs.Within.{is_within}
use Rattle.ddf_data_array.specs.Allowed.{Allowed}
use Rattle.ddf_rebuild.specs.Rebuilding.{HasRebuilt}
use Rattle.ddf_rebuild.specs.Target.{IsOut}
use Rattle.ddf_data_array.specs.Changing.{changed_item, IsConsistentNow, IsRebuilt, ValuesMay, with_mark}
use Rattle.ddf_data_array.specs.Moved.{HoldsTheSame}
use Rattle.ddf_data_array.specs.Rows.{AreRowsKept, IsFirstOut, NoneAbsent}

-- The array has the same elements.
pub record IsSameButMark (before after : Array) : Type 0 where
  pub same_secondary : after.secondary ≡ before.secondary
  pub same_elements : after.elements ≡ before.elements

-- Its mark may be cleared: it is consistent, the value of each block is one that it may have, and the rows that count as rebuilt hold what they should.
pub record MayBeCleared (is_absent : ℕ → ℕ → Bool) (volume : Volume) (image : Image) (allowed : Allowed) : Type 0 where
  pub consistent : IsConsistentNow is_absent volume image
  pub rows : AreRowsKept is_absent (with_mark false volume) image
  pub may : ValuesMay volume image allowed

abbrev pub position_in_sync : Position → Position
position_in_sync position = record position { synced = true; row = 0 }

abbrev pub element_in_sync : ℕ → ElementValue → ElementValue
element_in_sync position element = with_positions element (changed_item position_in_sync position element.positions)

-- the elements with a position of one of them in sync
abbrev pub elements_in_sync : (element position : ℕ) → List (Option ElementValue) → List (Option ElementValue)
elements_in_sync element position elements = changed_item (option_map (element_in_sync position)) element elements

-- The array has a position in sync, and is marked if it was.
pub record IsInSync (element position : ℕ) (before after : Array) : Type 0 where
  pub same_secondary : after.secondary ≡ before.secondary
  pub same_mark : is_marked after ≡ is_marked before
  pub elements_are : after.elements ≡ elements_in_sync element position before.elements

-- A position of the array may be in sync: it is out of sync on a disk that is there, all its rows hold what they should, and the array is within
-- its level, unmarked, and lacks no disk of that element that a current member has. Where the element keeps parity, no earlier position is out of sync.
pub record MayBeInSync (is_absent : ℕ → ℕ → Bool) (volume : Volume) (image : Image) (element position : ℕ) : Type 0 where
  pub unmarked : volume.marked ≡ false
  pub within : is_within volume ≡ true
  pub target : IsOut volume element position
  pub all_read : NoneAbsent is_absent element
  pub first : IsFirstOut volume element position
  pub rebuilt : IsRebuilt volume element position image

abbrev pub position_noted : ℕ → Position → Position
position_noted row position = record position { row = row }

abbrev pub element_noted : (position row : ℕ) → ElementValue → ElementValue
element_noted position row element = with_positions element (changed_item (position_noted row) position (map (position_noted 0) element.positions))

-- the elements with so many rows of a position of one of them that count as rebuilt, and none of its other positions
abbrev pub elements_noted : (element position row : ℕ) → List (Option ElementValue) → List (Option ElementValue)
elements_noted element position row elements = changed_item (option_map (element_noted position row)) element elements

-- The array counts so many rows of a position, and is marked if it was.
pub record IsNotedArray (element position row : ℕ) (before after : Array) : Type 0 where
  pub same_secondary : after.secondary ≡ before.secondary
  pub same_mark : is_marked after ≡ is_marked before
  pub elements_are : after.elements ≡ elements_noted element position row before.elements

-- So many rows of a position may count: they hold what they should, and where the element keeps parity, no earlier position is out of sync.
pub record MayBeNoted (volume : Volume) (image : Image) (element position row : ℕ) : Type 0 where
  pub first : IsFirstOut volume element position
  pub rebuilt : HasRebuilt volume element position 0 row image image

-- no earlier position of the element is out of sync
abbrev pub IsFirstOf : Array → (element position : ℕ) → Type 0
IsFirstOf array element position =
    (plan : ElementValue) → slice_get array.elements element ≡ Some (Some plan)
    → (earlier : ℕ) (one : Position) → earlier < position → slice_get plan.positions earlier ≡ Some one → one.synced ≡ true

-- a position counts no rows behind this one
abbrev pub HasRowsUpTo : Array → (element position row : ℕ) → Type 0
HasRowsUpTo array element position row =
    (plan : ElementValue) (one : Position) → slice_get array.elements element ≡ Some (Some plan) → slice_get plan.positions position ≡ Some one → one.row ≤ row

abbrev pub position_moved : (reference start : ℕ) → Position → Position
position_moved reference start position = record position { reference = reference; start = start; synced = true; row = 0 }

-- an element of which a position lies on another disk, in sync
pub record IsMovedElement (position reference start : ℕ) (before after : ElementValue) : Type 0 where
  pub same_level : after.level ≡ before.level
  pub same_qualifier : after.qualifier ≡ before.qualifier
  pub same_strip : after.strip ≡ before.strip
  pub same_blocks : after.blocks ≡ before.blocks
  pub positions_are : after.positions ≡ changed_item (position_moved reference start) position before.positions

abbrev pub IsMovedPart : (position reference start : ℕ) → Option ElementValue → Option ElementValue → Type 0
IsMovedPart position reference start None None = Unit {0}
IsMovedPart position reference start None (Some after) = ⊥
IsMovedPart position reference start (Some before) None = ⊥
IsMovedPart position reference start (Some before) (Some after) = IsMovedElement position reference start before after

-- the elements of which this one has a position on another disk
abbrev pub AreMovedParts : (element position reference start : ℕ) → List (Option ElementValue) → List (Option ElementValue) → Type 0
AreMovedParts element position reference start [] [] = Unit {0}
AreMovedParts element position reference start [] (after ∷ afters) = ⊥
AreMovedParts element position reference start (before ∷ befores) [] = ⊥
AreMovedParts zero position reference start (before ∷ befores) (after ∷ afters) = IsMovedPart position reference start before after × (afters ≡ befores)
AreMovedParts (suc element) position reference start (before ∷ befores) (after ∷ afters) =
    (after ≡ before) × AreMovedParts element position reference start befores afters

-- The array has a position on another disk, in sync, and is marked if it was.
pub record IsMovedArray (element position reference start : ℕ) (before after : Array) : Type 0 where
  pub same_secondary : after.secondary ≡ before.secondary
  pub same_mark : is_marked after ≡ is_marked before
  pub moved : AreMovedParts element position reference start before.elements after.elements

-- A position of the array may move to an extent on another disk: it lies on a seat, below its floor, and holds what the position holds.
pub record MayMove (seats : List Seat) (array : Array) (volume : Volume) (image : Image) (element position reference start : ℕ) : Type 0 where
  pub slot : ℕ
  pub is_seated : (plan : ElementValue) → slice_get array.elements element ≡ Some (Some plan)
      → seat_slot seats (record { reference = reference; start = start; blocks = plan.blocks }) ≡ Some slot
  pub same : HoldsTheSame volume image element position slot start
