-- What happens to one array, from moment to moment.
use Rattle.std.specs.Prelude.{◌≡◌, ◌⊎◌, ℕ, Bool, true, false, List, [], ◌∷◌}
use Rattle.ddf_bay.specs.Sectors.{Image}
use Rattle.ddf_array.specs.Apart.{IsApart}
use Rattle.ddf_array.specs.Volume.{Volume, IsVolume}
use Rattle.ddf_array.specs.Within.{is_within}
use Rattle.ddf_array.specs.Sound.{AreSectors}
use Rattle.ddf_cells.specs.Writing.{StaysBut}
use Rattle.ddf_write.specs.Writing.{HasWritten, IsLeftByWrite}
use Rattle.ddf_resync.specs.Resyncing.{MayResync}
use Rattle.ddf_rebuild.specs.Rebuilding.{HasRebuilt}
use Rattle.ddf_rebuild.specs.Target.{IsOut, IsTargetCell}
use Rattle.ddf_data_array.specs.Allowed.{Allowed, while_written, once_written, once_consistent}
use Rattle.ddf_data_array.specs.Changing.{IsConsistentNow, IsRebuilt, IsWritable, ValuesMay, in_sync, noted, with_mark}
use Rattle.ddf_data_array.specs.Fewer.{IsFewer, LeavesParity, LeavesRows}
use Rattle.ddf_data_array.specs.Kept.{IsKeptData}
use Rattle.ddf_data_array.specs.Moved.{HoldsTheSame, moved}
use Rattle.ddf_data_array.specs.Rows.{AreAlikeThroughout, AreRowsKept, GoesOnBehind, IsFirstOut, NoneAbsent}

-- One image of those that a stop may leave at a moment, the array as its configuration and the disks that aren't lost give it, and the bytes
-- that its blocks may have. A stop changes none of this: the bay goes on as an image that it may leave.
pub record Moment : Type 0 where
  pub volume : Volume
  pub is_absent : ℕ → ℕ → Bool
  pub image : Image
  pub allowed : Allowed

abbrev pub Keeps : Moment → Type 0
Keeps moment = IsKeptData moment.is_absent moment.volume moment.image moment.allowed

-- the same array, over the same disks
pub record IsSameArray (old new : Moment) : Type 0 where
  pub same_volume : new.volume ≡ old.volume
  pub same_absent : new.is_absent ≡ old.is_absent
  pub is_volume : IsVolume old.volume
  pub is_apart : IsApart old.volume
  pub are_sectors : AreSectors new.image

-- records are written, or blocks of other arrays
pub record IsOther (old new : Moment) : Type 0 where
  pub same : IsSameArray old new
  pub same_allowed : new.allowed ≡ old.allowed
  pub same_cells : AreAlikeThroughout old.volume old.image new.image

-- a disk is lost, or is counted as lost or failed; a spare takes the place of one; the array is marked
pub record IsLess (old new : Moment) : Type 0 where
  pub same_image : new.image ≡ old.image
  pub same_allowed : new.allowed ≡ old.allowed
  pub is_volume : IsVolume new.volume
  pub fewer : IsFewer old.volume new.volume
  pub parity : LeavesParity old.is_absent new.is_absent old.volume new.volume
  pub rows : LeavesRows old.volume new.volume

-- the mark is cleared
pub record IsUnmarked (old new : Moment) : Type 0 where
  pub same_image : new.image ≡ old.image
  pub same_allowed : new.allowed ≡ old.allowed
  pub same_absent : new.is_absent ≡ old.is_absent
  pub is_unmarked : new.volume ≡ with_mark false old.volume
  pub consistent : IsConsistentNow old.is_absent old.volume old.image
  pub rows : AreRowsKept old.is_absent (with_mark false old.volume) old.image
  pub may : ValuesMay old.volume old.image old.allowed

-- the array is consistent, by a resync or the administrator's word: what its blocks have counts from now on
pub record IsCounted (old new : Moment) : Type 0 where
  pub same_image : new.image ≡ old.image
  pub same_absent : new.is_absent ≡ old.is_absent
  pub marked : Bool
  pub is_marked : new.volume ≡ with_mark marked old.volume
  pub are_sectors : AreSectors old.image
  pub consistent : IsConsistentNow old.is_absent old.volume old.image
  pub rows : AreRowsKept old.is_absent (with_mark marked old.volume) old.image
  pub counts : new.allowed ≡ once_consistent old.volume old.image

-- blocks are written, or a write of them was interrupted
pub record IsWriting (old new : Moment) : Type 0 where
  pub same : IsSameArray old new
  pub writable : IsWritable old.volume
  pub start : ℕ
  pub sectors : List (List ℕ)
  pub left : IsLeftByWrite old.volume start sectors old.image new.image
  pub may : new.allowed ≡ while_written old.allowed start sectors

-- they are written, and acknowledged
pub record IsWritten (old new : Moment) : Type 0 where
  pub same : IsSameArray old new
  pub writable : IsWritable old.volume
  pub start : ℕ
  pub sectors : List (List ℕ)
  pub left : IsLeftByWrite old.volume start sectors old.image new.image
  pub written : HasWritten old.volume start sectors ⊥ new.image
  pub may : new.allowed ≡ once_written old.allowed start sectors

-- cells are made equal, by an image that is kept too: that which was held as the resync began
pub record IsResyncing (old new : Moment) : Type 0 where
  pub same : IsSameArray old new
  pub same_allowed : new.allowed ≡ old.allowed
  pub writable : IsWritable old.volume
  pub first : Image
  pub first_kept : IsKeptData old.is_absent old.volume first old.allowed
  pub left : (s l : ℕ) → (new.image s l ≡ old.image s l) ⊎ MayResync old.volume (Unit {0}) first s l (new.image s l)

-- rows of a position that is out of sync are set, behind those that are
pub record IsRebuilding (old new : Moment) : Type 0 where
  pub same : IsSameArray old new
  pub same_allowed : new.allowed ≡ old.allowed
  pub element : ℕ
  pub position : ℕ
  pub from : ℕ
  pub to : ℕ
  pub behind : GoesOnBehind old.volume element position from
  pub left : StaysBut (IsTargetCell old.volume element position from to) old.image new.image

-- those that are set count, of the first position of the element that is out of sync: a rebuild that was interrupted goes on behind them
pub record IsNoted (old new : Moment) : Type 0 where
  pub same_image : new.image ≡ old.image
  pub same_allowed : new.allowed ≡ old.allowed
  pub same_absent : new.is_absent ≡ old.is_absent
  pub is_volume : IsVolume old.volume
  pub element : ℕ
  pub position : ℕ
  pub row : ℕ
  pub first : IsFirstOut old.volume element position
  pub rebuilt : HasRebuilt old.volume element position 0 row old.image old.image
  pub is_noted : new.volume ≡ noted element position row old.volume

-- once all are set the position is in sync
pub record IsFinished (old new : Moment) : Type 0 where
  pub same_image : new.image ≡ old.image
  pub same_allowed : new.allowed ≡ old.allowed
  pub same_absent : new.is_absent ≡ old.is_absent
  pub is_volume : IsVolume old.volume
  pub unmarked : old.volume.marked ≡ false
  pub within : is_within old.volume ≡ true
  pub element : ℕ
  pub position : ℕ
  pub target : IsOut old.volume element position
  pub all_read : NoneAbsent old.is_absent element
  pub first : IsFirstOut old.volume element position
  pub rebuilt : IsRebuilt old.volume element position old.image
  pub is_synced : new.volume ≡ in_sync element position old.volume

-- a position lies elsewhere, where the same bytes stand
pub record IsReturned (old new : Moment) : Type 0 where
  pub same_image : new.image ≡ old.image
  pub same_allowed : new.allowed ≡ old.allowed
  pub same_absent : new.is_absent ≡ old.is_absent
  pub is_volume : IsVolume old.volume
  pub element : ℕ
  pub position : ℕ
  pub slot : ℕ
  pub start : ℕ
  pub same : HoldsTheSame old.volume old.image element position slot start
  pub is_moved : new.volume ≡ moved element position slot start old.volume

abbrev pub IsStep : Moment → Moment → Type 0
IsStep old new =
    IsOther old new ⊎ IsLess old new ⊎ IsUnmarked old new ⊎ IsCounted old new ⊎ IsWriting old new ⊎ IsWritten old new ⊎ IsResyncing old new ⊎ IsRebuilding old new
    ⊎ IsNoted old new ⊎ IsFinished old new ⊎ IsReturned old new

-- each moment follows the one before it
abbrev pub IsHistory : Moment → List Moment → Type 0
IsHistory start [] = Unit {0}
IsHistory start (next ∷ rest) = IsStep start next × IsHistory next rest
