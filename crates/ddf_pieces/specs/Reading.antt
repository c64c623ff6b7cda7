-- What came of blocks of an array that are read and handed on to a sink piece by piece (profile).
use Rattle.std.specs.Prelude.{◌≡◌, ℕ, ◌+◌, ◌-◌, ◌<◌, ◌≤◌, List, ◌++◌, length, take, Some, None, Result, Ok, Err}
use Rattle.ddf_bytes.specs.Counts.{Rose}
use Rattle.ddf_bytes.specs.Streams.{SinkSame, SinkState, TakesFront}
use Rattle.ddf_bytes.specs.declared.sink.SinkFault.{SinkFault}
use Rattle.ddf_bytes.specs.declared.sink.SinkFault.TheVariants as sinks
use Rattle.ddf_bay.specs.State.{BayState}
use Rattle.ddf_array.specs.Volume.{Volume}
use Rattle.ddf_read.specs.declared.fault.VolumeFault.{VolumeFault}
use Rattle.ddf_read.specs.declared.fault.VolumeFault.TheVariants.{Range, Lost, Unsure, Degraded, Disk}
use Rattle.ddf_read.specs.Given.{AreGiven, NoneLeftIn}
use Rattle.ddf_read.specs.Reading.{Failed}
use Rattle.ddf_read.specs.Refused.{read_refusal}
use Rattle.ddf_pieces.specs.declared.fault.PieceFault.{PieceFault}
use Rattle.ddf_pieces.specs.declared.fault.PieceFault.TheVariants as faults
use Rattle.ddf_pieces.specs.Pieces.{AreWholePieces, bytes_of, piece_of}

-- a write to the sink failed, or took nothing
abbrev pub IsSinkFault : (before after : SinkState) → SinkFault → Type 0
IsSinkFault before after sinks.Failed = Rose before.faults after.faults
IsSinkFault before after sinks.Nothing = Rose before.empty_takes after.empty_takes

-- ---- one piece

-- the sectors are these blocks, as their sources give them
abbrev pub IsPiece : {D : Type 0} → (tells : Type 0) → (old new : BayState D) → Volume → (start : ℕ) → List (List ℕ) → Type 0
IsPiece tells old new volume start sectors = tells → AreGiven (Failed old new) old.held volume start (length sectors) sectors

-- it was read and handed on; no source is left for one of its blocks, and nothing was handed on; or it was read, and the sink gave out
abbrev pub IsPieceRead : {D : Type 0} → (tells : Type 0) → (old new : BayState D) → (sink_tells : Type 0) → (before after : SinkState) → Volume → (start : ℕ) → List (List ℕ) → Result Unit PieceFault → Type 0
IsPieceRead tells old new sink_tells before after volume start sectors (Ok done) =
    IsPiece tells old new volume start sectors × (sink_tells → after.taken ≡ before.taken ++ bytes_of sectors) × SinkSame before after
IsPieceRead tells old new sink_tells before after volume start sectors (Err (faults.Volume (Disk slot))) =
    NoneLeftIn (Failed old new) volume start (length sectors) slot × (after ≡ before)
IsPieceRead tells old new sink_tells before after volume start sectors (Err (faults.Volume other)) = ⊥
IsPieceRead tells old new sink_tells before after volume start sectors (Err faults.Source) = ⊥
IsPieceRead tells old new sink_tells before after volume start sectors (Err (faults.Sink fault)) =
    IsPiece tells old new volume start sectors × (sink_tells → TakesFront before after (bytes_of sectors)) × IsSinkFault before after fault

-- ---- a range of blocks, each piece of at most so many, of which so many blocks were handed on

module _ {D : Type 0} (tells : Type 0) (old new : BayState D) (volume : Volume) (start count each : ℕ) (sink_tells : Type 0) (before after : SinkState) (gone : ℕ) where
  -- The sectors are the first blocks of the range, all of it or its first whole pieces, as their sources give them.
  pub record AreFirst (sectors : List (List ℕ)) : Type 0 where
    pub accepted : read_refusal volume start count ≡ None
    pub whole : AreWholePieces each count (length sectors)
    pub given : IsPiece tells old new volume start sectors

  -- All blocks of the range were read, and the sink took exactly their bytes.
  pub record AllAreRead : Type 0 where
    pub sectors : List (List ℕ)
    pub are : AreFirst sectors
    pub many : length sectors ≡ gone
    pub all : gone ≡ count
    pub taken : sink_tells → after.taken ≡ before.taken ++ bytes_of sectors
    pub same : SinkSame before after

  -- The first blocks were, and the sink took exactly theirs. Of a block of the next piece no source is left, at this slot.
  pub record IsStoppedAt (slot : ℕ) : Type 0 where
    pub sectors : List (List ℕ)
    pub are : AreFirst sectors
    pub many : length sectors ≡ gone
    pub more : gone < count
    pub none_left : NoneLeftIn (Failed old new) volume (start + gone) (piece_of each (count - gone)) slot
    pub taken : sink_tells → after.taken ≡ before.taken ++ bytes_of sectors
    pub same : SinkSame before after

  -- The first blocks and those of the next piece were read, and the sink took the first ones and a front of the piece.
  pub record IsCutAt (fault : SinkFault) : Type 0 where
    pub sectors : List (List ℕ)
    pub are : AreFirst sectors
    pub many : length sectors ≡ gone
    pub more : gone < count
    pub piece : List (List ℕ)
    pub size : length piece ≡ piece_of each (count - gone)
    pub next : IsPiece tells old new volume (start + gone) piece
    pub taken : sink_tells → (front : ℕ) × (front ≤ length (bytes_of piece)) × (after.taken ≡ before.taken ++ (bytes_of sectors ++ take front (bytes_of piece)))
    pub cause : IsSinkFault before after fault

  -- nothing was read, for a cause that the whole range has
  pub record IsUnread (fault : VolumeFault) : Type 0 where
    pub refused : read_refusal volume start count ≡ Some fault
    pub none_called : new.calls ≡ old.calls
    pub same : after ≡ before
    pub none_gone : gone ≡ 0

  abbrev pub ArePiecesRead : Result Unit PieceFault → Type 0
  ArePiecesRead (Ok done) = AllAreRead
  ArePiecesRead (Err (faults.Volume (Range most))) = IsUnread (Range most)
  ArePiecesRead (Err (faults.Volume Lost)) = IsUnread Lost
  ArePiecesRead (Err (faults.Volume Unsure)) = IsUnread Unsure
  ArePiecesRead (Err (faults.Volume Degraded)) = ⊥
  ArePiecesRead (Err (faults.Volume (Disk slot))) = IsStoppedAt slot
  ArePiecesRead (Err faults.Source) = ⊥
  ArePiecesRead (Err (faults.Sink fault)) = IsCutAt fault
