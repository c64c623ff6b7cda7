-- What sources and sinks tell, and what a call on one makes of its bytes.
use Rattle.std.specs.Prelude.{◌≡◌, ◌⊎◌, ℕ, ◌≤◌, List, ◌++◌, length, take, drop}
use Rattle.ddf_bytes.specs.Counts.{Rose}

-- what a source tells at one moment
pub record SourceState : Type 0 where
  -- the bytes that are left
  pub left : List ℕ
  -- how many reads failed: it stands still at its last value, as each count does
  pub faults : ℕ

-- what a sink tells at one moment
pub record SinkState : Type 0 where
  -- the bytes that were taken
  pub taken : List ℕ
  -- how many writes failed
  pub faults : ℕ
  -- how many writes of a piece that isn't empty took nothing
  pub empty_takes : ℕ

-- So many bytes came: the first that were left, at the beginning of the piece. The others are left.
pub record Gives (old new : SourceState) (piece : List ℕ) (count : ℕ) : Type 0 where
  pub first : take count piece ≡ take count old.left
  pub enough : count ≤ length old.left
  pub others : new.left ≡ drop count old.left

-- Some front of what was left came, and the others are left.
pub record GivesFront (old new : SourceState) : Type 0 where
  pub count : ℕ
  pub enough : count ≤ length old.left
  pub others : new.left ≡ drop count old.left

-- A front of the piece was taken, and nothing else.
pub record TakesFront (old new : SinkState) (piece : List ℕ) : Type 0 where
  pub count : ℕ
  pub within : count ≤ length piece
  pub front : new.taken ≡ old.taken ++ take count piece

-- a write failed, or took nothing
abbrev pub SinkRose : (old new : SinkState) → Type 0
SinkRose old new = Rose old.faults new.faults ⊎ Rose old.empty_takes new.empty_takes

-- No count of a sink falls.
pub record SinkNeverFalls (old new : SinkState) : Type 0 where
  pub faults : old.faults ≤ new.faults
  pub empty_takes : old.empty_takes ≤ new.empty_takes

-- No write failed, and none took nothing.
pub record SinkSame (old new : SinkState) : Type 0 where
  pub faults : new.faults ≡ old.faults
  pub empty_takes : new.empty_takes ≡ old.empty_takes
