-- A range of blocks, piece by piece (profile).
use Rattle.std.specs.Prelude.{max, ◌≡◌, ℕ, zero, suc, ◌+◌, ◌-◌, ◌*◌, ◌<◌, ◌≤◌, List, min}
use Rattle.std.specs.List.{flat_map}

-- the blocks of the next piece: so many, or what is left of the range
abbrev pub piece_of : (each left : ℕ) → ℕ
piece_of each left = min left each

-- the blocks of a piece of a command
abbrev pub piece_blocks : ℕ
piece_blocks = 2048

-- the blocks for which it has room: those of its first piece, and at least one
abbrev pub room_for : (count : ℕ) → ℕ
room_for count = max 1 (min count piece_blocks)

-- the bytes of sectors
abbrev pub bytes_of : List (List ℕ) → List ℕ
bytes_of sectors = flat_map (λ sector. sector) sectors

-- so many blocks are all of a range, or those of its first whole pieces
pub record AreWholePieces (each count blocks : ℕ) : Type 0 where
  pub within : blocks ≤ count
  pub pieces : ℕ
  pub are : blocks < count → blocks ≡ pieces * each

-- So many blocks are all of a range, or those of its first pieces of which the first is shorter by some and the others have so many each.
pub record EndWithPiece (each ahead count blocks : ℕ) : Type 0 where
  pub within : blocks ≤ count
  pub pieces : ℕ
  pub are : 0 < blocks → blocks < count → ahead + blocks ≡ pieces * each

-- a number for each of the first pieces of a range, and their sum
abbrev pub over_pieces : ((start count : ℕ) → ℕ) → (each start count : ℕ) → (pieces : ℕ) → ℕ
over_pieces number each start count zero = 0
over_pieces number each start count (suc pieces) =
    over_pieces number each start count pieces + number (start + pieces * each) (piece_of each (count - pieces * each))

-- Something grew by no more than a number for each piece of a range; there are as many pieces as it takes.
pub record GrewByPieces (number : (start count : ℕ) → ℕ) (each start count old new : ℕ) : Type 0 where
  pub pieces : ℕ
  pub few : pieces * each < count + each
  pub grew : new ≤ old + over_pieces number each start count pieces
