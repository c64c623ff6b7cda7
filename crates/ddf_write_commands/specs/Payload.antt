-- The bytes of blocks, as the input gives them.
use Rattle.std.specs.Prelude.{◌≡◌, ◌⊎◌, ℕ, ◌-◌, ◌*◌, ◌<◌, true, false, List, [], ◌++◌, length, max, min, take, Result, Ok, Err}
use Rattle.ddf_bytes.specs.Counts.{Rose}
use Rattle.ddf_bytes.specs.Streams.{GivesFront}
use Rattle.ddf_array.specs.Volume.{Volume}
use Rattle.ddf_write.specs.declared.beside.Beside.{Beside}
use Rattle.ddf_write.specs.Looking.{EndWithStripes, most_blocks, piece_of}
use Rattle.ddf_write.specs.RowWrites.{keeps_parity_anywhere}
use Rattle.ddf_pieces.specs.Pieces.{EndWithPiece, bytes_of}
use Rattle.ddf_pieces.specs.Coming.{AreSectorsOf512}
use Rattle.ddf_answer.specs.declared.failure.Failure.{Failure}
use Rattle.ddf_answer.specs.Call.{Input}
use Rattle.ddf_write_commands.specs.declared.payload.PayloadFault.{PayloadFault}
use Rattle.ddf_write_commands.specs.declared.payload.PayloadFault.TheVariants.{Failed, Memory, Short}

-- ---- pieces

-- How the blocks of a range go in pieces: so many each, but that the first one is shorter by some, and the last one may be.
pub record Pieces : Type 0 where
  pub each : ℕ
  pub ahead : ℕ

-- as they were looked at
abbrev pub pieces_of : Beside → Pieces
pieces_of beside = record { each = beside.each; ahead = beside.ahead }

-- Those of a range of an array: of one that keeps no parity 2048 blocks each; of one that does they end where stripes end, or all of it is one, since these
-- would split a row.
pub record ArePiecesOf (volume : Volume) (start count : ℕ) (pieces : Pieces) : Type 0 where
  pub some : 0 < pieces.each
  pub some_first : pieces.ahead < pieces.each
  pub plain : keeps_parity_anywhere volume ≡ false → (pieces.each ≡ most_blocks) × (pieces.ahead ≡ 0)
  pub stripes : keeps_parity_anywhere volume ≡ true → EndWithStripes volume start count pieces.each pieces.ahead

-- the blocks of the first of them
abbrev pub first_piece : Pieces → (count : ℕ) → ℕ
first_piece pieces count = piece_of pieces.each pieces.ahead 0 count

-- the blocks for which there is room: those of any of them, and at least one
abbrev pub room_of : Pieces → (count : ℕ) → ℕ
room_of pieces count = max 1 (min pieces.each count)

-- ---- what is taken of the input

-- nothing was taken, and no read failed
abbrev pub IsUntaken : Input → Type 0
IsUntaken input = input.new ≡ input.old

-- a read of the input failed
abbrev pub InputRose : Input → Type 0
InputRose input = Rose input.old.faults input.new.faults

-- These sectors are the first bytes of the input, those of all of so many blocks or of their first pieces. So much was left behind them.
pub record IsPayload (input : Input) (pieces : Pieces) (count : ℕ) (sectors : List (List ℕ)) (left : List ℕ) : Type 0 where
  pub whole : AreSectorsOf512 sectors
  pub ends : EndWithPiece pieces.each pieces.ahead count (length sectors)
  pub bytes : input.tells → input.old.left ≡ bytes_of sectors ++ left

-- All blocks came, and not a byte more was taken. Or the first pieces did, one at least; the input ended before the next was full, and is empty.
abbrev pub IsAllTaken : Input → Pieces → (count : ℕ) → (sectors : List (List ℕ)) → (left : List ℕ) → Type 0
IsAllTaken input pieces count sectors left =
    ((length sectors ≡ count) × (input.tells → input.new.left ≡ left))
    ⊎ ((0 < length sectors) × (length sectors < count)
    × (input.tells → (length left < 512 * piece_of pieces.each pieces.ahead (length sectors) (count - length sectors)) × (input.new.left ≡ [])))

-- what was taken of it in the end, where all was done; else some front of what was left
abbrev pub IsTakenBy : Input → Pieces → (count : ℕ) → (sectors : List (List ℕ)) → (left : List ℕ) → Result ℕ Failure → Type 0
IsTakenBy input pieces count sectors left (Ok sequence) = IsAllTaken input pieces count sectors left
IsTakenBy input pieces count sectors left (Err failure) = input.tells → GivesFront input.old input.new

-- The input ended within the first piece of so many blocks: so many bytes were left.
pub record IsShort (input : Input) (pieces : Pieces) (count found : ℕ) : Type 0 where
  pub fewer : found < 512 * first_piece pieces count
  pub all : input.tells → (length input.old.left ≡ found) × (input.new.left ≡ [])

-- ---- as they are read

-- The room for a piece begins with the bytes of the first piece, and not a byte more was taken.
pub record IsFirstPiece (input : Input) (pieces : Pieces) (count : ℕ) (room : List ℕ) : Type 0 where
  pub size : length room ≡ 512 * room_of pieces count
  pub bytes : input.tells → input.old.left ≡ take (512 * first_piece pieces count) room ++ input.new.left
  pub same_faults : input.new.faults ≡ input.old.faults

-- why it doesn't: where memory ran out nothing was taken
abbrev pub IsNoPayload : Input → Pieces → (count : ℕ) → PayloadFault → Type 0
IsNoPayload input pieces count (Short found) = IsShort input pieces count found
IsNoPayload input pieces count Failed = InputRose input
IsNoPayload input pieces count Memory = IsUntaken input
