-- The sectors of a bay, and what may stand at each of them after a stop.
use Rattle.std.specs.Prelude.{◌≡◌, ℕ, ◌+◌, ◌-◌, ◌<◌, ◌≤◌, List, [], length, slice_index, slice_index_or, nat_lt, nat_le, ◌==◌, ◌&&◌, if◌then◌else◌}

-- the bytes of each sector of each slot, at one moment
abbrev pub Image : Type 0
Image = ℕ → ℕ → List ℕ

-- the bytes that a stop may leave in each sector of each slot, each sector by itself
abbrev pub Outcomes : Type 1
Outcomes = ℕ → ℕ → List ℕ → Type 0

-- a sector of a run, and the bytes that the run has there
pub record InRun (lba : ℕ) (sectors : List (List ℕ)) (l : ℕ) (bytes : List ℕ) : Type 0 where
  pub from : lba ≤ l
  pub below : l < lba + length sectors
  pub are : bytes ≡ slice_index_or sectors (l - lba) []

-- an image that has these sectors on a slot from lba on, and is otherwise as it was
abbrev pub put_run : Image → ℕ → ℕ → List (List ℕ) → Image
put_run image slot lba sectors s l =
    if (s == slot) && (nat_le lba l && nat_lt l (lba + length sectors)) then slice_index_or sectors (l - lba) [] else image s l

-- each sector by itself has bytes that it may have
abbrev pub IsLeft : Outcomes → Image → Type 0
IsLeft may image = (s l : ℕ) → may s l (image s l)

-- the bytes of a whole sector: 512 of them
pub record IsWhole (bytes : List ℕ) : Type 0 where
  pub size : length bytes ≡ 512
  pub are_bytes : (i : ℕ) → slice_index bytes i < 256

-- the sectors of a slot as read from lba on
abbrev pub IsRead : (ℕ → List ℕ) → ℕ → List (List ℕ) → Type 0
IsRead held lba sectors = (k : ℕ) → k < length sectors → slice_index_or sectors k [] ≡ held (lba + k)
