-- The pieces in which a run is written: each sector that is turned by itself, and those between them together.
use Rattle.std.specs.Prelude.{ℕ, zero, suc, ◌+◌, ◌-◌, Bool, ◌==◌, ◌||◌, if◌then◌else◌, List, [], Option, slice_index_or}
use Rattle.ddf_hidden_logs.specs.declared.mask.Mask.{Mask}
use Rattle.ddf_hidden_logs.specs.Masks.{turns}

-- a sector of a run from an LBA on, by its place in the run, is one of those that are turned
abbrev pub turns_at : Option Mask → ℕ → List (List ℕ) → ℕ → Bool
turns_at mask lba sectors k = turns mask (lba + k) (slice_index_or sectors k [])

-- A piece begins at the first sector, at one that is turned, and behind one that is.
abbrev pub begins_at : Option Mask → ℕ → List (List ℕ) → ℕ → Bool
begins_at mask lba sectors k = (k == 0) || (turns_at mask lba sectors k || turns_at mask lba sectors (k - 1))

-- how many pieces begin in the first so many sectors
unfoldable pub pieces_below : Option Mask → ℕ → List (List ℕ) → ℕ → ℕ
pieces_below mask lba sectors zero = 0
pieces_below mask lba sectors (suc n) = pieces_below mask lba sectors n + (if begins_at mask lba sectors n then 1 else 0)
