-- The pieces in which a run is written: each sector that is turned by itself, and those between them together.
use Rattle.std.specs.Prelude.{ℕ, zero, suc, ◌+◌, ◌-◌, Bool, ◌==◌, ◌||◌, if◌then◌else◌, List, [], slice_index_or}
use Rattle.ddf_linux.specs.declared.kind.SlotKind.{SlotKind}
use Rattle.ddf_linux.specs.Kinds.{turns}

-- a sector of a run from an LBA on, by its place in the run, is one of those that are turned
abbrev pub turns_at : SlotKind → ℕ → List (List ℕ) → ℕ → Bool
turns_at kind lba sectors k = turns kind (lba + k) (slice_index_or sectors k [])

-- A piece begins at the first sector, at one that is turned, and behind one that is.
abbrev pub begins_at : SlotKind → ℕ → List (List ℕ) → ℕ → Bool
begins_at kind lba sectors k = (k == 0) || (turns_at kind lba sectors k || turns_at kind lba sectors (k - 1))

-- how many pieces begin in the first so many sectors
unfoldable pub pieces_below : SlotKind → ℕ → List (List ℕ) → ℕ → ℕ
pieces_below kind lba sectors zero = 0
pieces_below kind lba sectors (suc n) = pieces_below kind lba sectors n + (if begins_at kind lba sectors n then 1 else 0)
