-- The data cells of neighbouring rows, while blocks are written (profile).
use Rattle.std.specs.Prelude.{◌≢◌, ℕ, ◌+◌, ◌/◌, ◌<◌, ◌≤◌, Some}
use Rattle.ddf_primary.specs.Cells.{parity_member}
use Rattle.ddf_array.specs.declared.part.Part.{Part}

-- so many blocks from one on are all among those that are written, or none of them is
pub record AreAlike (start count block many : ℕ) : Type 0 where
  pub before : block < start → block + many ≤ start
  pub among : start ≤ block → block < start + count → block + many ≤ start + count

-- a position holds no parity of so many neighbouring rows
abbrev pub HoldsDataAlong : Part → (position sector count : ℕ) → Type 0
HoldsDataAlong part position sector count = (k : ℕ) → k < count → parity_member part.shape ((sector + k) / part.shape.strip) ≢ Some position
