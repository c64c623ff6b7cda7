-- The first half of a resync: the copies of blocks are made equal, block by block (profile).
use Rattle.std.specs.Prelude.{◌≡◌, ℕ, ◌+◌, ◌<◌, ◌≤◌, Bool, true, List, map, Some, slice_get}
use Rattle.ddf_bay.specs.Sectors.{Image}
use Rattle.ddf_bay.specs.State.{BayState}
use Rattle.ddf_array.specs.declared.site.Site.{Site}
use Rattle.ddf_array.specs.Volume.{Volume}
use Rattle.ddf_array.specs.Sources.{copies, copy}
use Rattle.ddf_array.specs.Values.{bytes_at}
use Rattle.ddf_read.specs.Reading.{IsGivenBy}
use Rattle.ddf_cells.specs.CellsOn.{cell_on}
use Rattle.ddf_cells.specs.Touching.{IsTouchedSlot}
use Rattle.ddf_resync.specs.Several.{has_other}

-- a block has at most one available cell
abbrev pub HasOneCopy : Volume → (block : ℕ) → Type 0
HasOneCopy volume block = (i j : ℕ) (one other : Site) → slice_get (copies volume block) i ≡ Some one → slice_get (copies volume block) j ≡ Some other → one ≡ other

-- an available cell of a block on a position of an element is another than this one
pub record HasOtherOn (volume : Volume) (element block : ℕ) (first : Site) : Type 0 where
  pub position : ℕ
  pub other : Site
  pub is_cell : cell_on volume element position block ≡ Some other
  pub differs : other ≡ first → ⊥

-- those on the first positions, so many, are this one
abbrev pub AreThisOn : Volume → (element positions block : ℕ) → Site → Type 0
AreThisOn volume element positions block first =
    (position : ℕ) (other : Site) → position < positions → cell_on volume element position block ≡ Some other → other ≡ first

-- cells of blocks from one on are as before
abbrev pub AreAsBefore : Volume → (before now : Image) → (from : ℕ) → Type 0
AreAsBefore volume before now from = (block i : ℕ) (one : Site) → from ≤ block → slice_get (copies volume block) i ≡ Some one → bytes_at now one ≡ bytes_at before one

-- The blocks from one on up to another have equal copies, which each has what was read of them, the first before others. The
-- cells of other blocks are as before.
pub record AreCopied (failed : ℕ → Type 0) (volume : Volume) (before now : Image) (from to : ℕ) : Type 0 where
  pub equal : (block i j : ℕ) (one other : Site) → from ≤ block → block < to → slice_get (copies volume block) i ≡ Some one → slice_get (copies volume block) j ≡ Some other → bytes_at now one ≡ bytes_at now other
  pub given : (block i : ℕ) (one : Site) → from ≤ block → block < to → slice_get (copies volume block) i ≡ Some one → IsGivenBy failed before (map copy (copies volume block)) (bytes_at now one)
  pub earlier : (block i : ℕ) (one : Site) → block < from → slice_get (copies volume block) i ≡ Some one → bytes_at now one ≡ bytes_at before one
  pub later : AreAsBefore volume before now to

-- the slots of these blocks' available cells, of those that have several, were written to
abbrev pub AreNoted : Volume → List Bool → (from to : ℕ) → Type 0
AreNoted volume touched from to =
    (block i : ℕ) (one : Site) → from ≤ block → block < to → has_other volume block ≡ true → slice_get (copies volume block) i ≡ Some one → IsTouchedSlot touched one.slot

-- Sectors are asked for and written while a count of them goes from one number to another, and no more of them.
pub record Asks {D : Type 0} (old new : BayState D) (from to : ℕ) : Type 0 where
  pub asked : new.sectors_asked + from ≤ old.sectors_asked + to
  pub written : new.sectors_written + from ≤ old.sectors_written + to
