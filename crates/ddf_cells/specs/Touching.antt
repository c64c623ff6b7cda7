-- Writes and syncs over a bay, one after another (profile).
use Rattle.std.specs.Prelude.{◌≡◌, ◌⊎◌, ℕ, ◌+◌, ◌<◌, ◌≤◌, Bool, true, false, List, [], Some, length, slice_index_or}
use Rattle.ddf_bay.specs.State.{BayState}
use Rattle.ddf_bay.specs.Sectors.{Image, Outcomes}
use Rattle.ddf_bay.specs.Moments.{GoesOn, StopsLeave}
use Rattle.ddf_array.specs.declared.site.Site.{Site}
use Rattle.ddf_array.specs.Volume.{Volume}
use Rattle.ddf_array.specs.Values.{bytes_at}
use Rattle.ddf_cells.specs.CellsOn.{cell_on}

-- a slot is one of those that were written to
abbrev pub IsTouchedSlot : List Bool → ℕ → Type 0
IsTouchedSlot touched slot = slice_index_or touched slot false ≡ true

-- what calls may give sectors of the bay: a slot, an LBA, and the bytes
abbrev pub Giving : Type 1
Giving = ℕ → ℕ → List ℕ → Type 0

-- calls may give a sector of this slot bytes
pub record IsGivenOn (May : Giving) (slot : ℕ) : Type 0 where
  pub lba : ℕ
  pub bytes : List ℕ
  pub is_given : May slot lba bytes

-- an image that has each sector by itself as a stop might leave it before, or with bytes that calls may give it
abbrev pub IsAmongGiven : Giving → Outcomes → Image → Type 0
IsAmongGiven May may image = (s l : ℕ) → may s l (image s l) ⊎ May s l (image s l)

-- Any number of calls gave sectors only bytes that they may give, on touched slots. At each moment since the first a stop
-- leaves such an image. A slot is touched only where they may give one of its sectors bytes.
pub record Writes {D : Type 0} (May : Giving) (tells : Type 0) (old new : BayState D) (before after : List Bool) : Type 0 where
  pub goes_on : GoesOn old new
  pub same_sizes : new.sizes ≡ old.sizes
  pub reads_rise : (s : ℕ) → old.failed_reads s ≤ new.failed_reads s
  pub writes_rise : (s : ℕ) → old.failed_writes s ≤ new.failed_writes s
  pub held : tells → (s l : ℕ) → (new.held s l ≡ old.held s l) ⊎ (May s l (new.held s l) × IsTouchedSlot after s)
  pub left : (s l : ℕ) (bytes : List ℕ) → new.may_hold s l bytes → old.may_hold s l bytes ⊎ (May s l bytes × IsTouchedSlot after s)
  pub any_moment : StopsLeave old new (IsAmongGiven May old.may_hold)
  pub touched_up : (s : ℕ) → IsTouchedSlot before s → IsTouchedSlot after s
  pub touched_only : (s : ℕ) → IsTouchedSlot after s → IsTouchedSlot before s ⊎ IsGivenOn May s
  pub same_count : length after ≡ length before

-- what calls on any slots leave of sizes and counts of faults: none of these falls
pub record GoesBetween {D : Type 0} (old new : BayState D) : Type 0 where
  pub goes_on : GoesOn old new
  pub same_sizes : new.sizes ≡ old.sizes
  pub reads_rise : (s : ℕ) → old.failed_reads s ≤ new.failed_reads s
  pub writes_rise : (s : ℕ) → old.failed_writes s ≤ new.failed_writes s

-- these blocks' cells on a position hold their bytes, on touched slots
abbrev pub AreSet : Volume → (element position start from to : ℕ) → List (List ℕ) → Image → List Bool → Type 0
AreSet volume element position start from to sectors image touched =
    (k : ℕ) (one : Site) → from ≤ k → k < to → cell_on volume element position (start + k) ≡ Some one
    → (bytes_at image one ≡ slice_index_or sectors k []) × IsTouchedSlot touched one.slot
