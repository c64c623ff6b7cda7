-- Disks whose bad block logs are honoured: what such a bay tells of its slots, and what the looks for the logs make of it.
use Rattle.std.specs.Prelude.{◌≡◌, ◌⊎◌, ℕ, ◌+◌, ◌*◌, ◌<◌, ◌≤◌, Bool, true, false, List, length, Option, slice_index}
use Rattle.ddf_bay.specs.Moments.{Keeps, StopsLeave}
use Rattle.ddf_bay.specs.ReadsOnly.{LookFailed, ReadsOnly, SlotSame}
use Rattle.ddf_bay.specs.Sectors.{IsLeft}
use Rattle.ddf_bay.specs.State.{BayState}
use Rattle.ddf_fenced.specs.declared.fenced.Fenced.{Fenced}
use Rattle.ddf_badblocks.specs.declared.range.Range.{Range}
use Rattle.ddf_badblocks.specs.declared.remapped.Remapped.{Remapped}
use Rattle.ddf_badblocks.specs.Ranges.{are_exchangeable}
use Rattle.ddf_badblocks.specs.RemappedBays as exchanges
use Rattle.ddf_logs.specs.Looks as seen
use Rattle.ddf_hidden_logs.specs.declared.honoured.Honoured.{Honoured}
use Rattle.ddf_hidden_logs.specs.declared.mask.Mask.{Mask}
use Rattle.ddf_hidden_logs.specs.Looks as shown
use Rattle.ddf_hidden_logs.specs.Shown.{mask_or}

module _ {B : Type 0} where
  -- the bay of exchanged sectors, below the one that hides the logs
  abbrev pub exchanged_of : Honoured B → Remapped (Fenced B)
  exchanged_of bay = shown.below bay.inner

  -- the bay below all
  abbrev pub inner_of : Honoured B → B
  inner_of bay = seen.below (exchanged_of bay)

  -- the ranges of all slots, and those of one
  abbrev pub logs_of : Honoured B → List (List Range)
  logs_of bay = exchanges.logs_of (exchanged_of bay)

  abbrev pub ranges_of : Honoured B → ℕ → List Range
  ranges_of bay slot = seen.ranges_of (exchanged_of bay) slot

  -- the mask of the log of a slot
  abbrev pub mask_of : Honoured B → ℕ → Option Mask
  mask_of bay slot = shown.mask_of bay.inner slot

  -- each call on the slot fails, since the look for its bad sectors did
  abbrev pub is_unread : Honoured B → ℕ → Bool
  is_unread bay slot = seen.is_fenced (exchanged_of bay) slot

  -- so it does, since the look for the entries that count did
  abbrev pub is_unshown : Honoured B → ℕ → Bool
  is_unshown bay slot = shown.is_fenced bay.inner slot

-- It tells of its disks what the bay that hides the logs does.
abbrev pub disks_of : {B : Type 0} → (B → BayState B) → Honoured B → BayState (Honoured B)
disks_of disks bay =
    let told = shown.disks_of (seen.disks_of disks) bay.inner in
    record {
      sizes = told.sizes;
      held = told.held;
      tells_left = told.tells_left;
      may_hold = told.may_hold;
      moment = told.moment;
      left_since = told.left_since;
      failed_reads = told.failed_reads;
      failed_writes = told.failed_writes;
      sectors_written = told.sectors_written;
      sectors_asked = told.sectors_asked;
      calls = told.calls;
      gone = told.gone;
      leads_to = λ next. told.leads_to next.inner;
    }

-- ---- what the looks make of a bay

-- The look for bad sectors: nothing is written, no slot that has a sector is synced, and at most 15 calls are made a slot. A slot is unread exactly where a
-- call of this look failed on it. Each other one is exchanged by its own logs, and can be. Counts of the bay that is made begin at 0.
pub record Exchanges {B : Type 0} (tells : Type 0) (disks : B → BayState B) (old : B) (bay : Remapped (Fenced B)) : Type 0 where
  pub reads : ReadsOnly (disks old) (disks (seen.below bay))
  pub calls : (disks (seen.below bay)).calls ≤ (disks old).calls + 15 * length (disks old).sizes
  pub failed : (s : ℕ) → s < length (disks old).sizes → seen.is_fenced bay s ≡ true → LookFailed (disks old) (disks (seen.below bay)) s
  pub read : (s : ℕ) → s < length (disks old).sizes → seen.is_fenced bay s ≡ false → SlotSame (disks old) (disks (seen.below bay)) s
  pub unsynced : (s : ℕ) → s < length (disks old).sizes → 0 < slice_index (disks old).sizes s → (disks (seen.below bay)).failed_writes s ≡ (disks old).failed_writes s
  pub exchanged : tells → (s : ℕ) → s < length (disks old).sizes → seen.ranges_of bay s ≡ seen.exchange_or (disks old) s (seen.is_fenced bay s)
  pub can : (s : ℕ) → s < length (disks old).sizes → are_exchangeable (slice_index (disks old).sizes s) (seen.ranges_of bay s) ≡ true
  pub made : (seen.disks_of disks bay).calls ≡ 0
  pub faults : (s : ℕ) → seen.is_fenced bay s ≡ true → ((seen.disks_of disks bay).failed_reads s ≡ 0) × ((seen.disks_of disks bay).failed_writes s ≡ 0)

-- The look for the entries that count, at disks whose bad sectors are exchanged: nothing is written, no slot that has a sector is synced, and at most 15 calls
-- are made a slot. A slot is not shown exactly where a call of this look failed on it. Each other one is seen through the mask of its own copies. Counts of
-- the bay that is made begin at 0.
pub record Hides {B : Type 0} (tells : Type 0) (disks : B → BayState B) (old : Remapped (Fenced B)) (bay : Honoured B) : Type 0 where
  pub reads : ReadsOnly (seen.disks_of disks old) (seen.disks_of disks (exchanged_of bay))
  pub calls : (seen.disks_of disks (exchanged_of bay)).calls ≤ (seen.disks_of disks old).calls + 15 * length (disks (seen.below old)).sizes
  pub failed : (s : ℕ) → s < length (disks (seen.below old)).sizes → is_unshown bay s ≡ true → LookFailed (seen.disks_of disks old) (seen.disks_of disks (exchanged_of bay)) s
  pub read : (s : ℕ) → s < length (disks (seen.below old)).sizes → is_unshown bay s ≡ false → SlotSame (seen.disks_of disks old) (seen.disks_of disks (exchanged_of bay)) s
  pub unsynced : (s : ℕ) → s < length (disks (seen.below old)).sizes → 0 < slice_index (disks (seen.below old)).sizes s
      → (seen.disks_of disks (exchanged_of bay)).failed_writes s ≡ (seen.disks_of disks old).failed_writes s
  pub masked : tells → (s : ℕ) → s < length (disks (seen.below old)).sizes → mask_of bay s ≡ mask_or (seen.disks_of disks old) s (is_unshown bay s)
  pub made : (disks_of disks bay).calls ≡ 0
  pub faults : (s : ℕ) → is_unshown bay s ≡ true → ((disks_of disks bay).failed_reads s ≡ 0) × ((disks_of disks bay).failed_writes s ≡ 0)

-- Bad sectors are exchanged by one look, and behind it logs are hidden by another one, which leaves the ranges and what is unread.
pub record IsHonoured {B : Type 0} (tells : Type 0) (disks : B → BayState B) (old : B) (bay : Honoured B) : Type 0 where
  pub between : Remapped (Fenced B)
  pub exchanges : Exchanges tells disks old between
  pub hides : Hides tells disks between bay
  pub same_ranges : (s : ℕ) → ranges_of bay s ≡ seen.ranges_of between s
  pub same_unread : (s : ℕ) → is_unread bay s ≡ seen.is_fenced between s

-- ---- where memory runs out

-- The second look ran out of memory, and the bay below all comes back: nothing was written of the bay of exchanged sectors, and at most 15 calls a slot were
-- made of it.
pub record LooksBehind {B : Type 0} (disks : B → BayState B) (between : Remapped (Fenced B)) (back : B) : Type 0 where
  pub looked : Remapped (Fenced B)
  pub is_below : back ≡ seen.below looked
  pub reads : ReadsOnly (seen.disks_of disks between) (seen.disks_of disks looked)
  pub calls : (seen.disks_of disks looked).calls ≤ (seen.disks_of disks between).calls + 15 * length (disks (seen.below between)).sizes

-- the first look made at most 15 calls a slot, and the one behind it as many of a bay of exchanged sectors, whose count began at 0
pub record LooksTwice {B : Type 0} (disks : B → BayState B) (old back : B) : Type 0 where
  pub between : Remapped (Fenced B)
  pub calls : (disks (seen.below between)).calls ≤ (disks old).calls + 15 * length (disks old).sizes
  pub made : (seen.disks_of disks between).calls ≡ 0
  pub behind : LooksBehind disks between back

-- The bay that comes back is one that calls may make of the old one, of which nothing was written, nor was a write asked for. One look was made, or both.
pub record IsGivenBack {B : Type 0} (disks : B → BayState B) (old back : B) : Type 0 where
  pub leads : (disks old).leads_to back
  pub same_sizes : (disks back).sizes ≡ (disks old).sizes
  pub same_held : (disks back).held ≡ (disks old).held
  pub keeps : Keeps (disks old).may_hold (disks back).may_hold
  pub any_moment : StopsLeave (disks old) (disks back) (IsLeft (disks old).may_hold)
  pub none_written : (disks back).sectors_written ≡ (disks old).sectors_written
  pub none_asked : (disks back).sectors_asked ≡ (disks old).sectors_asked
  pub looks : ((disks back).calls ≤ (disks old).calls + 15 * length (disks old).sizes) ⊎ LooksTwice disks old back
