-- A bay whose disks are seen as their bad block logs say, by a look at each slot.
use Rattle.std.specs.Prelude.{◌≡◌, ℕ, ◌<◌, Bool, true, false, if◌then◌else◌, List, [], length, slice_index, slice_index_or}
use Rattle.ddf_bay.specs.State.{BayState, on_slot}
use Rattle.ddf_fenced.specs.declared.fenced.Fenced.{Fenced}
use Rattle.ddf_fenced.specs.FencedBays as fences
use Rattle.ddf_badblocks.specs.declared.range.Range.{Range}
use Rattle.ddf_badblocks.specs.declared.remapped.Remapped.{Remapped}
use Rattle.ddf_badblocks.specs.Ranges.{are_exchangeable}
use Rattle.ddf_badblocks.specs.RemappedBays as exchanges
use Rattle.ddf_logs.specs.Logs.{exchange_at}

-- the ranges of a slot, and none where a call of the look at it failed
abbrev pub exchange_or : {D : Type 0} → BayState D → (slot : ℕ) → (failed : Bool) → List Range
exchange_or disks slot failed = if failed then [] else on_slot exchange_at disks slot

-- These are the ranges of the first slots, so many, by whether the look at each failed. They can be exchanged.
pub record AreLooks {D : Type 0} (tells : Type 0) (disks : BayState D) (failed : List Bool) (ranges : List (List Range)) : Type 0 where
  pub same : length ranges ≡ length failed
  pub are : tells → (s : ℕ) → s < length failed → slice_index_or ranges s [] ≡ exchange_or disks s (slice_index_or failed s false)
  pub can : (s : ℕ) → s < length failed → are_exchangeable (slice_index disks.sizes s) (slice_index_or ranges s []) ≡ true

module _ {B : Type 0} where
  -- the bay below both
  abbrev pub below : Remapped (Fenced B) → B
  below bay = fences.inner_of (exchanges.inner_of bay)

  -- each call on the slot fails
  abbrev pub is_fenced : Remapped (Fenced B) → ℕ → Bool
  is_fenced bay slot = fences.is_fenced (exchanges.inner_of bay) slot

  -- the ranges of a slot
  abbrev pub ranges_of : Remapped (Fenced B) → ℕ → List Range
  ranges_of bay slot = exchanges.ranges_of bay slot

  -- what it tells of its slots
  abbrev pub disks_of : (B → BayState B) → Remapped (Fenced B) → BayState (Remapped (Fenced B))
  disks_of disks bay = exchanges.disks_of (fences.disks_of disks) bay
