-- A bay that is seen through the masks of its slots, by a look at each.
use Rattle.std.specs.Prelude.{◌≡◌, ℕ, ◌<◌, Bool, false, List, length, Option, None, slice_index_or}
use Rattle.ddf_bay.specs.State.{BayState}
use Rattle.ddf_fenced.specs.declared.fenced.Fenced.{Fenced}
use Rattle.ddf_fenced.specs.FencedBays as fences
use Rattle.ddf_hidden_logs.specs.declared.hidden.Hidden.{Hidden}
use Rattle.ddf_hidden_logs.specs.declared.mask.Mask.{Mask}
use Rattle.ddf_hidden_logs.specs.HiddenBays as masks
use Rattle.ddf_hidden_logs.specs.Shown.{mask_or}

-- These are the masks of the first slots, so many, by whether the look at each failed.
pub record AreLooks {D : Type 0} (tells : Type 0) (disks : BayState D) (failed : List Bool) (found : List (Option Mask)) : Type 0 where
  pub same : length found ≡ length failed
  pub are : tells → (s : ℕ) → s < length failed → slice_index_or found s None ≡ mask_or disks s (slice_index_or failed s false)

module _ {B : Type 0} where
  -- the bay below both
  abbrev pub below : Hidden (Fenced B) → B
  below bay = fences.inner_of (masks.inner_of bay)

  -- each call on the slot fails
  abbrev pub is_fenced : Hidden (Fenced B) → ℕ → Bool
  is_fenced bay slot = fences.is_fenced (masks.inner_of bay) slot

  -- the mask of a slot
  abbrev pub mask_of : Hidden (Fenced B) → ℕ → Option Mask
  mask_of bay slot = masks.mask_of bay slot

  -- what it tells of its slots
  abbrev pub disks_of : (B → BayState B) → Hidden (Fenced B) → BayState (Hidden (Fenced B))
  disks_of disks bay = masks.disks_of (fences.disks_of disks) bay
