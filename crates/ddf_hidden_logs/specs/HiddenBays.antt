-- What a bay that is seen through masks tells of its slots.
use Rattle.std.specs.Prelude.{◌≡◌, ℕ, List, Option}
use Rattle.ddf_bay.specs.State.{BayState}
use Rattle.ddf_hidden_logs.specs.declared.hidden.Hidden.{Hidden}
use Rattle.ddf_hidden_logs.specs.declared.mask.Mask.{Mask}
use Rattle.ddf_hidden_logs.specs.Masks as masks
use Rattle.ddf_hidden_logs.specs.State.{shown_image}

module _ {B : Type 0} where
  -- the bay below
  abbrev pub inner_of : Hidden B → B
  inner_of bay = bay.inner

  -- the calls that were made
  abbrev pub calls_of : Hidden B → ℕ
  calls_of bay = bay.made

  -- the masks of all slots
  abbrev pub masks_of : Hidden B → List (Option Mask)
  masks_of bay = bay.masks.items

  -- the mask of a slot
  abbrev pub mask_of : Hidden B → (slot : ℕ) → Option Mask
  mask_of bay slot = masks.mask_of bay.masks.items slot

-- By what the bay below tells: sizes, moments, faults and sectors written are its own. What is held and what a stop may leave is seen through the masks.
-- Calls are its own count. They leave the masks, and make nothing of the bay below that they might not make of it by itself.
abbrev pub disks_of : {B : Type 0} → (B → BayState B) → Hidden B → BayState (Hidden B)
disks_of inner bay =
    let disks = inner bay.inner in
    record {
      sizes = disks.sizes;
      held = shown_image bay.masks.items disks.held;
      tells_left = disks.tells_left;
      may_hold = λ s l bytes. disks.may_hold s l (masks.turn (masks.mask_of bay.masks.items s) l bytes);
      moment = disks.moment;
      left_since = λ t image. disks.left_since t (shown_image bay.masks.items image);
      failed_reads = disks.failed_reads;
      failed_writes = disks.failed_writes;
      sectors_written = disks.sectors_written;
      sectors_asked = disks.sectors_asked;
      calls = bay.made;
      gone = disks.gone;
      leads_to = λ next. disks.leads_to next.inner × (next.masks.items ≡ bay.masks.items);
    }
