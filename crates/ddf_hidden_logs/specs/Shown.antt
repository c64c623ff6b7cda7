-- What of a disk's bad block log is shown: as many entries as count against the disk (profile).
use Rattle.std.specs.Prelude.{ℕ, ◌-◌, Bool, if◌then◌else◌, List, Option, None, Result, Ok, Err}
use Rattle.ddf_bay.specs.State.{BayState, on_slot}
use Rattle.ddf_header.specs.declared.reading.Header.{Header}
use Rattle.ddf_copy.specs.declared.copies.Copies.{Copies}
use Rattle.ddf_copy.specs.declared.fault.AnchorFault.{AnchorFault}
use Rattle.ddf_copy.specs.Anchor.{anchor_at}
use Rattle.ddf_copy.specs.Copies.{copies_of, newest_of_copies, standing_copy}
use Rattle.ddf_logs.specs.Logs.{bad_in}
use Rattle.ddf_hidden_logs.specs.declared.mask.Mask.{Mask}
use Rattle.ddf_hidden_logs.specs.Masks.{turn}
use Rattle.ddf_hidden_logs.specs.Recounts.{mask_if}

-- that of a disk with this last sector, by its anchor and its copies: of the copy that stands for it
abbrev pub mask_in : (last : ℕ) → (anchor : Header) → Copies → Option Mask
mask_in last anchor copies = mask_if anchor (standing_copy (newest_of_copies copies)) (bad_in last anchor copies)

abbrev pub mask_by_anchor : (size : ℕ) → (ℕ → List ℕ) → Result Header AnchorFault → Option Mask
mask_by_anchor size sector (Ok anchor) = mask_in (size - 1) anchor (copies_of size sector anchor)
mask_by_anchor size sector (Err fault) = None

-- The mask of a slot, by its size and the bytes of its sectors: one without an anchor has none.
unfoldable pub mask_at : (size : ℕ) → (ℕ → List ℕ) → Option Mask
mask_at size sector = mask_by_anchor size sector (anchor_at size sector)

-- the sectors of a slot as they are seen through its own mask
abbrev pub shown_at : (size : ℕ) → (ℕ → List ℕ) → ℕ → List ℕ
shown_at size sector l = turn (mask_at size sector) l (sector l)

-- the mask of a slot, and none where a call of the look at it failed
abbrev pub mask_or : {D : Type 0} → BayState D → (slot : ℕ) → (failed : Bool) → Option Mask
mask_or disks slot failed = if failed then None else on_slot mask_at disks slot
