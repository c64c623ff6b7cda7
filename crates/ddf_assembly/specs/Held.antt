-- What slots hold, by the newest copies that are known of them.
use Rattle.std.specs.Prelude.{◌≡◌, ℕ, List, slice_get, Option, Some, Ok}
use Rattle.ddf_header.specs.declared.reading.Header.{Header}
use Rattle.ddf_bay.specs.State.{BayState, size_of}
use Rattle.ddf_copy.specs.declared.newest_copy.Newest.{Newest}
use Rattle.ddf_copy.specs.Anchor.{anchor_at}
use Rattle.ddf_copy.specs.Copies.{newest_of}
use Rattle.ddf_copy.specs.Whole.{IsNewestUnder}

-- A slot holds this newest copy, under its anchor.
pub record IsHeldOn {D : Type 0} (disks : BayState D) (slot : ℕ) (newest : Newest) : Type 0 where
  pub anchor : Header
  pub is_anchored : anchor_at (size_of disks slot) (disks.held slot) ≡ Ok anchor
  pub is_newest : newest_of (size_of disks slot) (disks.held slot) anchor ≡ newest

-- Each slot holds its newest copy, where it has one.
abbrev pub AreHeldOn : {D : Type 0} → BayState D → List (Option Newest) → Type 0
AreHeldOn disks all = (slot : ℕ) (newest : Newest) → slice_get all slot ≡ Some (Some newest) → IsHeldOn disks slot newest

-- A newest copy can be written again in both places of a slot, under the slot's anchor.
abbrev pub StandsUnder : {D : Type 0} → BayState D → (slot : ℕ) → Newest → Type 0
StandsUnder disks slot newest = (anchor : Header) → anchor_at (size_of disks slot) (disks.held slot) ≡ Ok anchor → IsNewestUnder (size_of disks slot) anchor newest

-- that of each slot can
abbrev pub StandUnder : {D : Type 0} → BayState D → List (Option Newest) → Type 0
StandUnder disks all = (slot : ℕ) (newest : Newest) → slice_get all slot ≡ Some (Some newest) → StandsUnder disks slot newest
