-- Newest copies that can be written again.
use Rattle.std.specs.Prelude.{◌≡◌, ℕ, ◌<◌, List, Option, Some, IfSome, length, slice_get, slice_index}
use Rattle.std.specs.List.{AllByRecursion}
use Rattle.ddf_header.specs.declared.reading.Header.{Header}
use Rattle.ddf_copy.specs.declared.newest_copy.Newest.{Newest}
use Rattle.ddf_copy.specs.Headers.{IsAnchor}
use Rattle.ddf_copy.specs.Whole.{IsNewestCopy, IsNewestUnder}

abbrev pub AreNewest : List (Option Newest) → Type 0
AreNewest newest = AllByRecursion (λ one. IfSome one IsNewestCopy) newest

-- One can be written again in both places of a disk of so many sectors, under an anchor of the disk.
pub record HasAnchor (size : ℕ) (newest : Newest) : Type 0 where
  pub anchor : Header
  pub is_anchor : IsAnchor anchor
  pub under : IsNewestUnder size anchor newest

-- that of each slot, of these sizes, on the slot
abbrev pub HaveAnchors : (sizes : List ℕ) → List (Option Newest) → Type 0
HaveAnchors sizes all =
    (slot : ℕ) (newest : Newest) → slice_get all slot ≡ Some (Some newest) → (slot < length sizes) × HasAnchor (slice_index sizes slot) newest
