-- Why a bad block log can't be honoured (profile).
use Rattle.std.specs.Prelude.{◌≡◌, ℕ, ◌+◌, ◌<◌, Bool, true, false, not, nat_le, if◌then◌else◌, List, [], ◌∷◌, length, take, Option, Some, None}
use Rattle.ddf_tables.specs.declared.bad_blocks.BadBlock.{BadBlock}
use Rattle.ddf_tables.specs.BadBlocks.{LogValue}
use Rattle.ddf_badblocks.specs.declared.fitting.Stretch.{Stretch}
use Rattle.ddf_badblocks.specs.declared.range.Range.{Range}
use Rattle.ddf_badblocks.specs.declared.unfit.EntryFault.{EntryFault}
use Rattle.ddf_badblocks.specs.declared.unfit.EntryFault.TheVariants.{NoSpare, BehindArrays, OnRecords, PastSpares}
use Rattle.ddf_badblocks.specs.declared.unfit.Unfit.{Unfit}
use Rattle.ddf_badblocks.specs.declared.unfit.Unfit.TheVariants.{SpareArea, Entry, Shared}
use Rattle.ddf_badblocks.specs.Fits.{area_fits, fits, has_spare, meets_any, ranges_of}
use Rattle.ddf_badblocks.specs.Ranges.{are_exchangeable}

-- what is wrong with an entry by itself, by the tests that it has to pass
abbrev pub fault_by : (is_spared ends_before is_kept is_within : Bool) → Option EntryFault
fault_by is_spared ends_before is_kept is_within =
    if not is_spared then Some NoSpare else if not ends_before then Some BehindArrays else if is_kept then Some OnRecords else if not is_within then Some PastSpares else None

abbrev pub fault_of : (size spares : ℕ) → List Stretch → BadBlock → Option EntryFault
fault_of size spares kept block =
    fault_by (has_spare block) (nat_le (block.start + block.count) size) (meets_any kept block.start block.count) (nat_le (block.spare + block.count) spares)

abbrev pub wrong_or : (place : ℕ) → Option EntryFault → Option Unfit → Option Unfit
wrong_or place (Some fault) later = Some (Entry place fault)
wrong_or place None later = later

-- the first entry that doesn't fit by itself, where the first of all is at a place
abbrev pub first_wrong : (size spares : ℕ) → List Stretch → (place : ℕ) → List BadBlock → Option Unfit
first_wrong size spares kept place [] = None
first_wrong size spares kept place (block ∷ blocks) = wrong_or place (fault_of size spares kept block) (first_wrong size spares kept (place + 1) blocks)

-- the ranges before a place can be exchanged on a slot of so many sectors, and with the one at it they can't
pub record IsFirstShared (size : ℕ) (ranges : List Range) (place : ℕ) : Type 0 where
  pub there : place < length ranges
  pub before : are_exchangeable size (take place ranges) ≡ true
  pub met : are_exchangeable size (take (place + 1) ranges) ≡ false

-- the first range that can't be exchanged beside those before it
abbrev pub TellsShared : (size : ℕ) → List Range → Option Unfit → Type 0
TellsShared size ranges None = are_exchangeable size ranges ≡ true
TellsShared size ranges (Some (Shared place)) = (are_exchangeable size ranges ≡ false) × IsFirstShared size ranges place
TellsShared size ranges found = ⊥

-- Why a log can't be honoured: its spare area first, then the first entry that doesn't fit by itself, then the first that doesn't beside those before it.
abbrev pub TellsUnfit : LogValue → (size : ℕ) → List Stretch → (last : ℕ) → Option Unfit → Type 0
TellsUnfit log size kept last None = fits log size kept last ≡ true
TellsUnfit log size kept last (Some SpareArea) = (fits log size kept last ≡ false) × (area_fits log size kept last ≡ false)
TellsUnfit log size kept last (Some (Entry place fault)) =
    (fits log size kept last ≡ false) × (area_fits log size kept last ≡ true) × (first_wrong size log.spare_count kept 0 log.entries ≡ Some (Entry place fault))
TellsUnfit log size kept last (Some (Shared place)) =
    (fits log size kept last ≡ false) × (area_fits log size kept last ≡ true) × (first_wrong size log.spare_count kept 0 log.entries ≡ None) × IsFirstShared last (ranges_of log) place
