-- Why the bad block log of a disk isn't honoured (profile).
use Rattle.std.specs.Prelude.{◌≡◌, ℕ, ◌-◌, Bool, true, false, List, Option, Some, None, option_map, Result, Ok, Err}
use Rattle.ddf_header.specs.declared.reading.Header.{Header}
use Rattle.ddf_tables.specs.BadBlocks.{LogValue}
use Rattle.ddf_copy.specs.declared.copy.DiskCopy.{DiskCopy}
use Rattle.ddf_copy.specs.declared.copies.Copies.{Copies}
use Rattle.ddf_copy.specs.declared.fault.AnchorFault.{AnchorFault}
use Rattle.ddf_copy.specs.Anchor.{anchor_at}
use Rattle.ddf_copy.specs.Copies.{copies_of, newest_of_copies, standing_copy}
use Rattle.ddf_badblocks.specs.declared.fitting.Stretch.{Stretch}
use Rattle.ddf_badblocks.specs.declared.unfit.Unfit.{Unfit as Why}
use Rattle.ddf_badblocks.specs.Unfit.{TellsUnfit}
use Rattle.ddf_logs.specs.declared.defect.LogDefect.{LogDefect}
use Rattle.ddf_logs.specs.declared.defect.LogDefect.TheVariants.{Differ, Unlisted, Unfit}
use Rattle.ddf_logs.specs.Kept.{kept_under}
use Rattle.ddf_logs.specs.Logs.{carry_one, configured_size}

abbrev pub defect_by : Option Why → Option LogDefect
defect_by found = option_map Unfit found

-- a log that doesn't fit, by why
pub record IsUnfit (log : LogValue) (size : ℕ) (kept : List Stretch) (last : ℕ) (found : Option LogDefect) : Type 0 where
  pub why : Option Why
  pub tells : TellsUnfit log size kept last why
  pub same : found ≡ defect_by why

-- that of a log by the sectors that its disk gives to arrays: without a log there is none
abbrev pub TellsBy : (last : ℕ) → List Stretch → Option LogValue → Option ℕ → Option LogDefect → Type 0
TellsBy last kept None size found = found ≡ None
TellsBy last kept (Some log) None found = found ≡ Some Unlisted
TellsBy last kept (Some log) (Some size) found = IsUnfit log size kept last found

-- that of a copy
abbrev pub TellsOf : (last : ℕ) → Header → DiskCopy → Option LogDefect → Type 0
TellsOf last anchor copy found = TellsBy last (kept_under anchor copy.header.geometry) copy.bad (configured_size copy) found

abbrev pub TellsStanding : (last : ℕ) → Header → Option DiskCopy → Option LogDefect → Type 0
TellsStanding last anchor (Some copy) found = TellsOf last anchor copy found
TellsStanding last anchor None found = found ≡ None

abbrev pub TellsWhere : (alike : Bool) → (last : ℕ) → Header → Option DiskCopy → Option LogDefect → Type 0
TellsWhere true last anchor standing found = TellsStanding last anchor standing found
TellsWhere false last anchor standing found = found ≡ Some Differ

-- Why the log of a disk with this last sector and this anchor isn't honoured: its whole copies carry different ones, or that of the copy that stands for it
-- can't be honoured.
abbrev pub TellsDefect : (last : ℕ) → Header → Copies → Option LogDefect → Type 0
TellsDefect last anchor copies found = TellsWhere (carry_one copies.primary copies.secondary) last anchor (standing_copy (newest_of_copies copies)) found

-- ---- of a slot, by its size and the bytes of its sectors

abbrev pub TellsUnder : (size : ℕ) → (ℕ → List ℕ) → Result Header AnchorFault → Option LogDefect → Type 0
TellsUnder size sector (Ok anchor) found = TellsDefect (size - 1) anchor (copies_of size sector anchor) found
TellsUnder size sector (Err fault) found = found ≡ None

-- a slot without an anchor has no log
abbrev pub TellsSlot : (size : ℕ) → (ℕ → List ℕ) → Option LogDefect → Type 0
TellsSlot size sector found = TellsUnder size sector (anchor_at size sector) found
