-- A whole copy as it was read.
use Rattle.std.specs.Prelude.{◌≡◌, ℕ, List, [], ◌∷◌, Result, Ok, Err, IfOk}
use Rattle.ddf_copy.specs.declared.copies.Copies.{Copies}
use Rattle.ddf_copy.specs.declared.newest_copy.Newest.{Newest}
use Rattle.ddf_copy.specs.declared.newest_copy.Newest.TheVariants as newests
use Rattle.ddf_copy.specs.declared.copy.DiskCopy.{DiskCopy}
use Rattle.ddf_copy.specs.declared.fault.CopyFault.{CopyFault}
use Rattle.ddf_copy.specs.declared.raw.Raw.{Raw}
use Rattle.ddf_copy.specs.declared.reading.Whole.{Whole}
use Rattle.ddf_header.specs.declared.reading.Header.{Header}
use Rattle.ddf_copy.specs.Headers.{IsUnder}
use Rattle.ddf_copy.specs.Sections.{bytes_in, raw_bytes}
use Rattle.ddf_copy.specs.Written.{CanBeCopy, sections_written}

-- what was read, but for its sectors
abbrev pub copy_read : Result Whole CopyFault → Result DiskCopy CopyFault
copy_read (Ok whole) = Ok whole.copy
copy_read (Err fault) = Err fault

-- The sectors are those that the copy is written as.
pub record IsWhole (whole : Whole) : Type 0 where
  pub is_copy : CanBeCopy whole.copy
  pub is_written : sections_written whole.copy ≡ raw_bytes whole.raw

-- the bytes of each section but the configuration records
abbrev pub sections_counted : Raw → List (List ℕ)
sections_counted raw = raw.controller ∷ bytes_in raw.disks ∷ bytes_in raw.arrays ∷ raw.disk_data ∷ bytes_in raw.bad_blocks ∷ []

abbrev pub AreWhole : Result Whole CopyFault → Type 0
AreWhole (Ok whole) = IsWhole whole
AreWhole (Err fault) = Unit {0}

-- each copy that is whole can be written
abbrev pub AreCopies : Copies → Type 0
AreCopies copies = IfOk copies.primary CanBeCopy × IfOk copies.secondary CanBeCopy

abbrev pub IsNewestCopy : Newest → Type 0
IsNewestCopy (newests.One which copy) = CanBeCopy copy
IsNewestCopy (newests.Level copy) = CanBeCopy copy
IsNewestCopy (newests.TwoDiffer primary secondary) = CanBeCopy primary × CanBeCopy secondary
IsNewestCopy (newests.Neither first second) = Unit {0}

-- each copy that is whole can be written again, in both places of a disk of so many sectors with this anchor
abbrev pub IsWholeUnder : (size : ℕ) → (anchor : Header) → Result Whole CopyFault → Type 0
IsWholeUnder size anchor (Ok whole) = IsUnder size anchor whole.copy
IsWholeUnder size anchor (Err fault) = Unit {0}

abbrev pub AreUnder : (size : ℕ) → (anchor : Header) → Copies → Type 0
AreUnder size anchor copies = IfOk copies.primary (IsUnder size anchor) × IfOk copies.secondary (IsUnder size anchor)

abbrev pub IsNewestUnder : (size : ℕ) → (anchor : Header) → Newest → Type 0
IsNewestUnder size anchor (newests.One which copy) = IsUnder size anchor copy
IsNewestUnder size anchor (newests.Level copy) = IsUnder size anchor copy
IsNewestUnder size anchor (newests.TwoDiffer primary secondary) = IsUnder size anchor primary × IsUnder size anchor secondary
IsNewestUnder size anchor (newests.Neither first second) = Unit {0}
