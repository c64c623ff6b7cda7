-- The sections of a copy as they are written: runs of sectors, each so many sectors behind the copy's header.
use Rattle.std.specs.Prelude.{◌≡◌, ◌⊎◌, ℕ, ◌+◌, ◌<◌, ◌≤◌, List, [], ◌∷◌, length, slice_get, Some, Ok}
use Rattle.ddf_bay.specs.Sectors.{Image, InRun, put_run}
use Rattle.ddf_header.specs.declared.geometry.Section.{Section}
use Rattle.ddf_header.specs.declared.geometry.Geometry.{Geometry}
use Rattle.ddf_header.specs.declared.reading.Header.{Header}
use Rattle.ddf_header.specs.Geometry.{section_of}
use Rattle.ddf_copy.specs.declared.copy.DiskCopy.{DiskCopy}
use Rattle.ddf_copy.specs.declared.raw.Raw.{Raw}
use Rattle.ddf_copy.specs.declared.run.Run.{Run}
use Rattle.ddf_copy.specs.Sections.{HasSizes, copy_in, raw_bytes, whole_slots}
use Rattle.ddf_copy.specs.Written.{sections_written}

-- ---- where they lie

-- a sector of one of the runs of the copy at an LBA, and the bytes that the run has there
abbrev pub InRuns : (lba : ℕ) → List Run → (l : ℕ) → List ℕ → Type 0
InRuns lba [] l bytes = ⊥
InRuns lba (run ∷ runs) l bytes = InRun (lba + run.offset) run.sectors l bytes ⊎ InRuns lba runs l bytes

-- a sector of one of the runs
abbrev pub RunsCover : (lba : ℕ) → List Run → ℕ → Type 0
RunsCover lba [] l = ⊥
RunsCover lba (run ∷ runs) l = ((lba + run.offset ≤ l) × (l < lba + run.offset + length run.sectors)) ⊎ RunsCover lba runs l

-- an image with these runs on a slot
abbrev pub put_runs : Image → (slot lba : ℕ) → List Run → Image
put_runs image slot lba [] = image
put_runs image slot lba (run ∷ runs) = put_runs (put_run image slot (lba + run.offset) run.sectors) slot lba runs

abbrev pub sector_count : List Run → ℕ
sector_count [] = 0
sector_count (run ∷ runs) = length run.sectors + sector_count runs

-- each run has a sector, and ends within the slot
abbrev pub AreOn : (size lba : ℕ) → List Run → Type 0
AreOn size lba runs = (k : ℕ) (run : Run) → slice_get runs k ≡ Some run → (0 < length run.sectors) × (lba + run.offset + length run.sectors ≤ size)

-- no run lies on the header, and no two share a sector
abbrev pub AreApart : List Run → Type 0
AreApart [] = Unit {0}
AreApart (run ∷ runs) = (0 < run.offset) × ((l : ℕ) → run.offset ≤ l → l < run.offset + length run.sectors → RunsCover 0 runs l → ⊥) × AreApart runs

-- ---- a copy on a disk

-- a sector of a copy: its header, or one of its sections
abbrev pub IsInCopy : (lba : ℕ) → List Run → ℕ → Type 0
IsInCopy lba runs l = (l ≡ lba) ⊎ RunsCover lba runs l

-- a copy stands on a disk: its header, and its sections
pub record HasCopy (sector : ℕ → List ℕ) (lba : ℕ) (header : List ℕ) (runs : List Run) : Type 0 where
  pub header_is : sector lba ≡ header
  pub sections_are : (l : ℕ) (bytes : List ℕ) → InRuns lba runs l bytes → sector l ≡ bytes

-- ---- the runs of a copy

abbrev pub run_of : Section → List (List ℕ) → Run
run_of section sectors = record { offset = section.offset; sectors = sectors }

-- none where there is no log
abbrev pub log_run : Section → List (List ℕ) → List Run
log_run section [] = []
log_run section (sector ∷ sectors) = run_of section (sector ∷ sectors) ∷ []

-- the sections that are written, in the order of the header
abbrev pub runs_at : Geometry → Raw → List Run
runs_at geometry raw =
    run_of (section_of geometry 0) (raw.controller ∷ [])
    ∷ run_of (section_of geometry 1) raw.disks
    ∷ run_of (section_of geometry 2) raw.arrays
    ∷ run_of (whole_slots geometry) raw.records
    ∷ run_of (section_of geometry 4) (raw.disk_data ∷ [])
    ∷ log_run (section_of geometry 5) raw.bad_blocks

-- The sectors of the sections are read as the records of a copy, behind each header that has its geometry, GUID and sequence.
abbrev pub IsReadAs : DiskCopy → Raw → Type 0
IsReadAs copy raw =
    (header : Header) → header.geometry ≡ copy.header.geometry → header.guid ≡ copy.header.guid → header.sequence ≡ copy.header.sequence
    → copy_in header raw ≡ Ok (record copy { header = header })

-- The runs are those that a copy is written as.
pub record AreRunsOf (copy : DiskCopy) (runs : List Run) : Type 0 where
  pub raw : Raw
  pub is_read : IsReadAs copy raw
  pub has_sizes : HasSizes copy.header.geometry raw
  pub is_written : raw_bytes raw ≡ sections_written copy
  pub are_runs : runs ≡ runs_at copy.header.geometry raw

-- ---- where a copy is read

-- the first sector of a section
abbrev pub first_sector : Section → Section
first_sector section = record { offset = section.offset; length = 1 }

-- the parts of the sections that are read and written, in the order of the header
abbrev pub parts_of : Geometry → List Section
parts_of geometry =
    first_sector (section_of geometry 0) ∷ section_of geometry 1 ∷ section_of geometry 2 ∷ whole_slots geometry
    ∷ first_sector (section_of geometry 4) ∷ section_of geometry 5 ∷ []

-- a sector of one of these parts of the copy at an LBA
abbrev pub IsInParts : (lba : ℕ) → List Section → ℕ → Type 0
IsInParts lba [] l = ⊥
IsInParts lba (part ∷ parts) l = ((lba + part.offset ≤ l) × (l < lba + part.offset + part.length)) ⊎ IsInParts lba parts l
