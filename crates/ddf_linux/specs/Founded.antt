-- Disks that are founded for Linux: how their records are sealed, and what a bay that is made anew sees of them.
use Rattle.std.specs.Prelude.{◌≡◌, ◌⊎◌, ℕ, ◌-◌, ◌<◌, true, List, Err}
use Rattle.std.specs.Int.{w32}
use Rattle.ddf_bytes.specs.Bytes.{number_at}
use Rattle.ddf_header.specs.declared.geometry.Geometry.{Geometry}
use Rattle.ddf_header.specs.declared.reading.Header.{Header}
use Rattle.ddf_header.specs.Header.{header_signature}
use Rattle.ddf_tables.specs.Sectors.{controller_signature, disk_data_signature}
use Rattle.ddf_tables.specs.Disks.{disk_signature}
use Rattle.ddf_tables.specs.Arrays.{array_signature}
use Rattle.ddf_tables.specs.BadBlocks.{log_signature}
use Rattle.ddf_config_records.specs.Slots.{is_known, slot_bytes, slot_count}
use Rattle.ddf_copy.specs.declared.copy.DiskCopy.{DiskCopy}
use Rattle.ddf_copy.specs.declared.fault.AnchorFault.TheVariants.{Blank}
use Rattle.ddf_copy.specs.Anchor.{anchor_at}
use Rattle.ddf_copy.specs.Headers.{anchor_header}
use Rattle.ddf_copy.specs.Sections.{bytes_in, raw_at}
use Rattle.ddf_update.specs.declared.new_layout.NewLayout.{NewLayout}
use Rattle.ddf_update.specs.NewCopies.{new_geometry}
use Rattle.ddf_update.specs.NewLayouts.{primary_back, secondary_back}
use Rattle.ddf_update.specs.Update.{AreBoth}
use Rattle.ddf_linux.specs.declared.kind.SlotKind.{SlotKind}
use Rattle.ddf_linux.specs.declared.kind.SlotKind.TheVariants.{Turned}
use Rattle.ddf_linux.specs.Crcs.{IsLinuxSealed}
use Rattle.ddf_linux.specs.Kinds.{kind_of_sectors, turn}
use Rattle.ddf_linux.specs.Places.{new_places}

-- A header lies on a disk of so many sectors as those of a new one of a layout do.
pub record IsOnNewDisk (layout : NewLayout) (size : ℕ) (header : Header) : Type 0 where
  pub primary_is : header.primary_lba ≡ size - primary_back layout
  pub secondary_is : header.secondary_lba ≡ size - secondary_back layout
  pub geometry_is : header.geometry ≡ new_geometry layout size

-- Each configuration record of a section is sealed as Linux's mdadm seals it. Other slots hold no record.
pub record AreSlotsForLinux (geometry : Geometry) (section : List ℕ) : Type 0 where
  pub each : (slot : ℕ) → slot < slot_count geometry section → is_known (number_at w32 (slot_bytes geometry section slot) 0) ≡ true
      → IsLinuxSealed (number_at w32 (slot_bytes geometry section slot) 0) (slot_bytes geometry section slot)

-- Each record of the copy at an LBA is sealed as Linux's mdadm seals it.
pub record IsCopyForLinux (geometry : Geometry) (sector : ℕ → List ℕ) (lba : ℕ) : Type 0 where
  pub header : IsLinuxSealed header_signature (sector lba)
  pub controller : IsLinuxSealed controller_signature (raw_at sector lba geometry).controller
  pub disks : IsLinuxSealed disk_signature (bytes_in (raw_at sector lba geometry).disks)
  pub arrays : IsLinuxSealed array_signature (bytes_in (raw_at sector lba geometry).arrays)
  pub slots : AreSlotsForLinux geometry (bytes_in (raw_at sector lba geometry).records)
  pub disk_data : IsLinuxSealed disk_data_signature (raw_at sector lba geometry).disk_data
  pub bad_blocks : IsLinuxSealed log_signature (bytes_in (raw_at sector lba geometry).bad_blocks)

-- So is each of both copies of a new disk, and its anchor.
pub record IsDiskForLinux (layout : NewLayout) (size : ℕ) (sector : ℕ → List ℕ) : Type 0 where
  pub anchor : IsLinuxSealed header_signature (sector (size - 1))
  pub primary : IsCopyForLinux (new_geometry layout size) sector (size - primary_back layout)
  pub secondary : IsCopyForLinux (new_geometry layout size) sector (size - secondary_back layout)

-- the sectors that stand below those that are seen of a slot of a kind
abbrev pub below : SlotKind → (ℕ → List ℕ) → (ℕ → List ℕ)
below kind sector l = turn kind l (sector l)

-- the sectors of a slot as a bay that is made anew over them sees them
abbrev pub seen_anew : (size : ℕ) → (ℕ → List ℕ) → (ℕ → List ℕ)
seen_anew size sector l = turn (kind_of_sectors size sector) l (sector l)

-- Seen anew a slot has a copy in both places, and is turned as a whole: at all places of a new disk, and nowhere else.
pub record IsWholeAnew (layout : NewLayout) (size : ℕ) (sector : ℕ → List ℕ) (copy : DiskCopy) : Type 0 where
  pub is_turned : kind_of_sectors size sector ≡ Turned (new_places layout size)
  pub are_both : AreBoth size (seen_anew size sector) (anchor_header copy) copy

-- Seen anew a slot is blank, or it is whole.
abbrev pub IsBlankOrWhole : NewLayout → (size : ℕ) → (ℕ → List ℕ) → DiskCopy → Type 0
IsBlankOrWhole layout size sector copy =
    (anchor_at size (seen_anew size sector) ≡ Err Blank) ⊎ IsWholeAnew layout size sector copy
