-- What a copy is written as.
use Rattle.std.specs.Prelude.{◌≡◌, ℕ, ◌*◌, ◌/◌, ◌<◌, Bool, true, false, ◌&&◌, ◌==◌, List, [], ◌∷◌, length, map, slice_index_or, Option, Some, None}
use Rattle.std.specs.Str.{bytes_eq}
use Rattle.ddf_seal.specs.Records.{record_bytes}
use Rattle.ddf_header.specs.declared.geometry.Section.{Section}
use Rattle.ddf_header.specs.declared.geometry.Geometry.{Geometry}
use Rattle.ddf_header.specs.Geometry.{section_of}
use Rattle.ddf_header.specs.Header.{IsWritable}
use Rattle.ddf_tables.specs.declared.controller.Controller.{Controller}
use Rattle.ddf_tables.specs.declared.disk_data.DiskData.{DiskData}
use Rattle.ddf_tables.specs.Sectors.{IsController, IsDiskData, controller_signature, controller_fields, disk_data_signature, disk_data_fields}
use Rattle.ddf_tables.specs.Tables.{TableValue}
use Rattle.ddf_tables.specs.declared.disks.DiskRow.{DiskRow}
use Rattle.ddf_tables.specs.declared.arrays.ArrayRow.{ArrayRow}
use Rattle.ddf_tables.specs.Disks.{IsDiskTable, disk_table_bytes}
use Rattle.ddf_tables.specs.Arrays.{IsArrayTable, array_table_bytes}
use Rattle.ddf_tables.specs.BadBlocks.{LogValue, IsLog, log_bytes}
use Rattle.ddf_config_records.specs.declared.slot.RecordSlot.{RecordSlot}
use Rattle.ddf_config_records.specs.declared.slot.RecordSlot.TheVariants as slots
use Rattle.ddf_config_records.specs.Slots.{CanBeSlots, DoFit, slot_written, slots_written}
use Rattle.ddf_copy.specs.declared.copy.DiskCopy.{DiskCopy}

-- ---- the sections

unfoldable pub controller_written : Controller → List ℕ
controller_written controller = record_bytes controller_signature (controller_fields controller) controller.rest

unfoldable pub disks_written : TableValue DiskRow → List ℕ
disks_written table = disk_table_bytes table

unfoldable pub arrays_written : TableValue ArrayRow → List ℕ
arrays_written table = array_table_bytes table

unfoldable pub records_written : Geometry → List RecordSlot → List ℕ
records_written geometry slots = slots_written geometry slots

unfoldable pub disk_data_written : DiskData → List ℕ
disk_data_written disk = record_bytes disk_data_signature (disk_data_fields disk) disk.rest

-- none where there is no log
unfoldable pub log_written : Option LogValue → List ℕ
log_written None = []
log_written (Some log) = log_bytes log

-- The bytes of each section that is read and written, in the order of the header.
abbrev pub sections_written : DiskCopy → List (List ℕ)
sections_written copy =
    controller_written copy.controller
    ∷ disks_written copy.disks
    ∷ arrays_written copy.arrays
    ∷ records_written copy.header.geometry copy.slots
    ∷ disk_data_written copy.disk_data
    ∷ log_written copy.bad
    ∷ []

-- ---- level copies

-- the bytes of a slot by which copies are compared: all unused slots count as equal
unfoldable pub slot_counted : Geometry → RecordSlot → List ℕ
slot_counted geometry (slots.Unused kept) = []
slot_counted geometry slot = slot_written geometry slot

-- the bytes of each section and of each slot by which copies are compared
unfoldable pub counted : DiskCopy → List (List ℕ)
counted copy =
    controller_written copy.controller
    ∷ disks_written copy.disks
    ∷ arrays_written copy.arrays
    ∷ disk_data_written copy.disk_data
    ∷ log_written copy.bad
    ∷ map (slot_counted copy.header.geometry) copy.slots

-- the bytes of the slot at a place
abbrev pub slot_counted_at : DiskCopy → ℕ → List ℕ
slot_counted_at copy index = slice_index_or (map (slot_counted copy.header.geometry) copy.slots) index []

abbrev pub are_same : List (List ℕ) → List (List ℕ) → Bool
are_same [] [] = true
are_same (one ∷ ones) (other ∷ others) = bytes_eq one other && are_same ones others
are_same ones others = false

-- Two copies are level: they have one sequence, and the same controller data, tables, disk data, bad block log and slots.
unfoldable pub is_level : DiskCopy → DiskCopy → Bool
is_level one other = one.header.sequence == other.header.sequence && are_same (counted one) (counted other)

-- ---- what can be written

-- There is a log where the section is present.
abbrev pub HasLog : Section → Option LogValue → Type 0
HasLog section None = section.length ≡ 0
HasLog section (Some log) = IsLog log × (length log.rest ≡ 512 * section.length) × (0 < section.length)

-- A copy can be written so that it is read as this copy: each of its records can, in the section that the header gives.
pub record CanBeCopy (copy : DiskCopy) : Type 0 where
  pub header_can : IsWritable copy.header.kind copy.header
  pub is_closed : copy.header.openness ≡ 0
  pub controller_can : IsController copy.controller
  pub disks_can : IsDiskTable copy.header.geometry.max_disks copy.disks
  pub disks_size : length copy.disks.rest ≡ 512 * (section_of copy.header.geometry 1).length
  pub arrays_can : IsArrayTable copy.header.geometry.max_arrays copy.arrays
  pub arrays_size : length copy.arrays.rest ≡ 512 * (section_of copy.header.geometry 2).length
  pub slots_can : CanBeSlots copy.header.geometry copy.header.guid copy.header.sequence copy.slots
  pub slots_fit : DoFit copy.header.geometry copy.slots
  pub slots_count : length copy.slots ≡ (section_of copy.header.geometry 3).length / copy.header.geometry.record_length
  pub disk_data_can : IsDiskData copy.disk_data
  pub has_log : HasLog (section_of copy.header.geometry 5) copy.bad
