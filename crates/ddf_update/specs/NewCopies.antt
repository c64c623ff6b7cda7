-- The copies of a new group's disks, by their layout and by the revision of the standard that their headers have (profile).
use Rattle.std.specs.Prelude.{ℕ, suc, ◌+◌, ◌*◌, ◌-◌, ◌/◌, ◌%◌, ◌^◌, List, [], ◌∷◌, ◌++◌, length, map, replicate, slice_index, Some, false}
use Rattle.std.specs.Int.{w16, to_be_bytes}
use Rattle.ddf_bytes.specs.declared.guid.GuidKind.TheVariants as kinds
use Rattle.ddf_bytes.specs.declared.stamp.Stamp.{Stamp}
use Rattle.ddf_bytes.specs.Guids.{new_guid_bytes}
use Rattle.ddf_bytes.specs.Stamps.{timestamp_of}
use Rattle.ddf_seal.specs.Seal.{seal_place}
use Rattle.ddf_seal.specs.Unread.{cleared, placed, places}
use Rattle.ddf_header.specs.declared.geometry.Section.{Section}
use Rattle.ddf_header.specs.declared.geometry.Geometry.{Geometry}
use Rattle.ddf_header.specs.declared.kind.HeaderKind.TheVariants.{Primary}
use Rattle.ddf_header.specs.declared.kind.Revision.{Revision}
use Rattle.ddf_header.specs.declared.kind.Revision.TheVariants.{R100, R120, R200}
use Rattle.ddf_header.specs.declared.reading.Header.{Header}
use Rattle.ddf_header.specs.declared.layout.TheConstants.{FOREIGN_FLAG_AT}
use Rattle.ddf_header.specs.Header.{unread}
use Rattle.ddf_tables.specs.declared.controller.Controller.{Controller}
use Rattle.ddf_tables.specs.declared.disk_data.DiskData.{DiskData}
use Rattle.ddf_tables.specs.declared.disks.DiskEntry.{DiskEntry}
use Rattle.ddf_tables.specs.declared.disks.DiskRow.{DiskRow}
use Rattle.ddf_tables.specs.declared.disks.DiskRow.TheVariants as disk_rows
use Rattle.ddf_tables.specs.declared.arrays.ArrayRow.{ArrayRow}
use Rattle.ddf_tables.specs.declared.arrays.ArrayRow.TheVariants as array_rows
use Rattle.ddf_tables.specs.declared.layout.TheConstants.{DISK_BLOCK_SIZE_AT}
use Rattle.ddf_tables.specs.Disks.{disk_fields, is_used_disk}
use Rattle.ddf_tables.specs.Sectors.{controller_fields, disk_data_fields}
use Rattle.ddf_tables.specs.Tables.{TableValue, blank_table, replaced_table}
use Rattle.ddf_tables.specs.BadBlocks.{LogValue, blank_log}
use Rattle.ddf_config_records.specs.declared.notes.SlotNote.{SlotNote}
use Rattle.ddf_config_records.specs.declared.notes.Notes.{Notes}
use Rattle.ddf_config_records.specs.declared.slot.RecordSlot.{RecordSlot}
use Rattle.ddf_config_records.specs.declared.slot.RecordSlot.TheVariants as slots
use Rattle.ddf_copy.specs.declared.copy.DiskCopy.{DiskCopy}
use Rattle.ddf_update.specs.declared.new_layout.NewLayout.{NewLayout}
use Rattle.ddf_update.specs.NewLayouts.{members_of, primary_back, record_length_of, records_sectors, rows_of, secondary_back, slots_of, table_sectors_of, workspace_back}

-- ---- names

abbrev pub group_of : Stamp → List ℕ
group_of stamp = new_guid_bytes kinds.Group stamp 0

abbrev pub disk_guid : Stamp → (place : ℕ) → List ℕ
disk_guid stamp place = new_guid_bytes kinds.Disk stamp place

-- the reference of the disk at a place, from 1 on
abbrev pub reference_at : Stamp → (place : ℕ) → ℕ
reference_at stamp place = 1 + (stamp.salt / 2 ^ 64) % (2 ^ 32 - 4098) + place

-- ---- where all lies

abbrev pub section_at : (offset length : ℕ) → Section
section_at offset length = record { offset = offset; length = length }

abbrev pub absent : Section
absent = section_at 0xFFFF_FFFF 0

-- the geometry of a new disk of so many sectors
abbrev pub new_geometry : NewLayout → ℕ → Geometry
new_geometry layout size = record {
  workspace_length = 32768;
  workspace_lba = size - workspace_back layout;
  max_disks = rows_of layout;
  max_arrays = rows_of layout;
  max_partitions = rows_of layout;
  record_length = record_length_of layout;
  max_members = members_of layout;
  sections =
      section_at 1 1
      ∷ section_at 2 (table_sectors_of layout)
      ∷ section_at (2 + table_sectors_of layout) (table_sectors_of layout)
      ∷ section_at (2 + 2 * table_sectors_of layout) (records_sectors layout)
      ∷ section_at (2 + 2 * table_sectors_of layout + records_sectors layout) 1
      ∷ section_at (3 + 2 * table_sectors_of layout + records_sectors layout) 1
      ∷ absent
      ∷ absent
      ∷ [];
}

-- new unread bytes are FF, but the foreign flag and the disk grouping of a header, which are 0
unfoldable pub new_header_bytes : List ℕ
new_header_bytes = placed (replicate 512 255) FOREIGN_FLAG_AT (0 ∷ 0 ∷ [])

abbrev pub named_header : NewLayout → Revision → Stamp → (size : ℕ) → Header
named_header layout revision stamp size = record {
  kind = Primary;
  guid = group_of stamp;
  revision = revision;
  sequence = 1;
  timestamp = timestamp_of stamp;
  openness = 0;
  primary_lba = size - primary_back layout;
  secondary_lba = size - secondary_back layout;
  geometry = new_geometry layout size;
  rest = new_header_bytes;
}

abbrev pub new_header : NewLayout → Revision → Stamp → (size : ℕ) → Header
new_header layout revision stamp size = record (named_header layout revision stamp size) { rest = unread (named_header layout revision stamp size) new_header_bytes }

-- ---- the records

-- a sector of FF
unfoldable pub new_sector_bytes : List ℕ
new_sector_bytes = replicate 512 255

abbrev pub named_controller : Stamp → Controller
named_controller stamp = record { guid = new_guid_bytes kinds.Controller stamp 0; rest = new_sector_bytes }

abbrev pub new_controller : Stamp → Controller
new_controller stamp = record (named_controller stamp) { rest = cleared (seal_place ∷ places (controller_fields (named_controller stamp))) new_sector_bytes }

abbrev pub named_disk_data : Stamp → (place : ℕ) → DiskData
named_disk_data stamp place = record { guid = disk_guid stamp place; reference = reference_at stamp place; rest = new_sector_bytes }

abbrev pub new_disk_data : Stamp → (place : ℕ) → DiskData
new_disk_data stamp place = record (named_disk_data stamp place) { rest = cleared (seal_place ∷ places (disk_data_fields (named_disk_data stamp place))) new_sector_bytes }

-- the block size in a disk's entry: it is given under the latest revision alone
abbrev pub block_size_of : Revision → ℕ
block_size_of R200 = 512
block_size_of R100 = 0xFFFF
block_size_of R120 = 0xFFFF

-- A new disk is online, and has its block size behind its path.
unfoldable pub new_entry_bytes : Revision → List ℕ
new_entry_bytes revision = placed (replicate 64 255) DISK_BLOCK_SIZE_AT (to_be_bytes w16 (block_size_of revision))

abbrev pub named_entry : NewLayout → Revision → Stamp → (place size : ℕ) → DiskEntry
named_entry layout revision stamp place size = record {
  guid = disk_guid stamp place;
  reference = reference_at stamp place;
  kind = record { 0 = 0 };
  state = record { 0 = 1 };
  size = size - workspace_back layout;
  rest = new_entry_bytes revision;
}

abbrev pub new_entry : NewLayout → Revision → Stamp → (place size : ℕ) → DiskRow
new_entry layout revision stamp place size = disk_rows.Entry (record (named_entry layout revision stamp place size) { rest = cleared (places (disk_fields (named_entry layout revision stamp place size))) (new_entry_bytes revision) })

-- the entries of disks of these sizes, from a place on
abbrev pub entries_from : NewLayout → Revision → Stamp → (place : ℕ) → List ℕ → List DiskRow
entries_from layout revision stamp place [] = []
entries_from layout revision stamp place (size ∷ sizes) = new_entry layout revision stamp place size ∷ entries_from layout revision stamp (suc place) sizes

-- a row for each disk, and then unused ones
abbrev pub new_rows : NewLayout → Revision → Stamp → List ℕ → List DiskRow
new_rows layout revision stamp sizes = entries_from layout revision stamp 0 sizes ++ replicate (rows_of layout - length sizes) (disk_rows.Unused (replicate 64 255))

-- the table of disks before it has its rows
unfoldable pub blank_disks : NewLayout → TableValue DiskRow
blank_disks layout = blank_table (disk_rows.Unused (replicate 64 255)) (rows_of layout) (512 * table_sectors_of layout)

abbrev pub new_disks : NewLayout → Revision → Stamp → List ℕ → TableValue DiskRow
new_disks layout revision stamp sizes = replaced_table is_used_disk (blank_disks layout) (new_rows layout revision stamp sizes)

-- a table of no array
unfoldable pub new_arrays : NewLayout → TableValue ArrayRow
new_arrays layout = blank_table (array_rows.Unused (replicate 64 255)) (rows_of layout) (512 * table_sectors_of layout)

-- a log of no block
unfoldable pub new_log : LogValue
new_log = blank_log 512

-- the note of a slot that holds no element
abbrev pub no_note : SlotNote
no_note = record { copied = false; position = 0xFFFF; stand_in = 0; row = 0; out = [] }

-- a slot of FF, of so many bytes
unfoldable pub unused_slot : (size : ℕ) → RecordSlot
unused_slot size = slots.Unused (replicate size 255)

-- a note for each of so many slots
abbrev pub new_notes : (count : ℕ) → Stamp → Notes
new_notes count stamp = record { group = group_of stamp; sequence = 1; slots = replicate count no_note }

-- so many slots: notes in the first, and all others unused
abbrev pub new_slots : (count size : ℕ) → Stamp → List RecordSlot
new_slots count size stamp = slots.Notes (new_notes count stamp) ∷ replicate (count - 1) (unused_slot size)

-- The copy of the disk at a place among disks of these sizes.
abbrev pub new_copy : NewLayout → Revision → Stamp → (sizes : List ℕ) → (place : ℕ) → DiskCopy
new_copy layout revision stamp sizes place = record {
  header = new_header layout revision stamp (slice_index sizes place);
  controller = new_controller stamp;
  disks = new_disks layout revision stamp sizes;
  arrays = new_arrays layout;
  slots = new_slots (slots_of layout) (512 * record_length_of layout) stamp;
  disk_data = new_disk_data stamp place;
  bad = Some new_log;
}

-- ---- a group

-- the sizes of disks, each a slot and its size
abbrev pub sizes_of : List (ℕ × ℕ) → List ℕ
sizes_of disks = map (λ disk. disk.1) disks
