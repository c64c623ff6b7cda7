-- What the copy of a disk that is moved holds, before a change of the group is written to it (profile).
use Rattle.std.specs.Prelude.{ℕ, ◌-◌, ◌*◌, Bool, not, ◌&&◌, nat_le, List, ◌++◌, length, map, filter, take, replicate, slice_get, Option, Some, None, option_map, if◌then◌else◌}
use Rattle.std.specs.List.{range_with_len}
use Rattle.std.specs.Option.{option_map_or}
use Rattle.ddf_header.specs.declared.geometry.Section.{Section}
use Rattle.ddf_header.specs.declared.geometry.Geometry.{Geometry}
use Rattle.ddf_header.specs.declared.reading.Header.{Header}
use Rattle.ddf_header.specs.Geometry.{is_absent, section_of}
use Rattle.ddf_tables.specs.declared.disks.DiskRow.{DiskRow}
use Rattle.ddf_tables.specs.declared.disks.DiskRow.TheVariants as disk_rows
use Rattle.ddf_tables.specs.declared.arrays.ArrayRow.{ArrayRow}
use Rattle.ddf_tables.specs.declared.arrays.ArrayRow.TheVariants as array_rows
use Rattle.ddf_tables.specs.Disks.{is_used_disk}
use Rattle.ddf_tables.specs.Arrays.{is_used_array}
use Rattle.ddf_tables.specs.BadBlocks.{LogValue, blank_log}
use Rattle.ddf_tables.specs.Tables.{TableValue, blank_table, replaced_table}
use Rattle.ddf_config_records.specs.declared.slot.RecordSlot.{RecordSlot}
use Rattle.ddf_config_records.specs.declared.slot.RecordSlot.TheVariants as slots
use Rattle.ddf_config_records.specs.declared.spare.SpareRecord.{SpareRecord}
use Rattle.ddf_config_records.specs.ElementValue.{ElementValue}
use Rattle.ddf_config_records.specs.Elements.{record_size}
use Rattle.ddf_config_records.specs.Building.{element_over, spare_entries, spare_over}
use Rattle.ddf_config_records.specs.NoteRecords.{is_named}
use Rattle.ddf_copy.specs.declared.copy.DiskCopy.{DiskCopy}
use Rattle.ddf_import.specs.declared.places.Moved.{Moved}
use Rattle.ddf_import.specs.Moving.{moved}
use Rattle.ddf_moving.specs.Numbers.{same_records}
use Rattle.ddf_moving.specs.Places.{copy_length, moved_header}

-- ---- the tables

-- as many of these rows as fit, and then unused ones
abbrev pub filled : {Row : Type 0} → (unused : Row) → (max : ℕ) → List Row → List Row
filled unused max rows = take max rows ++ replicate (max - length rows) unused

-- a row of FF
abbrev pub unused_disk : DiskRow
unused_disk = disk_rows.Unused (replicate 64 255)

abbrev pub unused_array : ArrayRow
unused_array = array_rows.Unused (replicate 64 255)

-- The used rows of a table in order, in one of another size: as many as fit. All other bytes are FF.
abbrev pub moved_disks : TableValue DiskRow → Geometry → TableValue DiskRow
moved_disks old like =
    replaced_table is_used_disk (blank_table unused_disk like.max_disks (512 * (section_of like 1).length)) (filled unused_disk like.max_disks (filter is_used_disk old.rows))

abbrev pub moved_arrays : TableValue ArrayRow → Geometry → TableValue ArrayRow
moved_arrays old like =
    replaced_table is_used_array (blank_table unused_array like.max_arrays (512 * (section_of like 2).length)) (filled unused_array like.max_arrays (filter is_used_array old.rows))

-- ---- the configuration records

-- the unread bytes of a record in one of so many bytes: those of its first sector, and FF behind them
abbrev pub moved_rest : (size : ℕ) → List ℕ → List ℕ
moved_rest size rest = filled 255 size (take 512 rest)

-- an element in a record of another geometry
abbrev pub moved_element : Geometry → ElementValue → ElementValue
moved_element geometry element = element_over geometry (record element { rest = moved_rest (record_size geometry) element.rest }) element

-- a spare in a record of another geometry
abbrev pub moved_spare : Geometry → SpareRecord → SpareRecord
moved_spare geometry spare = spare_over geometry (Some (record spare { rest = moved_rest (record_size geometry) spare.rest })) spare

-- a slot of FF
abbrev pub unused_slot : Geometry → RecordSlot
unused_slot geometry = slots.Unused (replicate (record_size geometry) 255)

abbrev pub slot_if : Geometry → Bool → RecordSlot → RecordSlot
slot_if geometry fits slot = if fits then slot else unused_slot geometry

-- A slot among records of another geometry. The disk's own records stay where they fit; a vendor's, and one that isn't read, where the
-- records have the same size. Notes and copies are left out, since they are made again, and so is a record that has the name of notes.
abbrev pub moved_slot : Geometry → (same : Bool) → RecordSlot → RecordSlot
moved_slot geometry same (slots.Element element) = slot_if geometry (nat_le (length element.members) geometry.max_members) (slots.Element (moved_element geometry element))
moved_slot geometry same (slots.Spare spare) = slot_if geometry (nat_le (length spare.arrays) (spare_entries geometry)) (slots.Spare (moved_spare geometry spare))
moved_slot geometry same (slots.Vendor guid rest) = slot_if geometry (same && not (is_named rest)) (slots.Vendor guid rest)
moved_slot geometry same (slots.Unread fault kept) = slot_if geometry same (slots.Unread fault kept)
moved_slot geometry same (slots.Copied element) = unused_slot geometry
moved_slot geometry same (slots.Notes notes) = unused_slot geometry
moved_slot geometry same (slots.Unused kept) = unused_slot geometry

-- a slot by its place, unused past the end
abbrev pub moved_slot_at : (old like : Geometry) → List RecordSlot → (place : ℕ) → RecordSlot
moved_slot_at old like all place = option_map_or (moved_slot like (same_records old like)) (slice_get all place) (unused_slot like)

-- So many slots: each keeps its number, and those past the end are left out.
abbrev pub moved_slots : (old like : Geometry) → (count : ℕ) → List RecordSlot → List RecordSlot
moved_slots old like count all = map (moved_slot_at old like all) (range_with_len 0 count)

-- ---- the copy

-- a log without entries, where there is a section for one
abbrev pub log_for : Section → Option LogValue
log_for section = if is_absent section then None else Some (blank_log (512 * section.length))

-- The copy of a disk behind a header of other places and numbers, with so many slots.
abbrev pub copy_behind : (old : DiskCopy) → (header : Header) → (count : ℕ) → DiskCopy
copy_behind old header count = record {
  header = header;
  controller = old.controller;
  disks = moved_disks old.disks header.geometry;
  arrays = moved_arrays old.arrays header.geometry;
  slots = moved_slots old.header.geometry header.geometry count old.slots;
  disk_data = old.disk_data;
  bad = log_for (section_of header.geometry 5);
}

-- The copy of a disk at other places, with the numbers of another disk: still of its own group, at the sequence that it has. The controller
-- data, the disk data and what no field of its header names stay.
abbrev pub relaid : (old like : DiskCopy) → Moved → DiskCopy
relaid old like places = copy_behind old (moved_header old.header like.header.geometry places) (length like.slots)

-- It lies at the end of the disk's workspace, where this has room for both copies.
unfoldable pub moved_copy : (old like : DiskCopy) → Option DiskCopy
moved_copy old like =
    option_map (relaid old like) (moved old.header.geometry.workspace_lba old.header.geometry.workspace_length (copy_length like.header.geometry))
