-- The sections of a copy that are read: where they lie, and what they hold.
use Rattle.std.specs.Prelude.{◌≡◌, ℕ, ◌+◌, ◌*◌, ◌/◌, ◌≤◌, ◌==◌, List, [], ◌∷◌, length, map, Option, Some, None, Result, Ok, Err, if◌then◌else◌}
use Rattle.std.specs.List.{flat_map, range_with_len}
use Rattle.ddf_seal.specs.declared.sealing.SealFault.{SealFault}
use Rattle.ddf_header.specs.declared.reading.Header.{Header}
use Rattle.ddf_header.specs.declared.geometry.Section.{Section}
use Rattle.ddf_header.specs.declared.geometry.Geometry.{Geometry}
use Rattle.ddf_header.specs.Geometry.{section_of}
use Rattle.ddf_tables.specs.declared.fault.TableFault.{TableFault}
use Rattle.ddf_tables.specs.declared.fault.TableFault.TheVariants as table_faults
use Rattle.ddf_tables.specs.Sectors.{decoded_controller, decoded_disk_data}
use Rattle.ddf_tables.specs.Disks.{decoded_disks}
use Rattle.ddf_tables.specs.Arrays.{decoded_arrays}
use Rattle.ddf_tables.specs.BadBlocks.{LogValue, decoded_log}
use Rattle.ddf_config_records.specs.declared.fault.SlotFault.{SlotFault}
use Rattle.ddf_config_records.specs.declared.fault.SlotFault.TheVariants as slot_faults
use Rattle.ddf_config_records.specs.declared.slot.RecordSlot.{RecordSlot}
use Rattle.ddf_config_records.specs.Slots.{decoded_slots}
use Rattle.ddf_copy.specs.declared.copy.DiskCopy.{DiskCopy}
use Rattle.ddf_copy.specs.declared.fault.SectionName.{SectionName}
use Rattle.ddf_copy.specs.declared.fault.SectionName.TheVariants as names
use Rattle.ddf_copy.specs.declared.fault.CopyFault.{CopyFault}
use Rattle.ddf_copy.specs.declared.fault.CopyFault.TheVariants as faults
use Rattle.ddf_copy.specs.declared.raw.Raw.{Raw}

-- ---- where they lie

-- of the configuration records as many sectors as there are whole slots
abbrev pub whole_slots : Geometry → Section
whole_slots geometry = record {
  offset = (section_of geometry 3).offset;
  length = ((section_of geometry 3).length / geometry.record_length) * geometry.record_length;
}

-- the sectors of a section
abbrev pub sectors_at : (ℕ → List ℕ) → (lba : ℕ) → Section → List (List ℕ)
sectors_at sector lba section = map sector (range_with_len (lba + section.offset) section.length)

-- What is read of the copy at an LBA: of the controller data and the disk data the first sector, of the configuration records
-- the whole slots, of the others all.
abbrev pub raw_at : (ℕ → List ℕ) → (lba : ℕ) → Geometry → Raw
raw_at sector lba geometry = record {
  controller = sector (lba + (section_of geometry 0).offset);
  disks = sectors_at sector lba (section_of geometry 1);
  arrays = sectors_at sector lba (section_of geometry 2);
  records = sectors_at sector lba (whole_slots geometry);
  disk_data = sector (lba + (section_of geometry 4).offset);
  bad_blocks = sectors_at sector lba (section_of geometry 5);
}

abbrev pub bytes_in : List (List ℕ) → List ℕ
bytes_in sectors = flat_map (λ sector. sector) sectors

-- It has the sectors that are read of the sections, and the tables have room for their rows.
pub record HasSizes (geometry : Geometry) (raw : Raw) : Type 0 where
  pub disks_size : length raw.disks ≡ (section_of geometry 1).length
  pub arrays_size : length raw.arrays ≡ (section_of geometry 2).length
  pub records_size : length raw.records ≡ (whole_slots geometry).length
  pub bad_blocks_size : length raw.bad_blocks ≡ (section_of geometry 5).length
  pub disks_hold : 64 + 64 * geometry.max_disks ≤ 512 * length raw.disks
  pub arrays_hold : 64 + 64 * geometry.max_arrays ≤ 512 * length raw.arrays

-- the bytes of each section, in the order of the header
abbrev pub raw_bytes : Raw → List (List ℕ)
raw_bytes raw =
    raw.controller ∷ bytes_in raw.disks ∷ bytes_in raw.arrays ∷ bytes_in raw.records ∷ raw.disk_data ∷ bytes_in raw.bad_blocks ∷ []

-- ---- what they hold

abbrev pub and_then : {A B : Type 0} → Result A CopyFault → (A → Result B CopyFault) → Result B CopyFault
and_then (Ok x) next = next x
and_then (Err fault) next = Err fault

-- the value of a section, or its fault
abbrev pub in_section : {T : Type 0} → SectionName → Result T TableFault → Result T CopyFault
in_section name (Ok value) = Ok value
in_section name (Err fault) = Err (faults.Section name fault)

-- the same of a section of one sector
abbrev pub in_sector : {T : Type 0} → SectionName → Result T SealFault → Result T CopyFault
in_sector name (Ok value) = Ok value
in_sector name (Err fault) = Err (faults.Section name (table_faults.Seal fault))

abbrev pub in_slots : Result (List RecordSlot) SlotFault → Result (List RecordSlot) CopyFault
in_slots (Ok slots) = Ok slots
in_slots (Err (slot_faults.Seal slot fault)) = Err (faults.Slot slot fault)
in_slots (Err slot_faults.Memory) = Err faults.Memory

abbrev pub some_log : Result LogValue CopyFault → Result (Option LogValue) CopyFault
some_log (Ok log) = Ok (Some log)
some_log (Err fault) = Err fault

-- the log, where there is one
abbrev pub log_in : List (List ℕ) → Result (Option LogValue) CopyFault
log_in sectors = if length sectors == 0 then Ok None else some_log (in_section names.BadBlocks (decoded_log (bytes_in sectors)))

-- the copy that stands in its header and sections, or the fault of the first section that has one
unfoldable pub copy_in : Header → Raw → Result DiskCopy CopyFault
copy_in header raw =
    and_then (in_sector names.Controller (decoded_controller raw.controller)) (λ controller.
    and_then (in_section names.Disks (decoded_disks header.geometry.max_disks (bytes_in raw.disks))) (λ disks.
    and_then (in_section names.Arrays (decoded_arrays header.geometry.max_arrays (bytes_in raw.arrays))) (λ arrays.
    and_then (in_slots (decoded_slots header.geometry header.guid header.sequence (bytes_in raw.records))) (λ slots.
    and_then (in_sector names.DiskData (decoded_disk_data raw.disk_data)) (λ disk_data.
    and_then (log_in raw.bad_blocks) (λ bad.
    Ok (record {
      header = header;
      controller = controller;
      disks = disks;
      arrays = arrays;
      slots = slots;
      disk_data = disk_data;
      bad = bad;
    })))))))
