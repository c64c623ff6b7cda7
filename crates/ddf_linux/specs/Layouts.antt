-- The sealed records of a copy: with which signature each kind begins, where it stands behind the copy's header, and how
-- many bytes its CRC covers (SNIA DDF 2.0).
use Rattle.std.specs.Prelude.{ℕ, ◌*◌, ◌/◌, Bool, ◌==◌, ◌||◌, if◌then◌else◌, Option, Some, None}
use Rattle.ddf_header.specs.declared.geometry.Geometry.{Geometry}
use Rattle.ddf_header.specs.declared.geometry.Section.{Section}
use Rattle.ddf_header.specs.Header.{header_signature}
use Rattle.ddf_header.specs.Geometry.{section_of}
use Rattle.ddf_linux.specs.declared.layout.Layout.{Layout}
use Rattle.ddf_linux.specs.declared.records.Records.{Records}
use Rattle.ddf_linux.specs.Crcs.{constant_of}

-- ---- the signatures, but for that of a header

abbrev pub controller_signature : ℕ
controller_signature = 0xAD11_1111

-- of the physical disk records
abbrev pub disk_signature : ℕ
disk_signature = 0x2222_2222

-- of the virtual disk records
abbrev pub array_signature : ℕ
array_signature = 0xDDDD_DDDD

-- of a configuration record: of an array, of a spare, or of a vendor
abbrev pub is_config_signature : ℕ → Bool
is_config_signature signature = (signature == 0xEEEE_EEEE) || ((signature == 0x5555_5555) || (signature == 0x8888_8888))

abbrev pub disk_data_signature : ℕ
disk_data_signature = 0x3333_3333

abbrev pub bad_block_signature : ℕ
bad_block_signature = 0xABAD_B10C

-- ---- where they stand

-- records of so many sectors each, of which each CRC covers all bytes
abbrev pub records_at : (offset stride count : ℕ) → Records
records_at offset stride count = record { offset = offset; stride = stride; count = count; constant = constant_of (512 * stride) }

-- one record of a sector, at the front of a section
abbrev pub front_of : Section → Records
front_of section = records_at section.offset 1 1

-- one record that fills a section
abbrev pub whole_of : Section → Records
whole_of section = records_at section.offset section.length 1

-- one record in each whole slot of the section of configuration records
abbrev pub slots_of : Geometry → Records
slots_of geometry =
    let section = section_of geometry 3 in
    records_at section.offset geometry.record_length (section.length / geometry.record_length)

-- the records that a geometry lays out
unfoldable pub layout_of : Geometry → Layout
layout_of geometry = record {
  header = records_at 0 1 1;
  controller = front_of (section_of geometry 0);
  disks = whole_of (section_of geometry 1);
  arrays = whole_of (section_of geometry 2);
  configs = slots_of geometry;
  disk_data = front_of (section_of geometry 4);
  bad_blocks = whole_of (section_of geometry 5);
}

-- the records that may begin with a signature
unfoldable pub records_with : Layout → ℕ → Option Records
records_with layout signature =
    if signature == header_signature then Some layout.header
    else if signature == controller_signature then Some layout.controller
    else if signature == disk_signature then Some layout.disks
    else if signature == array_signature then Some layout.arrays
    else if is_config_signature signature then Some layout.configs
    else if signature == disk_data_signature then Some layout.disk_data
    else if signature == bad_block_signature then Some layout.bad_blocks
    else None
