-- The physical disk records (SNIA DDF 2.0).
use Rattle.std.specs.Prelude.{◌≡◌, ℕ, Bool, true, false, ◌==◌, nat_eq, List, [], ◌∷◌, length, if◌then◌else◌, Option, Some, None, Result}
use Rattle.std.specs.Int.{w16, w32, w64}
use Rattle.ddf_bytes.specs.Bytes.{bytes_at, number_at}
use Rattle.ddf_seal.specs.Records.{IsRow, IsRowOf}
use Rattle.ddf_seal.specs.Unread.{Field, u16_at, u32_at, u64_at, plain_at, cleared, places, written}
use Rattle.ddf_tables.specs.declared.disks.DiskEntry.{DiskEntry}
use Rattle.ddf_tables.specs.declared.disks.DiskRow.{DiskRow}
use Rattle.ddf_tables.specs.declared.disks.DiskRow.TheVariants.{Entry, Unused}
use Rattle.ddf_tables.specs.declared.fault.TableFault.{TableFault}
use Rattle.ddf_tables.specs.declared.fault.TableFault.TheVariants.{TwiceSameReference}
use Rattle.ddf_tables.specs.declared.layout.TheConstants.{DISK_GUID_AT, DISK_REFERENCE_AT, DISK_KIND_AT, DISK_STATE_AT, DISK_SIZE_AT}
use Rattle.ddf_tables.specs.Rows.{is_unused, has_name, twice_by, HaveOwnNames}
use Rattle.ddf_tables.specs.Tables.{TableValue, IsTableOf, IsTable, table_bytes, decoded_table}

abbrev pub disk_signature : ℕ
disk_signature = 0x2222_2222

-- ---- an entry

-- the fields of a used entry
abbrev pub disk_fields : DiskEntry → List Field
disk_fields entry =
    plain_at DISK_GUID_AT 24 entry.guid
    ∷ u32_at DISK_REFERENCE_AT entry.reference
    ∷ u16_at DISK_KIND_AT entry.kind.0
    ∷ u16_at DISK_STATE_AT entry.state.0
    ∷ u64_at DISK_SIZE_AT entry.size
    ∷ []

-- A row is the value of 64 bytes: an unused one is all of them, a used one has the fields that stand in them and the rest.
abbrev pub IsDiskRowOf : DiskRow → List ℕ → Type 0
IsDiskRowOf (Entry entry) bytes = IsRowOf (disk_fields entry) entry.rest bytes × (is_unused entry.guid ≡ false)
IsDiskRowOf (Unused whole) bytes = (whole ≡ bytes) × (is_unused (bytes_at whole DISK_GUID_AT 24) ≡ true)

-- A row can be written.
abbrev pub IsDiskRow : DiskRow → Type 0
IsDiskRow (Entry entry) = IsRow (disk_fields entry) entry.rest × (length entry.rest ≡ 64) × (is_unused entry.guid ≡ false)
IsDiskRow (Unused whole) = (length whole ≡ 64) × (is_unused (bytes_at whole DISK_GUID_AT 24) ≡ true)

-- the bytes that a row is written as
abbrev pub disk_row_bytes : DiskRow → List ℕ
disk_row_bytes (Entry entry) = written (disk_fields entry) entry.rest
disk_row_bytes (Unused whole) = whole

-- the value of each field, and all bytes as the rest
abbrev pub named_disk : List ℕ → DiskEntry
named_disk bytes = record {
  guid = bytes_at bytes DISK_GUID_AT 24;
  reference = number_at w32 bytes DISK_REFERENCE_AT;
  kind = record { 0 = number_at w16 bytes DISK_KIND_AT };
  state = record { 0 = number_at w16 bytes DISK_STATE_AT };
  size = number_at w64 bytes DISK_SIZE_AT;
  rest = bytes;
}

-- the entry that stands in 64 bytes
abbrev pub disk_at : List ℕ → DiskEntry
disk_at bytes = record (named_disk bytes) { rest = cleared (places (disk_fields (named_disk bytes))) bytes }

unfoldable pub disk_row_at : List ℕ → DiskRow
disk_row_at bytes = if is_unused (bytes_at bytes DISK_GUID_AT 24) then Unused bytes else Entry (disk_at bytes)

-- ---- the rows of a table

-- a used row
abbrev pub is_used_disk : DiskRow → Bool
is_used_disk (Entry entry) = true
is_used_disk (Unused whole) = false

-- the reference of a used row
abbrev pub reference_of : DiskRow → Option ℕ
reference_of (Entry entry) = Some entry.reference
reference_of (Unused whole) = None

-- FFFFFFFF names no disk (profile).
abbrev pub is_no_disk : ℕ → Bool
is_no_disk reference = reference == 0xFFFF_FFFF

-- a row of this reference
abbrev pub has_reference : ℕ → DiskRow → Bool
has_reference reference row = has_name reference_of nat_eq reference row

-- what may be wrong with a row, by those before it
unfoldable pub disk_twice : List DiskRow → DiskRow → Option TableFault
disk_twice earlier row = twice_by reference_of nat_eq is_no_disk TwiceSameReference earlier row

-- Each used row names a disk, and no two of them have one reference.
abbrev pub HaveReferences : List DiskRow → Type 0
HaveReferences rows = HaveOwnNames reference_of nat_eq is_no_disk rows

-- ---- the table

-- the value of a section, in a table of so many rows
abbrev pub IsDiskTableOf : ℕ → TableValue DiskRow → List ℕ → Type 0
IsDiskTableOf max table section = IsTableOf disk_signature IsDiskRowOf HaveReferences max table section

-- A table of so many rows can be written.
abbrev pub IsDiskTable : ℕ → TableValue DiskRow → Type 0
IsDiskTable max table = IsTable IsDiskRow HaveReferences max table

-- the first fault of a section, or else its table
abbrev pub decoded_disks : ℕ → List ℕ → Result (TableValue DiskRow) TableFault
decoded_disks max section = decoded_table disk_signature disk_row_at disk_twice max section

-- the section that a table is written as
abbrev pub disk_table_bytes : TableValue DiskRow → List ℕ
disk_table_bytes table = table_bytes disk_signature disk_row_bytes table
