-- The virtual disk records (SNIA DDF 2.0).
use Rattle.std.specs.Prelude.{◌≡◌, ℕ, Bool, true, false, List, [], ◌∷◌, length, if◌then◌else◌, Option, Some, None, Result, slice_index}
use Rattle.std.specs.Str.{bytes_eq}
use Rattle.std.specs.Int.{w16}
use Rattle.ddf_bytes.specs.Bytes.{bytes_at, number_at}
use Rattle.ddf_seal.specs.Records.{IsRow, IsRowOf}
use Rattle.ddf_seal.specs.Unread.{Field, u8_at, u16_at, plain_at, cleared, places, written}
use Rattle.ddf_tables.specs.declared.arrays.ArrayEntry.{ArrayEntry}
use Rattle.ddf_tables.specs.declared.arrays.ArrayRow.{ArrayRow}
use Rattle.ddf_tables.specs.declared.arrays.ArrayRow.TheVariants.{Entry, Unused}
use Rattle.ddf_tables.specs.declared.fault.TableFault.{TableFault}
use Rattle.ddf_tables.specs.declared.fault.TableFault.TheVariants.{TwiceSameGuid}
use Rattle.ddf_tables.specs.declared.layout.TheConstants.{ARRAY_GUID_AT, ARRAY_NUMBER_AT, ARRAY_STATE_AT, ARRAY_INIT_AT, ARRAY_NAME_AT}
use Rattle.ddf_tables.specs.Rows.{is_unused, has_name, twice_by, HaveOwnNames}
use Rattle.ddf_tables.specs.Tables.{TableValue, IsTableOf, IsTable, table_bytes, decoded_table}

abbrev pub array_signature : ℕ
array_signature = 0xDDDD_DDDD

-- ---- an entry

-- the fields of a used entry
abbrev pub array_fields : ArrayEntry → List Field
array_fields entry =
    plain_at ARRAY_GUID_AT 24 entry.guid
    ∷ u16_at ARRAY_NUMBER_AT entry.number
    ∷ u8_at ARRAY_STATE_AT entry.state
    ∷ u8_at ARRAY_INIT_AT entry.init
    ∷ plain_at ARRAY_NAME_AT 16 entry.name
    ∷ []

-- A row is the value of 64 bytes: an unused one is all of them, a used one has the fields that stand in them and the rest.
abbrev pub IsArrayRowOf : ArrayRow → List ℕ → Type 0
IsArrayRowOf (Entry entry) bytes = IsRowOf (array_fields entry) entry.rest bytes × (is_unused entry.guid ≡ false)
IsArrayRowOf (Unused whole) bytes = (whole ≡ bytes) × (is_unused (bytes_at whole ARRAY_GUID_AT 24) ≡ true)

-- A row can be written.
abbrev pub IsArrayRow : ArrayRow → Type 0
IsArrayRow (Entry entry) = IsRow (array_fields entry) entry.rest × (length entry.rest ≡ 64) × (is_unused entry.guid ≡ false)
IsArrayRow (Unused whole) = (length whole ≡ 64) × (is_unused (bytes_at whole ARRAY_GUID_AT 24) ≡ true)

-- the bytes that a row is written as
abbrev pub array_row_bytes : ArrayRow → List ℕ
array_row_bytes (Entry entry) = written (array_fields entry) entry.rest
array_row_bytes (Unused whole) = whole

-- the value of each field, and all bytes as the rest
abbrev pub named_array : List ℕ → ArrayEntry
named_array bytes = record {
  guid = bytes_at bytes ARRAY_GUID_AT 24;
  number = number_at w16 bytes ARRAY_NUMBER_AT;
  state = slice_index bytes ARRAY_STATE_AT;
  init = slice_index bytes ARRAY_INIT_AT;
  name = bytes_at bytes ARRAY_NAME_AT 16;
  rest = bytes;
}

-- the entry that stands in 64 bytes
abbrev pub array_at : List ℕ → ArrayEntry
array_at bytes = record (named_array bytes) { rest = cleared (places (array_fields (named_array bytes))) bytes }

unfoldable pub array_row_at : List ℕ → ArrayRow
array_row_at bytes = if is_unused (bytes_at bytes ARRAY_GUID_AT 24) then Unused bytes else Entry (array_at bytes)

-- ---- the rows of a table

-- a used row
abbrev pub is_used_array : ArrayRow → Bool
is_used_array (Entry entry) = true
is_used_array (Unused whole) = false

-- the GUID of a used row
abbrev pub guid_of : ArrayRow → Option (List ℕ)
guid_of (Entry entry) = Some entry.guid
guid_of (Unused whole) = None

-- each GUID names an array
abbrev pub is_no_array : List ℕ → Bool
is_no_array guid = false

-- a row of this GUID
abbrev pub has_guid : List ℕ → ArrayRow → Bool
has_guid guid row = has_name guid_of bytes_eq guid row

-- what may be wrong with a row, by those before it
unfoldable pub array_twice : List ArrayRow → ArrayRow → Option TableFault
array_twice earlier row = twice_by guid_of bytes_eq is_no_array TwiceSameGuid earlier row

-- No two used rows have one GUID.
abbrev pub HaveGuids : List ArrayRow → Type 0
HaveGuids rows = HaveOwnNames guid_of bytes_eq is_no_array rows

-- ---- the table

-- the value of a section, in a table of so many rows
abbrev pub IsArrayTableOf : ℕ → TableValue ArrayRow → List ℕ → Type 0
IsArrayTableOf max table section = IsTableOf array_signature IsArrayRowOf HaveGuids max table section

-- A table of so many rows can be written.
abbrev pub IsArrayTable : ℕ → TableValue ArrayRow → Type 0
IsArrayTable max table = IsTable IsArrayRow HaveGuids max table

-- the first fault of a section, or else its table
abbrev pub decoded_arrays : ℕ → List ℕ → Result (TableValue ArrayRow) TableFault
decoded_arrays max section = decoded_table array_signature array_row_at array_twice max section

-- the section that a table is written as
abbrev pub array_table_bytes : TableValue ArrayRow → List ℕ
array_table_bytes table = table_bytes array_signature array_row_bytes table
