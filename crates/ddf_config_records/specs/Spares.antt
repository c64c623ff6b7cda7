-- A spare record against its bytes (SNIA DDF 2.0, the spare assignment record).
use Rattle.std.specs.Prelude.{◌≡◌, ℕ, ◌+◌, ◌-◌, ◌*◌, ◌/◌, min, List, [], ◌∷◌, length, map, slice_index}
use Rattle.std.specs.List.{range_with_len}
use Rattle.std.specs.Int.{w16, w32}
use Rattle.ddf_bytes.specs.Bytes.{bytes_at, number_at}
use Rattle.ddf_seal.specs.declared.unread.Span.{Span}
use Rattle.ddf_seal.specs.Seal.{seal_place}
use Rattle.ddf_seal.specs.Records.{IsRecord, IsRecordOf}
use Rattle.ddf_seal.specs.Unread.{Field, u8_at, u32_at, plain_at, cleared, places}
use Rattle.ddf_header.specs.declared.geometry.Geometry.{Geometry}
use Rattle.ddf_config_records.specs.declared.spare.SpareRecord.{SpareRecord}
use Rattle.ddf_config_records.specs.declared.layout.TheConstants.{SPARE_TIMESTAMP_AT, SPARE_KIND_AT, SPARE_POPULATED_AT, SPARE_ENTRIES_AT, SPARE_ENTRY_BYTES}
use Rattle.ddf_config_records.specs.Elements.{record_size}

abbrev pub spare_signature : ℕ
spare_signature = 0x5555_5555

-- The entries that are read: as many as the record says are populated, and at most as fit.
abbrev pub spare_count : List ℕ → ℕ
spare_count bytes = min (number_at w16 bytes SPARE_POPULATED_AT) ((length bytes - SPARE_ENTRIES_AT) / SPARE_ENTRY_BYTES)

-- the GUIDs of entries of 32 bytes each, from an offset on
abbrev pub entry_fields : ℕ → List (List ℕ) → List Field
entry_fields at [] = []
entry_fields at (guid ∷ guids) = plain_at at 24 guid ∷ entry_fields (at + SPARE_ENTRY_BYTES) guids

abbrev pub spare_fields : SpareRecord → List Field
spare_fields spare = u32_at SPARE_TIMESTAMP_AT spare.timestamp ∷ u8_at SPARE_KIND_AT spare.kind ∷ entry_fields SPARE_ENTRIES_AT spare.arrays

-- A spare record can be written under a geometry: its numbers fit, its rest has zeros in the places of the fields, and it has
-- as many arrays as its rest says are populated.
pub record CanBeSpare (geometry : Geometry) (spare : SpareRecord) : Type 0 where
  pub size : length spare.rest ≡ record_size geometry
  pub counted : length spare.arrays ≡ spare_count spare.rest
  pub is_record : IsRecord (spare_fields spare) spare.rest

-- A spare record is the value of a record: the record is sealed, each field has the value that stands at its offset, the rest
-- is all other bytes, and it has the arrays that are to be read.
pub record IsSpareOf (geometry : Geometry) (spare : SpareRecord) (bytes : List ℕ) : Type 0 where
  pub size : length bytes ≡ record_size geometry
  pub is_record : IsRecordOf spare_signature (spare_fields spare) spare.rest bytes
  pub counted : length spare.arrays ≡ spare_count bytes

-- ---- reading

-- the array of an entry
abbrev pub array_at : List ℕ → ℕ → List ℕ
array_at bytes index = bytes_at bytes (SPARE_ENTRIES_AT + SPARE_ENTRY_BYTES * index) 24

unfoldable pub arrays_at : List ℕ → ℕ → List (List ℕ)
arrays_at bytes count = map (array_at bytes) (range_with_len 0 count)

-- the place of an entry's GUID
abbrev pub entry_place : ℕ → Span
entry_place index = record { at = SPARE_ENTRIES_AT + SPARE_ENTRY_BYTES * index; length = 24 }

abbrev pub spare_with : List ℕ → List ℕ → SpareRecord
spare_with bytes rest = record {
  timestamp = number_at w32 bytes SPARE_TIMESTAMP_AT;
  kind = slice_index bytes SPARE_KIND_AT;
  arrays = arrays_at bytes (spare_count bytes);
  rest = rest;
}

-- the bytes of a record that no field of a spare record names, and zeros in all other places
unfoldable pub spare_rest : List ℕ → List ℕ
spare_rest bytes = cleared (seal_place ∷ places (spare_fields (spare_with bytes []))) bytes

-- the spare record that stands in a record
abbrev pub spare_at : List ℕ → SpareRecord
spare_at bytes = spare_with bytes (spare_rest bytes)
