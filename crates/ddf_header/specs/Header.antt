-- A header against the bytes of its sector (SNIA DDF 2.0, the DDF header).
use Rattle.std.specs.Prelude.{◌≡◌, ℕ, ◌-◌, ◌^◌, Bool, true, not, ◌&&◌, ◌==◌, nat_le, List, [], ◌∷◌, ◌++◌, length, Option, None, Result, IsTrue, is_none, option_map, unwrap_or, slice_index}
use Rattle.std.specs.Result.{result_err}
use Rattle.std.specs.Int.{w32, w64}
use Rattle.ddf_bytes.specs.Bytes.{bytes_at, number_at}
use Rattle.ddf_bytes.specs.Choices.{first_of, when, ok_unless}
use Rattle.ddf_seal.specs.Seal.{seal_check, seal_place}
use Rattle.ddf_seal.specs.Records.{IsRecord, IsRecordOf}
use Rattle.ddf_seal.specs.Unread.{Field, u8_at, u32_at, u64_at, plain_at, cleared, places}
use Rattle.ddf_header.specs.declared.kind.HeaderKind.{HeaderKind}
use Rattle.ddf_header.specs.declared.kind.HeaderKind.TheVariants.{Anchor}
use Rattle.ddf_header.specs.declared.kind.Revision.TheVariants.{R100}
use Rattle.ddf_header.specs.declared.reading.Header.{Header}
use Rattle.ddf_header.specs.declared.fault.HeaderFault.{HeaderFault}
use Rattle.ddf_header.specs.declared.fault.HeaderFault.TheVariants as faults
use Rattle.ddf_header.specs.declared.layout.TheConstants.{GUID_AT, REVISION_AT, SEQUENCE_AT, TIMESTAMP_AT, OPEN_FLAG_AT, PRIMARY_LBA_AT, SECONDARY_LBA_AT, KIND_AT}
use Rattle.ddf_header.specs.Layout.{kind_code, revision_text, revision_of}
use Rattle.ddf_header.specs.Geometry.{geometry_at, geometry_fields, geometry_fault}

abbrev pub header_signature : ℕ
header_signature = 0xDE11_DE11

-- ---- the table of fields

abbrev pub name_fields : Header → List Field
name_fields header =
    plain_at GUID_AT 24 header.guid
    ∷ plain_at REVISION_AT 8 (revision_text header.revision)
    ∷ u32_at SEQUENCE_AT header.sequence
    ∷ u32_at TIMESTAMP_AT header.timestamp
    ∷ u8_at OPEN_FLAG_AT header.openness
    ∷ u64_at PRIMARY_LBA_AT header.primary_lba
    ∷ u64_at SECONDARY_LBA_AT header.secondary_lba
    ∷ u8_at KIND_AT (kind_code header.kind)
    ∷ []

-- all fields of a header, in order
abbrev pub header_fields : Header → List Field
header_fields header = name_fields header ++ geometry_fields header.geometry

-- zeros in the places of the seal and of all fields of a header
abbrev pub unread : Header → List ℕ → List ℕ
unread header bytes = cleared (seal_place ∷ places (header_fields header)) bytes

-- ---- the conditions

-- The open flag of the anchor has no meaning. That of another header is at most 0F.
unfoldable pub is_open_flag : HeaderKind → ℕ → Bool
is_open_flag Anchor flag = true
is_open_flag kind flag = nat_le flag 15

-- two headers lie apart, and each somewhere
unfoldable pub are_header_places : ℕ → ℕ → Bool
are_header_places primary secondary = not (primary == secondary) && not (primary == 2 ^ 64 - 1) && not (secondary == 2 ^ 64 - 1)

-- A header of a kind has the values that it may have.
pub record IsHeader (kind : HeaderKind) (header : Header) : Type 0 where
  pub of_kind : header.kind ≡ kind
  pub has_flag : IsTrue (is_open_flag kind header.openness)
  pub has_places : IsTrue (are_header_places header.primary_lba header.secondary_lba)
  pub has_geometry : geometry_fault header.geometry ≡ None

-- A header can be written: its numbers fit, and its rest is a sector with zeros in the places of the fields.
pub record IsWritable (kind : HeaderKind) (header : Header) : Type 0 where
  pub is_header : IsHeader kind header
  pub is_record : IsRecord (header_fields header) header.rest
  pub rest_size : length header.rest ≡ 512

-- A header is the value of 512 bytes: it is sealed, each field has the value that stands at its offset, the rest is all
-- other bytes, and the values are ones that it may have.
pub record IsHeaderOf (kind : HeaderKind) (header : Header) (sector : List ℕ) : Type 0 where
  pub size : length sector ≡ 512
  pub is_record : IsRecordOf header_signature (header_fields header) header.rest sector
  pub is_header : IsHeader kind header

-- ---- reading

-- what may be wrong with a sector, in order
abbrev pub faults_of : HeaderKind → List ℕ → List (Option HeaderFault)
faults_of kind sector =
    option_map faults.Seal (result_err (seal_check header_signature sector))
    ∷ when (is_none (revision_of (bytes_at sector REVISION_AT 8))) faults.Revision
    ∷ when (not (is_open_flag kind (slice_index sector OPEN_FLAG_AT))) (faults.OpenFlag (slice_index sector OPEN_FLAG_AT))
    ∷ when (not (are_header_places (number_at w64 sector PRIMARY_LBA_AT) (number_at w64 sector SECONDARY_LBA_AT))) faults.Place
    ∷ when (not (slice_index sector KIND_AT == kind_code kind)) (faults.Kind (slice_index sector KIND_AT))
    ∷ option_map faults.Geometry (geometry_fault (geometry_at sector))
    ∷ []

unfoldable pub first_fault : HeaderKind → List ℕ → Option HeaderFault
first_fault kind sector = first_of (faults_of kind sector)

-- the value of each field, and the whole sector as its rest
abbrev pub named : HeaderKind → List ℕ → Header
named kind sector = record {
  kind = kind;
  guid = bytes_at sector GUID_AT 24;
  revision = unwrap_or (revision_of (bytes_at sector REVISION_AT 8)) R100;
  sequence = number_at w32 sector SEQUENCE_AT;
  timestamp = number_at w32 sector TIMESTAMP_AT;
  openness = slice_index sector OPEN_FLAG_AT;
  primary_lba = number_at w64 sector PRIMARY_LBA_AT;
  secondary_lba = number_at w64 sector SECONDARY_LBA_AT;
  geometry = geometry_at sector;
  rest = sector;
}

-- the header that stands in a sector
abbrev pub header_at : HeaderKind → List ℕ → Header
header_at kind sector = record (named kind sector) { rest = unread (named kind sector) sector }

-- the first fault, or else the header
abbrev pub decoded : HeaderKind → List ℕ → Result Header HeaderFault
decoded kind sector = ok_unless (first_fault kind sector) (header_at kind sector)
