-- A vendor's record against its bytes (SNIA DDF 2.0, the vendor unique configuration record).
use Rattle.std.specs.Prelude.{◌≡◌, ℕ, List, [], ◌∷◌, length}
use Rattle.ddf_bytes.specs.Bytes.{bytes_at}
use Rattle.ddf_seal.specs.Seal.{seal_place}
use Rattle.ddf_seal.specs.Records.{IsRecord, IsRecordOf}
use Rattle.ddf_seal.specs.Unread.{Field, plain_at, cleared, places}
use Rattle.ddf_header.specs.declared.geometry.Geometry.{Geometry}
use Rattle.ddf_config_records.specs.declared.layout.TheConstants.{VENDOR_GUID_AT}
use Rattle.ddf_config_records.specs.Elements.{record_size}

abbrev pub vendor_signature : ℕ
vendor_signature = 0x8888_8888

abbrev pub vendor_fields : List ℕ → List Field
vendor_fields guid = plain_at VENDOR_GUID_AT 24 guid ∷ []

-- a vendor's record can be written
pub record CanBeVendor (geometry : Geometry) (guid rest : List ℕ) : Type 0 where
  pub size : length rest ≡ record_size geometry
  pub is_record : IsRecord (vendor_fields guid) rest

-- A GUID and a rest are the value of a vendor's record.
pub record IsVendorOf (geometry : Geometry) (guid rest bytes : List ℕ) : Type 0 where
  pub size : length bytes ≡ record_size geometry
  pub is_record : IsRecordOf vendor_signature (vendor_fields guid) rest bytes

-- the bytes of a vendor's record that aren't its GUID or its seal, and zeros in the places of these
unfoldable pub vendor_rest : List ℕ → List ℕ
vendor_rest bytes = cleared (seal_place ∷ places (vendor_fields (bytes_at bytes VENDOR_GUID_AT 24))) bytes
