-- The value of a vendor's record: what is read from bytes is it, and it is the only one.
use Rattle.std.proofs.Common.{◌≡◌, ℕ, ◌≤◌, List, ◌∷◌, length, refl, sym, ◌∙◌, ap, arith}
use Rattle.ddf_bytes.specs.Bytes.{bytes_at}
use Rattle.ddf_seal.specs.Seal.{IsSealed, seal_place}
use Rattle.ddf_seal.specs.Unread.{AreBytes, places}
use Rattle.ddf_seal.specs.Records.{record_bytes}
use Rattle.ddf_seal.proofs.Same.{AreWithin, cleared_outside}
use Rattle.ddf_seal.proofs.Records.{apart_from_test, record_again, record_from_bytes, record_written, length-record_bytes}
use Rattle.ddf_header.specs.declared.geometry.Geometry.{Geometry}
use Rattle.ddf_config_records.specs.declared.layout.TheConstants.{VENDOR_GUID_AT}
use Rattle.ddf_config_records.specs.Elements.{record_size}
use Rattle.ddf_config_records.specs.Vendors.{vendor_signature, vendor_fields, vendor_rest, CanBeVendor, IsVendorOf}

within : (guid : List ℕ) (size : ℕ) → 512 ≤ size → AreWithin size (seal_place ∷ places (vendor_fields guid))
within guid size le = (omega arith, (omega arith, tt))

pub vendor_at_is : (geometry : Geometry) (bytes : List ℕ) → length bytes ≡ record_size geometry → AreBytes bytes → IsSealed vendor_signature bytes → IsVendorOf geometry (bytes_at bytes VENDOR_GUID_AT 24) (vendor_rest bytes) bytes
unfolding vendor_rest
vendor_at_is geometry bytes size are sealed = record {
  size = size;
  is_record = record { are_bytes = are; is_sealed = sealed; fields_stand = (refl, tt); others_stay = refl };
}

pub vendor_is : (geometry : Geometry) (guid rest bytes : List ℕ) → IsVendorOf geometry guid rest bytes → (bytes_at bytes VENDOR_GUID_AT 24 ≡ guid) × (vendor_rest bytes ≡ rest)
unfolding vendor_rest
vendor_is geometry guid rest bytes is = (is.is_record.fields_stand.0, sym is.is_record.others_stay)

pub vendor_again : (geometry : Geometry) (guid rest bytes : List ℕ) → 512 ≤ record_size geometry → IsVendorOf geometry guid rest bytes → record_bytes vendor_signature (vendor_fields guid) rest ≡ bytes
vendor_again geometry guid rest bytes long is = record_again vendor_signature (vendor_fields guid) rest bytes (within guid (length bytes) (omega (arith, is.size))) is.is_record

pub can_be_vendor : (geometry : Geometry) (guid rest bytes : List ℕ) → 512 ≤ record_size geometry → IsVendorOf geometry guid rest bytes → CanBeVendor geometry guid rest
can_be_vendor geometry guid rest bytes long is =
    let inside = within guid (length bytes) (omega (arith, is.size)) in
    record {
      size = ap length is.is_record.others_stay ∙ (cleared_outside (seal_place ∷ places (vendor_fields guid)) bytes inside).size ∙ is.size;
      is_record = record_from_bytes vendor_signature (vendor_fields guid) rest bytes inside is.is_record;
    }

pub vendor_length : (geometry : Geometry) (guid rest : List ℕ) → 512 ≤ record_size geometry → CanBeVendor geometry guid rest → length (record_bytes vendor_signature (vendor_fields guid) rest) ≡ record_size geometry
vendor_length geometry guid rest long can = length-record_bytes vendor_signature (vendor_fields guid) rest (within guid (length rest) (omega (arith, can.size))) can.is_record.fields_fit ∙ can.size

pub vendor_written : (geometry : Geometry) (guid rest : List ℕ) → 512 ≤ record_size geometry → CanBeVendor geometry guid rest → AreBytes (record_bytes vendor_signature (vendor_fields guid) rest)
    → IsVendorOf geometry guid rest (record_bytes vendor_signature (vendor_fields guid) rest)
vendor_written geometry guid rest long can are =
    let inside = within guid (length rest) (omega (arith, can.size)) in
    record {
      size = length-record_bytes vendor_signature (vendor_fields guid) rest inside can.is_record.fields_fit ∙ can.size;
      is_record = record_written vendor_signature (vendor_fields guid) rest inside (apart_from_test (seal_place ∷ places (vendor_fields guid)) refl) can.is_record are;
    }
