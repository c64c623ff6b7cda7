-- A header that is written is the value of its sector, and the sector that it was read from.
use Rattle.std.proofs.Common.{◌≡◌, ℕ, List, ◌∷◌, length, refl, sym, ap, ◌∙◌, subst}
use Rattle.ddf_seal.specs.Seal.{seal_place}
use Rattle.ddf_seal.specs.Unread.{AreBytes, places}
use Rattle.ddf_seal.specs.Records.{record_bytes}
use Rattle.ddf_seal.proofs.Same.{AreWithin, cleared_outside, within_from_test}
use Rattle.ddf_seal.proofs.Records.{AreAllApart, apart_from_test, record_again, record_from_bytes, record_written, length-record_bytes}
use Rattle.ddf_header.specs.declared.kind.HeaderKind.{HeaderKind}
use Rattle.ddf_header.specs.declared.reading.Header.{Header}
use Rattle.ddf_header.specs.Header.{header_signature, header_fields, IsHeaderOf, IsWritable}

within : (header : Header) (size : ℕ) → size ≡ 512 → AreWithin size (seal_place ∷ places (header_fields header))
within header size is = subst (λ n. AreWithin n (seal_place ∷ places (header_fields header))) (sym is) (within_from_test 512 (seal_place ∷ places (header_fields header)) refl)

apart : (header : Header) → AreAllApart (seal_place ∷ places (header_fields header))
apart header = apart_from_test (seal_place ∷ places (header_fields header)) refl

pub encoded_again : (kind : HeaderKind) (header : Header) (sector : List ℕ) → IsHeaderOf kind header sector → record_bytes header_signature (header_fields header) header.rest ≡ sector
encoded_again kind header sector is = record_again header_signature (header_fields header) header.rest sector (within header (length sector) is.size) is.is_record

pub encoded_is : (kind : HeaderKind) (header : Header) → length header.rest ≡ 512 → IsWritable kind header → AreBytes (record_bytes header_signature (header_fields header) header.rest)
    → IsHeaderOf kind header (record_bytes header_signature (header_fields header) header.rest)
encoded_is kind header size can are =
    let inside = within header (length header.rest) size in
    record {
      size = length-record_bytes header_signature (header_fields header) header.rest inside can.is_record.fields_fit ∙ size;
      is_record = record_written header_signature (header_fields header) header.rest inside (apart header) can.is_record are;
      is_header = can.is_header;
    }

-- the rest of a header that was read is a sector
rest_from_value : (kind : HeaderKind) (header : Header) (sector : List ℕ) → IsHeaderOf kind header sector → length header.rest ≡ 512
rest_from_value kind header sector is =
    ap length is.is_record.others_stay ∙ (cleared_outside (seal_place ∷ places (header_fields header)) sector (within header (length sector) is.size)).size ∙ is.size

-- the value of a sector can be written
pub writable_from_value : (kind : HeaderKind) (header : Header) (sector : List ℕ) → IsHeaderOf kind header sector → IsWritable kind header
writable_from_value kind header sector is = record {
  is_header = is.is_header;
  is_record = record_from_bytes header_signature (header_fields header) header.rest sector (within header (length sector) is.size) is.is_record;
  rest_size = rest_from_value kind header sector is;
}
