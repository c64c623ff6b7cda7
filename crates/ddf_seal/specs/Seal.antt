-- The seal of a record: a signature, then the CRC of the record with its own four bytes taken as FF (SNIA DDF 2.0).
use Rattle.std.specs.Prelude.{◌≡◌, ℕ, List, Result, Ok, Err, replicate, ◌==◌, if◌then◌else◌}
use Rattle.std.specs.Int.{w32, to_be_bytes}
use Rattle.ddf_bytes.specs.Bytes.{bytes_at, number_at, with_bytes_at}
use Rattle.ddf_seal.specs.Crc.{crc_of}
use Rattle.ddf_seal.specs.declared.unread.Span.{Span}
use Rattle.ddf_seal.specs.declared.sealing.SealFault.{SealFault}
use Rattle.ddf_seal.specs.declared.sealing.SealFault.TheVariants.{Signature, Crc}
use Rattle.ddf_seal.specs.declared.sealing.TheConstants.{SIGNATURE_AT, CRC_AT}

-- the CRC that a record is to have
abbrev pub record_crc : List ℕ → ℕ
record_crc bytes = crc_of (with_bytes_at bytes CRC_AT (replicate 4 255))

-- Bytes 0 to 3 are the signature, and bytes 4 to 7 the CRC.
pub record IsSealed (signature : ℕ) (bytes : List ℕ) : Type 0 where
  pub signature_stands : bytes_at bytes SIGNATURE_AT 4 ≡ to_be_bytes w32 signature
  pub crc_stands : bytes_at bytes CRC_AT 4 ≡ to_be_bytes w32 (record_crc bytes)

-- the bytes with a signature and a CRC in the place of their first eight
abbrev pub sealed : ℕ → List ℕ → List ℕ
sealed signature bytes =
    let signed = with_bytes_at bytes SIGNATURE_AT (to_be_bytes w32 signature) in
    with_bytes_at signed CRC_AT (to_be_bytes w32 (record_crc signed))

-- the place of a seal
abbrev pub seal_place : Span
seal_place = record { at = SIGNATURE_AT; length = 8 }

-- what is wrong with a seal: the signature first
abbrev pub seal_check : ℕ → List ℕ → Result Unit SealFault
seal_check signature bytes =
    if number_at w32 bytes SIGNATURE_AT == signature then
    (if number_at w32 bytes CRC_AT == record_crc bytes then Ok tt else Err (Crc (number_at w32 bytes CRC_AT) (record_crc bytes)))
    else Err (Signature (number_at w32 bytes SIGNATURE_AT))
