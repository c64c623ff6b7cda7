use Rattle.std.proofs.Common.{◌≡◌, ◌≤◌, length, refl, arith}
use Rattle.std.specs.Int.{w32}
use Rattle.ddf_bytes.specs.Bytes.{number_at}
use Rattle.ddf_seal.specs.declared.sealing.TheConstants.{SIGNATURE_AT, CRC_AT}
use Rattle.ddf_seal.specs.Seal.{record_crc}
use Rattle.ddf_seal.specs.Unread.{AreBytes, u32_at}
use Rattle.ddf_seal.proofs.Spelled.{spelled_from_stands}
use Rattle.ddf_seal.proofs.sealing.check.Goals as goal

pub returns-clause-sealed : goal.returns-clause-sealed
returns-clause-sealed c =
    let bytes = c.args.bytes.now in
    let fits : AreBytes bytes = λ i. omega (arith, c.type_inv.bytes i) in
    let long : 8 ≤ length bytes = c.requires in
    let signature : number_at w32 bytes SIGNATURE_AT ≡ c.args.signature = cc in
    let crc : number_at w32 bytes CRC_AT ≡ record_crc bytes = cc in (
      λ _. record {
        signature_stands = spelled_from_stands bytes (u32_at SIGNATURE_AT c.args.signature) fits (omega arith) signature;
        crc_stands = spelled_from_stands bytes (u32_at CRC_AT (record_crc bytes)) fits (omega arith) crc;
      },
      λ _. refl,
    )
