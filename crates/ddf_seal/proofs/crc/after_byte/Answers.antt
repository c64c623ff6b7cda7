use Rattle.std.proofs.Common.{◌≡◌, ◌%◌, ◌/◌, ◌<◌, bit_xor, get_or, sym, ◌∙◌, ap, arith}
use Rattle.ddf_seal.specs.Crc.{bit_steps}
use Rattle.ddf_seal.proofs.CrcTables.{byte_by_table}
use Rattle.ddf_seal.proofs.crc.after_byte.Goals as goal

pub returns : goal.returns
returns c =
    let register = c.args.register in
    let byte = c.args.byte in
    let lt : byte < 256 = omega arith in
    let low : get_or c.to_le_bytes.result 0 0 ≡ register % 256 = ap (λ l. get_or l 0 0) c.to_le_bytes.ensures in
    let through : c.entry.result ≡ bit_steps 8 (bit_xor (register % 256) byte) = c.entry.ensures ∙ ap (λ x. bit_steps 8 (bit_xor x byte)) low in
    ap (λ x. bit_xor x (register / 256)) through ∙ sym (byte_by_table register byte lt)
