use Rattle.std.proofs.Common.{◌≡◌, ◌+◌, ◌*◌, ◌%◌, ◌/◌, ◌<◌, ◌^◌, get_or, sym, ◌∙◌, ap, arith}
use Rattle.ddf_seal.specs.Crc.{bit_steps}
use Rattle.ddf_seal.proofs.CrcTables.{four_bytes}
use Rattle.ddf_seal.proofs.crc.after_zeros.Goals as goal

pub returns : goal.returns
returns c =
    let x = c.args.register in
    let more = c.args.more in
    let bytes = c.to_le_bytes.ensures in
    let lt : x < 2 ^ 32 = omega arith in
    let first : c.entry.result ≡ bit_steps (8 * (more + 3 + 1)) (x % 256) = c.entry.ensures ∙ ap (λ l. bit_steps (8 * (more + 3 + 1)) (get_or l 0 0)) bytes in
    let second : c.entry-2.result ≡ bit_steps (8 * (more + 2 + 1)) (x / 256 % 256) = c.entry-2.ensures ∙ ap (λ l. bit_steps (8 * (more + 2 + 1)) (get_or l 1 0)) bytes in
    let third : c.entry-3.result ≡ bit_steps (8 * (more + 1 + 1)) (x / 65536 % 256) = c.entry-3.ensures ∙ ap (λ l. bit_steps (8 * (more + 1 + 1)) (get_or l 2 0)) bytes in
    let fourth : c.entry-4.result ≡ bit_steps (8 * (more + 1)) (x / 16777216 % 256) = c.entry-4.ensures ∙ ap (λ l. bit_steps (8 * (more + 1)) (get_or l 3 0)) bytes in
    rw (first, second, third, fourth) (sym (four_bytes more x lt))
