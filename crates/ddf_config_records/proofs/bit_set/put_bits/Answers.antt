use Rattle.std.proofs.Common.{◌<◌, ◌∙◌, sym, ap, length, get_or, List, ℕ, arith}
use Rattle.ddf_config_records.specs.Bits.{with_bit}
use Rattle.ddf_config_records.proofs.Bits.{bits_of_none, bits_of_more, put_bit_is}
use Rattle.ddf_config_records.proofs.bit_set.put_bits.Goals as goal

pub loop-position-init : goal.loop-position-init
loop-position-init c = c.fill.ensures.after (λ y h. h) ∙ sym (bits_of_none (length c.args.bits.now))

pub loop-position-preserved : goal.loop-position-preserved
loop-position-preserved c =
    let bits = c.loop-position.bits in
    let out = c.args.out.now in
    let i = c.loop-position.position-index in
    let position = get_or out i 0 in
    let n = length c.args.bits.now in
    let lt : i < length out = omega arith in
    put_bit_is bits c.from-byte.result position c.from-byte.ensures ∙ ap (λ (l : List ℕ). with_bit l position) c.loop-position.invariant ∙ bits_of_more n out i lt
