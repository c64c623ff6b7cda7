use Rattle.std.proofs.Common.{◌≡◌, ◌+◌, ◌-◌, ◌/◌, ◌∙◌, sym, ap, length, take, drop, ℕ, arith}
use Rattle.std.proofs.lemmas.List.{length-take-le, length-drop}
use Rattle.ddf_config_records.specs.Bits.{bits_of}
use Rattle.ddf_config_records.proofs.Bits.{length-bits_of}
use Rattle.ddf_config_records.proofs.Parts.{put_mid_placed}
use Rattle.ddf_config_records.proofs.notes_writing.put_out.Goals as goal

pub returns : goal.returns
returns c =
    let into = c.args.into.now in
    let at = c.args.at in
    let n = c.args.most / 8 in
    let k = at + c.from.result / 8 - at in
    let wide : c.from.result ≡ c.args.most = c.from.ensures in
    let size : k ≡ n = ap (λ (m : ℕ). at + m / 8 - at) wide ∙ omega arith in
    let behind = length-drop at into in
    let part : length (take k (drop at into)) ≡ n = length-take-le k (drop at into) (omega (arith, behind)) ∙ size in
    let bits : c.put_bits.new.bits ≡ bits_of n c.args.out.now = c.put_bits.ensures ∙ ap (λ (m : ℕ). bits_of m c.args.out.now) part in
    put_mid_placed at k into c.put_bits.new.bits (bits_of n c.args.out.now) bits (size ∙ sym (length-bits_of n c.args.out.now))
