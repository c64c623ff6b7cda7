use Rattle.std.proofs.Common.{◌≡◌, ◌*◌, ℕ, sym, ◌∙◌, ap, arith, bit_xor}
use Rattle.ddf_seal.specs.Crc.{bit_steps, all_ones}
use Rattle.ddf_linux.proofs.ZeroSteps.{zeros_are}
use Rattle.ddf_linux.proofs.zeros.SectorZeros.constant.Goals as goal

pub returns : goal.returns
returns c =
    let sectors = c.args.sectors in
    let bits : 4096 * c.from.result ≡ 8 * (512 * sectors) = rw c.from.ensures (omega arith) in
    ap (λ (n : ℕ). bit_xor n all_ones)
    (c.after_zeros.ensures 4096 c.args.self.now.are ∙ ap (λ (n : ℕ). bit_steps n all_ones) bits ∙ sym (zeros_are (512 * sectors) all_ones))
