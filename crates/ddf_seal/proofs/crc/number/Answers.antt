use Rattle.std.proofs.Common.{bit_xor, sym, ◌∙◌, ap}
use Rattle.ddf_seal.specs.Crc.{bit_steps}
use Rattle.ddf_seal.proofs.CrcTables.{word_step}
use Rattle.ddf_seal.proofs.crc.number.Goals as goal

pub returns : goal.returns
returns c = λ register.
    word_step register c.args.word.now c.told-word c.fits-word ∙ ap (λ n. bit_steps 32 (bit_xor register n)) (sym c.from_le_bytes.ensures)
