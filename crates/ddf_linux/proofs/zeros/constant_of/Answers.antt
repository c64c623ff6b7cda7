use Rattle.std.proofs.Common.{◌∙◌, ℕ, sym, ap, bit_xor}
use Rattle.ddf_linux.specs.Crcs.{constant_of}
use Rattle.ddf_linux.specs.CrcLaws.{crcs_differ}
use Rattle.ddf_linux.proofs.ZeroSteps.{zeros_are}
use Rattle.ddf_linux.proofs.zeros.constant_of.Goals as goal

pub returns-clause-exact : goal.returns-clause-exact
returns-clause-exact c = ap (λ (n : ℕ). bit_xor n 0xFFFF_FFFF) (c.after_zeros.ensures 8 c.byte_images.ensures ∙ sym (zeros_are c.args.count 0xFFFF_FFFF))

pub returns-clause-differ : goal.returns-clause-differ
returns-clause-differ c = λ bytes long. crcs_differ bytes ∙ ap constant_of long ∙ sym (returns-clause-exact c)
