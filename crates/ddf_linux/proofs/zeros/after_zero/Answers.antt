use Rattle.std.proofs.Common.{◌<◌, ◌≤◌, ◌-◌, ◌+◌, refl, sym, ◌∙◌, ap, arith}
use Rattle.ddf_seal.specs.Crc.{bit_steps}
use Rattle.ddf_seal.proofs.CrcSteps.{bit_steps_all, bit_steps_more}
use Rattle.ddf_linux.proofs.zeros.after_zero.Goals as goal

pub loop-init : goal.loop-init
loop-init c = refl

pub loop-preserved : goal.loop-preserved
loop-preserved c =
    let lt : c.loop.counter < 8 = omega arith in
    ap (bit_steps (8 - (c.loop.counter + 1))) c.after_bit-register.ensures ∙ sym (bit_steps_more 8 c.loop.counter c.loop.register lt) ∙ c.loop.invariant

pub returns : goal.returns
returns c =
    let le : 8 ≤ c.loop.counter = omega arith in
    sym (bit_steps_all 8 c.loop.counter c.loop.register le) ∙ c.loop.invariant
