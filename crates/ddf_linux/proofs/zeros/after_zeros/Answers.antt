use Rattle.std.proofs.Common.{◌≡◌, ◌*◌, ◌+◌, ◌/◌, ◌∙◌, ap, arith}
use Rattle.ddf_seal.specs.Crc.{bit_steps}
use Rattle.ddf_linux.proofs.ZeroSteps.{times_half, times_odd, times_none}
use Rattle.ddf_linux.proofs.zeros.after_zeros.Goals.{then-rest-eq1, else-rest-eq1}
use Rattle.ddf_linux.proofs.zeros.after_zeros.Goals as goal

pub loop-rest-preserved : goal.loop-rest-preserved
loop-rest-preserved c = λ given first.
    let so_far = c.loop-rest.invariant given first in
    let steps = so_far.0 in
    let are = so_far.1 in
    let rest = c.loop-rest.rest in
    let register = c.loop-rest.register in
    let same = elim c.if-rest-eq1.branch as (λ w. bit_steps ((steps + steps) * (rest / 2)) c.if-rest-eq1.register ≡ bit_steps (steps * rest) register) [
      | then-rest-eq1 w ↦ ap (bit_steps ((steps + steps) * (rest / 2))) (w.register-is ∙ w.image_of-register.ensures steps are) ∙ times_odd steps rest register w.if-rest-eq1.true
      | else-rest-eq1 w ↦ ap (bit_steps ((steps + steps) * (rest / 2))) w.register-is ∙ times_half steps rest register w.if-rest-eq1.false
    ] in
    (steps + steps, c.twice-images.ensures steps are, same ∙ so_far.2)

pub returns-else-rest-eq1-2 : goal.returns-else-rest-eq1-2
returns-else-rest-eq1-2 c = λ given first.
    let so_far = c.loop-rest.invariant given first in
    let none : c.loop-rest.rest ≡ 0 = omega arith in
    times_none so_far.0 c.loop-rest.rest c.loop-rest.register none ∙ so_far.2
