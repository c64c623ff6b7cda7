use Rattle.std.proofs.Common.{◌≡◌, ◌/◌, ◌*◌, ◌^◌, ◌<◌, ℕ, sym, ◌∙◌, ap, arith, bit_xor}
use Rattle.ddf_seal.specs.Crc.{bit_steps}
use Rattle.ddf_linux.proofs.ZeroSteps.{bits_after, sum_more, sum_same, none_left}
use Rattle.ddf_linux.proofs.zeros.image_of.Goals.{then-rest-eq1, else-rest-eq1}
use Rattle.ddf_linux.proofs.zeros.image_of.Goals as goal

pub loop-image-preserved : goal.loop-image-preserved
loop-image-preserved c =
    let bit = c.loop-image.image-index in
    let rest = c.loop-image.rest in
    record {
      left = ap (λ (n : ℕ). n / 2) c.loop-image.invariant.left ∙ bits_after c.args.register bit;
      sum = λ count are. elim c.if-rest-eq1.branch [
        | then-rest-eq1 w ↦ rw w.sum-is (sum_more count c.args.images.now c.loop-image.sum rest bit are c.loop-image-test.true w.if-rest-eq1.true ∙ c.loop-image.invariant.sum count are)
        | else-rest-eq1 w ↦ rw w.sum-is (sum_same count c.loop-image.sum rest bit w.if-rest-eq1.false ∙ c.loop-image.invariant.sum count are)
      ];
    }

pub returns : goal.returns
returns c = λ count are.
    let over : c.loop-image.image-index ≡ 32 = omega arith in
    let small : c.args.register < 2 ^ 32 = c.ranges.register.fits in
    let left : c.loop-image.rest ≡ c.args.register / 2 ^ 32 = rw over at c.loop-image.invariant.left in
    sym (none_left count c.loop-image.sum c.args.register small)
    ∙ ap (λ (n : ℕ). bit_xor c.loop-image.sum (bit_steps count (n * 2 ^ 32))) (sym left)
    ∙ (rw over at (c.loop-image.invariant.sum count are))
