use Rattle.std.proofs.Common.{◌<◌, ◌+◌, length, ◌∙◌, arith}
use Rattle.std.proofs.Math.ListN.{length-set}
use Rattle.ddf_linux.proofs.ZeroSteps.{images_twice, image_more}
use Rattle.ddf_linux.proofs.zeros.twice.Goals as goal

pub loop-bit-preserved : goal.loop-bit-preserved
loop-bit-preserved c =
    let so_far = c.loop-bit.invariant in
    let bit = c.loop-bit.bit in
    record {
      long = length-set c.loop-bit.doubled bit c.image_of.result ∙ so_far.long;
      done = λ count are.
          let here : bit < length c.loop-bit.doubled = omega (arith, so_far.long, c.loop-bit-test.true) in
          image_more (count + count) c.loop-bit.doubled bit c.image_of.result here (so_far.done count are)
          (c.image_of.ensures count are ∙ images_twice count c.args.images.now bit are c.loop-bit-test.true);
    }
