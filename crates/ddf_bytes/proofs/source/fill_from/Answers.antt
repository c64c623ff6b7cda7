use Rattle.std.proofs.Common.{◌≡◌, ◌≤◌, ◌-◌, ◌∙◌, length, take, drop, ◌++◌, arith, length-append}
use Rattle.std.proofs.lemmas.Grind.{common_steps}
use Rattle.ddf_bytes.proofs.Streams.{gives_more, length_front}
use Rattle.ddf_bytes.proofs.source.fill_from.Goals as goal

pub loop-done-preserved : goal.loop-done-preserved
loop-done-preserved g c =
    let within : c.loop-done.done ≤ length c.loop-done.into = c.loop-done.invariant.within in
    let part : length c.read.new.into ≡ length c.loop-done.into - c.loop-done.done = grind (arith, common_steps, c.read.auto.into) in
    let some : c.in-Ok.count ≤ length c.read.new.into = omega (arith, c.in-Ok.ensures.within, c.read.auto.into) in
    record {
      within = omega (arith, c.in-Ok.ensures.within, c.read.auto.into, length-append (take c.loop-done.done c.loop-done.into) (c.read.new.into ++ drop (length c.loop-done.into - c.loop-done.done) (drop c.loop-done.done c.loop-done.into)), length-append c.read.new.into (drop (length c.loop-done.into - c.loop-done.done) (drop c.loop-done.done c.loop-done.into)), length_front c.loop-done.into c.loop-done.done within);
      bytes = λ tells. gives_more _ _ _ c.loop-done.into c.read.new.into c.loop-done.done c.in-Ok.count within part some (c.loop-done.invariant.bytes tells) (c.in-Ok.ensures.bytes tells);
      faults = c.in-Ok.ensures.ok ∙ c.loop-done.invariant.faults;
    }
