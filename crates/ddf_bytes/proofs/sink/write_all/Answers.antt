use Rattle.std.proofs.Common.{◌∙◌, arith}
use Rattle.ddf_bytes.proofs.Streams.{taken_more}
use Rattle.ddf_bytes.proofs.sink.write_all.Goals as goal

pub loop-done-preserved : goal.loop-done-preserved
loop-done-preserved g c = record {
  within = omega (arith, c.in-Ok.ensures.within);
  taken = λ tells. taken_more _ _ _ c.args.piece.now c.loop-done.done c.in-Ok.count (c.loop-done.invariant.taken tells) (c.in-Ok.ensures.bytes tells);
  faults = c.in-Ok.ensures.ok ∙ c.loop-done.invariant.faults;
  takes = c.in-Ok.ensures.some (omega arith) ∙ c.loop-done.invariant.takes;
}
