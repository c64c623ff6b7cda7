use Rattle.std.proofs.Common.{ap, arith, length}
use Rattle.ddf_array.specs.Sources.{at_element}
use Rattle.ddf_read.specs.Kinds.{sources_in}
use Rattle.ddf_read.proofs.OnlyReading.{only_reads_then}
use Rattle.ddf_read.proofs.Steps.{read_at, not_read_more}
use Rattle.ddf_read.proofs.block.read_at_each.Goals as goal

pub read_at-requires-clause-fits : goal.read_at-requires-clause-fits
read_at-requires-clause-fits g c = rw c.loop-element.invariant.reads.reads.same_sizes c.requires.fits

pub returns-in-Ok-clause-tried : goal.returns-in-Ok-clause-tried
returns-in-Ok-clause-tried g c = λ tells.
    let n = ap length c.parts-element-end.ensures.parts in
    read_at c.loop-element.invariant.reads c.in-Ok.ensures.reads (at_element c.args.view.now.parts (sources_in c.args.kind) c.args.block) _ c.loop-element.element c.loop-element.failed c.read_at.new.into
    (omega (arith, n, c.loop-element-test.true)) c.loop-element.invariant.not_read (c.in-Ok.ensures.tried tells)

pub loop-element-preserved : goal.loop-element-preserved
loop-element-preserved g c = record {
  reads = only_reads_then c.loop-element.invariant.reads c.in-Err.ensures.reads;
  not_read =
      rw c.or-failed.ensures
      (not_read_more c.loop-element.invariant.reads c.in-Err.ensures.reads (at_element c.args.view.now.parts (sources_in c.args.kind) c.args.block) c.loop-element.element c.loop-element.failed c.in-Err.next
      c.loop-element.invariant.not_read c.in-Err.ensures.tried);
}
