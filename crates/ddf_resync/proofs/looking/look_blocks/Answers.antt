use Rattle.std.proofs.Common.{arith}
use Rattle.std.proofs.lemmas.Result.{err_from_is_err_and}
use Rattle.ddf_read.proofs.OnlyReading.{failed_before, only_reads_start, only_reads_then}
use Rattle.ddf_resync.proofs.Unread.{block_wider}
use Rattle.ddf_resync.proofs.looking.look_blocks.Goals as goal

pub loop-block-init : goal.loop-block-init
loop-block-init g c = record { inside = omega arith; reads = only_reads_start (g.B.Bay.disks c.args.bay.now) }

pub look_first-requires-clause-fits : goal.look_first-requires-clause-fits
look_first-requires-clause-fits g c = rw c.loop-block.invariant.reads.reads.same_sizes c.requires.fits

pub returns-in_err-block-clause-left : goal.returns-in_err-block-clause-left
returns-in_err-block-clause-left g c =
    let p = err_from_is_err_and c.from_residual.result c.from_residual.ensures.1 in
    rw (p.1, p.2) (block_wider (failed_before c.loop-block.invariant.reads c.in_err-block.ensures.reads) c.args.view.now _ c.in_err-block.ensures.left)

pub returns-in_err-block-clause-reads : goal.returns-in_err-block-clause-reads
returns-in_err-block-clause-reads g c = only_reads_then c.loop-block.invariant.reads c.in_err-block.ensures.reads

pub loop-block-preserved : goal.loop-block-preserved
loop-block-preserved g c = record { inside = omega (arith, c.in_ok-block.ensures.within); reads = only_reads_then c.loop-block.invariant.reads c.in_ok-block.ensures.reads }
