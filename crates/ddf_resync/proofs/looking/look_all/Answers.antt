use Rattle.std.proofs.Common.{inl, inr, length, refl, ap, arith}
use Rattle.std.proofs.lemmas.Option.{slice_get_read}
use Rattle.std.proofs.lemmas.Result.{err_from_is_err_and}
use Rattle.ddf_read.proofs.OnlyReading.{failed_before, only_reads_then}
use Rattle.ddf_resync.proofs.Unread.{row_wider}
use Rattle.ddf_resync.proofs.looking.look_all.Goals as goal

pub returns-in_err-look_blocks-clause-left : goal.returns-in_err-look_blocks-clause-left
returns-in_err-look_blocks-clause-left g c =
    let p = err_from_is_err_and c.from_residual.result c.from_residual.ensures.1 in
    rw (p.1, p.2) (inl c.in_err-look_blocks.ensures.left)

pub loop-element-init : goal.loop-element-init
loop-element-init g c = record { reads = c.in_ok-look_blocks.ensures.reads }

pub look_element-requires-clause-fits : goal.look_element-requires-clause-fits
look_element-requires-clause-fits g c = rw c.loop-element.invariant.reads.reads.same_sizes c.requires.fits

pub look_element-requires-clause-is_part : goal.look_element-requires-clause-is_part
look_element-requires-clause-is_part g c =
    let n = ap length c.parts-element-end.ensures.parts in
    rw c.parts.ensures.parts at (slice_get_read c.parts.result.now _ c.loop-element.element c.index-parts-element.result refl (omega (arith, ap length c.parts.ensures.parts, n, c.loop-element-test.true)) c.index-parts-element.is)

pub returns-in_err-look_element-clause-left : goal.returns-in_err-look_element-clause-left
returns-in_err-look_element-clause-left g c =
    let p = err_from_is_err_and c.from_residual-in_err-look_element.result c.from_residual-in_err-look_element.ensures.1 in
    rw (p.1, p.2) (inr (row_wider (failed_before c.loop-element.invariant.reads c.in_err-look_element.ensures.reads) c.args.view.now _ c.in_err-look_element.ensures.left))

pub returns-in_err-look_element-clause-reads : goal.returns-in_err-look_element-clause-reads
returns-in_err-look_element-clause-reads g c = only_reads_then c.loop-element.invariant.reads c.in_err-look_element.ensures.reads

pub loop-element-preserved : goal.loop-element-preserved
loop-element-preserved g c = record { reads = only_reads_then c.loop-element.invariant.reads c.in_ok-look_element.ensures.reads }
