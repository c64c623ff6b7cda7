use Rattle.std.proofs.Common.{arith}
use Rattle.std.proofs.lemmas.Result.{err_from_is_err_and}
use Rattle.ddf_read.proofs.OnlyReading.{failed_before, only_reads_start, only_reads_then}
use Rattle.ddf_resync.proofs.Unread.{row_wider}
use Rattle.ddf_resync.proofs.looking.look_element.Goals as goal

pub depth_of-depth-requires : goal.depth_of-depth-requires
depth_of-depth-requires g c = c.requires.known.are_parts c.args.element c.args.part.now c.requires.is_part

pub piece_at-count-requires-clause-part : goal.piece_at-count-requires-clause-part
piece_at-count-requires-clause-part g c = c.requires.known.are_parts c.args.element c.args.part.now c.requires.is_part

pub loop-sector-init : goal.loop-sector-init
loop-sector-init g c = record { inside = omega arith; reads = only_reads_start (g.B.Bay.disks c.args.bay.now) }

pub look_piece-requires-clause-fits : goal.look_piece-requires-clause-fits
look_piece-requires-clause-fits g c = rw c.loop-sector.invariant.reads.reads.same_sizes c.requires.fits

pub returns-in_err-look_piece-clause-left : goal.returns-in_err-look_piece-clause-left
returns-in_err-look_piece-clause-left g c =
    let p = err_from_is_err_and c.from_residual.result c.from_residual.ensures.1 in
    rw (p.1, p.2) (row_wider (failed_before c.loop-sector.invariant.reads c.in_err-look_piece.ensures.reads) c.args.view.now _ c.in_err-look_piece.ensures.left)

pub returns-in_err-look_piece-clause-reads : goal.returns-in_err-look_piece-clause-reads
returns-in_err-look_piece-clause-reads g c = only_reads_then c.loop-sector.invariant.reads c.in_err-look_piece.ensures.reads

pub loop-sector-preserved : goal.loop-sector-preserved
loop-sector-preserved g c = record {
  inside = omega (arith, c.piece_at-count.ensures.within, c.loop-sector.invariant.inside);
  reads = only_reads_then c.loop-sector.invariant.reads c.in_ok-look_piece.ensures.reads;
}
