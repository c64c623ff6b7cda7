use Rattle.std.proofs.Common.{length, ap, arith}
use Rattle.std.proofs.lemmas.Result.{err_from_is_err_and}
use Rattle.ddf_read.specs.Reading.{Failed}
use Rattle.ddf_read.proofs.OnlyReading.{failed_before, only_reads_then}
use Rattle.ddf_write.specs.Beside.{NoneLeftBeside}
use Rattle.ddf_write.specs.Gathering.{IsSplitRow, RowIsKnown}
use Rattle.ddf_write.proofs.Gathered.{all_known, beside_wider, gathers_start, gathers_then, missed_by, row_grows}
use Rattle.ddf_write.proofs.RowLoops.{rows_all, rows_more}
use Rattle.ddf_write.proofs.look.keep_piece.Goals as goal

pub loop-element-init : goal.loop-element-init
loop-element-init g c = record {
  known = λ element sector part one below is. absurd (omega (arith, below));
  gathers = gathers_start g.B.Bay.tells (g.B.Bay.disks c.args.bay.now) c.args.view.now c.args.piece.start c.args.piece.count c.args.kept.now;
}

pub keep_rows_in-requires-clause-fits : goal.keep_rows_in-requires-clause-fits
keep_rows_in-requires-clause-fits g c = rw c.loop-element.invariant.gathers.reads.reads.same_sizes c.requires.fits

pub loop-element-preserved : goal.loop-element-preserved
loop-element-preserved g c =
    let v = c.args.view.now in
    let next = c.in_ok-keep_rows_in.ensures in
    record {
      known =
          rows_more v c.args.piece.first c.args.piece.blocks c.loop-element.element (RowIsKnown v c.args.piece.first c.args.piece.blocks c.loop-element.kept) (RowIsKnown v c.args.piece.first c.args.piece.blocks c.keep_rows_in.new.kept)
          (λ element sector part one is was. row_grows v c.args.piece.first c.args.piece.blocks c.loop-element.kept c.keep_rows_in.new.kept next.gathers.grows element sector part one was) next.known c.loop-element.invariant.known;
      gathers = gathers_then g.B.Bay.tells v c.args.piece.start c.args.piece.count c.args.kept.now c.loop-element.kept c.keep_rows_in.new.kept c.loop-element.invariant.gathers next.gathers;
    }

pub returns-in_err-keep_rows_in-clause-left : goal.returns-in_err-keep_rows_in-clause-left
returns-in_err-keep_rows_in-clause-left g c =
    let p = err_from_is_err_and c.from_residual.result c.from_residual.ensures.1 in
    let v = c.args.view.now in
    let old = g.B.Bay.disks c.args.bay.now in
    let now = g.B.Bay.disks c.loop-element.bay in
    let new = g.B.Bay.disks c.keep_rows_in.new.bay in
    rw (p.1, p.2)
    (missed_by (NoneLeftBeside (Failed now new) v c.args.piece.start c.args.piece.count) (NoneLeftBeside (Failed old new) v c.args.piece.start c.args.piece.count) (IsSplitRow v c.args.piece) (IsSplitRow v c.args.piece)
    (λ slot left. beside_wider (failed_before c.loop-element.invariant.gathers.reads c.in_err-keep_rows_in.ensures.reads) v c.args.piece.start c.args.piece.count slot left) (λ split. split) _ c.in_err-keep_rows_in.ensures.left)

pub returns-in_err-keep_rows_in-clause-reads : goal.returns-in_err-keep_rows_in-clause-reads
returns-in_err-keep_rows_in-clause-reads g c = only_reads_then c.loop-element.invariant.gathers.reads c.in_err-keep_rows_in.ensures.reads

pub returns-clause-all : goal.returns-clause-all
returns-clause-all g c =
    let v = c.args.view.now in
    let n = ap length c.parts-element-end.ensures.parts in
    all_known v c.requires.known c.requires.whole c.args.piece.first c.args.piece.blocks c.loop-element.kept
    (rows_all v c.args.piece.first c.args.piece.blocks c.loop-element.element (RowIsKnown v c.args.piece.first c.args.piece.blocks c.loop-element.kept) (omega (arith, n, c.loop-element-test.false)) c.loop-element.invariant.known)
