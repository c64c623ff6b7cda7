use Rattle.std.proofs.Common.{◌≡◌, ◌+◌, ◌-◌, [], sym, subst, arith}
use Rattle.std.proofs.lemmas.Result.{err_from_is_err_and}
use Rattle.ddf_read.specs.Reading.{Failed}
use Rattle.ddf_read.proofs.OnlyReading.{failed_before, only_reads_then}
use Rattle.ddf_write.specs.Beside.{NoneLeftBeside}
use Rattle.ddf_write.specs.Gathering.{Gathers, IsSplitRow}
use Rattle.ddf_write.specs.Keeping.{AllAreKept, Keeping}
use Rattle.ddf_write.specs.Looking.{ArePiecesKept, IsSplit, no_more, one_more, piece_of}
use Rattle.ddf_write.proofs.Gathered.{all_grows, beside_wider, gathers_start, gathers_then, grows_start, grows_then, missed_by}
use Rattle.ddf_write.proofs.Splitting.{next_starts, splits_pieces}
use Rattle.ddf_write.proofs.beside.keep_pieces.Goals as goal

pub loop-at-init : goal.loop-at-init
loop-at-init g c = record {
  inside = omega arith;
  starts = λ some more. absurd (omega (arith, some));
  pieces = λ kept grows pieces. pieces;
  gathers =
      subst (λ (kept : Keeping). Gathers g.B.Bay.tells (g.B.Bay.disks c.args.bay.now) (g.B.Bay.disks c.args.bay.now) c.args.view.now c.args.start c.args.count [] kept) (sym c.new-kept.ensures)
      (gathers_start g.B.Bay.tells (g.B.Bay.disks c.args.bay.now) c.args.view.now c.args.start c.args.count []);
}

pub keep_piece-requires-clause-fits : goal.keep_piece-requires-clause-fits
keep_piece-requires-clause-fits g c = rw c.loop-at.invariant.gathers.reads.reads.same_sizes c.requires.fits

pub loop-at-preserved : goal.loop-at-preserved
loop-at-preserved g c =
    let v = c.args.view.now in
    let at = c.loop-at.at in
    let size : c.piece_of-blocks.result ≡ piece_of c.args.each c.args.ahead at (c.args.count - at) = c.piece_of-blocks.ensures.value in
    let next = c.in_ok-keep_piece.ensures in
    record {
      inside = omega (arith, c.piece_of-blocks.ensures.within, c.loop-at-test.true);
      starts = λ some more. next_starts c.args.each c.args.ahead at c.piece_of-blocks.result c.args.count c.requires.some size more;
      pieces = λ kept grows pieces.
          let all : AllAreKept v (c.args.start + at) (piece_of c.args.each c.args.ahead at (c.args.count - at)) kept =
          subst (λ n. AllAreKept v (c.args.start + at) n kept) size (all_grows v (c.args.start + at) c.piece_of-blocks.result c.keep_piece.new.kept kept grows next.all) in
          let rest : ArePiecesKept v c.args.start c.args.count c.args.each c.args.ahead kept (at + piece_of c.args.each c.args.ahead at (c.args.count - at)) =
          subst (λ n. ArePiecesKept v c.args.start c.args.count c.args.each c.args.ahead kept (at + n)) size pieces in
          c.loop-at.invariant.pieces kept (grows_then c.loop-at.kept c.keep_piece.new.kept kept next.gathers.grows grows) (one_more at (omega (arith, c.loop-at-test.true)) all rest);
      gathers = gathers_then g.B.Bay.tells v c.args.start c.args.count [] c.loop-at.kept c.keep_piece.new.kept c.loop-at.invariant.gathers next.gathers;
    }

pub returns-in_err-keep_piece-clause-left : goal.returns-in_err-keep_piece-clause-left
returns-in_err-keep_piece-clause-left g c =
    let p = err_from_is_err_and c.from_residual.result c.from_residual.ensures.1 in
    let v = c.args.view.now in
    let old = g.B.Bay.disks c.args.bay.now in
    let now = g.B.Bay.disks c.loop-at.bay in
    let new = g.B.Bay.disks c.keep_piece.new.bay in
    rw (p.1, p.2)
    (missed_by (NoneLeftBeside (Failed now new) v c.args.start c.args.count) (NoneLeftBeside (Failed old new) v c.args.start c.args.count)
    (IsSplitRow v (record { start = c.args.start; count = c.args.count; first = c.args.start + c.loop-at.at; blocks = c.piece_of-blocks.result })) (IsSplit v c.args.start c.args.count c.args.each c.args.ahead)
    (λ slot left. beside_wider (failed_before c.loop-at.invariant.gathers.reads c.in_err-keep_piece.ensures.reads) v c.args.start c.args.count slot left) (λ split. splits_pieces c.args.each c.args.ahead c.loop-at.at c.piece_of-blocks.result c.args.count c.requires.some c.piece_of-blocks.ensures.value c.loop-at-test.true
    (λ some. c.loop-at.invariant.starts some c.loop-at-test.true) v c.args.start split) _ c.in_err-keep_piece.ensures.left)

pub returns-in_err-keep_piece-clause-reads : goal.returns-in_err-keep_piece-clause-reads
returns-in_err-keep_piece-clause-reads g c = only_reads_then c.loop-at.invariant.gathers.reads c.in_err-keep_piece.ensures.reads

pub returns-clause-all : goal.returns-clause-all
returns-clause-all g c = c.loop-at.invariant.pieces c.loop-at.kept (grows_start c.loop-at.kept) (no_more c.loop-at.at (omega (arith, c.loop-at-test.false)))
