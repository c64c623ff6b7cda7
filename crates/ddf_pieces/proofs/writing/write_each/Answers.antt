use Rattle.std.proofs.Common.{◌≡◌, ◌∙◌, ◌+◌, ◌-◌, ◌*◌, length, take, arith, refl, ap, sym, subst}
use Rattle.std.proofs.lemmas.List.{length-take-le}
use Rattle.std.proofs.lemmas.Result.{err_from_is_err_and}
use Rattle.ddf_write.specs.Keeping.{AllAreKept}
use Rattle.ddf_write.specs.Looking.{ArePiecesKept, piece_of}
use Rattle.ddf_write.proofs.Marking.{next_kept}
use Rattle.ddf_pieces.proofs.PieceCounts.{size_some}
use Rattle.ddf_pieces.proofs.PieceWrites.{next_is, write_failed, written_all, written_more, written_start}
use Rattle.ddf_pieces.proofs.writing.write_each.Goals as goal

pub loop-at-init : goal.loop-at-init
loop-at-init g c = record {
  so_far =
      written_start g.B.Bay.tells c.args.view.now c.args.start c.args.count c.args.beside.now.each c.args.beside.now.ahead c.args.beside.now.kept c.args.touched.now g.S.Source.tells (g.S.Source.input c.args.source.now)
      (take (512 * piece_of c.args.beside.now.each c.args.beside.now.ahead 0 c.args.count) c.args.work.now) (g.B.Bay.disks c.args.bay.now) c.requires.beside.some (λ none. (c.requires.beside.plain none).1);
  pieces = c.requires.beside.all_kept;
  reads = refl;
  room = λ none. refl;
}

pub write_piece-requires-clause-fits : goal.write_piece-requires-clause-fits
write_piece-requires-clause-fits g c = rw c.loop-at.invariant.so_far.goes.same_sizes c.requires.fits

pub write_piece-requires-clause-all_kept : goal.write_piece-requires-clause-all_kept
write_piece-requires-clause-all_kept g c =
    let v = c.args.view.now in
    let each = c.args.beside.now.each in
    let ahead = c.args.beside.now.ahead in
    let long : length c.has_piece.new.piece ≡ 512 * c.piece_of-size.result =
    c.has_piece.auto.piece ∙ length-take-le (512 * c.piece_of-size.result) c.loop-at.work (omega (arith, c.piece_of-size.ensures.few, c.piece_of-size.ensures.within, c.requires.room, c.loop-at.auto.work)) in
    let many : length c.sectors_in.result.now ≡ c.piece_of-size.result = omega (arith, c.sectors_in.ensures.count, long) in
    subst (λ n. AllAreKept v (c.args.start + c.loop-at.at) n c.args.beside.now.kept) (sym (many ∙ c.piece_of-size.ensures.value))
    (next_kept v c.args.start c.args.count each ahead c.args.beside.now.kept c.loop-at.at c.loop-at-test.true c.loop-at.invariant.pieces).0

pub returns-in_err-write_piece-clause-done : goal.returns-in_err-write_piece-clause-done
returns-in_err-write_piece-clause-done g c =
    let p = err_from_is_err_and c.from_residual-in_err-write_piece.result c.from_residual-in_err-write_piece.ensures.1 in
    let each = c.args.beside.now.each in
    let ahead = c.args.beside.now.ahead in
    let first = take (512 * piece_of each ahead 0 c.args.count) c.args.work.now in
    let is : c.piece_of-size.result ≡ piece_of each ahead c.loop-at.at (c.args.count - c.loop-at.at) = c.piece_of-size.ensures.value in
    let long : length c.has_piece.new.piece ≡ 512 * c.piece_of-size.result =
    c.has_piece.auto.piece ∙ length-take-le (512 * c.piece_of-size.result) c.loop-at.work (omega (arith, c.piece_of-size.ensures.few, c.piece_of-size.ensures.within, c.requires.room, c.loop-at.auto.work)) in
    let many : length c.sectors_in.result.now ≡ c.piece_of-size.result = omega (arith, c.sectors_in.ensures.count, long) in
    let next = next_is g.S.Source.tells (g.S.Source.input c.loop-at.source) (g.S.Source.input c.has_piece.new.source) first c.has_piece.new.piece c.sectors_in.result.now c.loop-at.at c.sectors_in.ensures.bytes
    (λ none.
    let there = c.has_piece.ensures.first none in
    let all : c.args.count - 0 ≡ c.args.count = omega arith in
    let size : 512 * c.piece_of-size.result ≡ 512 * piece_of each ahead 0 c.args.count =
    ap (λ n. 512 * n) (is ∙ ap (λ n. piece_of each ahead n (c.args.count - n)) none ∙ ap (λ n. piece_of each ahead 0 n) all) in
    (there.1 ∙ ap (take (512 * c.piece_of-size.result)) (c.loop-at.invariant.room none) ∙ ap (λ n. take n c.args.work.now) size, there.2))
    c.in_ok-has_piece.field-0 c.if-not-branch.false c.in_ok-has_piece.ensures.later in
    rw (p.1, p.2)
    (write_failed g.B.Bay.tells c.args.view.now c.args.start c.args.count each ahead c.args.beside.now.kept c.args.touched.now g.S.Source.tells (g.S.Source.input c.args.source.now) first (g.B.Bay.disks c.args.bay.now) (g.B.Bay.disks c.loop-at.bay)
    (g.S.Source.input c.loop-at.source) c.loop-at.touched c.loop-at.at
    c.loop-at.invariant.so_far c.requires.accepted c.loop-at-test.true c.requires.beside.some c.piece_of-size.result is (g.S.Source.input c.has_piece.new.source) c.sectors_in.result.now many c.sectors_in.ensures.whole
    next (g.B.Bay.disks c.write_piece.new.bay) c.write_piece.new.touched c.write_piece.ensures.leave c.write_piece.ensures.goes c.write_piece.ensures.calls _ c.in_err-write_piece.ensures.stopped)

pub returns-in_err-write_piece-clause-reads : goal.returns-in_err-write_piece-clause-reads
returns-in_err-write_piece-clause-reads g c = c.write_piece.ensures.reads ∙ c.loop-at.invariant.reads

pub loop-at-preserved : goal.loop-at-preserved
loop-at-preserved g c =
    let v = c.args.view.now in
    let each = c.args.beside.now.each in
    let ahead = c.args.beside.now.ahead in
    let kept = c.args.beside.now.kept in
    let first = take (512 * piece_of each ahead 0 c.args.count) c.args.work.now in
    let is : c.piece_of-size.result ≡ piece_of each ahead c.loop-at.at (c.args.count - c.loop-at.at) = c.piece_of-size.ensures.value in
    let long : length c.has_piece.new.piece ≡ 512 * c.piece_of-size.result =
    c.has_piece.auto.piece ∙ length-take-le (512 * c.piece_of-size.result) c.loop-at.work (omega (arith, c.piece_of-size.ensures.few, c.piece_of-size.ensures.within, c.requires.room, c.loop-at.auto.work)) in
    let many : length c.sectors_in.result.now ≡ c.piece_of-size.result = omega (arith, c.sectors_in.ensures.count, long) in
    let next = next_is g.S.Source.tells (g.S.Source.input c.loop-at.source) (g.S.Source.input c.has_piece.new.source) first c.has_piece.new.piece c.sectors_in.result.now c.loop-at.at c.sectors_in.ensures.bytes
    (λ none.
    let there = c.has_piece.ensures.first none in
    let all : c.args.count - 0 ≡ c.args.count = omega arith in
    let size : 512 * c.piece_of-size.result ≡ 512 * piece_of each ahead 0 c.args.count =
    ap (λ n. 512 * n) (is ∙ ap (λ n. piece_of each ahead n (c.args.count - n)) none ∙ ap (λ n. piece_of each ahead 0 n) all) in
    (there.1 ∙ ap (take (512 * c.piece_of-size.result)) (c.loop-at.invariant.room none) ∙ ap (λ n. take n c.args.work.now) size, there.2))
    c.in_ok-has_piece.field-0 c.if-not-branch.false c.in_ok-has_piece.ensures.later in
    record {
      so_far =
          written_more g.B.Bay.tells v c.args.start c.args.count each ahead kept c.args.touched.now g.S.Source.tells (g.S.Source.input c.args.source.now) first (g.B.Bay.disks c.args.bay.now) (g.B.Bay.disks c.loop-at.bay) (g.S.Source.input c.loop-at.source)
          c.loop-at.touched c.loop-at.at c.loop-at.invariant.so_far c.requires.accepted c.loop-at-test.true c.requires.beside.some c.piece_of-size.result is (g.S.Source.input c.has_piece.new.source) c.sectors_in.result.now many
          c.sectors_in.ensures.whole next (g.B.Bay.disks c.write_piece.new.bay) c.write_piece.new.touched c.write_piece.ensures.leave c.write_piece.ensures.goes c.write_piece.ensures.calls c.requires.known c.requires.apart c.requires.beside.keeps_none
          c.in_ok-write_piece.ensures.written;
      pieces =
          subst (λ n. ArePiecesKept v c.args.start c.args.count each ahead kept (c.loop-at.at + n)) (sym is)
          (next_kept v c.args.start c.args.count each ahead kept c.loop-at.at c.loop-at-test.true c.loop-at.invariant.pieces).1;
      reads = c.write_piece.ensures.reads ∙ c.loop-at.invariant.reads;
      room = λ none. absurd (omega (arith, none, size_some each ahead c.args.count c.loop-at.at c.piece_of-size.result c.requires.beside.some c.loop-at-test.true is));
    }

pub returns-clause-done : goal.returns-clause-done
returns-clause-done g c =
    let each = c.args.beside.now.each in
    let ahead = c.args.beside.now.ahead in
    written_all g.B.Bay.tells c.args.view.now c.args.start c.args.count each ahead c.args.beside.now.kept c.args.touched.now g.S.Source.tells (g.S.Source.input c.args.source.now) (take (512 * piece_of each ahead 0 c.args.count) c.args.work.now)
    (g.B.Bay.disks c.args.bay.now) (g.B.Bay.disks c.loop-at.bay)
    (g.S.Source.input c.loop-at.source) c.loop-at.touched c.loop-at.at c.loop-at.invariant.so_far c.requires.accepted c.loop-at-test.false
    (λ none. let nothing : 512 * piece_of each ahead 0 c.args.count ≡ 0 = omega (arith, none) in ap (λ n. take n c.args.work.now) nothing)
