use Rattle.std.proofs.Common.{◌≡◌, ◌∙◌, ◌-◌, length, take, arith}
use Rattle.std.proofs.lemmas.List.{length-take-le}
use Rattle.std.proofs.lemmas.Result.{err_from_is_err_and}
use Rattle.ddf_read.proofs.Narrower.{part_of}
use Rattle.ddf_pieces.specs.Pieces.{piece_of}
use Rattle.ddf_pieces.proofs.ReadSteps.{cut_calls, gone_fault, gone_more, gone_start}
use Rattle.ddf_pieces.proofs.reading.read_each.Goals as goal

pub loop-done-init : goal.loop-done-init
loop-done-init g c = rw c.requires.none (gone_start g.B.Bay.tells c.args.view.now c.args.start c.args.count (length c.args.work.now) g.K.Sink.tells (g.B.Bay.disks c.args.bay.now) (g.K.Sink.output c.args.sink.now) c.requires.room)

pub read_piece-requires-clause-fits : goal.read_piece-requires-clause-fits
read_piece-requires-clause-fits g c = rw c.loop-done.invariant.reads.reads.same_sizes c.requires.fits

pub read_piece-requires-clause-accepted : goal.read_piece-requires-clause-accepted
read_piece-requires-clause-accepted g c =
    let long : length (take c.piece_of-size.result c.loop-done.work) ≡ c.piece_of-size.result = length-take-le c.piece_of-size.result c.loop-done.work (omega (arith, c.piece_of-size.ensures)) in
    rw long (part_of c.args.view.now c.args.start c.args.count c.loop-done.done c.piece_of-size.result (omega (arith, c.piece_of-size.ensures, c.loop-done-test.true)) c.requires.accepted)

pub returns-in_err-read_piece-clause-done : goal.returns-in_err-read_piece-clause-done
returns-in_err-read_piece-clause-done g c =
    let p = err_from_is_err_and c.from_residual.result c.from_residual.ensures.1 in
    let long : length c.read_piece.new.piece ≡ c.piece_of-size.result = c.read_piece.auto.piece ∙ length-take-le c.piece_of-size.result c.loop-done.work (omega (arith, c.piece_of-size.ensures)) in
    let is : c.piece_of-size.result ≡ piece_of (length c.args.work.now) (c.args.count - c.loop-done.done) = omega (arith, c.piece_of-size.ensures, c.loop-done.auto.work) in
    rw (p.1, p.2)
    (gone_fault g.B.Bay.tells c.args.view.now c.args.start c.args.count (length c.args.work.now) g.K.Sink.tells (g.B.Bay.disks c.args.bay.now) (g.B.Bay.disks c.loop-done.bay) (g.K.Sink.output c.args.sink.now) (g.K.Sink.output c.loop-done.sink) c.loop-done.done
    c.loop-done.invariant (g.B.Bay.disks c.read_piece.new.bay) c.read_piece.ensures.reads c.loop-done-test.true c.piece_of-size.result is c.requires.accepted (g.K.Sink.output c.read_piece.new.sink) c.read_piece.new.piece long _
    c.in_err-read_piece.ensures.done)

pub returns-in_err-read_piece-clause-calls : goal.returns-in_err-read_piece-clause-calls
returns-in_err-read_piece-clause-calls g c =
    let long : length (take c.piece_of-size.result c.loop-done.work) ≡ c.piece_of-size.result = length-take-le c.piece_of-size.result c.loop-done.work (omega (arith, c.piece_of-size.ensures)) in
    let is : c.piece_of-size.result ≡ piece_of (length c.args.work.now) (c.args.count - c.loop-done.done) = omega (arith, c.piece_of-size.ensures, c.loop-done.auto.work) in
    cut_calls g.B.Bay.tells c.args.view.now c.args.start c.args.count (length c.args.work.now) g.K.Sink.tells (g.B.Bay.disks c.args.bay.now) (g.B.Bay.disks c.loop-done.bay) (g.K.Sink.output c.args.sink.now) (g.K.Sink.output c.loop-done.sink) c.loop-done.done
    c.loop-done.invariant (g.B.Bay.disks c.read_piece.new.bay) c.read_piece.ensures.reads c.loop-done-test.true c.piece_of-size.result is (rw long at c.read_piece.ensures.calls)

pub loop-done-preserved : goal.loop-done-preserved
loop-done-preserved g c =
    let fits : length (take c.piece_of-size.result c.loop-done.work) ≡ c.piece_of-size.result = length-take-le c.piece_of-size.result c.loop-done.work (omega (arith, c.piece_of-size.ensures)) in
    let is : c.piece_of-size.result ≡ piece_of (length c.args.work.now) (c.args.count - c.loop-done.done) = omega (arith, c.piece_of-size.ensures, c.loop-done.auto.work) in
    let done = c.in_ok-read_piece.ensures.done in
    gone_more g.B.Bay.tells c.args.view.now c.args.start c.args.count (length c.args.work.now) g.K.Sink.tells (g.B.Bay.disks c.args.bay.now) (g.B.Bay.disks c.loop-done.bay) (g.K.Sink.output c.args.sink.now) (g.K.Sink.output c.loop-done.sink) c.loop-done.done
    c.loop-done.invariant (g.B.Bay.disks c.read_piece.new.bay) c.read_piece.ensures.reads c.loop-done-test.true c.piece_of-size.result is (g.K.Sink.output c.read_piece.new.sink) c.read_piece.new.piece (c.read_piece.auto.piece ∙ fits)
    done.0 done.1 done.2 (rw fits at c.read_piece.ensures.calls)
