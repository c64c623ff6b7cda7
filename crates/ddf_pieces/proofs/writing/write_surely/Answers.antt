use Rattle.std.proofs.Common.{◌∙◌, ◌*◌, false, replicate, sym, take}
use Rattle.ddf_write.specs.Looking.{piece_of}
use Rattle.ddf_pieces.proofs.Syncing.{ended_surely, goes_surely, stopped_before, sync_failed}
use Rattle.ddf_pieces.proofs.writing.write_surely.Goals as goal

-- the disks ended it
pub returns-then-is_stopped-clause-done : goal.returns-then-is_stopped-clause-done
returns-then-is_stopped-clause-done g c =
    let each = c.args.beside.now.each in
    let ahead = c.args.beside.now.ahead in
    let first = take (512 * piece_of each ahead 0 c.args.count) c.args.work.now in
    stopped_before g.B.Bay.tells (g.B.Bay.disks c.args.bay.now) (g.B.Bay.disks c.write_each-ended.new.bay) c.args.view.now c.args.start c.args.count each ahead c.args.beside.now.kept (replicate 64 false) c.write_each-ended.new.touched
    g.S.Source.tells (g.S.Source.input c.args.source.now) (g.S.Source.input c.write_each-ended.new.source) first c.write_each-ended.result (sym c.is_stopped.ensures ∙ c.if-is_stopped.true) c.write_each-ended.ensures.done

-- all is synced
pub returns-in-Ok-clause-done : goal.returns-in-Ok-clause-done
returns-in-Ok-clause-done g c =
    let each = c.args.beside.now.each in
    let ahead = c.args.beside.now.ahead in
    let first = take (512 * piece_of each ahead 0 c.args.count) c.args.work.now in
    ended_surely g.B.Bay.tells (g.B.Bay.disks c.args.bay.now) (g.B.Bay.disks c.write_each-ended.new.bay) (g.B.Bay.disks c.sync_touched.new.bay) c.args.view.now c.requires.known c.requires.fits c.write_each-ended.new.touched c.write_each-ended.ensures.goes
    c.sync_touched.ensures.held c.sync_touched.ensures.left c.sync_touched.ensures.any_moment c.sync_touched.ensures.spends
    c.args.start c.args.count each ahead c.args.beside.now.kept g.S.Source.tells (g.S.Source.input c.args.source.now) (g.S.Source.input c.write_each-ended.new.source) first c.in-Ok.ensures.settled c.in-Ok.ensures.unfailed
    c.write_each-ended.result (sym c.is_stopped.ensures ∙ c.if-is_stopped.false) c.write_each-ended.ensures.done

pub returns-in-Ok-clause-goes : goal.returns-in-Ok-clause-goes
returns-in-Ok-clause-goes g c =
    goes_surely g.B.Bay.tells (g.B.Bay.disks c.args.bay.now) (g.B.Bay.disks c.write_each-ended.new.bay) (g.B.Bay.disks c.sync_touched.new.bay) c.args.view.now c.requires.known c.requires.fits c.write_each-ended.new.touched c.write_each-ended.ensures.goes
    c.sync_touched.ensures.held c.sync_touched.ensures.left c.sync_touched.ensures.any_moment c.sync_touched.ensures.spends

-- a sync failed
pub returns-in-Err-clause-done : goal.returns-in-Err-clause-done
returns-in-Err-clause-done g c =
    let each = c.args.beside.now.each in
    let ahead = c.args.beside.now.ahead in
    let first = take (512 * piece_of each ahead 0 c.args.count) c.args.work.now in
    sync_failed g.B.Bay.tells (g.B.Bay.disks c.args.bay.now) (g.B.Bay.disks c.write_each-ended.new.bay) (g.B.Bay.disks c.sync_touched.new.bay) c.args.view.now c.requires.known c.requires.fits c.write_each-ended.new.touched c.write_each-ended.ensures.goes
    c.sync_touched.ensures.held c.sync_touched.ensures.left c.sync_touched.ensures.any_moment c.sync_touched.ensures.spends
    c.args.start c.args.count each ahead c.args.beside.now.kept g.S.Source.tells (g.S.Source.input c.args.source.now) (g.S.Source.input c.write_each-ended.new.source) first c.in-Err.slot c.in-Err.ensures.touched c.in-Err.ensures.failed
    c.write_each-ended.result (sym c.is_stopped.ensures ∙ c.if-is_stopped.false) c.write_each-ended.ensures.done

pub returns-in-Err-clause-goes : goal.returns-in-Err-clause-goes
returns-in-Err-clause-goes g c =
    goes_surely g.B.Bay.tells (g.B.Bay.disks c.args.bay.now) (g.B.Bay.disks c.write_each-ended.new.bay) (g.B.Bay.disks c.sync_touched.new.bay) c.args.view.now c.requires.known c.requires.fits c.write_each-ended.new.touched c.write_each-ended.ensures.goes
    c.sync_touched.ensures.held c.sync_touched.ensures.left c.sync_touched.ensures.any_moment c.sync_touched.ensures.spends

pub returns-in-Ok-clause-reads : goal.returns-in-Ok-clause-reads
returns-in-Ok-clause-reads g c = c.sync_touched.ensures.reads ∙ c.write_each-ended.ensures.reads

pub returns-in-Err-clause-reads : goal.returns-in-Err-clause-reads
returns-in-Err-clause-reads g c = c.sync_touched.ensures.reads ∙ c.write_each-ended.ensures.reads
