use Rattle.std.proofs.Common.{◌+◌, ◌-◌, arith}
use Rattle.std.proofs.lemmas.Result.{err_from_is_err_and}
use Rattle.ddf_read.specs.Reading.{Failed}
use Rattle.ddf_read.proofs.OnlyReading.{failed_before, only_reads_then}
use Rattle.ddf_write.specs.Gathering.{IsOfAnother, NoneLeftOfOthers}
use Rattle.ddf_write.proofs.Gathered.{along_more, gathers_start, gathers_then, left_further, missed_by}
use Rattle.ddf_write.proofs.Splitting.{another_further}
use Rattle.ddf_write.proofs.looking.keep_cells.Goals as goal

pub loop-at-init : goal.loop-at-init
loop-at-init g c = record {
  inside = omega arith;
  known = λ k below. absurd (omega (arith, below));
  gathers = gathers_start g.B.Bay.tells (g.B.Bay.disks c.args.bay.now) c.args.view.now c.args.piece.start c.args.piece.count c.args.kept.now;
}

pub keep_first-requires-clause-fits : goal.keep_first-requires-clause-fits
keep_first-requires-clause-fits g c = rw c.loop-at.invariant.gathers.reads.reads.same_sizes c.requires.fits

pub keep_first-requires-clause-sectors : goal.keep_first-requires-clause-sectors
keep_first-requires-clause-sectors g c = λ part part_at. omega (arith, c.requires.sectors part part_at, c.loop-at-test.true)

pub loop-at-preserved : goal.loop-at-preserved
loop-at-preserved g c =
    let v = c.args.view.now in
    let next = c.in_ok-at.ensures in
    record {
      inside = omega (arith, next.within, c.loop-at-test.true);
      known = along_more v c.args.piece.first c.args.piece.blocks c.loop-at.kept c.keep_first.new.kept c.args.element c.args.position c.args.sector c.loop-at.at c.in_ok-at.field-0 next.gathers.grows c.loop-at.invariant.known next.known;
      gathers = gathers_then g.B.Bay.tells v c.args.piece.start c.args.piece.count c.args.kept.now c.loop-at.kept c.keep_first.new.kept c.loop-at.invariant.gathers next.gathers;
    }

pub returns-in_err-at-clause-left : goal.returns-in_err-at-clause-left
returns-in_err-at-clause-left g c =
    let p = err_from_is_err_and c.from_residual.result c.from_residual.ensures.1 in
    let v = c.args.view.now in
    let old = g.B.Bay.disks c.args.bay.now in
    let now = g.B.Bay.disks c.loop-at.bay in
    let new = g.B.Bay.disks c.keep_first.new.bay in
    rw (p.1, p.2)
    (λ part part_at.
    missed_by (NoneLeftOfOthers (Failed now new) v c.args.piece.start c.args.piece.count c.args.element part c.args.position (c.args.sector + c.loop-at.at) (c.args.count - c.loop-at.at))
    (NoneLeftOfOthers (Failed old new) v c.args.piece.start c.args.piece.count c.args.element part c.args.position c.args.sector c.args.count) (IsOfAnother v c.args.piece c.args.element c.args.position (c.args.sector + c.loop-at.at) (c.args.count - c.loop-at.at))
    (IsOfAnother v c.args.piece c.args.element c.args.position c.args.sector c.args.count)
    (λ slot left. left_further (failed_before c.loop-at.invariant.gathers.reads c.in_err-at.ensures.reads) v c.args.piece.start c.args.piece.count c.args.element part c.args.position c.args.sector c.loop-at.at
    (c.args.count - c.loop-at.at) c.args.count slot (omega (arith, c.loop-at-test.true)) left) (λ split. another_further v c.args.piece c.args.element c.args.position c.args.sector c.loop-at.at (c.args.count - c.loop-at.at) c.args.count
    (omega (arith, c.loop-at-test.true)) split) _ (c.in_err-at.ensures.left part part_at))

pub returns-in_err-at-clause-reads : goal.returns-in_err-at-clause-reads
returns-in_err-at-clause-reads g c = only_reads_then c.loop-at.invariant.gathers.reads c.in_err-at.ensures.reads

pub returns-clause-known : goal.returns-clause-known
returns-clause-known g c = λ k below. c.loop-at.invariant.known k (omega (arith, below, c.loop-at-test.false))
