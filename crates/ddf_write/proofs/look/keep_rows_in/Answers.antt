use Rattle.std.proofs.Common.{◌∙◌, sym, ap, arith}
use Rattle.std.proofs.lemmas.Result.{err_from_is_err_and}
use Rattle.ddf_array.specs.Levels.{keeps_parity}
use Rattle.ddf_read.specs.Reading.{Failed}
use Rattle.ddf_read.proofs.OnlyReading.{failed_before, only_reads_then}
use Rattle.ddf_write.specs.Beside.{NoneLeftBeside}
use Rattle.ddf_write.specs.Gathering.{IsSplitRow, RowIsKnown}
use Rattle.ddf_write.proofs.Gathered.{beside_wider, gathers_start, gathers_then, missed_by}
use Rattle.ddf_write.proofs.RowLoops.{parity_within, rows_no_part, rows_no_parity}
use Rattle.ddf_write.proofs.look.keep_rows_in.Goals as goal

pub returns-in_default-clause-known : goal.returns-in_default-clause-known
returns-in_default-clause-known g c = rows_no_part c.args.view.now c.args.piece.first c.args.piece.blocks c.args.element (RowIsKnown c.args.view.now c.args.piece.first c.args.piece.blocks c.args.kept.now) c.in_default.ensures.found

pub returns-in_default-clause-gathers : goal.returns-in_default-clause-gathers
returns-in_default-clause-gathers g c = gathers_start g.B.Bay.tells (g.B.Bay.disks c.args.bay.now) c.args.view.now c.args.piece.start c.args.piece.count c.args.kept.now

pub returns-then-not-keeps_parity-clause-known : goal.returns-then-not-keeps_parity-clause-known
returns-then-not-keeps_parity-clause-known g c =
    rows_no_parity c.args.view.now c.args.piece.first c.args.piece.blocks c.args.element (RowIsKnown c.args.view.now c.args.piece.first c.args.piece.blocks c.args.kept.now) c.in-Some.part.now c.in-Some.ensures.found
    (c.if-not-keeps_parity.ensures ∙ ap keeps_parity c.layout.ensures)

pub returns-then-not-keeps_parity-clause-gathers : goal.returns-then-not-keeps_parity-clause-gathers
returns-then-not-keeps_parity-clause-gathers g c = gathers_start g.B.Bay.tells (g.B.Bay.disks c.args.bay.now) c.args.view.now c.args.piece.start c.args.piece.count c.args.kept.now

pub loop-k-init : goal.loop-k-init
loop-k-init g c = record {
  within = omega arith;
  known = λ sector part one is. absurd (omega (arith, is.touched.below));
  gathers = gathers_start g.B.Bay.tells (g.B.Bay.disks c.args.bay.now) c.args.view.now c.args.piece.start c.args.piece.count c.args.kept.now;
}

pub keep_rows_from-requires-clause-fits : goal.keep_rows_from-requires-clause-fits
keep_rows_from-requires-clause-fits g c = rw c.loop-k.invariant.gathers.reads.reads.same_sizes c.requires.fits

pub keep_rows_from-requires-clause-keeps : goal.keep_rows_from-requires-clause-keeps
keep_rows_from-requires-clause-keeps g c = ap keeps_parity (sym c.layout.ensures) ∙ sym c.if-not-keeps_parity.ensures

pub loop-k-preserved : goal.loop-k-preserved
loop-k-preserved g c =
    let next = c.in_ok-k.ensures in
    record {
      within = omega (arith, next.within);
      known = next.known c.loop-k.invariant.known;
      gathers = gathers_then g.B.Bay.tells c.args.view.now c.args.piece.start c.args.piece.count c.args.kept.now c.loop-k.kept c.keep_rows_from.new.kept c.loop-k.invariant.gathers next.gathers;
    }

pub returns-in_err-k-clause-left : goal.returns-in_err-k-clause-left
returns-in_err-k-clause-left g c =
    let p = err_from_is_err_and c.from_residual.result c.from_residual.ensures.1 in
    let v = c.args.view.now in
    let old = g.B.Bay.disks c.args.bay.now in
    let now = g.B.Bay.disks c.loop-k.bay in
    let new = g.B.Bay.disks c.keep_rows_from.new.bay in
    rw (p.1, p.2)
    (missed_by (NoneLeftBeside (Failed now new) v c.args.piece.start c.args.piece.count) (NoneLeftBeside (Failed old new) v c.args.piece.start c.args.piece.count) (IsSplitRow v c.args.piece) (IsSplitRow v c.args.piece)
    (λ slot left. beside_wider (failed_before c.loop-k.invariant.gathers.reads c.in_err-k.ensures.reads) v c.args.piece.start c.args.piece.count slot left) (λ split. split) _ c.in_err-k.ensures.left)

pub returns-in_err-k-clause-reads : goal.returns-in_err-k-clause-reads
returns-in_err-k-clause-reads g c = only_reads_then c.loop-k.invariant.gathers.reads c.in_err-k.ensures.reads

pub returns-clause-known : goal.returns-clause-known
returns-clause-known g c = λ sector part one is.
    c.loop-k.invariant.known sector part one (parity_within c.args.view.now c.args.piece.first c.args.piece.blocks c.loop-k.k c.args.element sector part one (omega (arith, c.loop-k-test.false)) is)
