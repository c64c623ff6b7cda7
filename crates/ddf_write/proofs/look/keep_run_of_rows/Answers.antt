use Rattle.std.proofs.Common.{◌≡◌, ◌∙◌, ⊎_elim, ◌+◌, ◌<◌, ◌≤◌, arith, ap, subst, sym, length}
use Rattle.std.proofs.lemmas.Bool.{cases_lt}
use Rattle.std.proofs.lemmas.Option.{slice_get_within}
use Rattle.std.proofs.lemmas.Result.{err_from_is_err_and}
use Rattle.ddf_lemmas.proofs.Options.{some_is}
use Rattle.ddf_primary.specs.Cells.{depth_of}
use Rattle.ddf_primary.proofs.ShapeFacts.{depth_le}
use Rattle.ddf_array.specs.declared.part.Part.{Part}
use Rattle.ddf_read.specs.Reading.{Failed}
use Rattle.ddf_read.proofs.OnlyReading.{failed_before, only_reads_then}
use Rattle.ddf_cells.proofs.Depths.{blocks_small}
use Rattle.ddf_write.specs.Beside.{NoneLeftBeside}
use Rattle.ddf_write.specs.Gathering.{IsKnownAt, IsOfAnother, IsSplitRow, NoneLeftOfOthers}
use Rattle.ddf_write.proofs.Gathered.{gathers_start, gathers_then, known_grows, left_beside, missed_by, unmarked}
use Rattle.ddf_write.proofs.Splitting.{splits_row}
use Rattle.ddf_write.proofs.look.keep_run_of_rows.Goals as goal

pub loop-position-init : goal.loop-position-init
loop-position-init g c = record {
  known = λ j position below earlier other. absurd (omega (arith, earlier));
  gathers = gathers_start g.B.Bay.tells (g.B.Bay.disks c.args.bay.now) c.args.view.now c.args.piece.start c.args.piece.count c.args.kept.now;
}

pub keep_position-requires-clause-fits : goal.keep_position-requires-clause-fits
keep_position-requires-clause-fits g c = rw c.loop-position.invariant.gathers.reads.reads.same_sizes c.requires.fits

pub keep_position-requires-clause-small : goal.keep_position-requires-clause-small
keep_position-requires-clause-small g c =
    let shape = (c.requires.known.are_parts c.args.element c.args.part.now c.requires.is_part).shape_is in
    omega (arith, c.requires.sectors, depth_le c.args.part.now.shape.layout c.args.part.now.shape.strip c.args.part.now.shape.blocks, blocks_small c.args.part.now.shape shape)

pub keep_position-requires-clause-there : goal.keep_position-requires-clause-there
keep_position-requires-clause-there g c = slice_get_within c.args.view.now.parts c.args.element c.args.part.now c.requires.is_part

pub keep_position-requires-clause-sectors : goal.keep_position-requires-clause-sectors
keep_position-requires-clause-sectors g c = λ part part_at.
    let same : c.args.part.now ≡ part = some_is (sym c.requires.is_part ∙ part_at) in
    subst (λ (q : Part). c.args.sector + c.args.rows ≤ depth_of q.shape) same c.requires.sectors

pub loop-position-preserved : goal.loop-position-preserved
loop-position-preserved g c =
    let v = c.args.view.now in
    let next = c.in_ok-keep_position.ensures in
    record {
      known = λ j position below earlier other.
          ⊎_elim
          (λ (before : position < c.loop-position.position).
          known_grows v c.args.piece.first c.args.piece.blocks c.loop-position.kept c.keep_position.new.kept next.gathers.grows c.args.element position (c.args.sector + j)
          (c.loop-position.invariant.known j position below before other))
          (λ (last : c.loop-position.position ≤ position).
          let same : c.loop-position.position ≡ position = omega (arith, last, earlier) in
          subst (λ p. IsKnownAt v c.args.piece.first c.args.piece.blocks c.keep_position.new.kept c.args.element p (c.args.sector + j)) same (next.known (λ is. other (sym same ∙ is)) j below))
          (cases_lt position c.loop-position.position);
      gathers = gathers_then g.B.Bay.tells v c.args.piece.start c.args.piece.count c.args.kept.now c.loop-position.kept c.keep_position.new.kept c.loop-position.invariant.gathers next.gathers;
    }

pub returns-in_err-keep_position-clause-left : goal.returns-in_err-keep_position-clause-left
returns-in_err-keep_position-clause-left g c =
    let p = err_from_is_err_and c.from_residual.result c.from_residual.ensures.1 in
    let v = c.args.view.now in
    let n = ap length c.items-position-end.ensures in
    let old = g.B.Bay.disks c.args.bay.now in
    let now = g.B.Bay.disks c.loop-position.bay in
    let new = g.B.Bay.disks c.keep_position.new.bay in
    let left = c.in_err-keep_position.ensures.left c.args.part.now c.requires.is_part in
    rw (p.1, p.2)
    (missed_by (NoneLeftOfOthers (Failed now new) v c.args.piece.start c.args.piece.count c.args.element c.args.part.now c.loop-position.position c.args.sector c.args.rows)
    (NoneLeftBeside (Failed old new) v c.args.piece.start c.args.piece.count) (IsOfAnother v c.args.piece c.args.element c.loop-position.position c.args.sector c.args.rows) (IsSplitRow v c.args.piece)
    (λ slot none. left_beside (failed_before c.loop-position.invariant.gathers.reads c.in_err-keep_position.ensures.reads) v c.requires.known (unmarked v c.requires.trusted) c.args.piece (record { from = c.requires.begins; to = c.requires.ends }) c.args.element c.args.part.now
    c.requires.is_part c.requires.keeps c.args.parity c.args.sector c.args.rows c.requires.is_parity c.requires.touched c.loop-position.position slot (omega (arith, n, c.loop-position-test.true)) left.0 none) (λ split. splits_row v c.args.piece c.args.element c.args.part.now c.requires.is_part c.requires.keeps c.loop-position.position c.args.sector c.args.rows c.requires.touched split) _ left.1)

pub returns-in_err-keep_position-clause-reads : goal.returns-in_err-keep_position-clause-reads
returns-in_err-keep_position-clause-reads g c = only_reads_then c.loop-position.invariant.gathers.reads c.in_err-keep_position.ensures.reads

pub returns-clause-known : goal.returns-clause-known
returns-clause-known g c = λ j position below inside other.
    let n = ap length c.items-position-end.ensures in
    c.loop-position.invariant.known j position below (omega (arith, inside, n, c.loop-position-test.false)) other
