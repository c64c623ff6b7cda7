use Rattle.std.proofs.Common.{◌≡◌, ◌∙◌, ◌+◌, inr, ap, subst, Some, arith}
use Rattle.std.proofs.lemmas.Result.{err_from_is_err_and}
use Rattle.ddf_array.specs.Rows.{block_at}
use Rattle.ddf_read.specs.Reading.{Failed}
use Rattle.ddf_cells.specs.CellSources.{NoneLeftAmong}
use Rattle.ddf_write.specs.Gathering.{IsOfAnother, NoneLeftOfOthers}
use Rattle.ddf_write.proofs.Gathered.{left_of_run, missed_by, run_gathers}
use Rattle.ddf_write.proofs.looking.keep_others.Goals as goal

pub returns-in-Some-clause-left : goal.returns-in-Some-clause-left
returns-in-Some-clause-left g c = λ part part_at.
    let here : c.args.sector ≡ c.args.sector + 0 = omega arith in
    record {
      cell = 0;
      is_in = c.requires.some;
      k = c.in-Some.field-0;
      below = c.in-Some.ensures.0;
      holds_it = subst (λ n. block_at c.args.view.now c.args.element c.args.position n ≡ Some (c.args.piece.start + c.in-Some.field-0)) here c.in-Some.ensures.1;
      other = λ j below same. c.requires.none j below (c.in-Some.ensures.1 ∙ ap Some same);
    }

pub keep_run-requires-clause-sectors : goal.keep_run-requires-clause-sectors
keep_run-requires-clause-sectors g c = λ part part_at. omega (arith, c.requires.sectors part part_at, c.others_from-count.ensures.within)

pub returns-in_ok-keep_run-in-None-clause-known : goal.returns-in_ok-keep_run-in-None-clause-known
returns-in_ok-keep_run-in-None-clause-known g c = λ k below. inr (c.in_ok-keep_run-in-None.ensures.kept.1.these k below)

pub returns-in_ok-keep_run-in-None-clause-gathers : goal.returns-in_ok-keep_run-in-None-clause-gathers
returns-in_ok-keep_run-in-None-clause-gathers g c =
    run_gathers g.B.Bay.tells (g.B.Bay.disks c.args.bay.now) (g.B.Bay.disks c.keep_run.new.bay) c.args.view.now c.args.piece.start c.args.piece.count c.args.element c.args.position c.args.sector c.others_from-count.result
    c.in_ok-keep_run-in-None.ensures.kept.0 c.args.kept.now c.keep_run.new.kept c.in_ok-keep_run-in-None.ensures.reads c.in_ok-keep_run-in-None.ensures.kept.1 c.others_from-count.ensures.others c.in_ok-keep_run-in-None.ensures.kept.2

pub returns-in_err-keep_run-in-None-clause-left : goal.returns-in_err-keep_run-in-None-clause-left
returns-in_err-keep_run-in-None-clause-left g c =
    let p = err_from_is_err_and c.from_residual.result c.from_residual.ensures.1 in
    let old = g.B.Bay.disks c.args.bay.now in
    let new = g.B.Bay.disks c.keep_run.new.bay in
    rw (p.1, p.2)
    (λ part part_at.
    missed_by (NoneLeftAmong (Failed old new) c.args.view.now c.args.element part c.args.sector c.others_from-count.result c.args.position)
    (NoneLeftOfOthers (Failed old new) c.args.view.now c.args.piece.start c.args.piece.count c.args.element part c.args.position c.args.sector c.args.most) ⊥ (IsOfAnother c.args.view.now c.args.piece c.args.element c.args.position c.args.sector c.args.most)
    (λ slot left. left_of_run (Failed old new) c.args.view.now c.args.piece.start c.args.piece.count c.args.element part c.args.position c.args.sector c.others_from-count.result c.args.most slot c.others_from-count.ensures.within
    c.others_from-count.ensures.others left) (λ never. absurd never) _ (c.in_err-keep_run-in-None.ensures.left part part_at))
