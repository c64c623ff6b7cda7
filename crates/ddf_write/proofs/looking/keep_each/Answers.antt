use Rattle.std.proofs.Common.{◌≡◌, length, arith, subst}
use Rattle.ddf_write.specs.Gathering.{KeepsRun}
use Rattle.ddf_write.proofs.Gathered.{run_more, run_start}
use Rattle.ddf_write.proofs.looking.keep_each.Goals as goal

pub loop-at-init : goal.loop-at-init
loop-at-init c = record { run = run_start c.args.element c.args.position c.args.sector c.args.cells.now c.args.kept.now }

pub loop-at-preserved : goal.loop-at-preserved
loop-at-preserved c = record {
  run = run_more c.args.element c.args.position c.args.sector c.loop-at.at c.args.cells.now c.args.kept.now c.loop-at.kept c.keep.new.self c.loop-at.invariant.run c.in_ok-keep.ensures;
}

pub returns : goal.returns
returns c =
    let n : c.loop-at.at ≡ length c.args.cells.now = omega (arith, c.loop-at-test.false, c.loop-at.auto) in
    subst (λ m. KeepsRun c.args.kept.now c.loop-at.kept c.args.element c.args.position c.args.sector c.args.cells.now m) n c.loop-at.invariant.run
