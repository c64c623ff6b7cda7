use Rattle.std.proofs.Common.{◌∙◌, ◌+◌, refl, sym, arith}
use Rattle.ddf_array.specs.Places.{site_on}
use Rattle.ddf_cells.proofs.AlongStrips.{run_lies, run_more}
use Rattle.ddf_cells.proofs.cell.run_on.Goals as goal

pub loop-count-init : goal.loop-count-init
loop-count-init c =
    let first = c.left_in_strip-count.ensures in
    record {
      some = omega (arith, first.some);
      within = omega (arith, first.within);
      follow =
          run_lies c.args.view.now c.args.start c.left_in_strip-count.result first.along (omega (arith, c.requires.some, c.requires.blocks)) c.args.element c.args.position c.args.first c.requires.first;
    }

pub loop-count-preserved : goal.loop-count-preserved
loop-count-preserved c =
    let more = c.left_in_strip-count-in-loop-count in
    record {
      some = omega (arith, more.ensures.some);
      within = omega (arith, more.ensures.within, c.loop-count-test.true);
      follow =
          run_more c.args.view.now c.args.element c.args.position c.args.start c.loop-count.count more.result c.args.first c.loop-count.invariant.follow
          (run_lies c.args.view.now (c.args.start + c.loop-count.count) more.result more.ensures.along (omega (arith, c.loop-count-test.true, c.requires.blocks)) c.args.element c.args.position
          (site_on c.args.first.slot (c.args.first.lba + c.loop-count.count)) (sym c.cell_on.ensures ∙ c.if-not-lies_behind.ensures.yes refl));
    }
