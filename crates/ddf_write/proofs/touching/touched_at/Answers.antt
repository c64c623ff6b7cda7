use Rattle.std.proofs.Common.{◌≡◌, ◌∙◌, ◌+◌, ◌-◌, Some, sym, ap, arith}
use Rattle.ddf_cells.proofs.BlockOf.{block_within}
use Rattle.ddf_write.proofs.touching.touched_at.Goals as goal

pub blocks_along-requires-clause-block : goal.blocks_along-requires-clause-block
blocks_along-requires-clause-block c = block_within c.args.view.now c.args.element c.args.position c.args.sector c.in-Some.block (sym c.in-Some.ensures)

pub returns-then-block-start : goal.returns-then-block-start
returns-then-block-start c = λ j below.
    let k = c.in-Some.block - c.args.start + j in
    let same : c.in-Some.block + j ≡ c.args.start + k = omega (arith, c.if-start-block.true) in
    record {
      position = c.args.position;
      k = k;
      below = omega (arith, below, c.blocks_along.ensures.within, c.if-start-block.true, c.if-block-start.true);
      holds_it = c.blocks_along.ensures.follow c.args.element c.args.position c.args.sector j (sym c.in-Some.ensures) below ∙ ap Some same;
    }
