use Rattle.std.proofs.Common.{◌≡◌, ◌∙◌, inl, ◌+◌, Some, ap, arith}
use Rattle.ddf_cells.proofs.BlockOf.{block_within}
use Rattle.ddf_write.proofs.Gathered.{gathers_start}
use Rattle.ddf_write.proofs.looking.keep_first.Goals as goal

pub blocks_along-requires-clause-block : goal.blocks_along-requires-clause-block
blocks_along-requires-clause-block g c = block_within c.args.view.now c.args.element c.args.position c.args.sector (c.args.piece.first + c.in-Some.k) c.in-Some.ensures.1

pub returns-in-Some-clause-known : goal.returns-in-Some-clause-known
returns-in-Some-clause-known g c = λ j below.
    let same : c.args.piece.first + c.in-Some.k + j ≡ c.args.piece.first + (c.in-Some.k + j) = omega arith in
    let at = c.blocks_along.ensures.follow c.args.element c.args.position c.args.sector j c.in-Some.ensures.1 below in
    inl (
      c.in-Some.k + j,
      omega (arith, below, c.blocks_along.ensures.within, c.alike_from.ensures.alike.among (omega arith) (omega (arith, c.in-Some.ensures.0))),
      at ∙ ap Some same,
    )

pub returns-in-Some-clause-gathers : goal.returns-in-Some-clause-gathers
returns-in-Some-clause-gathers g c = gathers_start g.B.Bay.tells (g.B.Bay.disks c.args.bay.now) c.args.view.now c.args.piece.start c.args.piece.count c.args.kept.now
