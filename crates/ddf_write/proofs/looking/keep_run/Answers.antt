use Rattle.std.proofs.Common.{◌≡◌, length, subst, arith, rules}
use Rattle.std.proofs.lemmas.Grind.{common_steps}
use Rattle.ddf_write.specs.Gathering.{KeepsRun}
use Rattle.ddf_write.proofs.looking.keep_run.Goals as goal

pub returns-in-Ok-keep_each-clause-kept : goal.returns-in-Ok-keep_each-clause-kept
returns-in-Ok-keep_each-clause-kept g c =
    let n : length c.read_cells.new.out ≡ c.args.count = first_of (grind (arith, common_steps), search rules) in (
      c.read_cells.new.out,
      subst (λ m. KeepsRun c.args.kept.now c.keep_each.new.kept c.args.element c.args.position c.args.sector c.read_cells.new.out m) n c.in-Ok-keep_each.ensures,
      λ tells part part_at k below. c.in-Ok.ensures.given tells part part_at k (omega (arith, below, n, c.read_cells.auto.out)),
    )

pub returns-in-Err-clause-left : goal.returns-in-Err-clause-left
returns-in-Err-clause-left g c = λ part part_at.
    let n : length c.read_cells.new.out ≡ c.args.count = first_of (grind (arith, common_steps), search rules) in
    let left = c.in-Err.ensures.left part part_at in
    record { cell = left.cell; is_in = omega (arith, left.is_in, n, c.read_cells.auto.out); none_left = left.none_left }
