use Rattle.std.proofs.Common.{◌∙◌, sym, false}
use Rattle.ddf_config.specs.declared.element.Position.{Position}
use Rattle.ddf_plan.specs.Floors.{lacks_extent}
use Rattle.ddf_config.proofs.Finds.{find_here, find_not_here}
use Rattle.ddf_plan.proofs.floors.first_without_extent.Goals as goal

pub returns-then-lacks : goal.returns-then-lacks
returns-then-lacks c =
    let d : Position = record { reference = 0; start = 0; synced = false; row = 0 } in
    sym (find_here (lacks_extent c.args.config.now c.args.floors.now c.args.strip c.args.blocks) c.args.positions.now c.loop-position.position-index d
    c.loop-position-test.true c.loop-position.invariant (sym c.in_ok-lacks.ensures ∙ c.if-lacks.true))

pub loop-position-preserved : goal.loop-position-preserved
loop-position-preserved c =
    let d : Position = record { reference = 0; start = 0; synced = false; row = 0 } in
    find_not_here (lacks_extent c.args.config.now c.args.floors.now c.args.strip c.args.blocks) c.args.positions.now c.loop-position.position-index d
    c.loop-position-test.true c.loop-position.invariant (sym c.in_ok-lacks.ensures ∙ c.if-lacks.false)
