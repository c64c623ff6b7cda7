use Rattle.std.proofs.Common.{◌∙◌, sym, ap}
use Rattle.ddf_config.specs.Levels.{level_refusal}
use Rattle.ddf_config.proofs.Firsts.{first_here, first_not_here}
use Rattle.ddf_config.proofs.level.first_of.Goals as goal

pub returns-in-Some : goal.returns-in-Some
returns-in-Some c =
    let part = c.part-item.result in
    let guid = c.args.guid.now in
    sym (first_here (level_refusal guid) c.args.parts.now c.loop-part.part-index part c.loop-part-test.true c.loop-part.invariant c.in-Some.refusal
    (ap (level_refusal guid) (sym c.part-item.is) ∙ sym c.level_refusal.ensures ∙ c.in-Some.is))

pub loop-part-preserved : goal.loop-part-preserved
loop-part-preserved c =
    let part = c.part-item.result in
    let guid = c.args.guid.now in
    first_not_here (level_refusal guid) c.args.parts.now c.loop-part.part-index part c.loop-part-test.true c.loop-part.invariant
    (ap (level_refusal guid) (sym c.part-item.is) ∙ sym c.in_default.ensures)
