use Rattle.std.proofs.Common.{◌∙◌, sym, ap, length}
use Rattle.ddf_plan.specs.Floors.{extent_refusal}
use Rattle.ddf_config.proofs.Firsts.{first_here, first_not_here}
use Rattle.ddf_plan.proofs.floors.parts_refusal.Goals as goal

pub returns-in-Some : goal.returns-in-Some
returns-in-Some c =
    let part = c.part-item.result in
    let check = extent_refusal c.args.config.now c.args.floors.now c.args.seats.now (length c.args.parts.now) in
    sym (first_here check c.args.parts.now c.loop-part.part-index part c.loop-part-test.true c.loop-part.invariant c.in-Some.refusal
    (ap check (sym c.part-item.is) ∙ sym c.in_ok-refusal.ensures ∙ c.in-Some.is))

pub loop-part-preserved : goal.loop-part-preserved
loop-part-preserved c =
    let part = c.part-item.result in
    let check = extent_refusal c.args.config.now c.args.floors.now c.args.seats.now (length c.args.parts.now) in
    first_not_here check c.args.parts.now c.loop-part.part-index part c.loop-part-test.true c.loop-part.invariant
    (ap check (sym c.part-item.is) ∙ sym c.in_ok-refusal.ensures ∙ c.in_default.is)
