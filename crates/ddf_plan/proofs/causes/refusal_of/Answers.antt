use Rattle.std.proofs.Common.{◌∙◌, [], ◌∷◌, None, ap}
use Rattle.ddf_config.specs.Refusals.{first_refusal}
use Rattle.ddf_plan.specs.Refusals.{spent}
use Rattle.ddf_plan.specs.Floors.{extents_refusal}
use Rattle.ddf_plan.specs.Causes.{causes, causes_of, steps_of}
use Rattle.ddf_plan.proofs.Lists.{first_behind}
use Rattle.ddf_plan.proofs.causes.refusal_of.Goals as goal

pub returns : goal.returns
unfolding causes
returns c =
    let config = c.args.config.now in
    let change = c.args.change.now in
    let seats = c.args.seats.now in
    c.first_refusal.ensures
    ∙ ap first_refusal (λ j. c.in_ok-cause.ensures j ∷ c.in_ok-room.ensures j ∷ c.spent_by.ensures j ∷ [])
    ∙ first_behind (causes_of None config change seats) (extents_refusal config change [] seats ∷ spent config.sequence (steps_of change) ∷ [])
