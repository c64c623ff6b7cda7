use Rattle.std.proofs.Common.{◌∙◌, sym, ap}
use Rattle.ddf_config.specs.Refusals.{first_refusal}
use Rattle.ddf_plan.specs.Members.{members_after}
use Rattle.ddf_plan.specs.Causes.{causes}
use Rattle.ddf_plan.specs.Fail.{fail_causes}
use Rattle.ddf_plan.proofs.causes.failing_cause.Goals as goal

pub returns : goal.returns
unfolding causes
returns c =
    let config = c.args.config.now in
    let seats = c.args.seats.now in
    let failed = c.args.failed in
    c.fail_cause.ensures
    ∙ ap (λ members. first_refusal (fail_causes config members seats failed)) (c.in_ok-members.ensures ∙ ap (members_after config) c.requires)
    ∙ ap (λ change. causes c.args.most config change seats) (sym c.requires)
