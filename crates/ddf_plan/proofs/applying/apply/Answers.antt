use Rattle.std.proofs.Common.{◌∙◌, ◌+◌, ◌≤◌, Ok, sym, ap, arith}
use Rattle.ddf_plan.specs.Refusals.{greatest_sequence}
use Rattle.ddf_plan.specs.Causes.{steps_of}
use Rattle.ddf_plan.proofs.Afters.{after_refused, after_changed, in_range, new_guid}
use Rattle.ddf_plan.proofs.applying.apply.Goals as goal

pub returns-in-Some : goal.returns-in-Some
returns-in-Some c =
    after_refused c.args.config.now c.args.change.now c.args.seats.now c.in-Some.refusal (sym c.in_ok-refusal.ensures ∙ c.in-Some.is)

pub changed-requires-clause-sequence : goal.changed-requires-clause-sequence
changed-requires-clause-sequence c =
    let range : c.args.config.now.sequence + steps_of c.args.change.now ≤ greatest_sequence = in_range c.args.config.now c.args.change.now c.args.seats.now (sym c.in_ok-refusal.ensures ∙ c.in_default.is) in
    omega (arith, range)

pub changed-requires-clause-fresh : goal.changed-requires-clause-fresh
changed-requires-clause-fresh c =
    new_guid c.args.config.now c.args.change.now c.args.seats.now (sym c.in_ok-refusal.ensures ∙ c.in_default.is)

pub returns : goal.returns
returns c =
    after_changed c.args.config.now c.args.change.now c.args.seats.now (sym c.in_ok-refusal.ensures ∙ c.in_default.is)
    ∙ sym (ap Ok c.in_ok-next.ensures)
