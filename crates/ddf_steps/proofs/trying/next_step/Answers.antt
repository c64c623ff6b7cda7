use Rattle.std.proofs.Common.{not, sym, ap, subst, ◌∙◌}
use Rattle.ddf_config.specs.Configuration.{Configuration}
use Rattle.ddf_steps.specs.Refusing.{most_members}
use Rattle.ddf_steps.specs.Tried.{IsTried}
use Rattle.ddf_seats.specs.Changing.{CanBeHeldOn}
use Rattle.ddf_steps.proofs.Following.{copies_are, next_held}
use Rattle.ddf_steps.proofs.Holdable.{new_guid}
use Rattle.ddf_steps.proofs.Refused.{causes_are, fault_passed, no_step_free, refused_first, step_by_tables, tried_fault, tried_step}
use Rattle.ddf_steps.proofs.trying.next_step.Goals as goal

pub returns-in-Some-clause-tried : goal.returns-in-Some-clause-tried
returns-in-Some-clause-tried c =
    let causes = causes_are c.args.config.now c.args.disks.now c.args.change.now _ _ _ c.most_members.ensures (c.deref.ensures.value ∙ c.in_ok-seats.ensures) c.in_ok-refusal.ensures in
    refused_first c.args.timestamp c.args.config.now c.args.disks.now c.args.change.now c.in-Some.refusal (causes ∙ c.in-Some.is)

pub config_after-requires : goal.config_after-requires
config_after-requires c =
    let causes = causes_are c.args.config.now c.args.disks.now c.args.change.now _ _ _ c.most_members.ensures (c.deref.ensures.value ∙ c.in_ok-seats.ensures) c.in_ok-refusal.ensures in
    new_guid (most_members c.args.disks.now) c.args.config.now c.args.change.now _ (causes ∙ c.in_default.is)

pub returns-then-same_tables-clause-tried : goal.returns-then-same_tables-clause-tried
returns-then-same_tables-clause-tried c =
    let causes = causes_are c.args.config.now c.args.disks.now c.args.change.now _ _ _ c.most_members.ensures (c.deref.ensures.value ∙ c.in_ok-seats.ensures) c.in_ok-refusal.ensures in
    let no = step_by_tables c.args.config.now c.in_ok-next.next c.args.change.now _ c.in_ok-next.ensures c.same_tables.ensures ∙ ap not c.if-same_tables.true in
    (no_step_free c.args.timestamp c.args.config.now c.args.disks.now c.args.change.now (causes ∙ c.in_default.is) no, no)

pub step_with_room-requires-clause-held : goal.step_with_room-requires-clause-held
step_with_room-requires-clause-held c =
    let causes = causes_are c.args.config.now c.args.disks.now c.args.change.now _ _ _ c.most_members.ensures (c.deref.ensures.value ∙ c.in_ok-seats.ensures) c.in_ok-refusal.ensures in
    subst (λ (next : Configuration). CanBeHeldOn next c.args.disks.now) (sym c.in_ok-next.ensures)
    (next_held c.args.config.now c.args.disks.now c.args.change.now (copies_are c.args.config.now c.args.disks.now c.requires.changed.of_group) c.requires.changed.can_hold c.requires.asked (causes ∙ c.in_default.is))

pub returns-in_err-step-clause-tried : goal.returns-in_err-step-clause-tried
returns-in_err-step-clause-tried c =
    let causes = causes_are c.args.config.now c.args.disks.now c.args.change.now _ _ _ c.most_members.ensures (c.deref.ensures.value ∙ c.in_ok-seats.ensures) c.in_ok-refusal.ensures in
    let yes = step_by_tables c.args.config.now c.in_ok-next.next c.args.change.now _ c.in_ok-next.ensures c.same_tables.ensures ∙ ap not c.if-same_tables.false in
    subst (IsTried c.args.timestamp c.args.config.now c.args.disks.now c.args.change.now) (sym (fault_passed c.in_err-step.field-0.0 c.from_residual-in_err-step.result c.from_residual-in_err-step.ensures.1))
    (tried_fault c.args.timestamp c.args.config.now c.args.disks.now c.args.change.now (causes ∙ c.in_default.is) yes c.in_err-step.field-0.0 c.in_err-step.ensures.tried)

pub returns-clause-tried : goal.returns-clause-tried
returns-clause-tried c =
    let causes = causes_are c.args.config.now c.args.disks.now c.args.change.now _ _ _ c.most_members.ensures (c.deref.ensures.value ∙ c.in_ok-seats.ensures) c.in_ok-refusal.ensures in
    let yes = step_by_tables c.args.config.now c.in_ok-next.next c.args.change.now _ c.in_ok-next.ensures c.same_tables.ensures ∙ ap not c.if-same_tables.false in
    tried_step c.args.timestamp c.args.config.now c.args.disks.now c.args.change.now (causes ∙ c.in_default.is) yes c.in_ok-step.step c.in_ok-step.ensures.tried
