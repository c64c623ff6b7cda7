use Rattle.std.proofs.Common.{List, map, sym, ap, subst, ◌∙◌}
use Rattle.std.specs.Prelude.{IfOk, IfSome}
use Rattle.ddf_config.specs.Configuration.{Configuration}
use Rattle.ddf_seats.specs.declared.seated.Seated.{Seated}
use Rattle.ddf_seats.specs.Seated.{levelled}
use Rattle.ddf_steps.specs.Ready.{ReadyStep}
use Rattle.ddf_steps.specs.Tried.{IsTried, disks_reached}
use Rattle.ddf_seats.specs.Changing.{CanBeChanged}
use Rattle.ddf_steps.specs.Trying.{Follows}
use Rattle.ddf_steps.proofs.Reached.{config_last, disks_last, reached_changed}
use Rattle.ddf_steps.proofs.changes.step_behind.Goals as goal

pub next_step-requires-clause-changed : goal.next_step-requires-clause-changed
next_step-requires-clause-changed c =
    let config = config_last c.args.config.now c.in-Some.field-0-1.now c.in-Some.step.now c.args.steps.now c.in-Some.ensures.cases.0 ∙ sym (ap (λ (one : ReadyStep). one.step.config) c.step.view_is) in
    let disks = disks_last c.args.disks.now c.in-Some.field-0-1.now c.in-Some.step.now c.args.steps.now c.in-Some.ensures.cases.0
    ∙ sym (ap (λ (one : ReadyStep). map levelled one.step.disks) c.step.view_is)
    ∙ sym (c.deref-in-Some.ensures.value ∙ c.in_ok-disks-in-Some.ensures ∙ ap (map levelled) c.deref.ensures.value) in
    let can = reached_changed c.args.config.now c.args.disks.now c.args.steps.now c.requires.changed c.requires.following in
    subst (CanBeChanged c.step.inside.config) disks (subst (λ (next : Configuration). CanBeChanged next (disks_reached c.args.disks.now c.args.steps.now)) config can)

pub returns-in_ok-disks-in-Some-clause-tried : goal.returns-in_ok-disks-in-Some-clause-tried
returns-in_ok-disks-in-Some-clause-tried c =
    let config = config_last c.args.config.now c.in-Some.field-0-1.now c.in-Some.step.now c.args.steps.now c.in-Some.ensures.cases.0 ∙ sym (ap (λ (one : ReadyStep). one.step.config) c.step.view_is) in
    let disks = disks_last c.args.disks.now c.in-Some.field-0-1.now c.in-Some.step.now c.args.steps.now c.in-Some.ensures.cases.0
    ∙ sym (ap (λ (one : ReadyStep). map levelled one.step.disks) c.step.view_is)
    ∙ sym (c.deref-in-Some.ensures.value ∙ c.in_ok-disks-in-Some.ensures ∙ ap (map levelled) c.deref.ensures.value) in
    subst (λ (next : Configuration). IsTried c.args.timestamp next (disks_reached c.args.disks.now c.args.steps.now) c.args.change.now c.next_step.result) (sym config)
    (subst (λ (on : List Seated). IsTried c.args.timestamp c.step.inside.config on c.args.change.now c.next_step.result) (sym disks) c.next_step.ensures.tried)

pub returns-in_ok-disks-in-Some-clause-follows : goal.returns-in_ok-disks-in-Some-clause-follows
returns-in_ok-disks-in-Some-clause-follows c =
    let disks = disks_last c.args.disks.now c.in-Some.field-0-1.now c.in-Some.step.now c.args.steps.now c.in-Some.ensures.cases.0
    ∙ sym (ap (λ (one : ReadyStep). map levelled one.step.disks) c.step.view_is)
    ∙ sym (c.deref-in-Some.ensures.value ∙ c.in_ok-disks-in-Some.ensures ∙ ap (map levelled) c.deref.ensures.value) in
    subst (λ (on : List Seated). IfOk c.next_step.result (λ next. IfSome next (Follows on))) (sym disks) c.next_step.ensures.follows
