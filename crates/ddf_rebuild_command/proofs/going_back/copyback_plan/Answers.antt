use Rattle.std.proofs.Common.{◌≡◌, Some, subst, sym}
use Rattle.std.proofs.lemmas.Result.{err_from_is_err_and}
use Rattle.ddf_config.specs.Configuration.{Configuration}
use Rattle.ddf_request.specs.Named.{named_array}
use Rattle.ddf_rebuild_command.proofs.BackMade.{back_of, not_usable_back, refused_back}
use Rattle.ddf_rebuild_command.proofs.going_back.copyback_plan.Goals as goal

pub returns-in_err-guid : goal.returns-in_err-guid
returns-in_err-guid c =
    let named : named_array c.args.config.now.arrays c.args.name.now ≡ Some (c.in-Some.field-0-0, c.in-Some.array.now) =
    subst (λ (config : Configuration). named_array config.arrays c.args.name.now ≡ Some (c.in-Some.field-0-0, c.in-Some.array.now)) c.config.view_is (sym c.in-Some.ensures) in
    let failed = err_from_is_err_and c.from_residual.result c.from_residual.ensures.1 in
    rw (failed.1, failed.2)
    (not_usable_back c.args.slots c.args.config.now c.args.seats.now c.args.linux.now c.args.name.now c.args.slot (sym c.in_default-slots_refusal.ensures)
    (c.in-Some.field-0-0, c.in-Some.array.now) named c.in_err-guid.field-0.0 c.in_err-guid.ensures.may)

pub returns-in-Some-rebuild_cause : goal.returns-in-Some-rebuild_cause
returns-in-Some-rebuild_cause c =
    refused_back c.args.slots c.args.config.now c.args.seats.now c.args.linux.now c.args.name.now c.args.slot (sym c.in_default-slots_refusal.ensures)
    (c.in_ok-guid.guid, c.in_ok-guid.view) c.in_ok-guid.ensures.may c.in-Some-rebuild_cause.refusal (sym c.in-Some-rebuild_cause.ensures)

pub returns : goal.returns
returns c =
    let named : named_array c.args.config.now.arrays c.args.name.now ≡ Some (c.in-Some.field-0-0, c.in-Some.array.now) =
    subst (λ (config : Configuration). named_array config.arrays c.args.name.now ≡ Some (c.in-Some.field-0-0, c.in-Some.array.now)) c.config.view_is (sym c.in-Some.ensures) in
    back_of c.args.slots c.args.config.now c.args.seats.now c.args.linux.now c.args.name.now c.args.slot (sym c.in_default-slots_refusal.ensures)
    (c.in_ok-guid.guid, c.in_ok-guid.view) c.in_ok-guid.ensures.may (sym c.in_default-rebuild_cause.ensures)
    (c.in-Some.field-0-0, c.in-Some.array.now) named c.planned_back.result c.planned_back.ensures
