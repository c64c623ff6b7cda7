use Rattle.std.proofs.Common.{subst}
use Rattle.std.proofs.lemmas.Result.{err_from_is_err_and}
use Rattle.std.specs.List.{IsDistinct}
use Rattle.std.specs.Map.{keys_of}
use Rattle.ddf_config.specs.Configuration.{Configuration}
use Rattle.ddf_config.specs.Members.{same_guid}
use Rattle.ddf_rebuild_command.proofs.PlanMade.{fresh_planned, has_new, not_fresh}
use Rattle.ddf_rebuild_command.proofs.planning.fresh.Goals as goal

pub spare_view-requires : goal.spare_view-requires
spare_view-requires c = has_new c.args.config.now c.args.guid c.args.seats.now _ c.args.target c.args.change c.requires.begun.1

pub returns-in_err-view : goal.returns-in_err-view
returns-in_err-view c = λ aside array found rows_is begins.
    let failed = err_from_is_err_and c.from_residual.result c.from_residual.ensures.1 in
    let before = c.requires.viewed in
    let apart = subst (λ (config : Configuration). IsDistinct same_guid (keys_of config.arrays)) c.config.view_is c.len-arrays.ensures.unique in
    rw (failed.1, failed.2)
    (not_fresh c.args.config.now c.args.seats.now aside c.args.guid array found c.args.target c.args.change begins before.0 before.1 before.2 apart c.in_err-view.field-0.0
    c.in_err-view.ensures.viewed)

pub returns : goal.returns
returns c = λ aside array found rows_is begins.
    let before = c.requires.viewed in
    let apart = subst (λ (config : Configuration). IsDistinct same_guid (keys_of config.arrays)) c.config.view_is c.len-arrays.ensures.unique in
    fresh_planned c.args.config.now c.args.seats.now aside c.args.guid array found c.args.target c.args.change begins before.0 before.1 before.2 apart c.spare_view.ensures.fits
    c.in_ok-view.view c.in_ok-view.ensures.viewed c.parts-parts.ensures.sound c.args.rows rows_is c.requires.few c.in_ok-plan.plan c.in_ok-plan.ensures
