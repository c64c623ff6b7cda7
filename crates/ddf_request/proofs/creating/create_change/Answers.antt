use Rattle.std.proofs.Common.{◌∙◌, List, ℕ, Option, Err, sym, ap}
use Rattle.ddf_config.specs.declared.array.Array.{Array}
use Rattle.ddf_config.specs.declared.refusal.Refusal.{Refusal}
use Rattle.ddf_plan.specs.declared.change.Change.{Change}
use Rattle.ddf_plan.specs.declared.change.Change.TheVariants.{Create}
use Rattle.ddf_request.specs.NewArray.{new_array, new_array_guid, unfit_refusal}
use Rattle.ddf_request.specs.Request.{if_fits}
use Rattle.ddf_request.proofs.creating.create_change.Goals as goal

-- an array that is refused beside the plan
pub returns-in-Some : goal.returns-in-Some
returns-in-Some c =
    let config = c.args.config.now in
    let seats = c.args.seats.now in
    let change : Change = Create (new_array_guid config c.args.stamp.now) (new_array config seats c.args.creation.now) in
    let same = c.in_ok-refusal.ensures
    ∙ ap (λ (guid : List ℕ). unfit_refusal c.in-Some.last config seats (Create guid c.in_ok-array.array)) c.new_array_guid.ensures
    ∙ ap (λ (array : Array). unfit_refusal c.in-Some.last config seats (Create (new_array_guid config c.args.stamp.now) array)) c.in_ok-array.ensures in
    ap (λ (first : Option Refusal). if_fits first config seats change) (sym c.in_ok-last.ensures ∙ c.in-Some.is)
    ∙ ap (λ (refusal : Refusal). Err refusal) (sym same)
