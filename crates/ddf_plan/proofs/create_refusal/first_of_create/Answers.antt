use Rattle.std.proofs.Common.{◌∙◌, [], ◌∷◌, ap}
use Rattle.ddf_config.specs.declared.refusal.Refusal.TheVariants.{NameTaken, Shape, InUse, Clash}
use Rattle.ddf_config.specs.Refusals.{first_refusal, refuse_if}
use Rattle.ddf_plan.specs.Refusals.{not_current, refuse_first}
use Rattle.ddf_plan.specs.CreateRefusal.{is_spare_disk}
use Rattle.ddf_plan.proofs.create_refusal.first_of_create.Goals as goal

pub returns : goal.returns
returns c =
    let config = c.args.config.now in
    let seats = c.args.seats.now in
    let member = c.not_current.ensures ∙ ap (not_current config seats) c.requires.named in
    let name = c.refuse_if.ensures ∙ ap (λ h. refuse_if h NameTaken) c.is_taken.ensures in
    let shape = c.refuse_if-2.ensures ∙ ap (λ h. refuse_if h Shape) c.requires.shape in
    let clash = c.refuse_if-3.ensures ∙ ap (λ h. refuse_if h (Clash c.args.guid)) c.has_array.ensures in
    let used = c.spare_in_use.ensures ∙ ap (refuse_first seats (is_spare_disk config) InUse) c.requires.named in
    c.first_refusal.ensures
    ∙ ap first_refusal (λ j. member j ∷ name j ∷ c.unserved_level.ensures j ∷ shape j ∷ clash j ∷ used j ∷ [])
