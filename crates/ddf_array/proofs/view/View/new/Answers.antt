use Rattle.std.proofs.Common.{◌∙◌, ap, subst, Option}
use Rattle.std.specs.Map.{lookup}
use Rattle.ddf_config.specs.declared.array.Array.{Array}
use Rattle.ddf_config.specs.Configuration.{Configuration}
use Rattle.ddf_config.specs.Members.{same_guid}
use Rattle.ddf_array.specs.Viewing.{view_by, IsViewAnswer}
use Rattle.ddf_array.proofs.view.View.new.Goals as goal

pub returns-in-Some : goal.returns-in-Some
returns-in-Some c =
    subst (λ (found : Option Array). IsViewAnswer (view_by c.args.config.now c.args.guid.now c.args.seats.now found) c.view_array.result)
    (c.in-Some.ensures.value ∙ ap (λ (config : Configuration). lookup (same_guid c.args.guid.now) config.arrays) c.config.view_is) c.view_array.ensures
