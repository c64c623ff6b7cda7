use Rattle.std.proofs.Common.{◌≡◌, Option, Some, None, sym, ap, ◌∙◌}
use Rattle.std.specs.Map.{lookup}
use Rattle.ddf_config.specs.declared.array.Array.{Array}
use Rattle.ddf_config.specs.Configuration.{Configuration}
use Rattle.ddf_config.specs.Members.{same_guid}
use Rattle.ddf_repair.specs.Choose.{back_from, chosen}
use Rattle.ddf_repair.proofs.choosing.choose.Goals as goal

pub array_back-requires : goal.array_back-requires
array_back-requires c =
    c.requires c.in-Some.found.now
    (sym (ap (λ (config : Configuration). lookup (same_guid c.args.array.now) config.arrays) c.config.view_is) ∙ sym c.in-Some.ensures.value)

pub returns-in-Some : goal.returns-in-Some
unfolding chosen
returns-in-Some c =
    let guid = c.args.array.now in
    let seats = c.args.seats.now in
    let there : lookup (same_guid guid) c.args.config.now.arrays ≡ Some c.in-Some.found.now =
    sym (ap (λ (one : Configuration). lookup (same_guid guid) one.arrays) c.config.view_is) ∙ sym c.in-Some.ensures.value in
    c.array_back.ensures ∙ ap (λ (found : Option Array). elim found [ None ↦ None | Some array ↦ back_from seats 0 array.elements ]) (sym there)
