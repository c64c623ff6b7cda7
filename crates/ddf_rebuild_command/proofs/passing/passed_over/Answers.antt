use Rattle.std.proofs.Common.{◌≡◌, Option, Some, None, ap, ◌∙◌}
use Rattle.std.specs.Map.{lookup}
use Rattle.ddf_config.specs.declared.array.Array.{Array}
use Rattle.ddf_config.specs.Configuration.{Configuration}
use Rattle.ddf_config.specs.Members.{same_guid}
use Rattle.ddf_rebuild_command.specs.PassedOver.{passed_over}
use Rattle.ddf_rebuild_command.proofs.passing.passed_over.Goals as goal

pub returns-in-Some : goal.returns-in-Some
returns-in-Some c = λ array there.
    let both : Some c.in-Some.array.now ≡ Some array =
    c.in-Some.ensures.value ∙ ap (λ (one : Configuration). lookup (same_guid c.args.guid.now) one.arrays) c.config.view_is ∙ there in
    let same : c.in-Some.array.now ≡ array = cc in
    c.passed_by.ensures ∙ ap (passed_over c.args.linux.now) same

pub returns-in-None : goal.returns-in-None
returns-in-None c = λ array there.
    let none : ◌≡◌ {A = Option Array} None (Some array) =
    c.in-None.ensures.value ∙ ap (λ (one : Configuration). lookup (same_guid c.args.guid.now) one.arrays) c.config.view_is ∙ there in
    absurd cc
