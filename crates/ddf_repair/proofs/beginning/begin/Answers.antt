use Rattle.std.proofs.Common.{◌≡◌, ◌++◌, Option, Some, None, Ok, sym, ap, subst, ◌∙◌}
use Rattle.std.specs.Map.{lookup}
use Rattle.ddf_config.specs.declared.array.Array.{Array}
use Rattle.ddf_config.specs.Configuration.{Configuration}
use Rattle.ddf_config.specs.Members.{same_guid}
use Rattle.ddf_repair.specs.declared.beginning.Begun.TheVariants.{Nothing}
use Rattle.ddf_repair.specs.First.{first_out}
use Rattle.ddf_plan.specs.CreateRefusal.{references}
use Rattle.ddf_repair.specs.Begin.{IsBegun, begun, begun_in}
use Rattle.ddf_repair.proofs.beginning.begin.Goals as goal

pub begun_in-requires : goal.begun_in-requires
begun_in-requires c =
    c.requires c.in-Some.found.now
    (sym (ap (λ (config : Configuration). lookup (same_guid c.args.array.now) config.arrays) c.config.view_is) ∙ sym c.in-Some.ensures.value)

pub returns-in-Some : goal.returns-in-Some
unfolding begun
returns-in-Some c =
    let config = c.args.config.now in
    let guid = c.args.array.now in
    let seats = c.args.seats.now in
    let there : lookup (same_guid guid) config.arrays ≡ Some c.in-Some.found.now =
    sym (ap (λ (one : Configuration). lookup (same_guid guid) one.arrays) c.config.view_is) ∙ sym c.in-Some.ensures.value in
    subst (λ (found : Option Array). IsBegun (elim found [ None ↦ Ok Nothing | Some array ↦ begun_in config guid seats (c.args.aside.now ++ references array) (first_out array) ]) c.begun_in.result) (sym there) c.begun_in.ensures
