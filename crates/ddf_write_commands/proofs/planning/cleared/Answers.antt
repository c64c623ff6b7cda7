use Rattle.std.proofs.Common.{rules, ◌≡◌, ◌∙◌, Bool, [], ◌∷◌, Some, None, if◌then◌else◌, ap, sym, arith}
use Rattle.std.proofs.lemmas.Grind.{common_steps}
use Rattle.std.specs.Map.{lookup}
use Rattle.std.proofs.lemmas.Option.{none-some, same_Some}
use Rattle.ddf_config.specs.declared.array.Array.{Array}
use Rattle.ddf_config.specs.Members.{same_guid}
use Rattle.ddf_plan.specs.declared.change.Change.TheVariants.{Unmark}
use Rattle.ddf_write_commands.proofs.planning.cleared.Goals as goal

pub returns-in-Some : goal.returns-in-Some
returns-in-Some c = λ array found.
    let here : lookup (same_guid c.args.guid) c.args.config.now.arrays ≡ Some c.in-Some.array.now = first_of (search rules, grind (arith, common_steps)) in
    ap (λ (one : Array). Unmark c.args.guid one.init ∷ []) (same_Some c.in-Some.array.now array (sym here ∙ found))
    ∙ ap (λ (b : Bool). if b then Unmark c.args.guid array.init ∷ [] else []) c.if-not-redundant.ensures

pub returns-in-None : goal.returns-in-None
returns-in-None c = λ array found.
    let none : lookup (same_guid c.args.guid) c.args.config.now.arrays ≡ None = first_of (search rules, grind (arith, common_steps)) in
    absurd (none-some array (sym none ∙ found))
