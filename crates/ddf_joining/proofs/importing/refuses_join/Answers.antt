use Rattle.std.proofs.Common.{◌≡◌, sym, ap, ◌∙◌}
use Rattle.ddf_config.specs.declared.refusal.Refusal.TheVariants.{Unsettled}
use Rattle.ddf_config.specs.Refusals.{first_refusal, refuse_if}
use Rattle.ddf_joining.specs.Importing.{first_causes}
use Rattle.ddf_joining.proofs.FirstCauses.{first_is, joins_another}
use Rattle.ddf_joining.proofs.importing.refuses_join.Goals as goal

pub returns-clause-first : goal.returns-clause-first
returns-clause-first c =
    first_is c.args.group.now c.args.other.now c.first_refusal.result c.in_ok-first.first c.in_ok-clash.clash c.refuse_if-own.result c.first_refusal.ensures c.in_ok-first.ensures
    c.in_ok-clash.ensures (c.refuse_if-own.ensures ∙ ap (λ holds. refuse_if holds Unsettled) c.has_own.ensures)

pub returns-clause-of_another : goal.returns-clause-of_another
returns-clause-of_another c = λ none.
    let first : c.first_refusal.result ≡ first_refusal (first_causes c.args.group.now c.args.other.now) =
    first_is c.args.group.now c.args.other.now c.first_refusal.result c.in_ok-first.first c.in_ok-clash.clash c.refuse_if-own.result c.first_refusal.ensures c.in_ok-first.ensures
    c.in_ok-clash.ensures (c.refuse_if-own.ensures ∙ ap (λ holds. refuse_if holds Unsettled) c.has_own.ensures) in
    joins_another c.args.group.now c.args.other.now (sym first ∙ none)
