use Rattle.std.proofs.Common.{sym, ap, subst}
use Rattle.std.specs.Option.{option_copied}
use Rattle.ddf_config_records.specs.Elements.{CanBeElement}
use Rattle.ddf_config_records.specs.ElementValue.{ElementValue}
use Rattle.ddf_config_records.proofs.ElementRecords.{allowed}
use Rattle.ddf_view.specs.View.{HeldRecord}
use Rattle.ddf_rewrite.proofs.elements.changed_over.Goals as goal

pub over-requires-clause-few_before : goal.over-requires-clause-few_before
over-requires-clause-few_before c = allowed c.args.geometry.now c.args.leader.now c.requires.leader.is_element

pub over_own-requires-clause-own : goal.over_own-requires-clause-own
over_own-requires-clause-own c =
    subst (λ (element : ElementValue). CanBeElement c.args.geometry.now element) (sym (ap (λ (held : HeldRecord). held.element) c.held.view_is))
    (c.requires.own c.in-Some.held.now (ap option_copied c.in-Some.is))

pub returns-in-Some : goal.returns-in-Some
returns-in-Some c = rw (c.in-Some.is, ← c.held.view_is) c.over_own.ensures
