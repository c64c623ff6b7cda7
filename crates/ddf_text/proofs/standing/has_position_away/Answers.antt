use Rattle.std.proofs.Common.{◌∙◌, not, ap}
use Rattle.std.specs.Prelude.{nat_lt}
use Rattle.std.specs.List.{list_any}
use Rattle.ddf_config.specs.declared.element.Position.{Position}
use Rattle.ddf_config.specs.ElementValue.{ElementValue}
use Rattle.ddf_array.specs.Viewing.{is_seated}
use Rattle.ddf_text.proofs.Counts.{some_fail}
use Rattle.ddf_text.proofs.standing.has_position_away.Goals as goal

pub returns-in-Some : goal.returns-in-Some
returns-in-Some c =
    rw c.in-Some.is
    (ap (nat_lt 0) c.count_away.ensures ∙ some_fail (is_seated c.args.seats.now) c.as_slice.result.now
    ∙ ap (list_any (λ (position : Position). not (is_seated c.args.seats.now position))) c.as_slice.ensures.value
    ∙ ap (λ (element : ElementValue). list_any (λ (position : Position). not (is_seated c.args.seats.now position)) element.positions) c.element.view_is)
