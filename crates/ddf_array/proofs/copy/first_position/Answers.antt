use Rattle.std.proofs.Common.{◌∙◌, ap, sym, arith, length}
use Rattle.std.specs.Prelude.{option_to_list}
use Rattle.ddf_lemmas.proofs.Options.{none_from_not_some}
use Rattle.ddf_array.specs.Places.{site_at}
use Rattle.ddf_array.proofs.Firsts.{none_more, first_found, by_some, first_option}
use Rattle.ddf_array.proofs.copy.first_position.Goals as goal

pub returns-then-is_some : goal.returns-then-is_some
returns-then-is_some c =
    let places = c.args.part.now.places in
    let n = ap length c.items-position-end.ensures in
    by_some _ _ (sym c.is_some.ensures ∙ c.if-is_some.true)
    (λ x is. first_found (λ position. option_to_list (site_at places position c.args.sector)) (length places) c.loop-position.position x c.loop-position.invariant (omega (arith, n, c.loop-position-test.true))
    (first_option _ ∙ sym c.site_at-site.ensures ∙ is))

pub loop-position-preserved : goal.loop-position-preserved
loop-position-preserved c =
    none_more (λ position. option_to_list (site_at c.args.part.now.places position c.args.sector)) c.loop-position.position c.loop-position.invariant
    (first_option _ ∙ sym c.site_at-site.ensures ∙ none_from_not_some _ (sym c.is_some.ensures ∙ c.if-is_some.false))
