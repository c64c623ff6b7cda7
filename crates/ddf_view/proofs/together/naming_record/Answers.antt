use Rattle.std.proofs.Common.{sym, ◌∙◌}
use Rattle.ddf_view.specs.View.{find_held}
use Rattle.ddf_view.specs.Reading.{elements_in, naming_record}
use Rattle.ddf_view.proofs.Views.{ends_here, goes_on}
use Rattle.ddf_view.proofs.together.naming_record.Goals as goal

pub loop-index-preserved : goal.loop-index-preserved
unfolding naming_record
loop-index-preserved c =
    goes_on (λ index. find_held c.args.array.now index (elements_in c.args.views.now)) 16 c.loop-index.index c.loop-index-test.true (sym c.find_held.ensures ∙ c.in_default.is)
    ∙ c.loop-index.invariant

pub returns-in-Some : goal.returns-in-Some
unfolding naming_record
returns-in-Some c =
    sym
    (sym c.loop-index.invariant
    ∙ ends_here (λ index. find_held c.args.array.now index (elements_in c.args.views.now)) 16 c.loop-index.index c.in-Some.held c.loop-index-test.true (sym c.find_held.ensures ∙ c.in-Some.is))
