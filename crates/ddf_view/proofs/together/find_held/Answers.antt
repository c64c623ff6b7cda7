use Rattle.std.proofs.Common.{refl, sym, ◌∙◌}
use Rattle.ddf_view.specs.View.{find_held}
use Rattle.ddf_view.specs.Reading.{elements_in}
use Rattle.ddf_view.proofs.Search.{found, passed}
use Rattle.ddf_view.proofs.Views.{held_views}
use Rattle.ddf_view.proofs.together.find_held.Goals as goal

pub returns-in-Some : goal.returns-in-Some
returns-in-Some c =
    sym
    (found (λ n view. find_held c.args.array.now c.args.index view.elements) (λ n views. find_held c.args.array.now c.args.index (elements_in views))
    (λ n. refl) (λ n view views. held_views c.args.array.now c.args.index view views) c.args.views.now c.loop-view.view-index c.loop-view.invariant
    c.view-item.result c.in-Some.held c.loop-view-test.true c.view-item.is (sym c.find_held.ensures ∙ c.in-Some.is))

pub loop-view-preserved : goal.loop-view-preserved
loop-view-preserved c =
    passed (λ n view. find_held c.args.array.now c.args.index view.elements) (λ n views. find_held c.args.array.now c.args.index (elements_in views))
    (λ n. refl) (λ n view views. held_views c.args.array.now c.args.index view views) c.args.views.now c.loop-view.view-index c.loop-view.invariant
    c.view-item.result c.loop-view-test.true c.view-item.is (sym c.find_held.ensures ∙ c.in_default.is)
