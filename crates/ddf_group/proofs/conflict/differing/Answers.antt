use Rattle.std.proofs.Common.{◌≡◌, ◌∙◌, sym, ap, true}
use Rattle.ddf_view.specs.Alike.{are_alike}
use Rattle.ddf_view.proofs.AlikeCopies.{alike_agree}
use Rattle.ddf_group.proofs.Alike.{none_found, views_at}
use Rattle.ddf_group.proofs.conflict.differing.Goals as goal

pub returns-then-are_alike : goal.returns-then-are_alike
returns-then-are_alike c =
    let slots = c.args.slots.now in
    let leading = c.args.leading.now in
    let views : c.deref.result.now ≡ views_at slots leading = c.deref.ensures.value ∙ c.in_ok-views.ensures in
    let alike : are_alike (views_at slots leading) ≡ true = sym (c.are_alike.ensures ∙ ap are_alike views) ∙ c.if-are_alike.true in
    sym (none_found slots c.args.group.now leading (alike_agree (views_at slots leading) alike))
