use Rattle.std.proofs.Common.{◌≡◌, ◌∙◌, Bool, false, not, sym, ap}
use Rattle.std.proofs.lemmas.List.Folds.{list_all_at}
use Rattle.std.specs.List.{list_all}
use Rattle.ddf_rewrite.specs.Before.{before}
use Rattle.ddf_rewrite.specs.Elements.{has_places}
use Rattle.ddf_rewrite.specs.Room.{spares_before}
use Rattle.ddf_rewrite.specs.Wanted.{Wanted}
use Rattle.ddf_rewrite.proofs.room.lacks_places.Goals as goal

pub returns-then-not-branch : goal.returns-then-not-branch
returns-then-not-branch c =
    let has : Wanted → Bool = λ wanted. has_places c.args.config.now wanted.guid (spares_before (before c.args.leaders.now) wanted) in
    let lacks : list_all has c.args.all.now ≡ false =
    list_all_at has c.args.all.now c.loop-wanted.wanted-index c.wanted-item.result c.loop-wanted-test.true
    (ap has (sym c.wanted-item.is) ∙ sym c.in_ok-has_places_for.ensures ∙ c.if-not-branch.true) in
    sym (ap not (sym (ap (list_all has) c.requires) ∙ lacks))
