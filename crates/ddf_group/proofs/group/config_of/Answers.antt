use Rattle.std.proofs.Common.{sym, subst, ◌∙◌, List}
use Rattle.ddf_view.specs.View.{View}
use Rattle.ddf_view.specs.Readable.{DoNamesDiffer}
use Rattle.ddf_group.proofs.Named.{named_views}
use Rattle.ddf_group.proofs.group.config_of.Goals as goal

pub read-requires : goal.read-requires
read-requires c =
    subst (λ (views : List View). DoNamesDiffer views) (sym (c.deref.ensures.value ∙ c.in_ok-views.ensures)) (named_views c.args.slots.now c.requires.named c.args.leading.now)
