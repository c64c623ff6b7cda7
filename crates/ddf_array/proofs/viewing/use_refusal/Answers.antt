use Rattle.std.proofs.Common.{◌≡◌, ◌∙◌, List, ap, subst}
use Rattle.ddf_config.specs.declared.extent.Extent.{Extent}
use Rattle.ddf_config.specs.Configuration.{Configuration}
use Rattle.ddf_config.specs.Extents.{extents}
use Rattle.ddf_config.specs.Unusable.{unusable}
use Rattle.ddf_array.proofs.viewing.use_refusal.Goals as goal

pub returns : goal.returns
returns c =
    let inside = c.config.inside in
    subst (λ (config : Configuration). c.in_ok-refusal.refusal ≡ unusable config.members c.args.seats.now (extents config.arrays) c.args.guid.now c.args.array.now) c.config.view_is
    (c.in_ok-refusal.ensures
    ∙ ap (λ (l : List Extent). unusable inside.members.entries c.args.seats.now l c.args.guid.now c.args.array.now) c.in_ok-all.ensures)
