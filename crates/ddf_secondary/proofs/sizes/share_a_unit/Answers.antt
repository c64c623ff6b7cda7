use Rattle.std.proofs.Common.{◌∙◌}
use Rattle.ddf_secondary.proofs.SizeFacts.{share_is}
use Rattle.ddf_secondary.proofs.sizes.share_a_unit.Goals as goal

pub returns-then-unit-gt0 : goal.returns-then-unit-gt0
returns-then-unit-gt0 c =
    (rw c.unit_of-unit.ensures at c.all_have.ensures) ∙ share_is c.args.sizes.now c.requires (rw c.unit_of-unit.ensures at c.if-unit-gt0.true)
