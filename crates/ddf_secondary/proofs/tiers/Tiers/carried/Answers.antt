use Rattle.std.proofs.Common.{arith}
use Rattle.ddf_secondary.specs.declared.level.SecondaryLevel.TheVariants.{Striped}
use Rattle.ddf_secondary.proofs.ArrayFacts.{striped_share, least_small}
use Rattle.ddf_secondary.proofs.TierFacts.{level_of, array_at}
use Rattle.ddf_secondary.proofs.tiers.Tiers.carried.Goals as goal

pub overflow_mul-result : goal.overflow_mul-result
overflow_mul-result c =
    let sizes = c.elements-sizes.result.now in
    let array = array_at c.args.self.now Striped sizes (level_of _ c.args.self.now Striped c.self.view_is c.in-Striped.is) c.elements-sizes.ensures.value c.elements-sizes.ensures.sound in
    rw (c.least_rows.ensures, c.unit_of.ensures)
    (omega (arith, least_small sizes array.some (striped_share sizes array) array.small))
