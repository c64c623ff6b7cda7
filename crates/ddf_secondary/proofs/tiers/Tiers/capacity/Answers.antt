use Rattle.std.proofs.Common.{◌∙◌, ap, sym, length}
use Rattle.ddf_secondary.specs.declared.level.SecondaryLevel.TheVariants.{Striped, Mirrored, Concatenated, Spanned}
use Rattle.ddf_secondary.proofs.Blocks.{length-blocks}
use Rattle.ddf_secondary.proofs.TierFacts.{single_spots, level_spots, level_of}
use Rattle.ddf_secondary.proofs.tiers.Tiers.capacity.Goals as goal

pub returns-then-sizes-eq1-clause-value : goal.returns-then-sizes-eq1-clause-value
returns-then-sizes-eq1-clause-value c =
    sym (ap length (single_spots c.args.self.now c.elements-sizes.result.now _ c.elements-sizes.ensures.value c.if-sizes-eq1.true) ∙ length-blocks 0 _ 0)

pub returns-in-Striped-clause-value : goal.returns-in-Striped-clause-value
returns-in-Striped-clause-value c =
    c.capacity.ensures ∙ sym (ap length (level_spots c.args.self.now Striped c.elements-sizes.result.now (level_of _ c.args.self.now Striped c.self.view_is c.in-Striped.is) c.elements-sizes.ensures.value c.elements-sizes.ensures.sound.some c.if-sizes-eq1.false))

pub returns-in-Concatenated-clause-value : goal.returns-in-Concatenated-clause-value
returns-in-Concatenated-clause-value c =
    c.capacity-in-Concatenated.ensures ∙ sym (ap length (level_spots c.args.self.now Concatenated c.elements-sizes.result.now (level_of _ c.args.self.now Concatenated c.self.view_is c.in-Concatenated.is) c.elements-sizes.ensures.value c.elements-sizes.ensures.sound.some c.if-sizes-eq1.false))

pub returns-in-Spanned-clause-value : goal.returns-in-Spanned-clause-value
returns-in-Spanned-clause-value c =
    c.capacity-in-Spanned.ensures ∙ sym (ap length (level_spots c.args.self.now Spanned c.elements-sizes.result.now (level_of _ c.args.self.now Spanned c.self.view_is c.in-Spanned.is) c.elements-sizes.ensures.value c.elements-sizes.ensures.sound.some c.if-sizes-eq1.false))

pub returns-in-Mirrored-clause-value : goal.returns-in-Mirrored-clause-value
returns-in-Mirrored-clause-value c =
    c.least_capacity.ensures ∙ sym (ap length (level_spots c.args.self.now Mirrored c.elements-sizes.result.now (level_of _ c.args.self.now Mirrored c.self.view_is c.in-Mirrored.is) c.elements-sizes.ensures.value c.elements-sizes.ensures.sound.some c.if-sizes-eq1.false) ∙ length-blocks 0 _ 0)
