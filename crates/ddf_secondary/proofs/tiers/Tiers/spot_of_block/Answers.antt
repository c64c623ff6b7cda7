use Rattle.std.proofs.Common.{◌∙◌, ap, slice_get}
use Rattle.ddf_secondary.specs.declared.level.SecondaryLevel.TheVariants.{Striped, Mirrored, Concatenated, Spanned}
use Rattle.ddf_secondary.proofs.TierFacts.{single_spots, level_spots, level_of, own_spot_is}
use Rattle.ddf_secondary.proofs.tiers.Tiers.spot_of_block.Goals as goal

pub returns-then-sizes-eq1-clause-spot : goal.returns-then-sizes-eq1-clause-spot
returns-then-sizes-eq1-clause-spot c =
    let listed = single_spots c.args.self.now c.elements-sizes.result.now (record { capacity = 0; unit = 0; rows = 0 }) c.elements-sizes.ensures.value c.if-sizes-eq1.true in
    rw listed (own_spot_is _ c.args.block (rw listed at c.requires))

pub spot_of_block-requires-clause-within : goal.spot_of_block-requires-clause-within
spot_of_block-requires-clause-within c =
    let listed = level_spots c.args.self.now Striped c.elements-sizes.result.now (level_of _ c.args.self.now Striped c.self.view_is c.in-Striped.is) c.elements-sizes.ensures.value c.elements-sizes.ensures.sound.some c.if-sizes-eq1.false in
    rw listed at c.requires

pub returns-in-Striped-clause-spot : goal.returns-in-Striped-clause-spot
returns-in-Striped-clause-spot c =
    ap (λ items. slice_get items c.args.block) (level_spots c.args.self.now Striped c.elements-sizes.result.now (level_of _ c.args.self.now Striped c.self.view_is c.in-Striped.is) c.elements-sizes.ensures.value c.elements-sizes.ensures.sound.some c.if-sizes-eq1.false) ∙ c.spot_of_block.ensures

pub spot_of_block-requires-in-Concatenated-clause-within : goal.spot_of_block-requires-in-Concatenated-clause-within
spot_of_block-requires-in-Concatenated-clause-within c =
    let listed = level_spots c.args.self.now Concatenated c.elements-sizes.result.now (level_of _ c.args.self.now Concatenated c.self.view_is c.in-Concatenated.is) c.elements-sizes.ensures.value c.elements-sizes.ensures.sound.some c.if-sizes-eq1.false in
    rw listed at c.requires

pub returns-in-Concatenated-clause-spot : goal.returns-in-Concatenated-clause-spot
returns-in-Concatenated-clause-spot c =
    ap (λ items. slice_get items c.args.block) (level_spots c.args.self.now Concatenated c.elements-sizes.result.now (level_of _ c.args.self.now Concatenated c.self.view_is c.in-Concatenated.is) c.elements-sizes.ensures.value c.elements-sizes.ensures.sound.some c.if-sizes-eq1.false) ∙ c.spot_of_block-in-Concatenated.ensures

pub spot_of_block-requires-in-Spanned-clause-within : goal.spot_of_block-requires-in-Spanned-clause-within
spot_of_block-requires-in-Spanned-clause-within c =
    let listed = level_spots c.args.self.now Spanned c.elements-sizes.result.now (level_of _ c.args.self.now Spanned c.self.view_is c.in-Spanned.is) c.elements-sizes.ensures.value c.elements-sizes.ensures.sound.some c.if-sizes-eq1.false in
    rw listed at c.requires

pub returns-in-Spanned-clause-spot : goal.returns-in-Spanned-clause-spot
returns-in-Spanned-clause-spot c =
    ap (λ items. slice_get items c.args.block) (level_spots c.args.self.now Spanned c.elements-sizes.result.now (level_of _ c.args.self.now Spanned c.self.view_is c.in-Spanned.is) c.elements-sizes.ensures.value c.elements-sizes.ensures.sound.some c.if-sizes-eq1.false) ∙ c.spot_of_block-in-Spanned.ensures

pub returns-in-Mirrored-clause-spot : goal.returns-in-Mirrored-clause-spot
returns-in-Mirrored-clause-spot c =
    let listed = level_spots c.args.self.now Mirrored c.elements-sizes.result.now (level_of _ c.args.self.now Mirrored c.self.view_is c.in-Mirrored.is) c.elements-sizes.ensures.value c.elements-sizes.ensures.sound.some c.if-sizes-eq1.false in
    rw listed (own_spot_is _ c.args.block (rw listed at c.requires))
