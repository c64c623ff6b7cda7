use Rattle.std.proofs.Common.{length, inl, inr, ap, arith}
use Rattle.ddf_lemmas.proofs.Options.{some_block}
use Rattle.ddf_secondary.specs.declared.level.SecondaryLevel.TheVariants.{Striped, Mirrored, Concatenated, Spanned}
use Rattle.ddf_secondary.proofs.SpotFacts.{own_number}
use Rattle.ddf_secondary.proofs.TierFacts.{none_past, level_of, level_spots, level_holds}
use Rattle.ddf_secondary.proofs.tiers.Tiers.block_at.Goals as goal
use Rattle.ddf_secondary.proofs.tiers.Tiers.block_at.Goals.{then-from-sizes-via-then-from-sizes, then-from-sizes-via-else-from-sizes+then-spot-carried}

pub returns-then-from-sizes : goal.returns-then-from-sizes
returns-then-from-sizes c =
    none_past c.args.self.now c.args.spot c.elements-sizes.ensures.sound
    (elim c.then-from-sizes.branch [
      | then-from-sizes-via-then-from-sizes w ↦ inl (omega (arith, ap length c.elements-sizes.ensures.value, c.from.ensures, w.if-from-sizes.true))
      | then-from-sizes-via-else-from-sizes+then-spot-carried w ↦ inr (rw w.carried.ensures at w.if-spot-carried.true)
    ])

pub returns-then-sizes-eq1 : goal.returns-then-sizes-eq1
returns-then-sizes-eq1 c = λ block.
    let same = ap length c.elements-sizes.ensures.value in
    some_block _ block
    (own_number c.args.self.now c.args.spot block c.elements-sizes.ensures.sound (inl (omega (arith, same))) (omega (arith, same, c.from.ensures)) (rw c.carried.ensures at c.if-spot-carried.false))

pub returns-in-Mirrored : goal.returns-in-Mirrored
returns-in-Mirrored c = λ block.
    let same = ap length c.elements-sizes.ensures.value in
    some_block _ block
    (own_number c.args.self.now c.args.spot block c.elements-sizes.ensures.sound (inr (level_of _ c.args.self.now Mirrored c.self.view_is c.in-Mirrored.is)) (omega (arith, same, c.from.ensures)) (rw c.carried.ensures at c.if-spot-carried.false))

pub returns-in-Striped : goal.returns-in-Striped
returns-in-Striped c = λ block.
    let listed = level_spots c.args.self.now Striped c.elements-sizes.result.now (level_of _ c.args.self.now Striped c.self.view_is c.in-Striped.is) c.elements-sizes.ensures.value c.elements-sizes.ensures.sound.some c.if-sizes-eq1.false in
    level_holds c.args.self.now Striped c.args.spot _ block (level_of _ c.args.self.now Striped c.self.view_is c.in-Striped.is) (rw (← listed) at (c.block_of_spot-block.ensures block))

pub returns-in-Concatenated : goal.returns-in-Concatenated
returns-in-Concatenated c = λ block.
    let listed = level_spots c.args.self.now Concatenated c.elements-sizes.result.now (level_of _ c.args.self.now Concatenated c.self.view_is c.in-Concatenated.is) c.elements-sizes.ensures.value c.elements-sizes.ensures.sound.some c.if-sizes-eq1.false in
    level_holds c.args.self.now Concatenated c.args.spot _ block (level_of _ c.args.self.now Concatenated c.self.view_is c.in-Concatenated.is) (rw (← listed) at (c.block_of_spot-block-in-Concatenated.ensures block))

pub returns-in-Spanned : goal.returns-in-Spanned
returns-in-Spanned c = λ block.
    let listed = level_spots c.args.self.now Spanned c.elements-sizes.result.now (level_of _ c.args.self.now Spanned c.self.view_is c.in-Spanned.is) c.elements-sizes.ensures.value c.elements-sizes.ensures.sound.some c.if-sizes-eq1.false in
    level_holds c.args.self.now Spanned c.args.spot _ block (level_of _ c.args.self.now Spanned c.self.view_is c.in-Spanned.is) (rw (← listed) at (c.block_of_spot-block-in-Spanned.ensures block))
