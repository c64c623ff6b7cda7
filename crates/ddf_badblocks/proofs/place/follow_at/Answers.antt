use Rattle.std.proofs.Common.{◌≡◌, ◌+◌, ℕ, ap, ◌∙◌, [], List, slice_index_or, arith}
use Rattle.std.proofs.lemmas.Grind.{common_steps}
use Rattle.ddf_badblocks.specs.declared.range.Range.{Range}
use Rattle.ddf_badblocks.specs.Ranges.{swap}
use Rattle.ddf_badblocks.specs.SwapLaws.{swap_none}
use Rattle.ddf_badblocks.proofs.place.follow_at.Goals as goal

still : (size : ℕ) (ranges : List Range) → ranges ≡ [] → (l : ℕ) → swap size ranges l ≡ l
still size ranges none l = ap (λ (r : List Range). swap size r l) none ∙ swap_none size l

pub returns-in-None-clause-follow : goal.returns-in-None-clause-follow
returns-in-None-clause-follow c = λ k lt.
    let past : slice_index_or c.args.exchanges.now c.args.slot [] ≡ [] = grind (arith, common_steps, c.get.ensures.lookup, c.in-None.is) in
    let one = still c.args.size _ past (c.args.lba + k) in
    let other = still c.args.size _ past c.args.lba in
    omega (arith, one, other)

pub returns-in-None-clause-on_slot : goal.returns-in-None-clause-on_slot
returns-in-None-clause-on_slot c =
    let past : slice_index_or c.args.exchanges.now c.args.slot [] ≡ [] = grind (arith, common_steps, c.get.ensures.lookup, c.in-None.is) in
    let other = still c.args.size _ past c.args.lba in
    omega (arith, other, c.requires.on_slot)
