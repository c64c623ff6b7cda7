use Rattle.std.proofs.Common.{◌≡◌, sym, ap, ◌∙◌, [], List, slice_index_or, arith}
use Rattle.std.proofs.lemmas.Grind.{common_steps}
use Rattle.ddf_badblocks.specs.declared.range.Range.{Range}
use Rattle.ddf_badblocks.specs.Ranges.{swap}
use Rattle.ddf_badblocks.specs.SwapLaws.{swap_none}
use Rattle.ddf_badblocks.proofs.place.swap_at.Goals as goal

pub returns-in-None-clause-exact : goal.returns-in-None-clause-exact
returns-in-None-clause-exact c =
    let past : slice_index_or c.args.exchanges.now c.args.slot [] ≡ [] = grind (arith, common_steps, c.get.ensures.lookup, c.in-None.is) in
    sym (ap (λ (ranges : List Range). swap c.args.size ranges c.args.lba) past ∙ swap_none c.args.size c.args.lba)
