use Rattle.std.proofs.Common.{◌≡◌, ◌++◌, drop, filter_map}
use Rattle.ddf_rewrite.specs.Before.{before}
use Rattle.ddf_rewrite.specs.Copies.{recovered_holding}
use Rattle.ddf_rewrite.proofs.recovery.recovered_holdings.Given as goal

abbrev pub invariant-loop-wanted : goal.invariant-loop-wanted
invariant-loop-wanted l =
    l.holdings.items ++ filter_map (recovered_holding l.old (before l.leaders)) (drop l.wanted-index l.all) ≡ filter_map (recovered_holding l.old (before l.leaders)) l.all
