use Rattle.std.proofs.Common.{◌≡◌, ◌<◌, ◌^◌, ℕ, Some, None, map, take}
use Rattle.std.specs.Prelude.{slice_get}
use Rattle.ddf_config.specs.Shapes.{array_capacity}
use Rattle.ddf_rewrite.specs.Before.{before, leading_record}
use Rattle.ddf_rewrite.specs.Copies.{changed_holding}
use Rattle.ddf_rewrite.specs.Wanted.{Wanted}
use Rattle.ddf_rewrite.proofs.copies.changed_holdings.Given as goal

abbrev pub invariant-loop-wanted : goal.invariant-loop-wanted
invariant-loop-wanted l = record {
  made : l.holdings.items ≡ map (changed_holding l.old (before l.leaders) l.issue.config.now l.issue.timestamp) (take l.wanted-index l.all);
  sizes : (n : ℕ) (one : Wanted) → n < l.wanted-index → slice_get l.all n ≡ Some one → leading_record (before l.leaders) one.guid one.index ≡ None → array_capacity one.array < 2 ^ 64;
}
