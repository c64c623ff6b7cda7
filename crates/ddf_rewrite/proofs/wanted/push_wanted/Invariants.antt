use Rattle.std.proofs.Common.{◌≡◌, ◌++◌, drop, filter_map}
use Rattle.std.specs.List.{enumerate_from}
use Rattle.ddf_rewrite.specs.Wanted.{wanted_at, wanted_of}
use Rattle.ddf_rewrite.proofs.wanted.push_wanted.Given as goal

abbrev pub invariant-loop-index : goal.invariant-loop-index
invariant-loop-index l =
    l.all.items ++ filter_map (wanted_at (l.guid, l.array)) (enumerate_from l.index (drop l.index l.array.elements)) ≡ l.fn.all.items ++ wanted_of (l.guid, l.array)
