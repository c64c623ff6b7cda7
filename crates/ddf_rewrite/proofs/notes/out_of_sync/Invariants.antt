use Rattle.std.proofs.Common.{◌≡◌, ◌++◌, drop, filter, map, not}
use Rattle.std.specs.List.{enumerate_from}
use Rattle.ddf_rewrite.proofs.notes.out_of_sync.Given as goal

abbrev pub invariant-loop-number : goal.invariant-loop-number
invariant-loop-number l =
    l.out.items ++ map (λ pair. pair.0) (filter (λ pair. not pair.1.synced) (enumerate_from l.number (drop l.number l.positions)))
    ≡ map (λ pair. pair.0) (filter (λ pair. not pair.1.synced) (enumerate_from 0 l.positions))
