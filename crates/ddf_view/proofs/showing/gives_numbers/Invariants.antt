use Rattle.std.proofs.Common.{◌≡◌, drop, find, is_some}
use Rattle.std.specs.List.{enumerate_from}
use Rattle.ddf_view.proofs.showing.gives_numbers.Given as goal

abbrev pub invariant-loop-index : goal.invariant-loop-index
invariant-loop-index l = find (λ pair. is_some pair.1) (enumerate_from l.index (drop l.index l.array.elements)) ≡ find (λ pair. is_some pair.1) (enumerate_from 0 l.array.elements)
