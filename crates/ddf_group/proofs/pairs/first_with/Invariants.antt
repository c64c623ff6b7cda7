use Rattle.std.proofs.Common.{◌≡◌, drop}
use Rattle.ddf_group.specs.Pairs.{first_with}
use Rattle.ddf_group.proofs.pairs.first_with.Given as goal

abbrev pub invariant-loop-j : goal.invariant-loop-j
invariant-loop-j g l = first_with (g.T.Contrast.contradicts l.contrast l.i) (drop l.j-index l.others) ≡ first_with (g.T.Contrast.contradicts l.contrast l.i) l.others
