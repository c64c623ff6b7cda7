use Rattle.std.proofs.Common.{◌≡◌, drop}
use Rattle.ddf_group.specs.Pairs.{first_pair}
use Rattle.ddf_group.proofs.pairs.first_pair.Given as goal

abbrev pub invariant-loop-place : goal.invariant-loop-place
invariant-loop-place g l = first_pair (g.T.Contrast.contradicts l.contrast) (drop l.place l.all) ≡ first_pair (g.T.Contrast.contradicts l.contrast) l.all
