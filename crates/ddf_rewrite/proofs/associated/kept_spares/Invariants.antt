use Rattle.std.proofs.Common.{◌≡◌, ◌++◌, drop, map, take}
use Rattle.ddf_rewrite.specs.Elements.{kept_spare}
use Rattle.ddf_rewrite.proofs.associated.kept_spares.Given as goal

abbrev pub invariant-loop-place : goal.invariant-loop-place
invariant-loop-place l = l.place-items ≡ map (kept_spare l.config l.dedicated) (take l.place-index l.spares) ++ drop l.place-index l.spares
