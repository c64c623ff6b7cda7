use Rattle.std.proofs.Common.{◌≡◌, slice_get, drop}
use Rattle.ddf_secondary.specs.Spots.{one_after_another}
use Rattle.ddf_secondary.proofs.concatenated.spot_of_block.Given as goal

abbrev pub invariant-loop-element : goal.invariant-loop-element
invariant-loop-element l = slice_get (one_after_another l.element (drop l.element l.sizes)) l.left ≡ slice_get (one_after_another 0 l.sizes) l.block
