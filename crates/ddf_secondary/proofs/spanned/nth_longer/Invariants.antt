use Rattle.std.proofs.Common.{◌≡◌, slice_get, drop}
use Rattle.ddf_secondary.specs.Spots.{longer_from}
use Rattle.ddf_secondary.proofs.spanned.nth_longer.Given as goal

abbrev pub invariant-loop-element : goal.invariant-loop-element
invariant-loop-element l = slice_get (longer_from l.element (drop l.element l.sizes) l.row) l.left ≡ slice_get (longer_from 0 l.sizes l.row) l.place
