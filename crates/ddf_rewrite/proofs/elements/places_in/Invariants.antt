use Rattle.std.proofs.Common.{◌≡◌, map, take}
use Rattle.ddf_rewrite.specs.Elements.{place_in}
use Rattle.ddf_rewrite.proofs.elements.places_in.Given as goal

abbrev pub invariant-loop-position : goal.invariant-loop-position
invariant-loop-position l = l.places.items ≡ map place_in (take l.position-index l.positions)
