use Rattle.std.proofs.Common.{◌≡◌, map, take}
use Rattle.std.specs.Prelude.{All}
use Rattle.ddf_array.specs.Places.{Ends}
use Rattle.ddf_array.specs.Viewing.{place_of}
use Rattle.ddf_array.proofs.viewing.places_of.Given as goal

abbrev pub invariant-loop-position : goal.invariant-loop-position
invariant-loop-position l = record {
  value : l.all.items ≡ map (place_of l.seats l.blocks) (take l.position-index l.positions);
  ends : All (λ place. Ends place l.blocks) l.all.items;
}
