use Rattle.std.proofs.Common.{arith}
use Rattle.std.proofs.lemmas.Grind.{common_steps}
use Rattle.std.proofs.lemmas.List.Elements.{All-push}
use Rattle.ddf_array.specs.declared.place.Place.{Place}
use Rattle.ddf_array.specs.Places.{Ends}
use Rattle.ddf_array.proofs.viewing.places_of.Goals as goal

pub loop-position-preserved : goal.loop-position-preserved
loop-position-preserved c = record {
  value = grind (arith, common_steps);
  ends = rw c.in_ok-push.ensures.items (All-push (λ (place : Place). Ends place c.args.blocks) _ _ c.loop-position.invariant.ends c.place_of.ensures.ends);
}
