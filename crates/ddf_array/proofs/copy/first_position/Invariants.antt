use Rattle.std.proofs.Common.{◌≡◌, []}
use Rattle.std.specs.Prelude.{option_to_list}
use Rattle.std.specs.List.{flat_map, range_with_len}
use Rattle.ddf_array.specs.Places.{site_at}
use Rattle.ddf_array.proofs.copy.first_position.Given as goal

abbrev pub invariant-loop-position : goal.invariant-loop-position
invariant-loop-position l = flat_map (λ position. option_to_list (site_at l.part.places position l.sector)) (range_with_len 0 l.position) ≡ []
