use Rattle.std.proofs.Common.{◌≡◌, true}
use Rattle.std.specs.Prelude.{is_some}
use Rattle.std.specs.List.{flat_map, range_with_len}
use Rattle.ddf_array.specs.Sources.{all_of}
use Rattle.ddf_array.specs.Sources.{other_at}
use Rattle.ddf_array.proofs.part.Part.has_row.Given as goal

abbrev pub invariant-loop-other : goal.invariant-loop-other
invariant-loop-other l = is_some (all_of (flat_map (other_at l.self.places l.sector l.position) (range_with_len 0 l.other))) ≡ true
