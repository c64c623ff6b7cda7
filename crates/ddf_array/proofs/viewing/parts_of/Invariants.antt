use Rattle.std.proofs.Common.{◌≡◌, length, filter_map, take}
use Rattle.std.specs.Prelude.{All}
use Rattle.ddf_array.specs.Volume.{IsPart}
use Rattle.ddf_array.specs.Viewing.{known_part}
use Rattle.ddf_array.proofs.viewing.parts_of.Given as goal

abbrev pub invariant-loop-part : goal.invariant-loop-part
invariant-loop-part l = record {
  value : l.all.items ≡ filter_map (known_part l.seats (length l.parts)) (take l.part-index l.parts);
  sound : All IsPart l.all.items;
}
