use Rattle.std.proofs.Common.{◌≡◌, length, filter_map, take}
use Rattle.ddf_secondary.specs.Sizes.{AreSmall}
use Rattle.ddf_config.specs.Shapes.{part_size}
use Rattle.ddf_config.proofs.shape.sizes.Given as goal

abbrev pub invariant-loop-part : goal.invariant-loop-part
invariant-loop-part l = record {
  value : l.all.items ≡ filter_map (part_size (length l.parts)) (take l.part-index l.parts);
  small : AreSmall l.all.items;
}
