use Rattle.std.proofs.Common.{◌≡◌, ◌<◌, take}
use Rattle.std.specs.Prelude.{fold}
use Rattle.ddf_write.specs.Looking.{in_stripes_of}
use Rattle.ddf_write.proofs.pieces.stripe_blocks.Given as goal

abbrev pub invariant-loop-element : goal.invariant-loop-element
invariant-loop-element l = record {
  some : 0 < l.blocks;
  value : l.blocks ≡ fold in_stripes_of 1 (take l.element l.view.parts);
}
