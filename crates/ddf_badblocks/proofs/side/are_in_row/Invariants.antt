use Rattle.std.proofs.Common.{◌≡◌, drop}
use Rattle.ddf_badblocks.specs.Sides.{in_row}
use Rattle.ddf_badblocks.proofs.side.are_in_row.Given as goal

abbrev pub invariant-loop-side : goal.invariant-loop-side
invariant-loop-side l = in_row l.from (drop l.side-index l.sides) ≡ in_row 0 l.sides
