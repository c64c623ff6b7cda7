use Rattle.std.proofs.Common.{refl}
use Rattle.ddf_header.specs.declared.kind.HeaderKind.TheVariants.{Anchor}
use Rattle.ddf_update.proofs.prepared.prepare.Goals as goal

pub returns : goal.returns
returns c = record {
  mode_is = refl;
  first_is = rw c.written_first-first.ensures at c.gate_of.ensures;
  second_is = rw (c.other.ensures, c.written_first-first.ensures) at c.gate_of-2.ensures;
  runs_are = c.in_ok-runs.ensures;
  anchor_is = rw c.anchor_header.ensures.value at (c.encode.ensures.made Anchor (c.anchor_header.ensures.writable c.requires));
}
