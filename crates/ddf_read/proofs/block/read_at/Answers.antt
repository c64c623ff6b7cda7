use Rattle.std.proofs.Common.{refl}
use Rattle.ddf_array.proofs.Elements.{at_found, at_none}
use Rattle.ddf_read.specs.Kinds.{sources_in}
use Rattle.ddf_read.proofs.block.read_at.Goals as goal

pub read_in-requires-clause-part : goal.read_in-requires-clause-part
read_in-requires-clause-part g c = c.in-Some.ensures.sound.are_parts c.args.element c.in-Some.part.now c.in-Some.ensures.found

pub read_in-requires-clause-fits : goal.read_in-requires-clause-fits
read_in-requires-clause-fits g c = c.requires.fits c.args.element c.in-Some.part.now c.in-Some.ensures.found

pub read_in-requires-clause-block : goal.read_in-requires-clause-block
read_in-requires-clause-block g c = c.requires.block c.in-Some.part.now c.in-Some.ensures.found

pub returns-in-Some-clause-tried : goal.returns-in-Some-clause-tried
returns-in-Some-clause-tried g c = rw (at_found c.args.view.now.parts (sources_in c.args.kind) c.args.block c.args.element c.in-Some.part.now c.in-Some.ensures.found) c.read_in.ensures.tried

pub returns-in-None-clause-tried : goal.returns-in-None-clause-tried
returns-in-None-clause-tried g c = rw (at_none c.args.view.now.parts (sources_in c.args.kind) c.args.block c.args.element c.in-None.ensures.found) refl
