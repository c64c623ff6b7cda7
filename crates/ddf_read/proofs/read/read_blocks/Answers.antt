use Rattle.std.proofs.Common.{◌∙◌, sym}
use Rattle.ddf_read.proofs.Sourced.{have_sources}
use Rattle.ddf_read.proofs.read.read_blocks.Goals as goal

pub read_all-requires-clause-sources : goal.read_all-requires-clause-sources
read_all-requires-clause-sources g c = have_sources c.args.view.now c.in_default.ensures.sound c.args.start _ (sym c.read_refusal.ensures.value ∙ c.in_default.is)
