use Rattle.ddf_header.proofs.Sound.{sound}
use Rattle.ddf_copy.proofs.run.runs_of.Goals as goal

pub runs_at-requires : goal.runs_at-requires
runs_at-requires c = sound c.args.copy.now.header.geometry c.requires.header_can.is_header.has_geometry
