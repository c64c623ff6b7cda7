use Rattle.ddf_header.proofs.Sound.{sound}
use Rattle.ddf_moving.proofs.copies.copy_behind.Goals as goal

pub moved_slots-requires-clause-old : goal.moved_slots-requires-clause-old
moved_slots-requires-clause-old c = sound c.args.old.now.header.geometry c.requires.old.header_can.is_header.has_geometry
