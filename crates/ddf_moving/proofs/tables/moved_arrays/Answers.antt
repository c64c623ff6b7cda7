use Rattle.ddf_moving.proofs.Can.{arrays_room}
use Rattle.ddf_moving.proofs.tables.moved_arrays.Goals as goal

pub blank-requires-clause-few : goal.blank-requires-clause-few
blank-requires-clause-few c = (arrays_room c.args.like.now c.section-sectors.result (c.requires.sections_good 2 c.section-sectors.result c.section-sectors.ensures.found)).few

pub blank-requires-clause-room : goal.blank-requires-clause-room
blank-requires-clause-room c = (arrays_room c.args.like.now c.section-sectors.result (c.requires.sections_good 2 c.section-sectors.result c.section-sectors.ensures.found)).room
