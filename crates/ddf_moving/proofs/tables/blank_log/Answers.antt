use Rattle.ddf_moving.proofs.Can.{log_few}
use Rattle.ddf_moving.proofs.tables.blank_log.Goals as goal

pub blank-requires-clause-few : goal.blank-requires-clause-few
blank-requires-clause-few c = log_few c.args.like.now c.section-sectors.result (c.requires.sections_good 5 c.section-sectors.result c.section-sectors.ensures.found)
