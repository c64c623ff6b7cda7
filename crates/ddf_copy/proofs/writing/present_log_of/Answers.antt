use Rattle.std.proofs.Common.{◌∙◌, arith}
use Rattle.ddf_tables.proofs.LogValues.{section_of_log}
use Rattle.ddf_copy.specs.Written.{log_written}
use Rattle.ddf_copy.proofs.Sectors.{log_is}
use Rattle.ddf_copy.proofs.writing.present_log_of.Goals as goal

pub returns-clause-written : goal.returns-clause-written
unfolding log_written
returns-clause-written c = c.in_ok-sectors.ensures.bytes ∙ c.as_slice.ensures.value ∙ c.put_log.ensures.exact

pub returns-clause-read : goal.returns-clause-read
returns-clause-read c =
    let bytes = c.in_ok-sectors.ensures.bytes ∙ c.as_slice.ensures.value in
    log_is c.in_ok-sectors.sectors c.args.log.now (grind (arith)) (rw bytes (section_of_log c.args.log.now _ (c.put_log.ensures.made c.requires.0)))
