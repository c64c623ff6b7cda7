use Rattle.std.proofs.Common.{◌∙◌}
use Rattle.ddf_tables.proofs.LogValues.{log_again}
use Rattle.ddf_copy.specs.Written.{log_written}
use Rattle.ddf_copy.proofs.sections.present_log_in.Goals as goal

pub returns-in-Ok-clause-written : goal.returns-in-Ok-clause-written
unfolding log_written
returns-in-Ok-clause-written c = log_again c.in-Ok.log c.as_flattened.result.now c.in-Ok.ensures.value ∙ c.as_flattened.ensures.value
