use Rattle.std.proofs.Common.{◌∙◌}
use Rattle.ddf_tables.specs.Arrays.{array_signature, HaveGuids}
use Rattle.ddf_tables.proofs.ArrayRows.{array_laws}
use Rattle.ddf_tables.proofs.TableSections.{table_again}
use Rattle.ddf_copy.specs.Written.{arrays_written}
use Rattle.ddf_copy.proofs.sections.arrays_in.Goals as goal

pub returns-in-Ok-clause-written : goal.returns-in-Ok-clause-written
unfolding arrays_written
returns-in-Ok-clause-written c =
    table_again array_laws array_signature HaveGuids c.args.header.now.geometry.max_arrays c.in-Ok.arrays c.as_flattened.result.now c.in-Ok.ensures.value
    ∙ c.as_flattened.ensures.value
