use Rattle.std.proofs.Common.{◌∙◌}
use Rattle.ddf_tables.specs.Disks.{disk_signature, HaveReferences}
use Rattle.ddf_tables.proofs.DiskRows.{disk_laws}
use Rattle.ddf_tables.proofs.TableSections.{table_again}
use Rattle.ddf_copy.specs.Written.{disks_written}
use Rattle.ddf_copy.proofs.sections.disks_in.Goals as goal

pub returns-in-Ok-clause-written : goal.returns-in-Ok-clause-written
unfolding disks_written
returns-in-Ok-clause-written c =
    table_again disk_laws disk_signature HaveReferences c.args.header.now.geometry.max_disks c.in-Ok.disks c.as_flattened.result.now c.in-Ok.ensures.value
    ∙ c.as_flattened.ensures.value
