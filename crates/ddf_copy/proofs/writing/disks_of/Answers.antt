use Rattle.std.proofs.Common.{◌∙◌, arith}
use Rattle.ddf_tables.specs.Disks.{disk_signature}
use Rattle.ddf_tables.proofs.DiskRows.{disk_laws, disk_names}
use Rattle.ddf_tables.proofs.TableSections.{section_of_table}
use Rattle.ddf_copy.specs.Written.{disks_written}
use Rattle.ddf_copy.proofs.writing.disks_of.Goals as goal

pub returns-clause-written : goal.returns-clause-written
unfolding disks_written
returns-clause-written c = c.in_ok-sectors.ensures.bytes ∙ c.as_slice.ensures.value ∙ c.put_disks.ensures.exact

pub returns-clause-read : goal.returns-clause-read
returns-clause-read c =
    let max = c.args.copy.now.header.geometry.max_disks in
    let bytes = c.in_ok-sectors.ensures.bytes ∙ c.as_slice.ensures.value in
    rw bytes (section_of_table disk_laws disk_names disk_signature max c.args.copy.now.disks _ (omega arith) (c.put_disks.ensures.made max c.requires.disks_can))
