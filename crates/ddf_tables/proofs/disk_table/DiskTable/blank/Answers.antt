use Rattle.std.proofs.Common.{◌*◌, replicate, refl, arith}
use Rattle.std.specs.Prelude.{nat_eq}
use Rattle.ddf_tables.specs.declared.disks.DiskRow.{DiskRow}
use Rattle.ddf_tables.specs.declared.disks.DiskRow.TheVariants.{Unused}
use Rattle.ddf_tables.specs.Disks.{HaveReferences, IsDiskRow, reference_of, is_no_disk}
use Rattle.ddf_tables.proofs.Names.{unused_have_names}
use Rattle.ddf_tables.proofs.TableSections.{blank_is_writable, blank_has_size}
use Rattle.ddf_tables.proofs.disk_table.DiskTable.blank.Goals as goal

pub returns-clause-writable : goal.returns-clause-writable
returns-clause-writable c =
    let unused : DiskRow = Unused (replicate 64 255) in
    blank_is_writable IsDiskRow HaveReferences unused c.args.max (512 * c.args.sectors) c.new_table.result (refl, refl) (unused_have_names reference_of nat_eq is_no_disk unused c.args.max refl) (omega arith) c.requires.room c.new_table.ensures

pub returns-clause-size : goal.returns-clause-size
returns-clause-size c =
    let unused : DiskRow = Unused (replicate 64 255) in
    blank_has_size unused c.args.max (512 * c.args.sectors) c.new_table.result c.requires.room c.new_table.ensures
