use Rattle.std.proofs.Common.{◌*◌, replicate, refl, arith}
use Rattle.std.specs.Str.{bytes_eq}
use Rattle.ddf_tables.specs.declared.arrays.ArrayRow.{ArrayRow}
use Rattle.ddf_tables.specs.declared.arrays.ArrayRow.TheVariants.{Unused}
use Rattle.ddf_tables.specs.Arrays.{HaveGuids, IsArrayRow, guid_of, is_no_array}
use Rattle.ddf_tables.proofs.Names.{unused_have_names}
use Rattle.ddf_tables.proofs.TableSections.{blank_is_writable, blank_has_size}
use Rattle.ddf_tables.proofs.array_table.ArrayTable.blank.Goals as goal

pub returns-clause-writable : goal.returns-clause-writable
returns-clause-writable c =
    let unused : ArrayRow = Unused (replicate 64 255) in
    blank_is_writable IsArrayRow HaveGuids unused c.args.max (512 * c.args.sectors) c.new_table.result (refl, refl) (unused_have_names guid_of bytes_eq is_no_array unused c.args.max refl) (omega arith) c.requires.room c.new_table.ensures

pub returns-clause-size : goal.returns-clause-size
returns-clause-size c =
    let unused : ArrayRow = Unused (replicate 64 255) in
    blank_has_size unused c.args.max (512 * c.args.sectors) c.new_table.result c.requires.room c.new_table.ensures
