use Rattle.std.proofs.Common.{◌∙◌, arith}
use Rattle.ddf_tables.specs.Arrays.{array_signature}
use Rattle.ddf_tables.proofs.ArrayRows.{array_laws, array_names}
use Rattle.ddf_tables.proofs.TableSections.{section_of_table}
use Rattle.ddf_copy.specs.Written.{arrays_written}
use Rattle.ddf_copy.proofs.writing.arrays_of.Goals as goal

pub returns-clause-written : goal.returns-clause-written
unfolding arrays_written
returns-clause-written c = c.in_ok-sectors.ensures.bytes ∙ c.as_slice.ensures.value ∙ c.put_arrays.ensures.exact

pub returns-clause-read : goal.returns-clause-read
returns-clause-read c =
    let max = c.args.copy.now.header.geometry.max_arrays in
    let bytes = c.in_ok-sectors.ensures.bytes ∙ c.as_slice.ensures.value in
    rw bytes (section_of_table array_laws array_names array_signature max c.args.copy.now.arrays _ (omega arith) (c.put_arrays.ensures.made max c.requires.arrays_can))
