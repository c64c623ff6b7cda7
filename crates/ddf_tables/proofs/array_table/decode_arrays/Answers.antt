use Rattle.std.proofs.Common.{lit<, arith}
use Rattle.ddf_tables.specs.Arrays.{array_signature, HaveGuids}
use Rattle.ddf_tables.proofs.ArrayRows.{array_laws, array_names}
use Rattle.ddf_tables.proofs.TableSections.{decodes_value, decodes_only, decodes_writable, decodes_size}
use Rattle.ddf_tables.proofs.array_table.decode_arrays.Goals as goal

value : goal.returns-clause-value
value c = decodes_value array_laws array_names array_signature c.args.max c.args.section.now c.read.result c.requires (λ i. omega (arith, c.type_inv.section i)) c.read.ensures

pub returns-clause-value : goal.returns-clause-value
returns-clause-value c = value c

pub returns-clause-only : goal.returns-clause-only
returns-clause-only c = decodes_only array_laws array_names array_signature c.args.max c.args.section.now c.read.result (lit< tt) c.read.ensures

pub returns-clause-writable : goal.returns-clause-writable
returns-clause-writable c = decodes_writable array_laws array_signature HaveGuids c.args.max c.args.section.now c.read.result (value c)

pub returns-clause-size : goal.returns-clause-size
returns-clause-size c = decodes_size array_laws array_signature HaveGuids c.args.max c.args.section.now c.read.result (value c)
