use Rattle.std.proofs.Common.{◌∙◌, sym, ap, subst, List, ℕ}
use Rattle.ddf_seal.specs.Unread.{AreBytes}
use Rattle.ddf_tables.specs.Arrays.{array_signature, HaveGuids, array_table_bytes, IsArrayTableOf}
use Rattle.ddf_tables.proofs.ArrayRows.{array_laws}
use Rattle.ddf_tables.proofs.TableSections.{table_again, table_is_written}
use Rattle.ddf_tables.proofs.array_table.encode_arrays.Goals as goal

pub returns-clause-back : goal.returns-clause-back
returns-clause-back c = λ max section is. c.encode.ensures.exact ∙ ap array_table_bytes c.table.view_is ∙ table_again array_laws array_signature HaveGuids max c.args.table.now section is

pub returns-clause-made : goal.returns-clause-made
returns-clause-made c = λ max can.
    let table = c.args.table.now in
    let exact = c.encode.ensures.exact ∙ ap array_table_bytes c.table.view_is in
    subst (λ (section : List ℕ). IsArrayTableOf max table section) (sym exact)
    (table_is_written array_laws array_signature HaveGuids max table can (subst AreBytes exact c.encode.ensures.bytes))
