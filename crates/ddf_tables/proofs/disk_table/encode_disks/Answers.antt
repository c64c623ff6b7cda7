use Rattle.std.proofs.Common.{◌∙◌, sym, ap, subst, List, ℕ}
use Rattle.ddf_seal.specs.Unread.{AreBytes}
use Rattle.ddf_tables.specs.Disks.{disk_signature, HaveReferences, disk_table_bytes, IsDiskTableOf}
use Rattle.ddf_tables.proofs.DiskRows.{disk_laws}
use Rattle.ddf_tables.proofs.TableSections.{table_again, table_is_written}
use Rattle.ddf_tables.proofs.disk_table.encode_disks.Goals as goal

pub returns-clause-back : goal.returns-clause-back
returns-clause-back c = λ max section is. c.encode.ensures.exact ∙ ap disk_table_bytes c.table.view_is ∙ table_again disk_laws disk_signature HaveReferences max c.args.table.now section is

pub returns-clause-made : goal.returns-clause-made
returns-clause-made c = λ max can.
    let table = c.args.table.now in
    let exact = c.encode.ensures.exact ∙ ap disk_table_bytes c.table.view_is in
    subst (λ (section : List ℕ). IsDiskTableOf max table section) (sym exact)
    (table_is_written disk_laws disk_signature HaveReferences max table can (subst AreBytes exact c.encode.ensures.bytes))
