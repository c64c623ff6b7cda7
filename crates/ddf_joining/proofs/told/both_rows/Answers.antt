use Rattle.std.proofs.Common.{◌≡◌, ◌∙◌, ◌++◌, List, filter_map, ap, subst}
use Rattle.std.specs.Prelude.{IfOk}
use Rattle.ddf_tables.specs.declared.disks.DiskRow.{DiskRow}
use Rattle.ddf_joining.specs.Telling.{disk_rows_told, used_row}
use Rattle.ddf_joining.proofs.Telling.{rows_are}
use Rattle.ddf_joining.proofs.told.both_rows.Goals as goal

pub returns : goal.returns
returns c =
    let own = rows_are c.disk_rows.result.now c.deref.result.now c.args.disks.now c.disk_rows.ensures (c.deref.ensures.value ∙ c.in_ok-own.ensures) in
    let its = rows_are c.disk_rows-2.result.now c.deref-2.result.now c.args.others.now c.disk_rows-2.ensures (c.deref-2.ensures.value ∙ c.in_ok-its.ensures) in
    subst (λ (rows : List DiskRow). IfOk c.used_rows.result (λ used. used.items ≡ rows))
    (ap (λ (rows : List DiskRow). rows ++ filter_map used_row c.disk_rows-2.result.now) own ∙ ap (λ (rows : List DiskRow). disk_rows_told c.args.disks.now ++ rows) its)
    c.used_rows.ensures
