use Rattle.std.proofs.Common.{◌≡◌, length, List, sym, ap, ◌∙◌, subst, arith}
use Rattle.ddf_tables.specs.declared.disks.DiskRow.{DiskRow}
use Rattle.ddf_tables.specs.Disks.{HaveReferences, IsDiskRow, is_used_disk}
use Rattle.ddf_tables.specs.Tables.{TableValue, replaced_table}
use Rattle.std.specs.List.{AllByRecursion}
use Rattle.ddf_update.specs.declared.new_layout.Numbers.{Numbers}
use Rattle.ddf_update.specs.NewCopies.{blank_disks}
use Rattle.ddf_update.specs.NewLayouts.{rows_of}
use Rattle.ddf_update.proofs.NewRows.{have_references, length-new_rows, rows_good}
use Rattle.ddf_update.proofs.new_copy.new_disks.Goals as goal

pub replaced-requires : goal.replaced-requires
replaced-requires c =
    let rows : c.numbers-numbers.result.rows ≡ rows_of c.args.layout = ap (λ (numbers : Numbers). numbers.rows) c.numbers-numbers.ensures.exact in
    ap length c.in_ok-rows.ensures ∙ length-new_rows c.args.layout c.args.revision c.args.stamp.now c.args.sizes.now c.requires.few ∙ sym rows ∙ sym (c.in_ok-table.ensures.writable).has_rows

pub returns-clause-exact : goal.returns-clause-exact
unfolding blank_disks
returns-clause-exact c =
    let table : c.in_ok-table.table ≡ blank_disks c.args.layout = rw (c.from.ensures, c.numbers-numbers.ensures.exact) at c.in_ok-table.ensures.exact in
    c.replaced.ensures.exact ∙ ap (λ (value : TableValue DiskRow). replaced_table is_used_disk value c.in_ok-rows.rows.items) table
    ∙ ap (λ (rows : List DiskRow). replaced_table is_used_disk (blank_disks c.args.layout) rows) c.in_ok-rows.ensures

pub returns-clause-size : goal.returns-clause-size
returns-clause-size c =
    ap (λ (value : TableValue DiskRow). length value.rest) c.replaced.ensures.exact ∙ rw (c.from.ensures, c.numbers-numbers.ensures.exact) at c.in_ok-table.ensures.size

pub returns-clause-writable : goal.returns-clause-writable
returns-clause-writable c =
    let layout = c.args.layout in
    let revision = c.args.revision in
    let stamp = c.args.stamp.now in
    let sizes = c.args.sizes.now in
    c.replaced.ensures.writable (rows_of layout) (rw c.numbers-numbers.ensures.exact at c.in_ok-table.ensures.writable)
    (subst (AllByRecursion IsDiskRow) (sym c.in_ok-rows.ensures) (rows_good layout revision stamp sizes c.requires.few (λ i. omega (arith, c.type_inv.sizes i))))
    (subst HaveReferences (sym c.in_ok-rows.ensures) (have_references layout revision stamp sizes c.requires.few))
