use Rattle.std.proofs.Common.{◌≡◌, false, sym, ap, ◌∙◌}
use Rattle.ddf_bytes.specs.Bytes.{bytes_at}
use Rattle.ddf_tables.specs.declared.disks.DiskRow.TheVariants.{Entry}
use Rattle.ddf_tables.specs.declared.layout.TheConstants.{DISK_GUID_AT}
use Rattle.ddf_tables.specs.Rows.{is_unused}
use Rattle.ddf_tables.specs.Disks.{disk_at}
use Rattle.ddf_tables.proofs.DiskRows.{used_row}
use Rattle.ddf_tables.proofs.disks.DiskRowRow.read.Goals as goal

pub returns-else-is_unused : goal.returns-else-is_unused
returns-else-is_unused c =
    let bytes = c.args.bytes.now in
    let used : is_unused (bytes_at bytes DISK_GUID_AT 24) ≡ false = ap is_unused (sym c.guid_at-guid.ensures) ∙ sym c.is_unused.ensures ∙ c.if-is_unused.false in
    ap Entry (c.entry_at.ensures ∙ ap disk_at c.copy_from_slice.ensures.after) ∙ sym (used_row bytes used)
