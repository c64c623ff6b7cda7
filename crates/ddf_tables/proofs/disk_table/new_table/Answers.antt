use Rattle.ddf_tables.specs.Disks.{disk_row_at}
use Rattle.ddf_tables.proofs.disk_table.new_table.Goals as goal

pub returns : goal.returns
unfolding disk_row_at
returns c = c.in_ok-blank.ensures
