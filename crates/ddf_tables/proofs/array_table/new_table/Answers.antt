use Rattle.ddf_tables.specs.Arrays.{array_row_at}
use Rattle.ddf_tables.proofs.array_table.new_table.Goals as goal

pub returns : goal.returns
unfolding array_row_at
returns c = c.in_ok-blank.ensures
