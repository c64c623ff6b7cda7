use Rattle.ddf_data_group.proofs.Marked.{no_rows_left, none_were}
use Rattle.ddf_data_group.proofs.laws.a_mark_leaves_no_rows.Goals as goal

pub returns-clause-marked : goal.returns-clause-marked
returns-clause-marked c = no_rows_left

pub returns-clause-unchanged : goal.returns-clause-unchanged
returns-clause-unchanged c = none_were
