use Rattle.ddf_data_group.proofs.Lessened.{lessened}
use Rattle.ddf_data_group.proofs.LessRows.{rows_left}
use Rattle.ddf_data_group.proofs.laws.a_lessened_array_is_one_with_fewer_places.Goals as goal

pub returns : goal.returns
returns c = λ members seats fewer before after volume are few less over.
    let old = lessened members seats fewer before after volume are few less over in (old.0, old.1, old.2, rows_left seats fewer few before after old.0 volume less.less old.1 over)
