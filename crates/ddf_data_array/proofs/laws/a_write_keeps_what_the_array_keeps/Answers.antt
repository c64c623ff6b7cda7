use Rattle.ddf_data_array.proofs.Written.{kept_while, kept_once}
use Rattle.ddf_data_array.proofs.laws.a_write_keeps_what_the_array_keeps.Goals as goal

pub returns-clause-interrupted : goal.returns-clause-interrupted
returns-clause-interrupted c = λ is_absent volume start sectors before image allowed known apart writable kept left are.
    kept_while is_absent volume known apart start sectors before image allowed writable kept left are

pub returns-clause-done : goal.returns-clause-done
returns-clause-done c = λ is_absent volume start sectors before image allowed known apart writable kept left are have.
    kept_once is_absent volume known apart start sectors before image allowed writable kept left are have
