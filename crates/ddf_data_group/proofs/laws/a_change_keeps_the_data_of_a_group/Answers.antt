use Rattle.ddf_data_group.proofs.Changed.{changed_keeps}
use Rattle.ddf_data_group.proofs.laws.a_change_keeps_the_data_of_a_group.Goals as goal

pub returns : goal.returns
returns c = λ config change sequence seats fewer image promises are after_are few new kept. changed_keeps config seats fewer image promises are few kept change sequence after_are new
