use Rattle.ddf_command.proofs.AnotherGroup.{other_call}
use Rattle.ddf_command.proofs.laws.a_change_of_another_group_is_aside.Goals as goal

pub returns : goal.returns
returns g c = λ told group old exit named timestamp request outcome changed found is_found another is_held aside.
    other_call told g.B.Bay.disks group (λ bay. (g.met.B.Bay.told bay).only_now) old exit named timestamp request outcome changed found is_found another is_held aside
