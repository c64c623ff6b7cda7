use Rattle.ddf_command.proofs.LabelAside.{label_other}
use Rattle.ddf_command.proofs.laws.a_label_is_aside_of_other_histories.Goals as goal

pub returns : goal.returns
returns g c = λ told group old exit large revision stamp named any_moment is_held another aside names_none.
    label_other told g.B.Bay.disks group (λ bay. (g.met.B.Bay.told bay).only_now) old exit large revision stamp named any_moment is_held another aside names_none
