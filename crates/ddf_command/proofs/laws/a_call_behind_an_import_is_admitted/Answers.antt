use Rattle.ddf_command.proofs.JoinsAgain.{admitted_again}
use Rattle.ddf_command.proofs.laws.a_call_behind_an_import_is_admitted.Goals as goal

pub returns : goal.returns
returns g c = λ told group old new end done own same_sizes held left below found slot read current again not_lost.
    admitted_again told g.B.Bay.disks group old new end done own same_sizes held left below found slot read current again not_lost
