use Rattle.ddf_history.specs.Groups.{groups}
use Rattle.ddf_history.proofs.Sound.{groups_are_sound}
use Rattle.ddf_history.proofs.Issuing.{issued_kept, follows, joins}
use Rattle.ddf_history.proofs.laws.a_change_is_issued_behind_the_last.Goals as goal

pub returns-clause-follows : goal.returns-clause-follows
returns-clause-follows c = λ group past scene number last next kept at may remains. issued_kept (groups group) (groups_are_sound group) past scene kept next (follows (groups group) past scene kept number last next at may remains)

pub returns-clause-joins : goal.returns-clause-joins
returns-clause-joins c = λ group past scene last next kept at may. issued_kept (groups group) (groups_are_sound group) past scene kept next (joins (groups group) past scene kept last next at may)
