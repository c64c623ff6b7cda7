use Rattle.ddf_history.specs.Groups.{groups}
use Rattle.ddf_history.proofs.Sound.{groups_are_sound}
use Rattle.ddf_history.proofs.Calls.{cut_none_absent, loss_at}
use Rattle.ddf_history.proofs.laws.a_call_goes_on_from_what_it_assembled.Goals as goal

pub returns-clause-none_absent : goal.returns-clause-none_absent
returns-clause-none_absent c = λ group past held scene readable number config assembled at kept sure none. cut_none_absent (groups group) (groups_are_sound group) past held scene readable number config assembled at kept sure none

pub returns-clause-absent : goal.returns-clause-absent
returns-clause-absent c = λ group past held scene readable number config loss assembled at kept sure own follow remain. loss_at (groups group) (groups_are_sound group) past held scene readable number config loss assembled at kept sure own follow remain
