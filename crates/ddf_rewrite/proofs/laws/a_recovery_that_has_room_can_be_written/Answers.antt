use Rattle.ddf_rewrite.proofs.Whole.{leaders_recover, roomy_recovery_can}
use Rattle.ddf_rewrite.proofs.laws.a_recovery_that_has_room_can_be_written.Goals as goal

pub returns-clause-written : goal.returns-clause-written
returns-clause-written c = λ old copy copies timestamp is all time none. roomy_recovery_can old copy copies timestamp is all time none

pub returns-clause-fits : goal.returns-clause-fits
returns-clause-fits c = λ old copy copies timestamp is all time none. leaders_recover old copy copies timestamp is all time none
