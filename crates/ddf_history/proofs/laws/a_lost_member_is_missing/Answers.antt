use Rattle.std.proofs.Common.{refl}
use Rattle.ddf_history.proofs.Following.{failed_missing, lost_missing}
use Rattle.ddf_history.proofs.laws.a_lost_member_is_missing.Goals as goal

pub returns-clause-lost : goal.returns-clause-lost
returns-clause-lost c = λ config references sequence disk current among. lost_missing config references sequence disk current among

pub returns-clause-failed : goal.returns-clause-failed
returns-clause-failed c = λ config sequence disk current. failed_missing config disk.reference sequence disk current refl
