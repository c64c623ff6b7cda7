use Rattle.ddf_resync.proofs.Found.{all_redundant, redundant_agrees}
use Rattle.ddf_resync.proofs.laws.agreeing_is_redundant.Goals as goal

pub returns-clause-redundant : goal.returns-clause-redundant
returns-clause-redundant c = λ v image known are all. all_redundant v known image all are

pub returns-clause-agrees : goal.returns-clause-agrees
returns-clause-agrees c = λ v image known is. redundant_agrees v known image is
