use Rattle.ddf_joining.proofs.JoinReadied.{is_join, was}
use Rattle.ddf_joining.proofs.laws.an_import_is_a_recovery_and_a_join.Goals as goal

pub returns-clause-recovery : goal.returns-clause-recovery
returns-clause-recovery c = λ timestamp native other recovery join ready none time own its recovers follows. was timestamp native other recovery join ready none time own its recovers follows

pub returns-clause-join : goal.returns-clause-join
returns-clause-join c = λ timestamp native other recovery join ready none time own its recovers follows same apart others.
    is_join timestamp native other recovery join ready none time own its recovers follows same apart others
