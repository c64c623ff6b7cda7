use Rattle.ddf_exercise_config.proofs.Labelled as labelled
use Rattle.ddf_exercise_config.proofs.laws.a_label_founds_the_group.Goals as goal

pub returns-clause-founds : goal.returns-clause-founds
returns-clause-founds c = λ revision stamp. labelled.is_founded revision stamp

pub returns-clause-apart : goal.returns-clause-apart
returns-clause-apart c = λ stamp. labelled.are_apart stamp

pub returns-clause-named : goal.returns-clause-named
returns-clause-named c = λ stamp. labelled.are_named stamp
