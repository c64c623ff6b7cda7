use Rattle.ddf_exercise_config.proofs.Used as used
use Rattle.ddf_exercise_config.proofs.laws.the_word_names_the_array.Goals as goal

pub returns : goal.returns
returns c = λ guid positions state init. used.is_named guid positions state init
