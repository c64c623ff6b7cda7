use Rattle.ddf_array.proofs.Losses.{same_value, same_values}
use Rattle.ddf_array.proofs.LossLevels.{was_within}
use Rattle.ddf_array.proofs.laws.a_loss_changes_no_value.Goals as goal

pub returns-clause-value : goal.returns-clause-value
returns-clause-value c = λ is_absent before after image block known loss sound unmarked within below.
    same_value before after image block known loss (sound.redundant unmarked (was_within before after loss within)) within below

pub returns-clause-state : goal.returns-clause-state
returns-clause-state c = λ is_absent before after image known loss sound unmarked within.
    same_values before after image known loss (sound.redundant unmarked (was_within before after loss within)) within

pub returns-clause-within : goal.returns-clause-within
returns-clause-within c = was_within
