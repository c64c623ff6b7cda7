use Rattle.ddf_availability.proofs.Stood.{same_again}
use Rattle.ddf_availability.proofs.copyback.a_spare_that_stood_in_is_as_it_was.Goals as goal

pub returns : goal.returns
returns c = λ config guid seats element position reference start steps disk back first second member apart allowed keep there is_revertible none.
    same_again config guid element position seats reference start allowed steps disk back first second member keep apart there is_revertible none
