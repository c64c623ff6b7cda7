use Rattle.ddf_rewrite.proofs.Recovered.{recovered_fully, recovered_has_notes, recovered_shows}
use Rattle.ddf_rewrite.proofs.laws.a_recovered_copy_shows_the_configuration.Goals as goal

pub returns-clause-shown : goal.returns-clause-shown
returns-clause-shown c = λ old group sequence views timestamp can. recovered_shows old group sequence views timestamp can

pub returns-clause-fully : goal.returns-clause-fully
returns-clause-fully c = λ old group sequence views timestamp can noted. recovered_fully old group sequence views timestamp can noted

pub returns-clause-noted : goal.returns-clause-noted
returns-clause-noted c = λ old group sequence views timestamp can noted. recovered_has_notes old group sequence views timestamp can noted
