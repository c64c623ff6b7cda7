use Rattle.ddf_bytes.specs.Counts.{Rose}
use Rattle.ddf_read.proofs.GivenLaws.{first_of, value_of, values_of}
use Rattle.ddf_read.proofs.laws.a_good_read_gives_the_first.Goals as goal

pub returns-clause-first : goal.returns-clause-first
returns-clause-first c = λ old new. first_of (λ slot. Rose (old slot) (new slot))

pub returns-clause-value : goal.returns-clause-value
returns-clause-value c = λ old new. value_of (λ slot. Rose (old slot) (new slot))

pub returns-clause-values : goal.returns-clause-values
returns-clause-values c = λ old new. values_of (λ slot. Rose (old slot) (new slot))
