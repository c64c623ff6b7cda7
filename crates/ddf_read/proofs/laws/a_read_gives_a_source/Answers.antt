use Rattle.ddf_bytes.specs.Counts.{Rose}
use Rattle.ddf_read.proofs.GivenLaws.{one_of}
use Rattle.ddf_read.proofs.laws.a_read_gives_a_source.Goals as goal

pub returns : goal.returns
returns c = λ old new. one_of (λ slot. Rose (old slot) (new slot))
