use Rattle.ddf_shortened.proofs.Lasting.{stays_early, stays_last}
use Rattle.ddf_shortened.proofs.laws.the_next_look_finds_the_same_end.Goals as goal

pub returns-clause-early : goal.returns-clause-early
returns-clause-early c = λ size before now is same begins. stays_early size before now is same begins

pub returns-clause-last : goal.returns-clause-last
returns-clause-last c = λ size now is. stays_last size now is
