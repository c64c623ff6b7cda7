use Rattle.ddf_rewrite.proofs.AgreedLeaders.{copies_agreed}
use Rattle.ddf_rewrite.proofs.laws.a_recovered_copy_agrees_with_the_leaders.Goals as goal

pub returns-clause-there : goal.returns-clause-there
returns-clause-there c = λ old group sequence leaders timestamp can written agreed k leader leads. (copies_agreed old group sequence leaders timestamp can written agreed k leader leads).0

pub returns-clause-back : goal.returns-clause-back
returns-clause-back c = λ old group sequence leaders timestamp can written agreed k leader leads. (copies_agreed old group sequence leaders timestamp can written agreed k leader leads).1
