use Rattle.ddf_primary.proofs.Copies.{holds_on, on_holds}
use Rattle.ddf_primary.proofs.laws.a_member_has_the_blocks_that_lie_on_it.Goals as goal

pub returns-clause-lies : goal.returns-clause-lies
returns-clause-lies c = λ shape member sector block sound on. on_holds shape sound member sector block on

pub returns-clause-has : goal.returns-clause-has
returns-clause-has c = λ shape member sector block sound holds. holds_on shape sound member sector block holds
