use Rattle.ddf_uncut_group.proofs.AskingReadied.{all_readied, both_readied}
use Rattle.ddf_uncut_group.proofs.asking.changes_that_nothing_refuses_are_readied.Goals as goal

pub returns-clause-all : goal.returns-clause-all
returns-clause-all c = λ sizes timestamp group changes last time told plain are. all_readied sizes timestamp time changes group last told plain are

pub returns-clause-both : goal.returns-clause-both
returns-clause-both c = λ sizes timestamp group changes others middle last time told plain are rest. both_readied sizes timestamp time changes others group middle last told plain are rest
