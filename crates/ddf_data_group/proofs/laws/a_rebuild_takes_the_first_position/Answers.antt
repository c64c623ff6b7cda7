use Rattle.ddf_data_group.proofs.Firsts.{behind_over, first_again, first_begun, first_fresh, first_noted, first_over}
use Rattle.ddf_data_group.proofs.laws.a_rebuild_takes_the_first_position.Goals as goal

pub returns-clause-fresh : goal.returns-clause-fresh
returns-clause-fresh c = first_fresh

pub returns-clause-again : goal.returns-clause-again
returns-clause-again c = first_again

pub returns-clause-begins : goal.returns-clause-begins
returns-clause-begins c = first_begun

pub returns-clause-goes_on : goal.returns-clause-goes_on
returns-clause-goes_on c = first_noted

pub returns-clause-over : goal.returns-clause-over
returns-clause-over c = first_over

pub returns-clause-behind : goal.returns-clause-behind
returns-clause-behind c = behind_over
