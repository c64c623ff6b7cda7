use Rattle.ddf_history_life.proofs.Commands.{asked_cut, asked_ends, command_cut, command_ends}
use Rattle.ddf_history_life.proofs.laws.a_command_goes_on_in_its_history.Goals as goal

pub returns-clause-ends : goal.returns-clause-ends
returns-clause-ends c = λ group past old exit history member command told. command_ends group old exit command past history member told

pub returns-clause-cut : goal.returns-clause-cut
returns-clause-cut c = λ group past old exit cut image history member command was_left is_cut. command_cut group old exit command past history member cut image was_left is_cut

pub returns-clause-asked : goal.returns-clause-asked
returns-clause-asked c = λ group past old exit history member command asked ample told. asked_ends group old exit command past history member asked ample told

pub returns-clause-asked_cut : goal.returns-clause-asked_cut
returns-clause-asked_cut c = λ group past old exit cut image history member command asked was_left is_cut. asked_cut group old exit command past history member cut image was_left is_cut asked
