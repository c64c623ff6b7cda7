use Rattle.ddf_history_life.proofs.Commands.{command_tells}
use Rattle.ddf_history_life.proofs.laws.a_command_tells_what_is_promised.Goals as goal

pub returns : goal.returns
returns c = λ group past old exit history member command ample told. command_tells group old exit command past history member ample told
