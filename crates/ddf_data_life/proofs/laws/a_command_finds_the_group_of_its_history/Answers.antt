use Rattle.ddf_data_life.proofs.Calls.{finds}
use Rattle.ddf_data_life.proofs.laws.a_command_finds_the_group_of_its_history.Goals as goal

pub returns : goal.returns
returns c = λ group old exit all member well told left every_slot failed unread newest read found is_found. finds group old all exit member well told left every_slot failed unread newest found is_found
