use Rattle.ddf_data_life.proofs.Losses.{come_back, lost, stopped, unplugged}
use Rattle.ddf_data_life.proofs.laws.a_stop_a_loss_and_a_return_go_on_in_their_history_of_data.Goals as goal

pub returns-clause-stop : goal.returns-clause-stop
returns-clause-stop c = λ group old cut back all is away told. stopped group old all cut back is told away

pub returns-clause-lost : goal.returns-clause-lost
returns-clause-lost c = λ group old new slot all is gone. lost group old all new slot is gone

pub returns-clause-stays : goal.returns-clause-stays
returns-clause-stays c = λ group old new slot all is. unplugged group old all new slot is

pub returns-clause-back : goal.returns-clause-back
returns-clause-back c = λ group old cut slot all missing is told. come_back group old all cut slot missing is told
