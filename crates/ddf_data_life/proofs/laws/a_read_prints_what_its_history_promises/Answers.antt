use Rattle.ddf_data_life.proofs.Printed.{printed}
use Rattle.ddf_data_life.proofs.laws.a_read_prints_what_its_history_promises.Goals as goal

pub returns : goal.returns
returns c = λ group old exit guid all member read unread told allowed promised. printed group old exit guid all member read unread told allowed promised
