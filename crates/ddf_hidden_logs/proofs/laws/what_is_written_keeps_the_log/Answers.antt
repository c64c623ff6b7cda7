use Rattle.ddf_hidden_logs.proofs.Lasts.{kept_log}
use Rattle.ddf_hidden_logs.proofs.laws.what_is_written_keeps_the_log.Goals as goal

pub returns : goal.returns
returns c = λ size before now anchor which again copy seen whole whole_now anchored is stands there own. kept_log size before now whole whole_now anchor anchored which copy is stands again seen there own
